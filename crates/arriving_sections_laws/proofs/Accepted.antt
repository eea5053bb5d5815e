-- In an accepted image all sections are in order, and the data that has arrived of each is its own data.
use Prim.Native.Nat.{ℕ, zero, suc, ◌<◌, ◌≤◌}
use mathlib.Core.Path.{◌≡◌, sym, ap, ◌∙◌}
use mathlib.Core.List.{List, []}
use native.Mathlib.Omega.{arith}
use borrow.Author.Tests.{lt-ltb}
use Rattle.eif.specs.Numbers.{place_count}
use Rattle.eif.specs.Layout.{header_size, count_of, start_at, offset_at}
use Rattle.eif.specs.Reading.{verdict_of, own_data}
use Rattle.eif.specs.declared.Verdict.TheVariants.{Accepted}
use Rattle.eif_lemmas.proofs.Accept.{passes, sound_at}
use Rattle.arriving_sections.specs.Span.{used_places}
use Rattle.arriving_sections_laws.specs.Given.{ordered_from, places_in_order, data_so_far}
use Rattle.arriving_sections_laws.proofs.Order.{packed, packed_suc, packed_first, Placed, ordered_all}
use Rattle.arriving_sections_laws.proofs.Growth.{data_none}

module _ (s : List ℕ) (ok : verdict_of s ≡ Accepted) where
  pub few_sections : count_of s ≤ place_count
  few_sections = (passes s ok).head.fields.few

  -- each section starts where it is packed
  start_packed : (i : ℕ) → i ≤ count_of s → start_at s i ≡ packed s i
  start_packed zero h = sym (packed_first s)
  start_packed (suc i) h =
      let e = start_packed i (omega arith) in
      let b = (sound_at s ok i h).starts in
      let n = packed_suc s i in
      let k : offset_at s i ≡ packed s i = b ∙ e in
      omega arith

  pub all_placed : (i : ℕ) → i < count_of s → Placed s i
  all_placed i h =
      let a = sound_at s ok i h in
      let e : offset_at s i ≡ packed s i = a.starts ∙ start_packed i (omega arith) in
      let n = packed_suc s i in
      let l = a.ends in
      (e, omega (arith, (passes s ok).head.small))

  pub all_ordered : places_in_order s ≡ count_of s
  all_ordered =
      let n : used_places s ≡ count_of s = omega (arith, few_sections) in
      ap (λ (m : ℕ). ordered_from s m 0 header_size) n
      ∙ ordered_all s (count_of s) 0 header_size (sym (packed_first s)) (λ j a l. all_placed j (omega arith)) ∙ omega arith

  pub data_own : (i : ℕ) → i < count_of s → data_so_far s i ≡ own_data s i
  unfolding data_so_far
  data_own i h = simp (lt-ltb i (places_in_order s) (omega (arith, all_ordered)))

  pub data_past : (i : ℕ) → count_of s ≤ i → data_so_far s i ≡ []
  data_past i h = data_none s i (omega (arith, all_ordered))
