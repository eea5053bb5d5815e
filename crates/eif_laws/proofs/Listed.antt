-- The section list of an accepted image's reading: what the table and each section's own header say, and blank places after. And no
-- byte of an accepted image is outside its header and its sections.
-- Assumes nothing.
use Prim.Native.Nat.{ℕ, ◌<◌, ◌≤◌, zero, suc}
use mathlib.Core.Path.{◌≡◌, ap, ◌∙◌}
use mathlib.Core.List.{List}
use lib.ListN.{get_or, length}
use mathlib.Core.Logic.{◌⊎◌, inl, inr, ⊎_elim}
use native.Mathlib.Omega.{arith}
use Rattle.eif_lemmas.proofs.Accept.{sound_at, file_ends}
use Rattle.octets.proofs.Logic.{le_or_lt}
use Rattle.eif.specs.Numbers.{place_count}
use Rattle.eif.specs.Layout.{count_of, header_size, start_at}
use Rattle.eif.specs.Reading.{verdict_of, section_at, blank_section, read_image}
use Rattle.eif.specs.Acceptance.{MeetsRules, InSection}
use Rattle.eif.specs.declared.Reading.{Reading}
use Rattle.eif.specs.declared.Verdict.TheVariants.{Accepted}
use Rattle.eif_lemmas.proofs.Reading.{reading_accepted, reading_section}
use Rattle.eif_lemmas.proofs.Table.{filled_past}
use Rattle.eif_laws.proofs.Acceptance.{accepted_exactly_when}

module _ (s : List ℕ) (meets : MeetsRules s) where
  accepted : verdict_of s ≡ Accepted
  accepted = (accepted_exactly_when s).1 meets

  -- a used place holds what the file says of that section
  pub used_place : (i : ℕ) → i < count_of s → get_or (read_image s).sections i blank_section ≡ section_at s i
  used_place = reading_section s accepted

  -- and an unused one nothing
  pub unused_place : (i : ℕ) → count_of s ≤ i → get_or (read_image s).sections i blank_section ≡ blank_section
  unused_place i h =
      ap (λ (r : Reading). get_or r.sections i blank_section) (reading_accepted s accepted)
      ∙ filled_past (section_at s) blank_section place_count (count_of s) i h

-- ---- no hidden room

module _ (s : List ℕ) (ok : verdict_of s ≡ Accepted) (p : ℕ) where
  up_to : (n : ℕ) → n ≤ count_of s → p < start_at s n → (p < header_size) ⊎ InSection s p
  up_to zero h b = inl b
  up_to (suc n) h b =
      ⊎_elim
      (λ (a : start_at s n ≤ p).
      let e = (sound_at s ok n h).starts in
      inr (record { place = n; used = h; not_before = omega arith; not_after = b }))
      (λ (a : p < start_at s n). up_to n (omega arith) a)
      (le_or_lt (start_at s n) p)

  -- every byte of an accepted image is in its header or in a section
  pub every_byte : p < length s → (p < header_size) ⊎ InSection s p
  every_byte h = up_to (count_of s) (omega arith) (omega (arith, file_ends s ok))
