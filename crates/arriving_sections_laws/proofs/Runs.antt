-- The laws of runs from the fresh state that ask `next` before each call and hand over at most as many bytes as it answered (FORMAT.md, Check
-- while it arrives): however the file was cut, the bytes given out for a section are the data that has arrived of it.
use Prim.Native.Nat.{ℕ, ◌<◌, ◌≤◌, min}
use mathlib.Core.Path.{◌≡◌, sym, ap, ap₂, ◌∙◌}
use mathlib.Core.List.{List, [], ◌∷◌, ◌++◌, append_assoc, append-nil}
use native.Mathlib.Omega.{arith}
use lib.Dec.{eqb}
use lib.ListN.{length, take, drop, length-take, length-drop, take-append-drop}
use lib.Seq.{take-take}
use Rattle.octets.specs.Lists.{All}
use Rattle.octets.specs.Logic.{choose}
use Rattle.octets.proofs.Lists.{take_min, none_of}
use Rattle.eif.specs.Numbers.{place_count}
use Rattle.eif.specs.Layout.{count_of}
use Rattle.eif.specs.Reading.{verdict_of, own_data, read_image}
use Rattle.eif.specs.declared.Verdict.TheVariants.{Accepted}
use Rattle.arriving.specs.State.{state_of}
use Rattle.arriving.specs.Calls.{fed_with, finished, answer_of}
use Rattle.arriving.specs.declared.Arriving.{Arriving}
use Rattle.arriving.specs.declared.Fed.{Fed}
use Rattle.arriving_laws.specs.Runs.{fresh, Turn, CanTake}
use Rattle.arriving_laws.proofs.Runs.{fed_state}
use Rattle.arriving_laws.proofs.Answer.{answer_of_holds}
use Rattle.arriving_sections.proofs.Bounds.{span_some}
use Rattle.arriving_sections_laws.specs.Given.{data_so_far, Part, span_at, fed_part, taken_part, after_parts, taken_parts, given_in, turn_part, parts_of}
use Rattle.arriving_sections_laws.proofs.Growth.{data_early, sections_grow}
use Rattle.arriving_sections_laws.proofs.Accepted.{few_sections, data_own, data_past}

-- ---- one call

module _ (s : List ℕ) (p : Part) where
  abbrev bytes : List ℕ
  bytes = take (span_at (state_of s) p).length p.piece

  part_fed : fed_part (state_of s) p ≡ fed_with (state_of (s ++ bytes)) (min (span_at (state_of s) p).length (length p.piece))
  part_fed = fed_state s p.piece (span_at (state_of s) p).length

  part_state : (fed_part (state_of s) p).state ≡ state_of (s ++ bytes)
  part_state = ap (λ (f : Fed). f.state) part_fed

  part_count : (fed_part (state_of s) p).count ≡ min (span_at (state_of s) p).length (length p.piece)
  part_count = ap (λ (f : Fed). f.count) part_fed

  part_taken_holds : taken_part (state_of s) p ≡ bytes
  part_taken_holds = ap (λ (n : ℕ). take n p.piece) part_count ∙ take_min (span_at (state_of s) p).length p.piece

  bytes_few : length bytes ≤ (span_at (state_of s) p).length
  bytes_few = rw (length-take (span_at (state_of s) p).length p.piece) (omega arith)

-- ---- a run from the state of bytes

state_from : (s : List ℕ) (ps : List Part) → after_parts (state_of s) ps ≡ state_of (s ++ taken_parts (state_of s) ps)
unfolding after_parts taken_parts
state_from s [] = ap state_of (sym (append-nil s))
state_from s (p ∷ ps) =
    ap (λ (a : Arriving). after_parts a ps) (part_state s p) ∙ state_from (s ++ bytes s p) ps
    ∙ ap state_of
    (append_assoc s (bytes s p) (taken_parts (state_of (s ++ bytes s p)) ps)
    ∙ ap₂ (λ (x : List ℕ) (a : Arriving). s ++ (x ++ taken_parts a ps)) (sym (part_taken_holds s p)) (sym (part_state s p)))

given_from : (i : ℕ) → i < place_count → (s : List ℕ) (ps : List Part)
    → data_so_far s i ++ given_in i (state_of s) ps ≡ data_so_far (s ++ taken_parts (state_of s) ps) i
unfolding given_in taken_parts
given_from i h s [] = append-nil (data_so_far s i) ∙ ap (λ (l : List ℕ). data_so_far l i) (sym (append-nil s))
given_from i h s (p ∷ ps) =
    let b = eqb (span_at (state_of s) p).place i in
    ap₂ (λ (x : List ℕ) (a : Arriving). data_so_far s i ++ (choose b x [] ++ given_in i a ps)) (part_taken_holds s p) (part_state s p)
    ∙ sym (append_assoc (data_so_far s i) (choose b (bytes s p) []) (given_in i (state_of (s ++ bytes s p)) ps))
    ∙ ap (λ (l : List ℕ). l ++ given_in i (state_of (s ++ bytes s p)) ps) (sym (sections_grow s (bytes s p) p.asked (bytes_few s p) i h))
    ∙ given_from i h (s ++ bytes s p) ps
    ∙ ap (λ (l : List ℕ). data_so_far l i)
    (append_assoc s (bytes s p) (taken_parts (state_of (s ++ bytes s p)) ps)
    ∙ ap₂ (λ (x : List ℕ) (a : Arriving). s ++ (x ++ taken_parts a ps)) (sym (part_taken_holds s p)) (sym (part_state s p)))

-- ---- the laws of any run from the fresh state

module _ (ps : List Part) where
  -- the state is the defined state of exactly the bytes taken, so finishing gives the whole reader's answer on them
  pub run_state_holds : after_parts fresh ps ≡ state_of (taken_parts fresh ps)
  run_state_holds = state_from [] ps

  pub run_answer : (finished (after_parts fresh ps)).reading ≡ read_image (taken_parts fresh ps)
  unfolding finished
  run_answer = ap answer_of run_state_holds ∙ answer_of_holds (taken_parts fresh ps)

  -- a call takes at least one byte if the piece is not empty and `next` was asked about at least one
  pub takes_one : (p : Part) → 0 < p.asked → 0 < length p.piece → 0 < (fed_part (after_parts fresh ps) p).count
  takes_one p h g =
      let e = ap (λ (a : Arriving). (fed_part a p).count) run_state_holds ∙ part_count (taken_parts fresh ps) p in
      omega (arith, e, span_some (state_of (taken_parts fresh ps)) p.asked h)

  module _ (i : ℕ) (place : i < place_count) where
    -- the bytes given out for a section are the data that has arrived of it
    pub given_is : given_in i fresh ps ≡ data_so_far (taken_parts fresh ps) i
    given_is = ap (λ (l : List ℕ). l ++ given_in i fresh ps) (sym (data_early [] i (omega arith))) ∙ given_from i place [] ps

    -- if the bytes taken are an accepted image, they are the section's whole data, and nothing for an unused place
    module _ (ok : verdict_of (taken_parts fresh ps) ≡ Accepted) where
      pub given_own : i < count_of (taken_parts fresh ps) → given_in i fresh ps ≡ own_data (taken_parts fresh ps) i
      given_own h = given_is ∙ data_own (taken_parts fresh ps) ok i h

      pub given_none : count_of (taken_parts fresh ps) ≤ i → given_in i fresh ps ≡ []
      given_none h = given_is ∙ data_past (taken_parts fresh ps) ok i h

-- ---- a file handed over in turns

taken_from : (s left : List ℕ) (ts : List Turn) → CanTake ts → length left ≤ length ts → taken_parts (state_of s) (parts_of (state_of s) left ts) ≡ left
unfolding All taken_parts parts_of
taken_from s left [] w h = sym (none_of left (omega arith))
taken_from s left (t ∷ ts) w h =
    let p = turn_part left t in
    let n = (span_at (state_of s) p).length in
    let k = min n (length (take t.size left)) in
    let some = span_some (state_of s) t.allowance w.0.1 in
    let l = length-take t.size left in
    let m : k ≤ t.size = omega arith in
    let b : bytes s p ≡ take k left = sym (take_min n (take t.size left)) ∙ take-take k t.size left m in
    let r : length (drop k left) ≤ length ts = rw (length-drop k left) (omega (arith, w.0.0)) in
    ap₂ (λ (x : List ℕ) (f : Fed). x ++ taken_parts f.state (parts_of f.state (drop f.count left) ts)) (part_taken_holds s p ∙ b) (part_fed s p)
    ∙ ap (λ (x : List ℕ). take k left ++ x) (taken_from (s ++ bytes s p) (drop k left) ts w.1 r)
    ∙ take-append-drop k left

module _ (file : List ℕ) (ts : List Turn) (able : CanTake ts) (enough : length file ≤ length ts) where
  -- n turns that can each take a byte take a file of n bytes
  pub file_taken : taken_parts fresh (parts_of fresh file ts) ≡ file
  file_taken = taken_from [] file ts able enough

  -- if the file is accepted, the run gives out each section's data, and nothing for an unused place
  pub file_given : verdict_of file ≡ Accepted → (i : ℕ) → i < count_of file → given_in i fresh (parts_of fresh file ts) ≡ own_data file i
  file_given ok i h =
      let l = few i h in
      given_is (parts_of fresh file ts) i l ∙ ap (λ (s : List ℕ). data_so_far s i) file_taken ∙ data_own file ok i h
    where
      few : (i : ℕ) → i < count_of file → i < place_count
      few i h = omega (arith, few_sections file ok)

  pub file_none : verdict_of file ≡ Accepted → (i : ℕ) → count_of file ≤ i → i < place_count → given_in i fresh (parts_of fresh file ts) ≡ []
  file_none ok i h l = given_is (parts_of fresh file ts) i l ∙ ap (λ (s : List ℕ). data_so_far s i) file_taken ∙ data_past file ok i h
