-- The last step of the verdict by all rules but 13: rule 12, from what is missing among the types, and then 20, from where the last
-- section ends.
-- Assumes nothing.
use mathlib.Core.Path.{◌≡◌, refl}
use mathlib.Core.Bool.{true, false}
use Prim.Native.Nat.{ℕ, ◌<◌, ◌≤◌}
use borrow.Author.Tests.{lt-ltb, le-ltb, eq-eqb}
use Rattle.eif.specs.Numbers.{place_count, section_missing, not_packed}
use Rattle.eif.specs.Answers.{refuse, refuse_at}
use Rattle.eif.specs.Rules.{first_fault, missing, missing_fault}
use Rattle.eif.specs.Layout.{View, version, count, checksum, start, end}
use Rattle.eif.specs.Reading.{header_fault, section_fault, tail_fault, checksum_fault, located, judged, early, verdict_in}
use Rattle.eif.specs.declared.Verdict.TheVariants.{Accepted}
use Rattle.eif_lemmas.proofs.View.{sound_of}
use Rattle.eif_lemmas.proofs.Accept.{accepted→}

module _ (v : View) (clean : header_fault v ≡ 0) (walked : first_fault (section_fault v) (count v) 0 ≡ Accepted) where
  pub incomplete : missing v.kind (version v) (count v) ≡ true → located v.header (refuse section_missing 0) ≡ early v
  unfolding early judged missing_fault
  incomplete e = simp (clean, walked, e)

  module _ (All-there : missing v.kind (version v) (count v) ≡ false) where
    pub with_tail : start v (count v) < v.size → refuse_at not_packed 0 (start v (count v)) ≡ early v
    unfolding early judged missing_fault tail_fault
    with_tail h = simp (clean, walked, All-there, lt-ltb _ _ h)

    pub complete : v.size ≤ start v (count v) → Accepted ≡ early v
    unfolding early judged missing_fault tail_fault
    complete h = simp (clean, walked, All-there, le-ltb _ _ h)

by_own : (v : View) → early v ≡ Accepted → verdict_in v (checksum v) ≡ Accepted
unfolding verdict_in checksum_fault
by_own v e = simp (e, eq-eqb (checksum v) (checksum v) refl)

-- of a view that these rules accept: no more sections than places, and each ends in the file
pub sections_lie : (v : View) → early v ≡ Accepted → (count v ≤ place_count) × ((k : ℕ) → k < count v → end v k ≤ v.size)
sections_lie v e =
    let p = accepted→ v (checksum v) (by_own v e) in
    (p.head.fields.few, λ k h. (sound_of v k (p.sections k h)).ends)
