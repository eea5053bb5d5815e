-- Section lists of the same types whose data are the same, wherever these lie: their records are the same.
-- What a section's data is, is given by a function.
-- Assumes nothing.
use Prim.Native.Nat.{ℕ, zero, suc, ◌<◌, ◌≤◌}
use mathlib.Core.Path.{◌≡◌, refl, sym, ap, ◌∙◌}
use mathlib.Core.Bool.{Bool, true, false}
use mathlib.Core.List.{List, ◌∷◌, map, []}
use native.Mathlib.Omega.{arith}
use lib.Dec.{eqb, eqb-zero-suc, eqb-suc-zero, eqb-suc-suc}
use lib.ListN.{set, replicate}
use Rattle.eif_lemmas.proofs.Types.{none_kept, whole_kept}
use Rattle.octets.specs.Logic.{choose}
use Rattle.eif.specs.Table.{filled}
use Rattle.eif.specs.Reading.{blank_section}
use Rattle.eif.specs.Roll.{record_for, records_by, measured_in}
use Rattle.eif.specs.declared.Section.{Section}
use Rattle.eif.specs.declared.Stream.TheVariants.{Whole}
use Rattle.eif_lemmas.proofs.Table.{filled_same}
use Rattle.eif.specs.Rules.{boot_type}

-- ---- the records of a roll

-- one section more
one_more : (held other : Section → List ℕ) (x y : Section) (k l : List Section) → x.kind ≡ y.kind → held x ≡ other y
    → map (record_for held) k ≡ map (record_for other) l → (b : Bool) → map (record_for held) (choose b (x ∷ k) k) ≡ map (record_for other) (choose b (y ∷ l) l)
one_more held other x y k l e d rest true = λ t. record { kind = e t; bytes = d t } ∷ rest t
one_more held other x y k l e d rest false = rest

none_measured : (m : ℕ) → measured_in (replicate m blank_section) ≡ []
none_measured m = sym (whole_kept 0 (replicate m blank_section)) ∙ none_kept Whole 0 m

pub same_records : (held other : Section → List ℕ) (m n : ℕ) (f g : ℕ → Section)
    → ((j : ℕ) → j < n → (f j).kind ≡ (g j).kind) → ((j : ℕ) → j < n → held (f j) ≡ other (g j))
    → records_by held (filled f blank_section m n) ≡ records_by other (filled g blank_section m n)
unfolding measured_in
same_records held other zero n f g hk hd = refl
same_records held other (suc m) zero f g hk hd =
    ap (map (record_for held)) (none_measured (suc m)) ∙ sym (ap (map (record_for other)) (none_measured (suc m)))
same_records held other (suc m) (suc n) f g hk hd =
    let k = hk 0 (omega arith) in
    let later : List Section = measured_in (filled (λ j. g (suc j)) blank_section m n) in
    one_more held other (f 0) (g 0) (measured_in (filled (λ j. f (suc j)) blank_section m n)) later k (hd 0 (omega arith))
    (same_records held other m n (λ j. f (suc j)) (λ j. g (suc j)) (λ j h. hk (suc j) (omega arith)) (λ j h. hd (suc j) (omega arith)))
    (boot_type (f 0).kind)
    ∙ ap (λ (q : ℕ). map (record_for other) (choose (boot_type q) (g 0 ∷ later) later)) k

-- ---- a store at a used place of a table

pub set_filled {ℓ} : {A : Type ℓ} (f : ℕ → A) (d y : A) (m n k : ℕ) → k < n → n ≤ m
    → set (filled f d m n) k y ≡ filled (λ j. choose (eqb j k) y (f j)) d m n
set_filled f d y zero n k h g = absurd (omega arith)
set_filled f d y (suc m) zero k h g = absurd (omega arith)
set_filled f d y (suc m) (suc n) zero h g =
    ap (λ l. y ∷ l)
    (filled_same (λ j. f (suc j)) (λ j. choose (eqb (suc j) 0) y (f (suc j))) d m n (λ j q. ap (λ b. choose b y (f (suc j))) (sym (eqb-suc-zero j))))
set_filled {A = A} f d y (suc m) (suc n) (suc k) h g =
    let e : f 0 ≡ choose (eqb 0 (suc k)) y (f 0) = ap (λ b. choose b y (f 0)) (sym (eqb-zero-suc k)) in
    let rest =
    set_filled (λ j. f (suc j)) d y m n k (omega arith) (omega arith)
    ∙ filled_same (λ j. choose (eqb j k) y (f (suc j))) (λ j. choose (eqb (suc j) (suc k)) y (f (suc j))) d m n
    (λ j q. ap (λ b. choose b y (f (suc j))) (sym (eqb-suc-suc j k))) in
    λ x. e x ∷ rest x
