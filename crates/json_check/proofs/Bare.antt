-- Bytes that stand for themselves in a string: runs of them, and that they leave the mode as it is.
--
use Prim.Native.Nat.{ℕ, zero, suc, ◌+◌, ◌-◌, ◌<◌, ◌≤◌}
use mathlib.Core.Path.{◌≡◌, refl, sym, ap, subst, ◌∙◌}
use mathlib.Core.Bool.{Bool, true, false, not, ◌||◌, false≢true}
use mathlib.Core.List.{List}
use mathlib.Core.Logic.{⊎_elim}
use native.Mathlib.Omega.{arith}
use borrow.Author.Tests.{lt-ltb, ne_eqb, ltb-true}
use lib.Dec.{eqb, ltb}
use lib.ListN.{get_or, length, drop}
use Rattle.octets.specs.Logic.{both, choose}
use native.Mathlib.Nat.{add-zero}
use Rattle.octets.proofs.Logic.{le_or_lt, both_true}
use Rattle.octets.proofs.Lists.{each_below}
use Rattle.json_grammar.specs.Verdict.{JsonVerdict}
use Rattle.json_machine.specs.Table.{classes, rows}
use Rattle.json_machine.specs.Machine.{fault_entry, entry_of, walk_from}
use Rattle.json_check.specs.Bare.{bare, BareRun, char_mode, name_char_mode}
use Rattle.json_check.proofs.Laws.{act_first, turn_goes, walk_on}

pub bare_is : (b : ℕ) → 32 ≤ b → b < 128 → (b ≡ 34 → ⊥) → (b ≡ 92 → ⊥) → bare b ≡ true
bare_is b h k q s = rw (lt-ltb 31 b (omega arith), lt-ltb b 128 k, ne_eqb _ _ q, ne_eqb _ _ s) refl

-- ---- runs

module _ (s : List ℕ) where
  pub run_none : (i j : ℕ) → j ≤ i → BareRun s i j
  unfolding BareRun
  run_none i j h k p q = absurd (omega arith)

  pub run_join : (i j l : ℕ) → BareRun s i j → BareRun s j l → BareRun s i l
  unfolding BareRun
  run_join i j l f g k p q = ⊎_elim (λ (h : j ≤ k). g k h q) (λ (h : k < j). f k p h) (le_or_lt j k)

  pub run_more : (i j l : ℕ) → BareRun s i j → bare (get_or s j 0) ≡ true → l ≡ j + 1 → BareRun s i l
  unfolding BareRun
  run_more i j l f e z k p q =
      ⊎_elim (λ (h : j ≤ k). let y : k ≡ j = omega arith in subst (λ (x : ℕ). bare (get_or s x 0) ≡ true) (sym y) e) (λ (h : k < j). f k p h) (le_or_lt j k)

  pub run_same : (i j l : ℕ) → BareRun s i j → l ≡ j → BareRun s i l
  run_same i j l f z = subst (λ (x : ℕ). BareRun s i x) (sym z) f

-- if the or of two is false, both are
pub neither : (a b : Bool) → a || b ≡ false → (a ≡ false) × (b ≡ false)
neither false b e = (refl, e)
neither true b e = absurd (false≢true (sym e))

-- ---- the machine

bare_small : (b : ℕ) → bare b ≡ true → b < 256
bare_small b e =
    let h = ltb-true b 128 (both_true (ltb b 128) (both (not (eqb b 34)) (not (eqb b 92))) (both_true (ltb 31 b) (both (ltb b 128) (both (not (eqb b 34)) (not (eqb b 92)))) e).1).0 in
    omega arith

-- where each bare byte leaves a mode
abbrev pub Stays : ℕ → Type 0
Stays mode = (b : ℕ) → bare b ≡ true → mode ≡ entry_of mode b

by_table_holds : (mode : ℕ) → ((b : ℕ) → b < 256 → choose (bare b) (entry_of mode b) mode ≡ mode) → Stays mode
by_table_holds mode f b e = sym (f b (bare_small b e)) ∙ ap (λ (x : Bool). choose x (entry_of mode b) mode) e

pub char_stays : Stays char_mode
unfolding entry_of classes rows
char_stays = by_table_holds char_mode (each_below 0 (λ (b : ℕ). choose (bare b) (entry_of char_mode b) char_mode) (λ (b : ℕ). char_mode) 256 refl)

pub name_char_stays : Stays name_char_mode
unfolding entry_of classes rows
name_char_stays = by_table_holds name_char_mode (each_below 0 (λ (b : ℕ). choose (bare b) (entry_of name_char_mode b) name_char_mode) (λ (b : ℕ). name_char_mode) 256 refl)

-- so the walk over the rest of a text gives the same verdict from any place of such a run
module _ (s : List ℕ) (mode stack : ℕ) (small : mode < fault_entry) (stays : Stays mode) where
  abbrev From : ℕ → JsonVerdict
  From i = walk_from mode stack i (drop i s)

  one_on : (i : ℕ) → i < length s → bare (get_or s i 0) ≡ true → From (i + 1) ≡ From i
  one_on i h e =
      let t = turn_goes mode stack small in
      walk_on s (From i) mode stack i refl h mode mode stack (act_first mode stack (get_or s i 0) mode (stays (get_or s i 0) e) (λ z. omega arith)) t.0 t.1 (λ z. omega arith)

  many_on : (n i : ℕ) → i + n ≤ length s → BareRun s i (i + n) → From (i + n) ≡ From i
  unfolding BareRun
  many_on zero i h f = ap From (add-zero i)
  many_on (suc n) i h f =
      let y : i + 1 + n ≡ i + suc n = omega arith in
      sym (ap From y)
      ∙ many_on n (i + 1) (omega arith) (λ k p q. f k (omega arith) (omega arith))
      ∙ one_on i (omega arith) (f i (omega arith) (omega arith))

  pub run_on : (i j : ℕ) → i ≤ j → j ≤ length s → BareRun s i j → From j ≡ From i
  run_on i j h k f =
      let y : i + (j - i) ≡ j = omega arith in
      sym (ap From y) ∙ many_on (j - i) i (omega arith) (subst (λ (x : ℕ). BareRun s i x) (sym y) f)
