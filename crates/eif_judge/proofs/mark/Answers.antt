use Prim.Native.Nat.{ℕ, suc, ◌+◌, ◌*◌, ◌-◌, ◌^◌, ◌<◌}
use mathlib.Core.Path.{◌≡◌, ap, ◌∙◌}
use native.Mathlib.Omega.{arith}
use native.Mathlib.Nat.{pow-suc, pow-le-pow_right, lt_of_lt_of_le}
use borrow.Author.Rules.{rules}
use lib.Dec.{lit<}
use lib.Pow.{pow_pos}
use lib.ListN.{length, drop}
use Rattle.eif.specs.Numbers.{place_count}
use Rattle.eif.specs.Reading.{mark_of}
use Rattle.eif_lemmas.proofs.Mark.{mark_one, mark_other}
use Rattle.eif_judge.proofs.mark.Goals as goal

-- `eif_judge::mark` meets its contract: what is built so far is the mark of the places passed, which are the last ones, and
-- it has a bit for each of them, so that it fits. The measure is how many are left. Assumes nothing.
twice : (k : ℕ) {m : ℕ} → m < 2 ^ k → m * 2 + 1 < 2 ^ suc k
twice k h = rw pow-suc (omega arith)

doubled : (k : ℕ) {m : ℕ} → m < 2 ^ k → k < place_count → m * 2 + 1 < 2 ^ place_count
doubled k h g = lt_of_lt_of_le (twice k h) (pow-le-pow_right {n = 2} (lit< tt) {i = suc k} {j = place_count} g)

pub loop-j-preserved-then-kind-eq-RAMDISK : goal.loop-j-preserved-then-kind-eq-RAMDISK
loop-j-preserved-then-kind-eq-RAMDISK c = let l = c.loop-j in
    let a = c.args in
    let n : suc (place_count - l.j) ≡ place_count - (l.j - 1) = omega arith in
    let e : suc (l.j - 1) ≡ l.j = omega arith in
    let size : length a.sections ≡ place_count = search rules in
    let step = mark_one a.sections (l.j - 1) (omega arith) c.if-kind-eq-RAMDISK.true ∙ ap (λ (k : ℕ). 1 + 2 * mark_of (drop k a.sections)) e in
    let v = l.invariant.2 in
    let d = twice (place_count - l.j) l.invariant.1 in
    (omega arith, rw (← n) (omega arith), omega arith)

pub loop-j-preserved : goal.loop-j-preserved
loop-j-preserved c = let l = c.loop-j in
    let a = c.args in
    let n : suc (place_count - l.j) ≡ place_count - (l.j - 1) = omega arith in
    let e : suc (l.j - 1) ≡ l.j = omega arith in
    let size : length a.sections ≡ place_count = search rules in
    let step = mark_other a.sections (l.j - 1) (omega arith) c.if-kind-eq-RAMDISK.false ∙ ap (λ (k : ℕ). 0 + 2 * mark_of (drop k a.sections)) e in
    let v = l.invariant.2 in
    let d = twice (place_count - l.j) l.invariant.1 in
    (omega arith, rw (← n) (omega arith), omega arith)

pub overflow_mul-m : goal.overflow_mul-m
overflow_mul-m c = let l = c.loop-j in
    let h = doubled (place_count - l.j) l.invariant.1 (omega arith) in
    omega arith

pub overflow_add-m : goal.overflow_add-m
overflow_add-m c = let l = c.loop-j in
    let h = doubled (place_count - l.j) l.invariant.1 (omega arith) in
    omega arith

pub returns : goal.returns
returns c = let l = c.loop-j in
    let e : l.j ≡ 0 = omega arith in
    rw e at l.invariant.2

pub loop-j-init : goal.loop-j-init
loop-j-init c = (c.requires.0, pow_pos (place_count - c.args.used), c.requires.1)
