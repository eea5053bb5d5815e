use Prim.Native.Nat.{ℕ, ◌+◌, ◌*◌, ◌<◌, ◌≤◌}
use mathlib.Core.List.{List}
use mathlib.Core.Path.{◌≡◌, sym, ap, ◌∙◌}
use borrow.Author.Tests.{le-leb, lt-leb, ne_eqb}
use Rattle.octets.specs.Bytes.{field}
use Rattle.eif.specs.Numbers.{wrong_magic, wrong_version, wrong_count, ends_late, section_missing, not_packed}
use Rattle.eif.specs.Layout.{offsets_at, offset_entry}
use Rattle.eif.specs.Reading.{position_in}
use Rattle.eif_judge.proofs.position.Goals as goal
use Rattle.eif_judge.proofs.position.Goals.{Else-number-eq-NOT_PACKED, Else-number-eq-SECTION_MISSING, Else-number-le-ENDS_LATE, Then-number-eq-NOT_PACKED, Then-number-le-ENDS_LATE}

-- `eif_judge::position` meets its contract: its tests are the table's tests, in their order. Assumes nothing.
module _ (header : ℕ → ℕ → ℕ) (number index : ℕ) where
  front : number ≤ wrong_magic → 0 ≡ position_in header number index
  unfolding position_in
  front h = simp (le-leb _ _ h)

  fixed : (k : ℕ) → number ≡ k → position_in header k index ≡ position_in header number index
  fixed k e = ap (λ (n : ℕ). position_in header n index) (sym e)

  module _ (a : wrong_magic < number) (b : number ≡ wrong_version → ⊥) (c : number ≡ wrong_count → ⊥) (d : number ≡ section_missing → ⊥) where
    at_entry : number ≤ ends_late → offsets_at + 8 * index ≡ position_in header number index
    unfolding position_in
    at_entry h = simp (lt-leb _ _ a, ne_eqb _ _ b, ne_eqb _ _ c, ne_eqb _ _ d, le-leb _ _ h)

    at_own : ends_late < number → (number ≡ not_packed → ⊥) → offset_entry header index ≡ position_in header number index
    unfolding position_in
    at_own h g = simp (lt-leb _ _ a, ne_eqb _ _ b, ne_eqb _ _ c, ne_eqb _ _ d, lt-leb _ _ h, ne_eqb _ _ g)

abbrev bytes : List ℕ → ℕ → ℕ → ℕ
bytes header w at = field w at header

pub returns-then-number-le-WRONG_MAGIC : goal.returns-then-number-le-WRONG_MAGIC
returns-then-number-le-WRONG_MAGIC c = front (bytes c.args.header.now) c.args.number c.args.index c.if-number-le-WRONG_MAGIC.true

pub returns-then-number-eq-WRONG_VERSION : goal.returns-then-number-eq-WRONG_VERSION
unfolding position_in
returns-then-number-eq-WRONG_VERSION c = fixed (bytes c.args.header.now) c.args.number c.args.index wrong_version c.if-number-eq-WRONG_VERSION.true

pub returns-then-number-eq-WRONG_COUNT : goal.returns-then-number-eq-WRONG_COUNT
unfolding position_in
returns-then-number-eq-WRONG_COUNT c = fixed (bytes c.args.header.now) c.args.number c.args.index wrong_count c.if-number-eq-WRONG_COUNT.true

pub returns-then-number-eq-SECTION_MISSING : goal.returns-then-number-eq-SECTION_MISSING
unfolding position_in
returns-then-number-eq-SECTION_MISSING c = fixed (bytes c.args.header.now) c.args.number c.args.index section_missing c.if-number-eq-SECTION_MISSING.true

pub returns-then-number-le-ENDS_LATE : goal.returns-then-number-le-ENDS_LATE
returns-then-number-le-ENDS_LATE c = let l = (goal.at.returns-then-number-le-ENDS_LATE c).Then-number-le-ENDS_LATE in
    let e = (goal.at.Then-number-le-ENDS_LATE l).Else-number-eq-SECTION_MISSING in
    c.offset_entry.ensures
    ∙ at_entry (bytes c.args.header.now) c.args.number c.args.index e.if-number-le-WRONG_MAGIC.false e.if-number-eq-WRONG_VERSION.false e.if-number-eq-WRONG_COUNT.false e.if-number-eq-SECTION_MISSING.false l.if-number-le-ENDS_LATE.true

pub returns-then-number-eq-NOT_PACKED : goal.returns-then-number-eq-NOT_PACKED
unfolding position_in
returns-then-number-eq-NOT_PACKED c = let l = (goal.at.returns-then-number-eq-NOT_PACKED c).Then-number-eq-NOT_PACKED in
    c.offset_entry-then-number-eq-NOT_PACKED.ensures ∙ fixed (bytes c.args.header.now) c.args.number c.args.index not_packed l.if-number-eq-NOT_PACKED.true

pub returns : goal.returns
returns c = let m = (goal.at.returns c).Else-number-eq-NOT_PACKED in
    let l = (goal.at.Else-number-eq-NOT_PACKED m).Else-number-le-ENDS_LATE in
    let e = (goal.at.Else-number-le-ENDS_LATE l).Else-number-eq-SECTION_MISSING in
    c.offset_at.ensures
    ∙ at_own (bytes c.args.header.now) c.args.number c.args.index e.if-number-le-WRONG_MAGIC.false e.if-number-eq-WRONG_VERSION.false e.if-number-eq-WRONG_COUNT.false e.if-number-eq-SECTION_MISSING.false l.if-number-le-ENDS_LATE.false m.if-number-eq-NOT_PACKED.false
