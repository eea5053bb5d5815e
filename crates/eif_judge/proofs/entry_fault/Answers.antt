use Prim.Native.Nat.{ℕ, ◌+◌, ◌≤◌}
use mathlib.Core.Path.{◌≡◌, sym, ap₂, ◌∙◌}
use native.Mathlib.Omega.{arith}
use borrow.Author.Tests.{ltb-true, ltb-false}
use lib.Dec.{ltb}
use Rattle.eif.specs.Rules.{allowed_in}
use Rattle.eif.specs.Layout.{section_header_size, View, version, offset, table_size, start, end}
use Rattle.eif_lemmas.proofs.View.{fault6, fault20, fault7, fault8, fault9, no_fault}
use Rattle.eif_judge.specs.Kept.{view_from}
use Rattle.eif_judge.proofs.entry_fault.Goals as goal
use Rattle.eif_judge.proofs.entry_fault.Goals.{After-allowed, After-ends_late, After-size_at-length}

-- `eif_judge::entry_fault` meets its contract: its tests are the rules' tests, in their order. Assumes nothing.
module _ (c : After-size_at-length) where
  abbrev view : View
  view = view_from c.args.header.now c.args.headers.now c.args.size

  abbrev index : ℕ
  index = c.args.i

-- ---- after rules 6 and 20, and what rule 7 tested
module _ (c : After-ends_late) where
  abbrev file : View
  file = view (goal.at.After-ends_late c).After-size_at-length

  abbrev here : ℕ
  here = index (goal.at.After-ends_late c).After-size_at-length

  starts : offset file here ≡ start file here
  starts = omega arith

  tested-end : ltb file.size (end file here) ≡ c.ends_late.result
  tested-end = sym (c.ends_late.ensures ∙ ap₂ (λ (o n : ℕ). ltb file.size (o + section_header_size + n)) c.offset_at-offset.ensures c.size_at-length.ensures)

-- ---- after rule 8, and what rule 9 tested
module _ (c : After-allowed) where
  abbrev looked : After-ends_late
  looked = (goal.at.After-allowed c).After-ends_late

  ends : end (file looked) (here looked) ≤ (file looked).size
  ends = ltb-false _ _ (tested-end looked ∙ c.if-ends_late.false)

  same : (file looked).own_size (here looked) ≡ table_size (file looked) (here looked)
  same = sym c.be64.ensures ∙ c.if-be64-length.false ∙ looked.size_at-length.ensures

  tested-type : allowed_in (version (file looked)) ((file looked).kind (here looked)) ≡ c.allowed.result
  tested-type = sym (c.allowed.ensures ∙ ap₂ allowed_in c.be16-version.ensures c.kind_at.ensures)

pub returns-then-offset-begin : goal.returns-then-offset-begin
returns-then-offset-begin c = let q = (goal.at.returns-then-offset-begin c).After-size_at-length in sym (fault6 (view q) (index q) (omega arith))

pub returns-then-offset-begin-2 : goal.returns-then-offset-begin-2
returns-then-offset-begin-2 c = let q = (goal.at.returns-then-offset-begin-2 c).After-size_at-length in sym (fault20 (view q) (index q) (omega arith) (λ e. c.if-offset-begin-2.true (omega arith)))

pub returns-then-ends_late : goal.returns-then-ends_late
returns-then-ends_late c = let q = (goal.at.returns-then-ends_late c).After-ends_late in
    sym (fault7 (file q) (here q) (starts q) (ltb-true _ _ (tested-end q ∙ c.if-ends_late.true)))

pub returns-then-be64-length : goal.returns-then-be64-length
returns-then-be64-length c = let q = (goal.at.returns-then-be64-length c).After-ends_late in
    sym (fault8 (file q) (here q) (starts q) (ltb-false _ _ (tested-end q ∙ c.if-ends_late.false))
    (λ e. c.if-be64-length.true (c.be64.ensures ∙ e ∙ sym q.size_at-length.ensures)))

pub returns-then-allowed : goal.returns-then-allowed
returns-then-allowed c = let a = (goal.at.returns-then-allowed c).After-allowed in
    let q = looked a in
    sym (no_fault (file q) (here q) (starts q) (ends a) (same a) (tested-type a ∙ c.if-allowed.true))

pub returns-else-allowed : goal.returns-else-allowed
returns-else-allowed c = let a = (goal.at.returns-else-allowed c).After-allowed in
    let q = looked a in
    sym (fault9 (file q) (here q) (starts q) (ends a) (same a) (tested-type a ∙ c.if-allowed.false))
