use Prim.Native.Nat.{ℕ}
use mathlib.Core.Path.{◌≡◌, sym, ap, ◌∙◌}
use mathlib.Core.Bool.{true, not}
use mathlib.Core.List.{List}
use borrow.Author.Tests.{eq-eqb, ne_eqb}
use lib.Dec.{eqb}
use lib.ListN.{length}
use Rattle.assembler.specs.Records.{open_kind, piece_kind, kind_in, formed}
use Rattle.assembler.specs.ByKind.{open_fault}
use Rattle.assembler.specs.declared.State.{State}
use Rattle.assembler.proofs.Form.{formed_piece, formed_kinds}
use Rattle.assembler.proofs.Faults.{fault_form, fault_open_twice, fault_open, fault_not_open, fault_piece, fault_close}
use Rattle.assembler_judge.proofs.judge.Goals as goal
use Rattle.assembler_judge.proofs.judge.Goals.{After-le16-kind, After-le64-length, Else-kind-eq-OPEN, Else-state-eq0, Then-kind-eq-OPEN}

-- `assembler_judge::judge` meets its contract: form and turn, then the rules on a record of its kind. Assumes nothing.
-- a record of one of the three forms
module _ (c : After-le16-kind) where
  abbrev st : State
  st = c.args.state

  abbrev r : List ℕ
  r = c.args.sent.now

  abbrev x : List ℕ
  x = c.args.image.now

  abbrev y : List ℕ
  y = c.args.marks.now

  ok : formed r ≡ true
  ok = sym c.is_formed.ensures ∙ c.if-not-is_formed.false

  kind-is : (k : ℕ) → c.le16-kind.result ≡ k → kind_in r ≡ k
  kind-is k e = sym c.le16-kind.ensures ∙ e

  kind-not : (k : ℕ) → (c.le16-kind.result ≡ k → ⊥) → kind_in r ≡ k → ⊥
  kind-not k h e = h (c.le16-kind.ensures ∙ e)

pub returns-then-not-is_formed : goal.returns-then-not-is_formed
returns-then-not-is_formed c = let a = c.args in
    fault_form a.state a.sent.now a.image.now a.marks.now (sym c.is_formed.ensures ∙ c.if-not-is_formed.true)

pub returns-then-state-ne0 : goal.returns-then-state-ne0
returns-then-state-ne0 c = let t = (goal.at.returns-then-state-ne0 c).Then-kind-eq-OPEN in
    let q = (goal.at.Then-kind-eq-OPEN t).After-le16-kind in
    fault_open_twice (st q) (r q) (x q) (y q) (ok q) (kind-is q open_kind t.if-kind-eq-OPEN.true) (ap not (ne_eqb _ _ c.if-state-ne0.true))

pub returns-then-kind-eq-OPEN : goal.returns-then-kind-eq-OPEN
returns-then-kind-eq-OPEN c = let l = (goal.at.returns-then-kind-eq-OPEN c).After-le64-length in
    let t = (goal.at.After-le64-length l).Then-kind-eq-OPEN in
    let q = (goal.at.Then-kind-eq-OPEN t).After-le16-kind in
    c.open_fault.ensures ∙ ap (λ (n : ℕ). open_fault n (length (x q)) (length (y q))) l.le64-length.ensures
    ∙ fault_open (st q) (r q) (x q) (y q) (ok q) (kind-is q open_kind t.if-kind-eq-OPEN.true) (ap not (eq-eqb _ _ l.if-state-ne0.false))

pub returns-then-state-eq0 : goal.returns-then-state-eq0
returns-then-state-eq0 c = let t = (goal.at.returns-then-state-eq0 c).Else-kind-eq-OPEN in
    let q = (goal.at.Else-kind-eq-OPEN t).After-le16-kind in
    fault_not_open (st q) (r q) (x q) (y q) (ok q) (kind-not q open_kind t.if-kind-eq-OPEN.false) (ap not (eq-eqb _ _ c.if-state-eq0.true))

-- another kind when open
module _ (c : Else-state-eq0) where
  abbrev p : After-le16-kind
  p = (goal.at.Else-state-eq0 c).After-le16-kind

  opened-now : not (eqb (st p).opened 0) ≡ true
  opened-now = ap not (ne_eqb _ _ c.if-state-eq0.false)

pub piece_fault-requires : goal.piece_fault-requires
piece_fault-requires c = let q = p (goal.at.piece_fault-requires c).Else-state-eq0 in formed_piece (r q) (ok q) (kind-is q piece_kind c.if-kind-eq-PIECE.true)

pub returns-then-kind-eq-PIECE : goal.returns-then-kind-eq-PIECE
returns-then-kind-eq-PIECE c = let e = (goal.at.returns-then-kind-eq-PIECE c).Else-state-eq0 in
    let q = p e in
    c.piece_fault.ensures ∙ fault_piece (st q) (r q) (x q) (y q) (ok q) (kind-is q piece_kind c.if-kind-eq-PIECE.true) (opened-now e)

pub returns : goal.returns
returns c = let e = (goal.at.returns c).Else-state-eq0 in
    let q = p e in
    let k = formed_kinds (r q) (ok q) (kind-not q open_kind e.if-kind-eq-OPEN.false) (kind-not q piece_kind c.if-kind-eq-PIECE.false) in
    c.close_fault.ensures ∙ fault_close (st q) (r q) (x q) (y q) (ok q) k (opened-now e)
