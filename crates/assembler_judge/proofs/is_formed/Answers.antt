use Prim.Native.Nat.{ℕ}
use mathlib.Core.Path.{◌≡◌, sym, ap, ◌∙◌}
use mathlib.Core.List.{List}
use borrow.Author.Tests.{ne_eqb}
use Rattle.assembler.specs.Records.{open_kind, piece_kind, close_kind, size_fits, formed}
use Rattle.assembler.proofs.Form.{formed_cut, formed_not, formed_fits}
use Rattle.assembler_judge.proofs.is_formed.Goals as goal
use Rattle.assembler_judge.proofs.is_formed.Goals.{After-le16-kind}

-- `assembler_judge::is_formed` meets its contract: each return from the tests that led to it. Assumes nothing.
-- the length is right
module _ (c : After-le16-kind) where
  abbrev bytes : List ℕ
  bytes = c.args.sent.now

  abbrev size : ℕ
  size = c.le64-size.result

  fits : size_fits c.le16-kind.result size ≡ formed bytes
  fits =
      formed_fits bytes c.if-sent-lt-SIZE.false size c.le64-size.ensures c.if-size-sent.false c.le16-kind.result c.le16-kind.ensures

  at-kind : (k : ℕ) → c.le16-kind.result ≡ k → size_fits k size ≡ formed bytes
  at-kind k e = sym (ap (λ (n : ℕ). size_fits n size) e) ∙ fits

pub returns-then-sent-lt-SIZE : goal.returns-then-sent-lt-SIZE
returns-then-sent-lt-SIZE c = formed_cut c.args.sent.now c.if-sent-lt-SIZE.true

pub returns-then-size-sent : goal.returns-then-size-sent
returns-then-size-sent c = formed_not c.args.sent.now c.if-sent-lt-SIZE.false c.le64-size.result c.le64-size.ensures c.if-size-sent.true

pub returns-then-kind-eq-OPEN : goal.returns-then-kind-eq-OPEN
returns-then-kind-eq-OPEN c = at-kind (goal.at.returns-then-kind-eq-OPEN c).After-le16-kind open_kind c.if-kind-eq-OPEN.true

pub returns-then-kind-eq-PIECE : goal.returns-then-kind-eq-PIECE
returns-then-kind-eq-PIECE c = at-kind (goal.at.returns-then-kind-eq-PIECE c).After-le16-kind piece_kind c.if-kind-eq-PIECE.true

pub returns-then-kind-eq-CLOSE : goal.returns-then-kind-eq-CLOSE
returns-then-kind-eq-CLOSE c = at-kind (goal.at.returns-then-kind-eq-CLOSE c).After-le16-kind close_kind c.if-kind-eq-CLOSE.true

pub returns : goal.returns
returns c = simp (ne_eqb _ _ c.if-kind-eq-OPEN.false, ne_eqb _ _ c.if-kind-eq-PIECE.false, ne_eqb _ _ c.if-kind-eq-CLOSE.false) at (fits (goal.at.returns c).After-le16-kind)
