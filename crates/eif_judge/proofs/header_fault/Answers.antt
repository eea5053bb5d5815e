use Prim.Native.Nat.{ℕ}
use mathlib.Core.Path.{◌∙◌, ap₂}
use mathlib.Core.List.{List}
use native.Mathlib.Omega.{arith}
use Rattle.eif.specs.Rules.{field_fault}
use Rattle.eif.specs.Layout.{View}
use Rattle.eif_lemmas.proofs.View.{header1, header2, header3, header_fields}
use Rattle.eif_judge.specs.Kept.{view_from}
use Rattle.eif_judge.proofs.header_fault.Goals as goal

-- `eif_judge::header_fault` meets its contract: its tests are the rules' tests, in their order. Assumes nothing.
abbrev view : List ℕ → List ℕ → ℕ → View
view header headers size = view_from header headers size

pub returns-then-size : goal.returns-then-size
returns-then-size c headers = header1 (view c.args.header.now headers c.args.size) (omega arith)

pub returns-then-size-2 : goal.returns-then-size-2
returns-then-size-2 c headers = header2 (view c.args.header.now headers c.args.size) (omega arith) (omega arith)

pub returns-then-be32-ne-MAGIC : goal.returns-then-be32-ne-MAGIC
returns-then-be32-ne-MAGIC c headers =
    header3 (view c.args.header.now headers c.args.size) (omega arith) (omega arith) (λ e. c.if-be32-ne-MAGIC.true (c.be32.ensures ∙ e))

pub returns : goal.returns
returns c headers =
    c.field_fault.ensures ∙ ap₂ field_fault c.be16-version.ensures c.be16-count.ensures
    ∙ header_fields (view c.args.header.now headers c.args.size) (omega arith) (omega arith) (omega arith)
