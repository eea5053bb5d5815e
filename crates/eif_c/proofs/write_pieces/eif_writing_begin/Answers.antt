use mathlib.Core.Path.{ap, ◌∙◌}
use Rattle.eif_flat.specs.declared.EifAnswer.{EifAnswer}
use Rattle.eif_c.specs.WritePieces.{flat_begun}
use Rattle.eif_c.proofs.write_pieces.eif_writing_begin.Goals as goal

-- `eif_writing_begin` meets its contract: the state, and the answer made flat.
pub returns : goal.returns
returns c = let b = c in
    ap (λ (x : EifAnswer). record { state = b.begin-begun.result.state; answer = x }) c.flat_written.ensures ∙ ap flat_begun b.begin-begun.ensures
