use mathlib.Core.Path.{ap, ◌∙◌}
use Rattle.json_laws.proofs.Laws.{only_verdict}
use Rattle.eif_c.specs.Strict.{flat_json}
use Rattle.eif_c.proofs.strict.eif_json_check.Goals as goal

-- `eif_json_check` meets its contract: the checker's answer, made flat, and there is only one right verdict.
-- Assumes nothing.
pub returns : goal.returns
returns c = let k = c.check in record { value = c.flat_json.ensures ∙ ap flat_json k.ensures.value; right_verdict = λ v i. c.flat_json.ensures ∙ ap flat_json (only_verdict c.args.text.now k.result v k.ensures.verdict i) }
