use mathlib.Core.Path.{ap, ◌∙◌}
use Rattle.json_machine.specs.Machine.{json_verdict}
use Rattle.strict_reader.proofs.Steps.{other_type, metadata_by}
use Rattle.strict_reader.proofs.not_json.Goals as goal

-- `strict_reader::not_json` meets its contract: the type, and then what the checker says of the data. Assumes nothing.
pub returns-then-section-ne-METADATA : goal.returns-then-section-ne-METADATA
returns-then-section-ne-METADATA c = let a = c.args in
    other_type a.image.now a.section c.if-section-ne-METADATA.true

pub returns : goal.returns
returns c = let a = c.args in
    c.is_err.ensures.value ∙ metadata_by a.image.now a.section c.if-section-ne-METADATA.false _ (c.check.ensures.value ∙ ap json_verdict c.section_data.ensures.result_value)
