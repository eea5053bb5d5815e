use mathlib.Core.Path.{sym, ap, ◌∙◌}
use Rattle.eif.specs.Rules.{boot_type}
use Rattle.arriving_fingerprint.proofs.Steps.{data_boot, data_other}
use Rattle.arriving_fingerprint.proofs.hash_data.Goals as goal
use Rattle.arriving_fingerprint.proofs.hash_data.Goals.{After-is_boot, After-kind_at}

-- `arriving_fingerprint::hash_data` meets its contract, by the section's type.
pub returns-then-is_boot : goal.returns-then-is_boot
returns-then-is_boot c = let b = (goal.at.returns-then-is_boot c).After-is_boot in
    let k = (goal.at.After-is_boot b).After-kind_at in
    let a = k.args in
    let t = ap boot_type (sym k.kind_at.ensures) ∙ sym b.is_boot.ensures ∙ c.if-is_boot.true in
    c.after.ensures ∙ sym (data_boot a.roll a.headers.now a.place a.bytes.now t)

pub returns : goal.returns
returns c = let b = (goal.at.returns c).After-is_boot in
    let k = (goal.at.After-is_boot b).After-kind_at in
    let a = k.args in
    let t = ap boot_type (sym k.kind_at.ensures) ∙ sym b.is_boot.ensures ∙ c.if-is_boot.false in
    sym (data_other a.roll a.headers.now a.place a.bytes.now t)
