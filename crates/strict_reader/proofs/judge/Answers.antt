use Prim.Native.Nat.{ℕ, ◌-◌}
use mathlib.Core.Path.{◌≡◌, sym, ap, ◌∙◌}
use native.Mathlib.Omega.{arith}
use Rattle.eif.specs.Reading.{section_in}
use Rattle.strict_reader.specs.Strict.{metadata_verdict}
use Rattle.strict_reader.proofs.Steps.{metadata_stop, metadata_on, metadata_none}
use Rattle.strict_reader.proofs.judge.Goals as goal
use Rattle.strict_reader.proofs.judge.Goals.{After-not_json, At-loop-i}

-- `strict_reader::judge` meets its contract: the walk from here gives the verdict of the whole. Assumes nothing.
pub loop-i-init : goal.loop-i-init
loop-i-init c = let a = c.args in
    let z : a.count - 0 ≡ a.count = omega arith in
    ap (λ (n : ℕ). metadata_verdict a.image.now (section_in a.sections) n 0) z

pub returns-then-not_json : goal.returns-then-not_json
returns-then-not_json c = let n = (goal.at.returns-then-not_json c).After-not_json in
    let w = (goal.at.After-not_json n).At-loop-i in
    let a = w.args in
    c.refuse_at.ensures
    ∙ metadata_stop a.image.now (section_in a.sections) a.count w.loop-i.i n.loop-i-test.true (sym c.if-not_json.true ∙ n.not_json.ensures)
    ∙ w.loop-i.invariant

pub loop-i-preserved : goal.loop-i-preserved
loop-i-preserved c = let n = (goal.at.loop-i-preserved c).After-not_json in
    let w = (goal.at.After-not_json n).At-loop-i in
    let a = w.args in
    sym (metadata_on a.image.now (section_in a.sections) a.count w.loop-i.i n.loop-i-test.true (sym c.if-not_json.false ∙ n.not_json.ensures))
    ∙ w.loop-i.invariant

pub returns : goal.returns
returns c = let l = c.loop-i in
    let a = c.args in
    metadata_none a.image.now (section_in a.sections) a.count l.i c.loop-i-test.false ∙ l.invariant
