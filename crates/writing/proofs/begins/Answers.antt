use Prim.Native.Nat.{◌<◌, ◌≤◌}
use native.Mathlib.Omega.{arith}
use Rattle.writing.specs.Writing.{sections_in}
use Rattle.writing.proofs.Steps.{begins_if, begins_not}
use Rattle.writing.proofs.begins.Goals as goal
use Rattle.writing.proofs.begins.Goals.{After-sections}

-- `writing::begins` meets its contract: there is a section to begin, and room for its own header.
pub returns-then-state-sections : goal.returns-then-state-sections
returns-then-state-sections c = let s = (goal.at.returns-then-state-sections c).After-sections in
    let a = s.args.state in
    let h : a.sections_begun < sections_in a = omega (arith, s.sections.ensures) in
    begins_if a s.args.room h

pub returns : goal.returns
returns c = let s = (goal.at.returns c).After-sections in
    let a = s.args.state in
    let h : sections_in a ≤ a.sections_begun = omega (arith, s.sections.ensures) in
    begins_not a s.args.room h
