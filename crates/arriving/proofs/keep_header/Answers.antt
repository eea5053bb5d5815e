use Prim.Native.Nat.{◌+◌, ◌-◌, min}
use mathlib.Core.Path.{◌≡◌}
use native.Mathlib.Omega.{arith}
use lib.ListN.{length}
use Rattle.eif.specs.Layout.{section_header_size}
use Rattle.arriving.proofs.Steps.{head_held, head_ahead, head_kept}
use Rattle.arriving.proofs.keep_header.Goals as goal
use Rattle.arriving.proofs.keep_header.Goals.{After-lesser}

-- `arriving::keep_header` meets its contract: nothing is left to keep, or the piece ends before it, or the part of the piece that the twelve
-- bytes have room for is written behind those that are held. Assumes nothing.
pub returns-then-size-held : goal.returns-then-size-held
returns-then-size-held c = let a = c.args in
    head_held a.headers.now a.at a.from a.taken a.piece.now (omega arith)

pub returns-then-len-skip : goal.returns-then-len-skip
returns-then-len-skip c = let a = c.args in
    head_ahead a.headers.now a.at a.from a.taken a.piece.now (omega arith)

pub returns : goal.returns
returns c = let l = (goal.at.returns c).After-lesser in
    let a = l.args in
    let skip = l.past-skip in
    let held = l.past-held in
    let size : skip.result + l.lesser.result - skip.result ≡ min (section_header_size - held.result) (length a.piece.now - skip.result) = omega (arith, l.lesser.ensures) in
    head_kept a.headers.now a.at a.from a.taken a.piece.now held.ensures skip.ensures size c.copy.ensures
