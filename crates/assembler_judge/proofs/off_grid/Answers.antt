use Prim.Native.Nat.{◌-◌}
use native.Mathlib.Omega.{arith}
use Rattle.assembler.specs.Records.{piece_size}
use Rattle.assembler_judge.proofs.Tests.{grid_past, grid_off, grid_count}
use Rattle.assembler_judge.proofs.off_grid.Goals as goal

-- `assembler_judge::off_grid` meets its contract: each return from the tests that led to it. Assumes nothing.
pub returns-then-length-start : goal.returns-then-length-start
returns-then-length-start c = let a = c.args in
    grid_past a.length a.start a.count c.if-length-start.true

pub returns-then-start-ne0 : goal.returns-then-start-ne0
returns-then-start-ne0 c = let a = c.args in
    grid_off a.length a.start a.count (omega arith) c.if-start-ne0.true

pub returns-then-left-lt-PIECE_SIZE : goal.returns-then-left-lt-PIECE_SIZE
returns-then-left-lt-PIECE_SIZE c = let a = c.args in
    grid_count a.length a.start a.count (omega arith) c.if-start-ne0.false (a.length - a.start) (omega arith)

pub returns : goal.returns
returns c = let a = c.args in
    grid_count a.length a.start a.count (omega arith) c.if-start-ne0.false piece_size (omega arith)
