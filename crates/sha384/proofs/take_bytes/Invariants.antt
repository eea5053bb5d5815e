use Prim.Native.Nat.{◌-◌, ◌<◌, ◌≤◌}
use mathlib.Core.Path.{◌≡◌}
use lib.ListN.{length, drop}
use Rattle.sha384_block.specs.Fips.{block_size}
use Rattle.sha384.specs.State.{take_bytes}
use Rattle.sha384.proofs.take_bytes.Given as goal

abbrev pub invariant-loop-i : goal.invariant-loop-i
invariant-loop-i l = (l.i ≤ length l.s) × (l.m.used < block_size) × (take_bytes l.m (drop l.i l.s) ≡ take_bytes l.initial.m l.s)

abbrev pub decreases-loop-i : goal.decreases-loop-i
decreases-loop-i l = length l.s - l.i
