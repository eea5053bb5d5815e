use Rattle.std.proofs.Common.{◌≡◌, ◌-◌, ◌%◌, ◌≤◌, length, take}
use Rattle.sha384_block.specs.Fips.{extend, rounds}
use Rattle.sha384_block.proofs.Block.{Ahead}
use Rattle.sha384_block.proofs.all_rounds.Given as goal

abbrev pub invariant-loop-t : goal.invariant-loop-t
invariant-loop-t l = (l.t ≤ 64) × (l.t % 2 ≡ 0) × Ahead l.k (extend 64 (take 16 l.initial.w)) (rounds 80 0 l.k (extend 64 (take 16 l.initial.w)) l.initial.v) l.t l.w l.v

abbrev pub invariant-loop-t-2 : goal.invariant-loop-t-2
invariant-loop-t-2 l = (64 ≤ l.t) × (l.t ≤ 80) × (l.t % 2 ≡ 0) × (length l.w ≡ 80) × (rounds (80 - l.t) l.t l.k l.w l.v ≡ rounds (80 - l.initial.t) l.initial.t l.k l.w l.initial.v)

abbrev pub decreases-loop-t : goal.decreases-loop-t
decreases-loop-t l = 64 - l.t

abbrev pub decreases-loop-t-2 : goal.decreases-loop-t-2
decreases-loop-t-2 l = 80 - l.t
