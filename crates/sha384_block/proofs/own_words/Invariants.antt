use Rattle.std.proofs.Common.{◌≡◌, ◌-◌, ◌≤◌, ◌++◌, length, take}
use Rattle.sha384_block.specs.Fips.{words_from}
use Rattle.sha384_block.proofs.own_words.Given as goal

abbrev pub invariant-loop-t : goal.invariant-loop-t
invariant-loop-t l = (l.t ≤ 16) × (length l.w ≡ 80) × (take l.t l.w ++ words_from (16 - l.t) l.t l.block ≡ words_from 16 0 l.block)

abbrev pub decreases-loop-t : goal.decreases-loop-t
decreases-loop-t l = 16 - l.t
