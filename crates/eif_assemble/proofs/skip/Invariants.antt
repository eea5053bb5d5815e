use Rattle.eif_assemble.proofs.skip.Given as goal

abbrev pub invariant-loop-left : goal.invariant-loop-left
invariant-loop-left g l = Unit

abbrev pub decreases-loop-left : goal.decreases-loop-left
decreases-loop-left g l = l.left
