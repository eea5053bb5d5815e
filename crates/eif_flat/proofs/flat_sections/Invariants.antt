use Prim.Native.Nat.{◌-◌, ◌≤◌}
use Rattle.eif.specs.Numbers.{place_count}
use Rattle.eif_flat.specs.Flat.{flat_section}
use Rattle.eif_flat.proofs.Mapped.{Mapped}
use Rattle.eif_flat.proofs.flat_sections.Given as goal

abbrev pub invariant-loop-i : goal.invariant-loop-i
invariant-loop-i l = (l.i ≤ place_count) × Mapped flat_section l.sections l.flat l.i

abbrev pub decreases-loop-i : goal.decreases-loop-i
decreases-loop-i l = place_count - l.i
