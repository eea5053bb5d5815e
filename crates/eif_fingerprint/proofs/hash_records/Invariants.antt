use Prim.Native.Nat.{◌-◌, ◌≤◌}
use mathlib.Core.Path.{◌≡◌}
use lib.ListN.{drop}
use Rattle.eif.specs.Numbers.{place_count}
use Rattle.staged.specs.View.{held_by}
use Rattle.eif_fingerprint.specs.Fingerprint.{records_hashed}
use Rattle.eif_fingerprint.proofs.hash_records.Given as goal

abbrev pub invariant-loop-i : goal.invariant-loop-i
invariant-loop-i l = (l.i ≤ place_count) × (records_hashed (held_by l.base l.replacement) l.st (drop l.i l.sections) ≡ records_hashed (held_by l.base l.replacement) l.initial.st l.sections)

abbrev pub decreases-loop-i : goal.decreases-loop-i
decreases-loop-i l = place_count - l.i
