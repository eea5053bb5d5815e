use Prim.Native.Nat.{◌-◌, ◌*◌, ◌≤◌}
use mathlib.Core.Path.{◌≡◌}
use lib.ListN.{length}
use Rattle.eif.specs.Numbers.{place_count}
use Rattle.eif.specs.Layout.{section_header_size}
use Rattle.eif_reader.specs.Gathered.{Gathered}
use Rattle.eif_reader.proofs.gather.Given as goal

abbrev pub invariant-loop-i : goal.invariant-loop-i
invariant-loop-i l = (l.i ≤ l.count) × (length l.headers ≡ section_header_size * place_count) × Gathered l.image l.headers l.i

abbrev pub decreases-loop-i : goal.decreases-loop-i
decreases-loop-i l = l.count - l.i
