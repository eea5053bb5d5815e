use Prim.Native.Nat.{◌-◌}
use mathlib.Core.Path.{◌≡◌}
use Rattle.crc32.specs.Crc.{crc_from}
use Rattle.writing.specs.Writing.{own_headers}
use Rattle.writing.proofs.remainder_after.Given as goal

abbrev pub invariant-loop-i : goal.invariant-loop-i
invariant-loop-i l = crc_from l.remainder (own_headers l.places (l.end - l.i) l.i) ≡ crc_from l.checksum (own_headers l.places (l.end - l.from) l.from)

abbrev pub decreases-loop-i : goal.decreases-loop-i
decreases-loop-i l = l.end - l.i
