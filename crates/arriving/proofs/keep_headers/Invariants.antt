use Prim.Native.Nat.{◌-◌, ◌*◌, ◌≤◌}
use mathlib.Core.Path.{◌≡◌}
use lib.ListN.{length}
use Rattle.eif.specs.Numbers.{place_count}
use Rattle.eif.specs.Layout.{section_header_size}
use Rattle.arriving.specs.Calls.{headers_over}
use Rattle.arriving.proofs.keep_headers.Given as goal

abbrev pub invariant-loop-i : goal.invariant-loop-i
invariant-loop-i l = (l.i ≤ place_count) × (length l.headers ≡ section_header_size * place_count)
    × (headers_over l.header l.taken l.piece (place_count - l.i) l.i l.headers ≡ headers_over l.header l.taken l.piece place_count 0 l.initial.headers)

abbrev pub decreases-loop-i : goal.decreases-loop-i
decreases-loop-i l = place_count - l.i
