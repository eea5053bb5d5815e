use Prim.Native.Nat.{◌-◌, ◌*◌, ◌≤◌}
use mathlib.Core.Path.{◌≡◌}
use lib.ListN.{length, drop}
use Rattle.octets.specs.Bytes.{be_bytes_each}
use Rattle.octets.specs.Over.{over}
use Rattle.sha384_block.specs.Fips.{word_size, digest_size, digest_words}
use Rattle.sha384.proofs.digest.Given as goal

abbrev pub invariant-loop-i : goal.invariant-loop-i
invariant-loop-i l = (l.i ≤ digest_words) × (length l.out ≡ digest_size) × (over l.out (word_size * l.i) (be_bytes_each word_size (drop l.i l.words)) ≡ over l.initial.out 0 (be_bytes_each word_size l.words))

abbrev pub decreases-loop-i : goal.decreases-loop-i
decreases-loop-i l = digest_words - l.i
