use Prim.Native.Nat.{◌+◌, ◌-◌, ◌*◌, ◌≤◌}
use mathlib.Core.Path.{◌≡◌}
use lib.ListN.{length}
use Rattle.octets.specs.Over.{over}
use Rattle.eif_lines.specs.Lines.{longest_line}
use Rattle.eif_lines.proofs.Parts.{rows_from}
use Rattle.eif_lines.proofs.put_rows.Given as goal

abbrev pub invariant-loop-i : goal.invariant-loop-i
invariant-loop-i l = record {
  within : l.i ≤ l.count;
  room : l.at ≤ l.from + longest_line * l.i;
  length_kept : length l.out ≡ length l.initial.out;
  ending : l.at + length (rows_from l.sections l.count l.i) ≡ l.from + length (rows_from l.sections l.count 0);
  whole : over l.out l.at (rows_from l.sections l.count l.i) ≡ over l.initial.out l.from (rows_from l.sections l.count 0);
}

abbrev pub decreases-loop-i : goal.decreases-loop-i
decreases-loop-i l = l.count - l.i
