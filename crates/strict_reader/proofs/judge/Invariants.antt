use Prim.Native.Nat.{◌-◌}
use mathlib.Core.Path.{◌≡◌}
use Rattle.eif.specs.Reading.{section_in}
use Rattle.strict_reader.specs.Strict.{metadata_verdict}
use Rattle.strict_reader.proofs.judge.Given as goal

abbrev pub invariant-loop-i : goal.invariant-loop-i
invariant-loop-i l = metadata_verdict l.image (section_in l.sections) (l.count - l.i) l.i ≡ metadata_verdict l.image (section_in l.sections) l.count 0
