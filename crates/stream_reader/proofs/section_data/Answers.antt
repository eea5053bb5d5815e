use Prim.Native.Nat.{ℕ}
use mathlib.Core.Path.{ap}
use native.Mathlib.Omega.{arith}
use Rattle.stream_reader.proofs.Listed.{clipped}
use Rattle.stream_reader.proofs.section_data.Goals as goal

-- `stream_reader::section_data` meets its contract: start and end are clipped to the image. Assumes nothing.
pub returns : goal.returns
returns c = let a = c.args in record { result_value = clipped a.image.now a.section c.lesser-start.result c.lesser.result c.lesser-start.ensures c.lesser.ensures; ref_ptr_value = let h = c.lesser-start.ensures in ap (λ (k : ℕ). (a.image.ref_ptr.0, k)) (omega arith) }
