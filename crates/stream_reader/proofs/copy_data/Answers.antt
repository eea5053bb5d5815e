use mathlib.Core.Path.{ap, ◌∙◌}
use native.Mathlib.Omega.{arith}
use Rattle.octets.specs.Over.{over}
use Rattle.stream_reader.proofs.Listed.{part_to_rest}
use Rattle.stream_reader.proofs.copy_data.Goals as goal

-- `stream_reader::copy_data` meets its contract: what is passed over is at most the data, and what is copied at most the room.
-- Assumes nothing.
pub returns : goal.returns
returns c = let a = c.args in
    let p = c.lesser-passed in
    record {
      skip_value = omega arith;
      done_value = omega arith;
      out_after = c.copy.ensures ∙ ap (over a.out.now a.done) (part_to_rest a.bytes.now a.skip p.result p.ensures);
    }
