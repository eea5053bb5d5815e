use mathlib.Core.Path.{ap, ◌∙◌}
use Rattle.arriving.specs.Calls.{told_end}
use Rattle.arriving_registers.specs.Measuring.{measuring_of}
use Rattle.arriving_registers.specs.declared.Finished.{Finished}
use Rattle.arriving_registers.proofs.Steps.{finished_is}
use Rattle.eif_flat.specs.declared.EifReading.{EifReading}
use Rattle.eif_c.specs.Measuring.{flat_measured}
use Rattle.eif_c.specs.declared.measuring.EifMeasuringFinished.{EifMeasuringFinished}
use Rattle.eif_c.proofs.measuring.eif_measuring_finish.Goals as goal

-- `eif_measuring_finish` meets its contract: the answer at the end, with its reading made flat.
abbrev with : Finished → EifReading → EifMeasuringFinished
with f r = record { state = f.state; reading = r; registers = f.registers }

pub returns : goal.returns
unfolding told_end
returns c =
    let m = c.args.state in
    let f : Finished = record {
      state = measuring_of (told_end m.arriving) m.streams;
      reading = c.answer-reading.result;
      registers = c.digests-registers.result;
    } in
    ap (with f) c.flat_reading.ensures ∙ ap flat_measured (finished_is m c.answer-reading.ensures c.digests-registers.ensures)
