-- The flat answer with the registers of an image that arrived in pieces.
use Rattle.eif_flat.specs.Flat.{flat_reading}
use Rattle.arriving_registers.specs.declared.Finished.{Finished}
use Rattle.eif_c.specs.declared.measuring.EifMeasuringFinished.{EifMeasuringFinished}

abbrev pub flat_measured : Finished → EifMeasuringFinished
flat_measured f = record { state = f.state; reading = flat_reading f.reading; registers = f.registers }
