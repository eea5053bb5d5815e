-- The flat answers of the digest and of the registers.
-- Assumes nothing.
use Rattle.std.specs.Prelude.{replicate}
use Rattle.eif.specs.Answers.{number_of, index_of, position_of}
use Rattle.sha384.specs.declared.Updated.{Updated}
use Rattle.eif_registers.specs.declared.Measurement.{Measurement}
use Rattle.eif_c.specs.declared.measure.EifSha384Fed.{EifSha384Fed}
use Rattle.eif_c.specs.declared.measure.EifRegisters.{EifRegisters}

abbrev pub flat_fed : Updated → EifSha384Fed
flat_fed u =
    record { number = number_of u.verdict; reserved = replicate 7 0; index = index_of u.verdict; position = position_of u.verdict; state = u.state }

abbrev pub flat_registers : Measurement → EifRegisters
flat_registers m =
    record { number = number_of m.verdict; reserved = replicate 7 0; index = index_of m.verdict; position = position_of m.verdict; registers = m.registers }
