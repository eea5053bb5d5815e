-- Runs of calls that compute the registers of an arriving image; each call gets the state that the call before it left (FORMAT.md, Registers and
-- Check while it arrives). Calls are those of arriving_laws.
use Rattle.std.specs.Prelude.{ℕ, Bool, List, [], ◌∷◌, ◌++◌, take}
use Rattle.octets.specs.Logic.{choose}
use Rattle.arriving.specs.Calls.{told_end}
use Rattle.arriving_laws.specs.Runs.{Call, feed, finish}
use Rattle.arriving_registers.specs.Measuring.{measuring_of, fed_measuring, finished_measuring}
use Rattle.arriving_registers.specs.declared.Measuring.{Measuring}
use Rattle.arriving_registers_laws.specs.Streams.{measured_of}

-- the state after a call, and after a run of them
abbrev pub measuring_after_call : Measuring → Call → Measuring
measuring_after_call m (feed piece allowance) = (fed_measuring m piece allowance).state
measuring_after_call m finish = (finished_measuring m).state

unfoldable pub measuring_after : Measuring → List Call → Measuring
measuring_after m [] = m
measuring_after m (c ∷ cs) = measuring_after (measuring_after_call m c) cs

-- the bytes that a call takes, as many of its piece as it reports; and those that a run takes
abbrev pub measuring_taken_by : Measuring → Call → List ℕ
measuring_taken_by m (feed piece allowance) = take (fed_measuring m piece allowance).count piece
measuring_taken_by m finish = []

unfoldable pub measuring_taken : Measuring → List Call → List ℕ
measuring_taken m [] = []
measuring_taken m (c ∷ cs) = measuring_taken_by m c ++ measuring_taken (measuring_after_call m c) cs

-- the state after the end
abbrev pub told_of : Measuring → Measuring
told_of m = measuring_of (told_end m.arriving) m.streams

-- the defined state of bytes, before or after the end
abbrev pub measuring_at : Bool → List ℕ → Measuring
measuring_at ended s = choose ended (told_of (measured_of s)) (measured_of s)
