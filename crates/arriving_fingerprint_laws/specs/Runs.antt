-- Runs of calls that compute the fingerprint of an arriving image; each call gets the state that the call before it left (FORMAT.md, The boot
-- roll and Check while it arrives). Calls are those of arriving_laws.
use Rattle.std.specs.Prelude.{ℕ, Bool, List, [], ◌∷◌, ◌++◌, take}
use Rattle.octets.specs.Logic.{choose}
use Rattle.arriving.specs.Calls.{told_end}
use Rattle.arriving_laws.specs.Runs.{Call, feed, finish}
use Rattle.arriving_fingerprint.specs.Fingerprinting.{fingerprinting_of, fed_fingerprinting, finished_fingerprinting}
use Rattle.arriving_fingerprint.specs.declared.Fingerprinting.{Fingerprinting}
use Rattle.arriving_fingerprint_laws.specs.Roll.{fingerprinting_state}

-- the state after a call, and after a run of them
abbrev pub fingerprinting_after_call : Fingerprinting → Call → Fingerprinting
fingerprinting_after_call m (feed piece allowance) = (fed_fingerprinting m piece allowance).state
fingerprinting_after_call m finish = (finished_fingerprinting m).state

unfoldable pub fingerprinting_after : Fingerprinting → List Call → Fingerprinting
fingerprinting_after m [] = m
fingerprinting_after m (c ∷ cs) = fingerprinting_after (fingerprinting_after_call m c) cs

-- the bytes that a call takes, as many of its piece as it reports; and those that a run takes
abbrev pub fingerprinting_taken_by : Fingerprinting → Call → List ℕ
fingerprinting_taken_by m (feed piece allowance) = take (fed_fingerprinting m piece allowance).count piece
fingerprinting_taken_by m finish = []

unfoldable pub fingerprinting_taken : Fingerprinting → List Call → List ℕ
fingerprinting_taken m [] = []
fingerprinting_taken m (c ∷ cs) = fingerprinting_taken_by m c ++ fingerprinting_taken (fingerprinting_after_call m c) cs

-- the state after the end
abbrev pub ended_fingerprinting : Fingerprinting → Fingerprinting
ended_fingerprinting m = fingerprinting_of (told_end m.arriving) m.roll

-- the defined state of bytes, before or after the end
abbrev pub fingerprinting_at : Bool → List ℕ → Fingerprinting
fingerprinting_at ended s = choose ended (ended_fingerprinting (fingerprinting_state s)) (fingerprinting_state s)
