-- The calls that compute the fingerprint of an arriving image: the state after each call, and its answer (FORMAT.md, The boot roll and Check
-- while it arrives). Every definition is total: it also covers states that no run from the fresh state reaches.
use Rattle.std.specs.Prelude.{ℕ, min, List, [], ltb, eqb, length, take}
use Rattle.octets.specs.Logic.{choose}
use Rattle.eif.specs.Numbers.{place_count}
use Rattle.eif.specs.Answers.{beside}
use Rattle.eif.specs.Layout.{header_size, header_flags_of, size_at}
use Rattle.eif.specs.Rules.{boot_type}
use Rattle.eif.specs.Roll.{head_of, flags_record, end_type}
use Rattle.eif.specs.declared.Verdict.{Verdict}
use Rattle.sha384.specs.State.{initial_state, digest_from, more_hashed}
use Rattle.sha384.specs.declared.State.{State}
use Rattle.eif_fingerprint.specs.Fingerprint.{no_fingerprint}
use Rattle.arriving.specs.State.{state_of}
use Rattle.arriving.specs.Calls.{answer_of, told_end}
use Rattle.arriving.specs.Calls as arriving
use Rattle.arriving.specs.declared.Arriving.{Arriving}
use Rattle.arriving_sections.specs.Span.{span_of, kept_kind}
use Rattle.arriving_sections.specs.Parts.{part_by_part}
use Rattle.arriving_sections.specs.declared.Span.{Span}
use Rattle.arriving_fingerprint.specs.declared.Fingerprinting.{Fingerprinting}
use Rattle.arriving_fingerprint.specs.declared.Fed.{Fed}
use Rattle.arriving_fingerprint.specs.declared.Finished.{Finished}

-- ---- bytes that belong together

-- the hash state after the head of the record of section i, by the file's header and the sections' own headers
unfoldable pub record_begun : State → List ℕ → List ℕ → ℕ → State
record_begun roll header headers i =
    choose (ltb i place_count) (choose (boot_type (kept_kind headers i)) (more_hashed roll (head_of (size_at header i) (kept_kind headers i))) roll) roll

-- the hash state after data of the section at `place`
unfoldable pub data_hashed : State → List ℕ → ℕ → List ℕ → State
data_hashed roll headers place bytes = choose (boot_type (kept_kind headers place)) (more_hashed roll bytes) roll

-- the hash state after bytes that belong together, by the numbers of bytes taken before and after them and the number of sections that have
-- begun after them: the flags record once the file's header is whole, the data of a section, the head of a record once a section's own
-- header is whole
unfoldable pub roll_more : State → List ℕ → List ℕ → ℕ → ℕ → Span → ℕ → List ℕ → State
roll_more roll header headers from to span begun bytes =
    choose (ltb from header_size)
    (choose (ltb to header_size) roll (more_hashed roll (flags_record (header_flags_of header))))
    (choose (ltb span.place place_count) (data_hashed roll headers span.place bytes)
    (choose (ltb span.begun begun) (record_begun roll header headers span.begun) roll))

abbrev pub fingerprinting_of : Arriving → State → Fingerprinting
fingerprinting_of a roll = record { arriving = a; roll = roll }

-- the state after bytes that belong together
unfoldable pub roll_part_taken : Fingerprinting → Span → List ℕ → Fingerprinting
roll_part_taken m span bytes =
    let next = (arriving.fed m.arriving bytes (length bytes)).state in
    fingerprinting_of next
    (roll_more m.roll next.header next.headers m.arriving.taken next.taken span (span_of next 0).begun bytes)

-- the state after a piece, part by part
abbrev pub roll_taken_all : Fingerprinting → List ℕ → Fingerprinting
roll_taken_all m piece = part_by_part (λ (x : Fingerprinting). x.arriving) roll_part_taken m piece

-- ---- the calls

unfoldable pub fresh_fingerprinting : Fingerprinting
fresh_fingerprinting = fingerprinting_of (state_of []) initial_state

abbrev pub fed_fingerprinting_with : Fingerprinting → ℕ → Fed
fed_fingerprinting_with state count = record { state = state; count = count }

-- the answer to a piece: before the end, min(allowance, length of the piece) bytes are taken; after it, none
unfoldable pub fed_fingerprinting : Fingerprinting → List ℕ → ℕ → Fed
fed_fingerprinting m piece allowance =
    choose (eqb m.arriving.ended 0) (fed_fingerprinting_with (roll_taken_all m (take allowance piece)) (min allowance (length piece))) (fed_fingerprinting_with m 0)

-- the digest of the roll with its end record; zero for a refused image
unfoldable pub fingerprint_beside : Verdict → State → List ℕ
fingerprint_beside verdict roll = beside verdict (digest_from (more_hashed roll (head_of 0 end_type))) no_fingerprint

unfoldable pub finished_fingerprinting : Fingerprinting → Finished
finished_fingerprinting m =
    let reading = answer_of m.arriving in
    record {
      state = fingerprinting_of (told_end m.arriving) m.roll;
      reading = reading;
      digest = fingerprint_beside reading.verdict m.roll;
    }
