-- The calls that compute the registers of an arriving image: the state after each call, and its answer (FORMAT.md, Registers and Check while it
-- arrives). Every definition is total: it also covers states that no run from the fresh state reaches.
use Rattle.std.specs.Prelude.{ℕ, zero, suc, ◌+◌, min, not, List, [], ◌∷◌, map, ltb, eqb, length, take}
use Rattle.octets.specs.Logic.{choose}
use Rattle.eif.specs.Numbers.{place_count}
use Rattle.eif.specs.Answers.{beside}
use Rattle.eif.specs.Reading.{ramdisk_in}
use Rattle.eif.specs.Rules.{boot_type}
use Rattle.eif.specs.Stream.{later_ramdisk}
use Rattle.eif.specs.declared.Verdict.{Verdict}
use Rattle.sha384.specs.State.{initial_state, more_hashed, digest_from}
use Rattle.sha384.specs.declared.State.{State}
use Rattle.eif_registers.specs.Registers.{register_from, no_registers, as_digest}
use Rattle.eif_registers.specs.declared.Digest.{Digest}
use Rattle.arriving.specs.State.{state_of}
use Rattle.arriving.specs.Calls.{answer_of, told_end}
use Rattle.arriving.specs.Calls as arriving
use Rattle.arriving.specs.declared.Arriving.{Arriving}
use Rattle.arriving_sections.specs.Span.{kept_kind}
use Rattle.arriving_sections.specs.Parts.{part_by_part}
use Rattle.arriving_sections.specs.declared.Span.{Span}
use Rattle.arriving_registers.specs.declared.Streams.{Streams}
use Rattle.arriving_registers.specs.declared.Measuring.{Measuring}
use Rattle.arriving_registers.specs.declared.Fed.{Fed}
use Rattle.arriving_registers.specs.declared.Finished.{Finished}

-- ---- the ramdisks before a section

-- the number of ramdisks among the first i places
unfoldable pub ramdisks_at : (ℕ → ℕ) → ℕ → ℕ
ramdisks_at kinds zero = 0
ramdisks_at kinds (suc i) = ramdisks_at kinds i + ramdisk_in (kinds i)

-- ---- bytes that belong together

abbrev pub streams_of : State → State → State → Streams
streams_of whole boot app = record { whole = whole; boot = boot; app = app }

-- the hash states after data of a section, given its type and the number of ramdisks before it: a later ramdisk is in Whole and App; the kernel,
-- the command line and the first ramdisk are in Whole and Boot, which are equal before the second ramdisk
unfoldable pub streams_after : Streams → ℕ → ℕ → List ℕ → Streams
streams_after d kind before bytes =
    let whole = more_hashed d.whole bytes in
    choose (not (boot_type kind)) d
    (choose (later_ramdisk kind before) (streams_of whole d.boot (more_hashed d.app bytes))
    (choose (ltb before 2) (streams_of whole whole d.app)
    (streams_of whole (more_hashed d.boot bytes) d.app)))

abbrev pub measuring_of : Arriving → Streams → Measuring
measuring_of a d = record { arriving = a; streams = d }

-- the state after bytes of the data of the section at `place`, or of no section
unfoldable pub part_taken : Measuring → ℕ → List ℕ → Measuring
part_taken m place bytes =
    let headers = m.arriving.headers in
    measuring_of (arriving.fed m.arriving bytes (length bytes)).state
    (choose (ltb place place_count) (streams_after m.streams (kept_kind headers place) (ramdisks_at (kept_kind headers) place) bytes) m.streams)

-- the state after a piece, part by part
abbrev pub taken_all : Measuring → List ℕ → Measuring
taken_all m piece = part_by_part (λ (x : Measuring). x.arriving) (λ (x : Measuring) (span : Span) (bytes : List ℕ). part_taken x span.place bytes) m piece

-- ---- the calls

unfoldable pub fresh_measuring : Measuring
fresh_measuring = measuring_of (state_of []) (streams_of initial_state initial_state initial_state)

abbrev pub fed_measuring_with : Measuring → ℕ → Fed
fed_measuring_with state count = record { state = state; count = count }

-- the answer to a piece: before the end, min(allowance, length of the piece) bytes are taken; after it, none
unfoldable pub fed_measuring : Measuring → List ℕ → ℕ → Fed
fed_measuring m piece allowance =
    choose (eqb m.arriving.ended 0) (fed_measuring_with (taken_all m (take allowance piece)) (min allowance (length piece))) (fed_measuring_with m 0)

-- the registers of the three hash states; all zero for a refused image
unfoldable pub three_digests : Verdict → Streams → List Digest
three_digests verdict d =
    map as_digest
    (beside verdict (register_from (digest_from d.whole) ∷ register_from (digest_from d.boot) ∷ register_from (digest_from d.app) ∷ []) no_registers)

unfoldable pub finished_measuring : Measuring → Finished
finished_measuring m =
    let reading = answer_of m.arriving in
    record {
      state = measuring_of (told_end m.arriving) m.streams;
      reading = reading;
      registers = three_digests reading.verdict m.streams;
    }
