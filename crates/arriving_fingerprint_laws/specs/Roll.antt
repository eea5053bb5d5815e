-- What has arrived of the boot roll of an image, and the defined state of given bytes (FORMAT.md, The boot roll and Check while it arrives).
use Rattle.std.specs.Prelude.{ℕ, ◌+◌, Bool, List, [], ◌++◌, ltb, leb, length}
use Rattle.octets.specs.Logic.{both, choose}
use Rattle.eif.specs.Numbers.{place_count}
use Rattle.eif.specs.Layout.{header_size, section_header_size, header_flags_of, offset_at, size_at, kind_at}
use Rattle.eif.specs.Rules.{boot_type}
use Rattle.eif.specs.Roll.{head_of, flags_record}
use Rattle.eif.specs.Table.{join_from}
use Rattle.sha384.specs.State.{state_after}
use Rattle.arriving.specs.State.{state_of}
use Rattle.arriving_sections_laws.specs.Given.{places_in_order, data_so_far}
use Rattle.arriving_fingerprint.specs.Fingerprinting.{fingerprinting_of}
use Rattle.arriving_fingerprint.specs.declared.Fingerprinting.{Fingerprinting}

-- section i is in order, and its own header has arrived
abbrev pub own_header_arrived : List ℕ → ℕ → Bool
own_header_arrived s i = both (ltb i (places_in_order s)) (leb (offset_at s i + section_header_size) (length s))

-- what has arrived of the record of section i: its head once its own header has arrived, and its data so far
unfoldable pub record_so_far : List ℕ → ℕ → List ℕ
record_so_far s i = choose (own_header_arrived s i) (choose (boot_type (kind_at s i)) (head_of (size_at s i) (kind_at s i) ++ data_so_far s i) []) []

-- the flags record once the file's header has arrived
unfoldable pub flags_so_far : List ℕ → List ℕ
flags_so_far s = choose (leb header_size (length s)) (flags_record (header_flags_of s)) []

-- what has arrived of the roll, without its end record
unfoldable pub roll_so_far : List ℕ → List ℕ
roll_so_far s = flags_so_far s ++ join_from (record_so_far s) place_count 0

-- the defined state of the bytes taken
abbrev pub fingerprinting_state : List ℕ → Fingerprinting
fingerprinting_state s = fingerprinting_of (state_of s) (state_after (roll_so_far s))
