-- The numbers of FORMAT.md, each named once: limits, versions, section types, answers.
-- Assumes nothing.
use Rattle.std.specs.Prelude.{ℕ}

-- ---- limits

-- the longest image, in bytes
abbrev pub size_limit : ℕ
size_limit = 1073741824

-- the places of the section table, and with them the most sections
abbrev pub place_count : ℕ
place_count = 32

abbrev pub fewest_sections : ℕ
fewest_sections = 2

-- ---- versions

abbrev pub oldest_version : ℕ
oldest_version = 2

abbrev pub newest_version : ℕ
newest_version = 4

-- the version that allows a signature
abbrev pub signature_version : ℕ
signature_version = 3

-- the version that allows metadata, and asks for it
abbrev pub metadata_version : ℕ
metadata_version = 4

-- ---- section types

abbrev pub kernel : ℕ
kernel = 1

abbrev pub command_line : ℕ
command_line = 2

abbrev pub ramdisk : ℕ
ramdisk = 3

abbrev pub signature : ℕ
signature = 4

abbrev pub metadata : ℕ
metadata = 5

-- ---- answers; 0 is no refusal

abbrev pub image_too_long : ℕ
image_too_long = 1

abbrev pub image_too_short : ℕ
image_too_short = 2

abbrev pub wrong_magic : ℕ
wrong_magic = 3

abbrev pub wrong_version : ℕ
wrong_version = 4

abbrev pub wrong_count : ℕ
wrong_count = 5

abbrev pub starts_early : ℕ
starts_early = 6

abbrev pub ends_late : ℕ
ends_late = 7

abbrev pub sizes_differ : ℕ
sizes_differ = 8

abbrev pub type_not_allowed : ℕ
type_not_allowed = 9

abbrev pub ramdisk_before_kernel : ℕ
ramdisk_before_kernel = 10

abbrev pub type_repeated : ℕ
type_repeated = 11

abbrev pub section_missing : ℕ
section_missing = 12

abbrev pub checksum_differs : ℕ
checksum_differs = 13

abbrev pub output_too_short : ℕ
output_too_short = 14

abbrev pub data_length_differs : ℕ
data_length_differs = 15

abbrev pub record_cut : ℕ
record_cut = 16

abbrev pub record_type_wrong : ℕ
record_type_wrong = 17

abbrev pub bytes_after_end : ℕ
bytes_after_end = 18

abbrev pub past_stream_end : ℕ
past_stream_end = 19

abbrev pub not_packed : ℕ
not_packed = 20

abbrev pub metadata_not_json : ℕ
metadata_not_json = 21

abbrev pub piece_record_wrong : ℕ
piece_record_wrong = 22

abbrev pub piece_out_of_turn : ℕ
piece_out_of_turn = 23

abbrev pub buffer_too_short : ℕ
buffer_too_short = 24

abbrev pub piece_differs : ℕ
piece_differs = 25

abbrev pub piece_missing : ℕ
piece_missing = 26

abbrev pub no_such_section : ℕ
no_such_section = 27

abbrev pub not_sign1 : ℕ
not_sign1 = 28

abbrev pub message_too_long : ℕ
message_too_long = 29
