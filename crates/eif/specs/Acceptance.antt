-- What an accepted image is, with no order of rules and no walk: each rule of FORMAT.md, Reading an image, once, in plain arithmetic.
-- That an image is accepted exactly when it meets these rules: `eif_laws/Acceptance.accepted_exactly_when`. Assumes nothing.
use Rattle.std.specs.Prelude.{ℕ, ◌<◌, ◌≤◌, ◌≡◌, List, ◌⊎◌, length}
use Rattle.eif.specs.Numbers.{size_limit, place_count, fewest_sections, oldest_version, newest_version, signature_version, metadata_version, kernel, command_line, ramdisk, signature, metadata}
use Rattle.eif.specs.Layout.{magic_number, header_size, view_of, magic, checksum, version_of, count_of, offset_at, size_at, start_at, end_at, kind_at, own_size_at}
use Rattle.eif.specs.Reading.{checksum_of}

-- a type that a version may hold
abbrev pub AllowedType : ℕ → ℕ → Type 0
AllowedType version kind =
    ((kernel ≤ kind) × (kind ≤ ramdisk))
    ⊎ (((kind ≡ signature) × (signature_version ≤ version))
    ⊎ ((kind ≡ metadata) × (metadata_version ≤ version)))

-- one of the first n sections has a type
abbrev pub Present : List ℕ → ℕ → ℕ → Type 0
Present s kind n = (i : ℕ) × (i < n) × (kind_at s i ≡ kind)

pub record MeetsRules (s : List ℕ) : Type 0 where
  -- 1, 2
  pub not_too_long : length s ≤ size_limit
  pub not_too_short : header_size ≤ length s
  -- 3, 4, 5
  pub right_magic : magic (view_of s) ≡ magic_number
  pub known_version : (oldest_version ≤ version_of s) × (version_of s ≤ newest_version)
  pub known_count : (fewest_sections ≤ count_of s) × (count_of s ≤ place_count)
  -- 6 and 20: the first section starts at the end of the header, each other one at the end of the one before it, and the file ends
  -- where the last one does
  pub starts : (i : ℕ) → i < count_of s → offset_at s i ≡ start_at s i
  pub file_ends : length s ≡ start_at s (count_of s)
  -- 7, 8, 9
  pub in_file : (i : ℕ) → i < count_of s → end_at s i ≤ length s
  pub sizes_agree : (i : ℕ) → i < count_of s → own_size_at s i ≡ size_at s i
  pub types_allowed : (i : ℕ) → i < count_of s → AllowedType (version_of s) (kind_at s i)
  -- 10: a kernel earlier in the file than each ramdisk
  pub kernel_before : (i : ℕ) → i < count_of s → kind_at s i ≡ ramdisk → Present s kernel i
  -- 11: two sections of one type are ramdisks
  pub single : (i j : ℕ) → j < i → i < count_of s → kind_at s j ≡ kind_at s i → kind_at s i ≡ ramdisk
  -- 12
  pub has_kernel : Present s kernel (count_of s)
  pub has_command_line : Present s command_line (count_of s)
  pub has_metadata : version_of s ≡ metadata_version → Present s metadata (count_of s)
  -- 13
  pub right_checksum : checksum (view_of s) ≡ checksum_of s

-- ---- byte p of a file is in a section: in its own header or in its data

pub record InSection (s : List ℕ) (p : ℕ) : Type 0 where
  pub place : ℕ
  pub used : place < count_of s
  pub not_before : offset_at s place ≤ p
  pub not_after : p < end_at s place
