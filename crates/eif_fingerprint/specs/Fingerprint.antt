-- The fingerprint of an image: SHA-384 of its boot roll (FORMAT.md, The boot roll); and its computation record by record.
use Rattle.std.specs.Prelude.{ℕ, List, [], ◌∷◌, length, replicate}
use Rattle.octets.specs.Logic.{choose}
use Rattle.eif.specs.Answers.{beside}
use Rattle.eif.specs.Reading.{verdict_of, data_of}
use Rattle.eif.specs.Rules.{boot_type}
use Rattle.eif.specs.Roll.{head_of, flags_record, end_type, roll_bytes}
use Rattle.eif.specs.declared.Reading.{Reading}
use Rattle.eif.specs.declared.Section.{Section}
use Rattle.eif.specs.declared.Verdict.{Verdict}
use Rattle.sha384_block.specs.Fips.{digest_size, sha384}
use Rattle.sha384.specs.State.{initial_state, more_hashed, digest_from}
use Rattle.sha384.specs.declared.State.{State}
use Rattle.staged.specs.Staged.{staged_verdict, afresh}
use Rattle.staged.specs.View.{held_by}
use Rattle.staged.specs.declared.Staged.{Staged}
use Rattle.eif_fingerprint.specs.declared.Fingerprinted.{Fingerprinted}

-- the fingerprint of an image
unfoldable pub fingerprint_of : List ℕ → List ℕ
fingerprint_of s = sha384 (roll_bytes s)

-- the fingerprint in the answer to a refused image
unfoldable pub no_fingerprint : List ℕ
no_fingerprint = replicate digest_size 0

-- a verdict, and the fingerprint of an image, or zero beside a refusal
abbrev pub fingerprint_for : Verdict → List ℕ → Fingerprinted
fingerprint_for verdict s = record { verdict = verdict; digest = beside verdict (fingerprint_of s) no_fingerprint }

-- the answer for an image
unfoldable pub fingerprint_answer : List ℕ → Fingerprinted
fingerprint_answer s = fingerprint_for (verdict_of s) s

-- the answer for a staged view: that of the image written afresh with the replacement
unfoldable pub staged_fingerprint : List ℕ → List ℕ → ℕ → Fingerprinted
staged_fingerprint s r k = fingerprint_for (staged_verdict s (length r) k k) (afresh s r k)

-- ---- record by record, for any sections and any data of theirs; the head of a record has the length of its data

-- the hash state after the record of a section
unfoldable pub record_hashed : (Section → List ℕ) → State → Section → State
record_hashed held roll x = choose (boot_type x.kind) (more_hashed (more_hashed roll (head_of (length (held x)) x.kind)) (held x)) roll

-- the hash state after the records of sections
unfoldable pub records_hashed : (Section → List ℕ) → State → List Section → State
records_hashed held roll [] = roll
records_hashed held roll (x ∷ xs) = records_hashed held (record_hashed held roll x) xs

-- the digest of flags record, records and end record
unfoldable pub roll_digest : ℕ → (Section → List ℕ) → List Section → List ℕ
roll_digest flags held l = digest_from (more_hashed (records_hashed held (more_hashed initial_state (flags_record flags)) l) (head_of 0 end_type))

-- the fingerprint of an image s by its reading; zero for a refused reading
unfoldable pub read_fingerprint : List ℕ → Reading → List ℕ
read_fingerprint s r = beside r.verdict (roll_digest r.flags (data_of s) r.sections) no_fingerprint

-- the same by a staged view over base s and replacement r; zero for a refused view
unfoldable pub view_fingerprint : List ℕ → List ℕ → Staged → List ℕ
view_fingerprint s r x = beside x.verdict (roll_digest x.flags (held_by s r) x.sections) no_fingerprint
