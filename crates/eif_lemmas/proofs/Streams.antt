-- A stream by the records of a roll: what it keeps of sections it keeps of their records, so equal records give equal streams.
-- Assumes nothing.
use Prim.Native.Nat.{ℕ, ◌+◌}
use mathlib.Core.Path.{◌≡◌, refl, sym, ap, ◌∙◌}
use mathlib.Core.Bool.{Bool, true, false}
use mathlib.Core.List.{List, [], ◌∷◌, map}
use native.Mathlib.Nat.{add-zero}
use Rattle.octets.specs.Lists.{joined_by}
use Rattle.octets.specs.Logic.{choose}
use Rattle.octets.proofs.Lists.{joined_map}
use Rattle.eif.specs.Rules.{boot_type}
use Rattle.eif.specs.Reading.{ramdisk_in, section_kind}
use Rattle.eif.specs.Roll.{Record, measured_in, record_for, records_by}
use Rattle.eif.specs.Stream.{keeps, kept, stream_sections}
use Rattle.eif.specs.declared.Section.{Section}
use Rattle.eif.specs.declared.Stream.{Stream}
use Rattle.eif_lemmas.proofs.Types.{not_ramdisk, not_kept}

map_by : {A B : Type 0} (f : A → B) (b : Bool) (x : A) (l : List A) (r : List B) → map f l ≡ r → map f (choose b (x ∷ l) l) ≡ choose b (f x ∷ r) r
map_by f true x l r e = ap (λ k. f x ∷ k) e
map_by f false x l r e = e

-- what is kept of what a function gives of each is that of what is kept
pub kept_map : {A B : Type 0} (stream : Stream) (kind_of : B → ℕ) (f : A → B) (before : ℕ) (l : List A)
    → map f (kept stream (λ x. kind_of (f x)) before l) ≡ kept stream kind_of before (map f l)
unfolding kept
kept_map stream kind_of f before [] = refl
kept_map stream kind_of f before (x ∷ xs) =
    let next : ℕ = before + ramdisk_in (kind_of (f x)) in
    map_by f (keeps stream (kind_of (f x)) before) x (kept stream (λ y. kind_of (f y)) next xs) (kept stream kind_of next (map f xs)) (kept_map stream kind_of f next xs)

-- a stream keeps of sections what it keeps of those that a roll holds
kept_measured : (stream : Stream) (before : ℕ) (l : List Section) → kept stream section_kind before (measured_in l) ≡ kept stream section_kind before l
unfolding kept measured_in
kept_measured stream before [] = refl
kept_measured stream before (x ∷ xs) = by_type (boot_type x.kind) refl (λ n. kept_measured stream n xs)
  where
    rest : List Section
    rest = kept stream section_kind (before + ramdisk_in x.kind) xs

    by_type : (b : Bool) → boot_type x.kind ≡ b → ((n : ℕ) → kept stream section_kind n (measured_in xs) ≡ kept stream section_kind n xs)
        → kept stream section_kind before (choose b (x ∷ measured_in xs) (measured_in xs)) ≡ choose (keeps stream x.kind before) (x ∷ rest) rest
    by_type true e later = ap (λ (l : List Section). choose (keeps stream x.kind before) (x ∷ l) l) (later (before + ramdisk_in x.kind))
    by_type false e later =
        let z : before ≡ before + ramdisk_in x.kind = sym (ap (λ (b : Bool). before + choose b 1 0) (not_ramdisk x.kind e) ∙ add-zero before) in
        later before
        ∙ ap (λ (n : ℕ). kept stream section_kind n xs) z
        ∙ sym (ap (λ (b : Bool). choose b (x ∷ rest) rest) (not_kept stream x.kind before e))

-- ---- the data of a stream, by the records

abbrev pub kind_of_record : Record → ℕ
kind_of_record r = r.kind

abbrev pub record_data : Record → List ℕ
record_data r = r.bytes

-- what a section's data is, is given by a function
pub stream_of_records : (held : Section → List ℕ) (stream : Stream) (l : List Section)
    → joined_by held (stream_sections stream l) ≡ joined_by record_data (kept stream kind_of_record 0 (records_by held l))
stream_of_records held stream l =
    sym (joined_map record_data (record_for held) (stream_sections stream l))
    ∙ ap (joined_by record_data) (ap (map (record_for held)) (sym (kept_measured stream 0 l)) ∙ kept_map stream kind_of_record (record_for held) 0 (measured_in l))

pub same_stream : (held other : Section → List ℕ) (k l : List Section) → records_by held k ≡ records_by other l → (stream : Stream)
    → joined_by held (stream_sections stream k) ≡ joined_by other (stream_sections stream l)
same_stream held other k l e stream =
    stream_of_records held stream k ∙ ap (λ (rs : List Record). joined_by record_data (kept stream kind_of_record 0 rs)) e ∙ sym (stream_of_records other stream l)
