-- What a reader kept of a file has the file's reading, where it begins as the file does and has each section's own header that lies in it.
-- Assumes nothing.
use Prim.Native.Nat.{ℕ, zero, suc, ◌+◌, ◌*◌, ◌≤◌}
use mathlib.Core.Path.{◌≡◌, refl, sym, ap, ◌∙◌}
use mathlib.Core.List.{List, [], ◌∷◌}
use native.Mathlib.Omega.{arith}
use lib.ListN.{length, take, drop}
use lib.Seq.{take-take}
use Rattle.octets.specs.Bytes.{be_value, field}
use Rattle.octets.proofs.Value.{field_drop, field_drop0}
use Rattle.eif.specs.Layout.{header_size, section_header_size, section_flags_at, section_size_at, view_of, offset_at}
use Rattle.eif.specs.Reading.{checksum_of, read_view, read_image}
use Rattle.eif_lemmas.proofs.Agree.{Lies, Agree, read_same}
use Rattle.eif_judge.specs.Kept.{view_from}

-- ---- numbers in equal parts are equal

within : (w k n : ℕ) (l : List ℕ) → k + w ≤ n → take w (drop k (take n l)) ≡ take w (drop k l)
within w zero n l h = take-take w n l (omega arith)
within w (suc k) zero l h = absurd (omega arith)
within w (suc k) (suc n) [] h = refl
within w (suc k) (suc n) (x ∷ l) h = within w k n l (omega arith)

pub field_part : (w k n : ℕ) (a b : List ℕ) → k + w ≤ n → take n a ≡ take n b → field w k a ≡ field w k b
unfolding field
field_part w k n a b h e =
    ap be_value (sym (within w k n a h) ∙ ap (λ (l : List ℕ). take w (drop k l)) e ∙ within w k n b h)

-- ---- the reading

module _ (s header headers : List ℕ) (begins : header_size ≤ length s → take header_size header ≡ take header_size s)
    (owns : (i : ℕ) → Lies (view_of s) i → take section_header_size (drop (section_header_size * i) headers) ≡ take section_header_size (drop (offset_at s i) s)) where
  own_field : (w k i : ℕ) → Lies (view_of s) i → k + w ≤ section_header_size → field w k (drop (section_header_size * i) headers) ≡ field w k (drop (offset_at s i) s)
  own_field w k i l h = field_part w k section_header_size _ _ h (owns i l)

  agree : Agree (view_from header headers (length s)) (view_of s)
  agree =
      record {
        sizes = refl;
        headers = λ h w k g. field_part w k header_size header s g (begins h);
        kinds = λ i l. field_drop0 2 (section_header_size * i) headers ∙ own_field 2 0 i l (omega arith) ∙ sym (field_drop0 2 (offset_at s i) s);
        flags = λ i l.
            field_drop 2 section_flags_at (section_header_size * i) headers ∙ own_field 2 section_flags_at i l (omega arith) ∙ sym (field_drop 2 section_flags_at (offset_at s i) s);
        own_sizes = λ i l.
            field_drop 8 section_size_at (section_header_size * i) headers ∙ own_field 8 section_size_at i l (omega arith) ∙ sym (field_drop 8 section_size_at (offset_at s i) s);
      }

  pub read_kept : read_view (view_from header headers (length s)) (checksum_of s) ≡ read_image s
  read_kept = read_same (view_from header headers (length s)) (view_of s) agree (checksum_of s)
