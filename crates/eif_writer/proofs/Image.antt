-- The header, the sections and the checksum, written one after the other, are the plain image.
-- Assumes nothing.
use Prim.Native.Nat.{ℕ, ◌+◌, ◌≤◌, ◌-◌}
use mathlib.Core.Path.{◌≡◌, refl, sym, ap, ap₂, ◌∙◌}
use mathlib.Core.List.{List, ◌++◌, append_assoc}
use native.Mathlib.Omega.{arith}
use native.Mathlib.Nat.{zero-add}
use borrow.Author.Tests.{eq-eqb, ne_eqb}
use lib.ListN.{length, replicate, take, drop, length-append, length-take, length-drop}
use lib.Seq.{take_at, drop_at}
use Rattle.octets.specs.Bytes.{be_bytes}
use Rattle.octets.specs.Over.{over}
use Rattle.octets.proofs.Over.{over_parts, over_start, over_own, over_joined, length_over}
use Rattle.crc32.specs.Crc.{crc32}
use Rattle.eif.specs.Layout.{header_size, checksum_at, offsets_at, reserved_after_at, sizes_at, default_mem_at}
use Rattle.eif.specs.Reading.{checksum_of}
use Rattle.eif.specs.Plan.{data_before, plain_size, fixed_fields, packed_at, table_bytes, header_bytes, body_bytes, plain_image, planned_size}
use Rattle.eif.specs.declared.Plan.{Plan}
use Rattle.plain_laws.proofs.Shape.{packed_zero, length_table, length_header, length_sections}
use Rattle.eif_writer.specs.Parts.{first_fields, next_fields, header_with}
use Rattle.plan_judge.specs.Size.{image_size}
use Rattle.eif_writer.proofs.Pieces.{over_whole}
use Rattle.eif_checksum.specs.Put.{with_checksum}

-- ---- the header

module _ (p : Plan) where
  abbrev offsets : List ℕ
  offsets = table_bytes (packed_at p.places) p.count

  abbrev sizes : List ℕ
  sizes = table_bytes (planned_size p.places) p.count

  length_first : length (first_fields p) ≡ default_mem_at
  unfolding first_fields
  length_first = refl

  length_next : length (next_fields p) ≡ offsets_at - default_mem_at
  unfolding next_fields
  length_next = refl

  header_parts : first_fields p ++ (next_fields p ++ (offsets ++ (sizes ++ be_bytes 4 0))) ≡ header_bytes p
  unfolding header_bytes fixed_fields first_fields next_fields
  header_parts = simp append_assoc

  pub header_over : (d d₁ d₂ d₃ d₄ d₅ : List ℕ) → d₁ ≡ over d 0 (first_fields p) → d₂ ≡ over d₁ default_mem_at (next_fields p) → d₃ ≡ over d₂ offsets_at offsets
      → d₄ ≡ over d₃ sizes_at sizes → d₅ ≡ over d₄ reserved_after_at (be_bytes 4 0) → d₅ ≡ over d 0 (header_bytes p)
  header_over d d₁ d₂ d₃ d₄ d₅ e₁ e₂ e₃ e₄ e₅ =
      over_joined _ _ _ _ e₁
      (over_joined _ _ _ _ e₂
      (over_joined _ _ _ _ e₃ (over_joined _ _ _ _ e₄ e₅ (ap (λ (n : ℕ). sizes_at + n) (length_table _ _))) (ap (λ (n : ℕ). offsets_at + n) (length_table _ _)))
      (ap (λ (n : ℕ). default_mem_at + n) length_next))
      (ap (λ (n : ℕ). 0 + n) length_first)
      ∙ ap (over d 0) header_parts

  -- the header with a number in the checksum field fills an array of its size
  pub whole_header : (n : ℕ) {b c : List ℕ} → b ≡ over (replicate header_size 0) 0 (header_bytes p) → c ≡ over b checksum_at (be_bytes 4 n) → c ≡ header_bytes p ++ be_bytes 4 n
  whole_header n e f =
      over_joined (replicate header_size 0) 0 (header_bytes p) (be_bytes 4 n) {m = checksum_at} e f (zero-add (length (header_bytes p)) ∙ length_header p)
      ∙ over_whole header_size (header_bytes p ++ be_bytes 4 n) (length-append (header_bytes p) (be_bytes 4 n) ∙ ap (λ (m : ℕ). m + 4) (length_header p))

  pub header_none : (n : ℕ) → image_size p ≡ 0 → replicate header_size 0 ≡ header_with p n
  unfolding header_with
  header_none n e = simp (eq-eqb (image_size p) 0 e)

  pub header_some : (n : ℕ) → (image_size p ≡ 0 → ⊥) → header_bytes p ++ be_bytes 4 n ≡ header_with p n
  unfolding header_with
  header_some n h = simp (ne_eqb (image_size p) 0 h)

-- ---- the whole

module _ (p : Plan) (given d a b : List ℕ) (sized : length given ≡ data_before p.places p.count) (room : plain_size p ≤ length d) where
  abbrev head : List ℕ
  head = header_bytes p

  abbrev body : List ℕ
  body = body_bytes p given

  abbrev sum : List ℕ
  sum = be_bytes 4 (crc32 (head ++ body))

  -- what stands in the checksum's place so far
  abbrev gap : List ℕ
  gap = take 4 (drop checksum_at a)

  abbrev rest : List ℕ
  rest = drop (plain_size p) d

  length_body : header_size + length body ≡ plain_size p
  length_body =
      ap (λ (n : ℕ). n + length body) (sym (packed_zero (planned_size p.places)))
      ∙ length_sections p.places given p.count sized

  module _ (e : a ≡ over d 0 head) (f : b ≡ over a header_size body) where
    length_a : length a ≡ length d
    length_a = ap length e ∙ length_over d 0 head

    length_gap : length gap ≡ 4
    length_gap = let l = length_body in let m = length_a in simp (length-take, length-drop) (omega arith)

    length_front : length (head ++ gap) ≡ header_size
    length_front = length-append head gap ∙ ap₂ (λ (m n : ℕ). m + n) (length_header p) length_gap

    whole : length ((head ++ gap) ++ body) ≡ plain_size p
    whole = length-append (head ++ gap) body ∙ ap (λ (n : ℕ). n + length body) length_front ∙ length_body

    written : b ≡ ((head ++ gap) ++ body) ++ rest
    written =
        let l = length_body in
        let m = length_a in
        let w = whole in
        let own : a ≡ over a checksum_at gap = sym (over_own a checksum_at 4 (omega arith)) in
        over_joined _ _ _ _ (over_joined _ _ _ _ e own (zero-add (length head) ∙ length_header p)) f (zero-add (length (head ++ gap)) ∙ length_front)
        ∙ over_start d ((head ++ gap) ++ body) (omega arith)
        ∙ ap (λ (n : ℕ). ((head ++ gap) ++ body) ++ drop n d) w

    summed : checksum_of (take (plain_size p) b) ≡ crc32 (head ++ body)
    unfolding checksum_of
    summed =
        ap (λ (l : List ℕ). checksum_of (take (plain_size p) l)) written
        ∙ ap checksum_of (take_at ((head ++ gap) ++ body) rest (plain_size p) whole)
        ∙ ap₂ (λ (x y : List ℕ). crc32 (x ++ y))
        (ap (take checksum_at) (append_assoc head gap body) ∙ take_at head (gap ++ body) checksum_at (length_header p))
        (drop_at (head ++ gap) body header_size length_front)

    pub with_checksum_plain : with_checksum b (plain_size p) ≡ over d 0 (plain_image p given)
    unfolding with_checksum plain_image
    with_checksum_plain =
        let l = length_body in
        let w : length (head ++ (sum ++ body)) ≡ plain_size p =
        length-append head (sum ++ body) ∙ ap₂ (λ (m n : ℕ). m + n) (length_header p) (length-append sum body) ∙ (omega arith) in
        let v : b ≡ head ++ (gap ++ (body ++ rest)) = written ∙ simp append_assoc in
        let m : length b ≡ length d = ap length f ∙ length_over a header_size body ∙ length_a in
        ap (λ (n : ℕ). over b checksum_at (be_bytes 4 n)) summed
        ∙ over_parts b checksum_at sum (omega arith)
        ∙ ap₂ (λ (x y : List ℕ). x ++ (sum ++ y))
        (ap (take checksum_at) v ∙ take_at head (gap ++ (body ++ rest)) checksum_at (length_header p))
        (ap (drop header_size) written ∙ ap (drop header_size) (append_assoc (head ++ gap) body rest) ∙ drop_at (head ++ gap) (body ++ rest) header_size length_front)
        ∙ sym
        (over_start d (head ++ (sum ++ body)) (omega arith)
        ∙ ap (λ (n : ℕ). (head ++ (sum ++ body)) ++ drop n d) w
        ∙ simp append_assoc)
