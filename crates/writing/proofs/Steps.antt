-- The code's steps against the definitions.
use Prim.Native.Nat.{ℕ, suc, ◌-◌, ◌<◌, ◌≤◌}
use mathlib.Core.Path.{◌≡◌, refl, sym, ap, ◌∙◌}
use mathlib.Core.Bool.{true, false}
use mathlib.Core.List.{List, [], ◌++◌}
use native.Mathlib.Omega.{arith}
use borrow.Author.Tests.{eq-eqb, ne_eqb, lt-ltb, le-ltb, ltb-true, leb-true}
use lib.Dec.{ltb, leb}
use lib.ListN.{take}
use lib.Seq.{take_at}
use Rattle.octets.specs.Bytes.{be_bytes}
use Rattle.octets.proofs.Logic.{both_true}
use Rattle.crc32.specs.Crc.{crc_from}
use Rattle.crc32.proofs.Linear.{crc_from_append}
use Rattle.eif.specs.Numbers.{place_count, size_limit, data_length_differs}
use Rattle.eif.specs.Layout.{header_size, checksum_at}
use Rattle.eif.specs.Answers.{refuse}
use Rattle.eif.specs.Plan.{place_at, plain_size, header_bytes, section_header, plan_length}
use Rattle.eif.specs.declared.Place.{Place}
use Rattle.eif.specs.declared.Plan.{Plan}
use Rattle.eif.specs.declared.Refusal.{Refusal}
use Rattle.eif.specs.declared.Verdict.TheVariants.{Accepted, Refused}
use Rattle.eif.specs.declared.Written.{Written}
use Rattle.eif_lemmas.proofs.Table.{join_next}
use Rattle.plain_laws.proofs.Shape.{length_header}
use Rattle.plan_judge.specs.Size.{image_size}
use Rattle.plan_judge.proofs.Size.{image_limited, limited_in, packed_before}
use Rattle.writing.specs.Writing.{start_writing, empty_writing, writing_begun, sections_in, own_headers, data_step, data_bytes, header_step, header_part, section_step, next_header, begins_section, writing_stepped, step_bytes, finish_verdict, final_checksum, writing_summed}
use Rattle.writing.specs.declared.Writing.{Writing}

-- ---- begin

module _ (p : Plan) (n : ℕ) where
  -- a plan within the limits has an image
  pub has_image : p.count ≤ place_count → plain_size p ≤ size_limit → image_size p ≡ 0 → ⊥
  has_image few small z =
      let e = limited_in (plain_size p) small ∙ image_limited p few ∙ z in
      let q = packed_before p.places p.count in
      omega arith

  -- the bytes before the checksum field
  pub header_front : take checksum_at (header_bytes p ++ be_bytes 4 n) ≡ header_bytes p
  header_front = take_at (header_bytes p) (be_bytes 4 n) checksum_at (length_header p)

  pub begun_refused : (w : Written) (r : Refusal) → w ≡ plan_length p → w.verdict ≡ Refused r → record { state = empty_writing; written = w } ≡ writing_begun p n
  unfolding writing_begun
  begun_refused w r e v = let q : (plan_length p).verdict ≡ Refused r = ap (λ (x : Written). x.verdict) (sym e) ∙ v in rw (e, q) refl

  pub begun_accepted : (w : Written) → w ≡ plan_length p → w.verdict ≡ Accepted → record { state = start_writing p n; written = w } ≡ writing_begun p n
  unfolding writing_begun
  begun_accepted w e v = let q : (plan_length p).verdict ≡ Accepted = ap (λ (x : Written). x.verdict) (sym e) ∙ v in rw (e, q) refl

-- ---- the rows of a step

module _ (a : Writing) (lent : List ℕ) (room : ℕ) where
  pub step_data_holds : (a.section_left ≡ 0 → ⊥) → (data_step a lent room ≡ writing_stepped a lent room) × (data_bytes a lent room ≡ step_bytes a lent room)
  unfolding writing_stepped step_bytes
  step_data_holds h = (simp (ne_eqb a.section_left 0 h), simp (ne_eqb a.section_left 0 h))

  module _ (e : a.section_left ≡ 0) where
    pub step_header : a.header_written < header_size → (header_step a room ≡ writing_stepped a lent room) × (header_part a room ≡ step_bytes a lent room)
    unfolding writing_stepped step_bytes
    step_header h = (simp (eq-eqb a.section_left 0 e, lt-ltb a.header_written header_size h), simp (eq-eqb a.section_left 0 e, lt-ltb a.header_written header_size h))

    module _ (g : header_size ≤ a.header_written) where
      pub step_section : begins_section a room ≡ true → (section_step a ≡ writing_stepped a lent room) × (next_header a ≡ step_bytes a lent room)
      unfolding writing_stepped step_bytes
      step_section h = (simp (eq-eqb a.section_left 0 e, le-ltb a.header_written header_size g, h), simp (eq-eqb a.section_left 0 e, le-ltb a.header_written header_size g, h))

      pub step_none : begins_section a room ≡ false → (record { state = a; taken = 0; written = 0 } ≡ writing_stepped a lent room) × ([] ≡ step_bytes a lent room)
      unfolding writing_stepped step_bytes
      step_none h = (simp (eq-eqb a.section_left 0 e, le-ltb a.header_written header_size g, h), simp (eq-eqb a.section_left 0 e, le-ltb a.header_written header_size g, h))

-- whether a section is begun
module _ (a : Writing) (room : ℕ) where
  pub begins_if : a.sections_begun < sections_in a → leb 12 room ≡ begins_section a room
  unfolding begins_section
  begins_if h = simp (lt-ltb a.sections_begun (sections_in a) h)

  pub begins_not : sections_in a ≤ a.sections_begun → false ≡ begins_section a room
  unfolding begins_section
  begins_not h = simp (le-ltb a.sections_begun (sections_in a) h)

  pub begins_inside : begins_section a room ≡ true → a.sections_begun < sections_in a
  unfolding begins_section
  begins_inside e = ltb-true _ _ (both_true (ltb a.sections_begun (sections_in a)) (leb 12 room) e).0

  pub begins_room : begins_section a room ≡ true → 12 ≤ room
  unfolding begins_section
  begins_room e = leb-true _ _ (both_true (ltb a.sections_begun (sections_in a)) (leb 12 room) e).1

-- ---- finish

-- the remainder over one own header more
pub headers_next : (c : ℕ) (l : List Place) (end i : ℕ) → i < end
    → crc_from (crc_from c (section_header (place_at l i))) (own_headers l (end - suc i) (suc i)) ≡ crc_from c (own_headers l (end - i) i)
headers_next c l end i h =
    sym (crc_from_append c (section_header (place_at l i)) (own_headers l (end - suc i) (suc i)))
    ∙ ap (crc_from c) (sym (join_next (λ j. section_header (place_at l j)) end i h))

module _ (a : Writing) where
  pub summed_none : a.count ≡ 0 → record { verdict = refuse data_length_differs 0; checksum = 0 } ≡ writing_summed a
  unfolding writing_summed finish_verdict
  summed_none e = simp (eq-eqb a.count 0 e)

  pub summed_missing : (a.count ≡ 0 → ⊥) → (a.data_left ≡ 0 → ⊥) → record { verdict = refuse data_length_differs 0; checksum = 0 } ≡ writing_summed a
  unfolding writing_summed finish_verdict
  summed_missing h g = simp (ne_eqb a.count 0 h, ne_eqb a.data_left 0 g)

  pub summed_whole : (a.count ≡ 0 → ⊥) → a.data_left ≡ 0 → record { verdict = Accepted; checksum = final_checksum a } ≡ writing_summed a
  unfolding writing_summed finish_verdict
  summed_whole h e = simp (ne_eqb a.count 0 h, eq-eqb a.data_left 0 e)
