-- The laws of writing an image in pieces: what a run of steps from `begin` takes, writes and answers, however data and output buffers are cut. All
-- laws suppose that begin accepts the plan; what else a law supposes stands in its statement.
use Prim.Native.Nat.{ℕ, suc, ◌+◌, ◌-◌, ◌*◌, ◌<◌, ◌≤◌, min}
use mathlib.Core.Path.{◌≡◌, refl, sym, ap, ap₂, ◌∙◌}
use mathlib.Core.Bool.{Bool, true, false, true≢false}
use mathlib.Core.List.{List, [], ◌++◌, append_assoc, append-nil}
use mathlib.Core.Logic.{⊎_elim}
use native.Mathlib.Omega.{arith}
use borrow.Author.Tests.{le-leb}
use lib.Bits.{bit_xor}
use lib.ListN.{length, take, drop, length-append, length-take, length-drop, take-append-drop}
use lib.Seq.{length-take-le, take_at, drop_at, take_all}
use Rattle.octets.specs.Bytes.{be_bytes}
use Rattle.octets.specs.Over.{over}
use Rattle.octets.proofs.Logic.{equal_or_not, le_or_lt}
use Rattle.octets.proofs.Over.{over_parts}
use Rattle.crc32.specs.Crc.{crc32, crc_from, ones32}
use Rattle.crc32.proofs.Linear.{crc_from_append}
use Rattle.eif.specs.Numbers.{place_count, data_length_differs}
use Rattle.eif.specs.Answers.{refuse, beside}
use Rattle.eif.specs.Layout.{header_size, section_header_size, checksum_at}
use Rattle.eif.specs.Table.{join_from}
use Rattle.eif.specs.Plan.{place_at, data_before, plain_size, header_bytes, section_bytes, body_bytes, plain_image, plan_length}
use Rattle.eif.specs.declared.Place.{Place}
use Rattle.eif.specs.declared.Plan.{Plan}
use Rattle.eif.specs.declared.Verdict.{Verdict}
use Rattle.eif.specs.declared.Verdict.TheVariants.{Accepted}
use Rattle.plain_laws.proofs.PlanRules.{Planned, planned→}
use Rattle.plain_laws.proofs.Shape.{before_le, length_header, length_section_header}
use Rattle.plan_judge.proofs.Size.{packed_before}
use Rattle.writing.specs.Writing.{start_writing, empty_writing, writing_begun, sections_in, own_headers, data_bytes, header_part, begins_section, next_header, data_step, header_step, section_step, writing_stepped, step_bytes, final_checksum, writing_summed}
use Rattle.writing.specs.declared.Summed.{Summed}
use Rattle.writing.specs.declared.Stepped.{Stepped}
use Rattle.writing.proofs.Steps.{step_data_holds, step_header, step_section, step_none, begins_if, begins_room, summed_missing, summed_whole}
use Rattle.writing_laws.specs.Runs.{WriteStep, run_state, run_data, run_bytes, data_needed, image_with}
use Rattle.writing_laws.proofs.Sections.{join_add, join_zero, length_sections_so_far, sections_more, sections_rest, sections_kept}
use Rattle.writing_laws.proofs.Reached.{Reached, reached_start, reached_run}

module _ (p : Plan) (field : ℕ) (ok : (plan_length p).verdict ≡ Accepted) (ts : List WriteStep) where
  planned : Planned p (data_needed p)
  unfolding plan_length
  planned = planned→ p (data_needed p) ok

  few : p.count ≤ place_count
  few = planned.fields.few

  first_is : (writing_begun p field).state ≡ start_writing p field
  unfolding writing_begun
  first_is = ap (λ (v : Verdict). beside v (start_writing p field) empty_writing) ok

  reached : Reached p field few (run_data p field ts) (run_bytes p field ts) (run_state p field ts)
  reached = rw first_is (reached_run p field few ts [] [] (start_writing p field) (reached_start p field few))

  abbrev begun_so_far : ℕ
  begun_so_far = (run_state p field ts).sections_begun

  header_long : length (header_bytes p ++ be_bytes 4 field) ≡ header_size
  header_long = length-append (header_bytes p) (be_bytes 4 field) ∙ ap (λ (n : ℕ). n + 4) (length_header p)

  written_long : length (run_bytes p field ts) ≡ (run_state p field ts).header_written + (section_header_size * begun_so_far + length (run_data p field ts))
  written_long =
      let r = reached in
      let s = r.section_sum in
      ap length r.bytes_are
      ∙ length-append (take (run_state p field ts).header_written (header_bytes p ++ be_bytes 4 field)) (join_from (section_bytes p.places (run_data p field ts)) begun_so_far 0)
      ∙ ap₂ (λ (m n : ℕ). m + n)
      (length-take-le (run_state p field ts).header_written (header_bytes p ++ be_bytes 4 field) (let h = r.header_few in let l = header_long in omega arith))
      (length_sections_so_far p.places (run_data p field ts) begun_so_far r.last_start (omega arith))

  -- begin answers the length of the plan's plain image
  pub begin_length : (writing_begun p field).written.length ≡ plain_size p
  unfolding writing_begun plan_length
  begin_length = ap (λ (v : Verdict). beside v (plain_size p) 0) ok

  -- ---- what is taken

  -- data past the plan's sum is never taken
  pub data_bounded : length (run_data p field ts) ≤ (data_needed p)
  data_bounded = let s = reached.data_sum in omega arith

  -- ---- what is written

  -- no more bytes are written than begin answered
  pub bytes_bounded : length (run_bytes p field ts) ≤ plain_size p
  bytes_bounded =
      let r = reached in
      let w = written_long in
      let b = packed_before p.places p.count in
      let d = data_bounded in
      let f = r.begun_few in
      let h = r.header_few in
      omega arith

  -- the image is complete when as many bytes are written as begin answered: then all data is taken, and the bytes are the plain image of the plan
  -- and that data but for the checksum field
  module _ (whole : length (run_bytes p field ts) ≡ plain_size p) where
    all_begun : (begun_so_far ≡ p.count) × ((run_state p field ts).header_written ≡ header_size) × (length (run_data p field ts) ≡ (data_needed p))
    all_begun =
        let r = reached in
        let w = written_long in
        let b = packed_before p.places p.count in
        let d = data_bounded in
        let f = r.begun_few in
        let h = r.header_few in
        (omega arith, omega arith, omega arith)

    pub complete_data : length (run_data p field ts) ≡ (data_needed p)
    complete_data = all_begun.2

    pub complete_bytes : (run_bytes p field ts) ≡ image_with p field (run_data p field ts)
    unfolding image_with
    complete_bytes =
        let a = all_begun in
        reached.bytes_are
        ∙ ap₂ (λ (m n : ℕ). take m (header_bytes p ++ be_bytes 4 field) ++ join_from (section_bytes p.places (run_data p field ts)) n 0) a.1 a.0
        ∙ ap (λ (q : List ℕ). q ++ body_bytes p (run_data p field ts)) (take_all header_size (header_bytes p ++ be_bytes 4 field) (let l = header_long in omega arith))
        ∙ append_assoc (header_bytes p) (be_bytes 4 field) (body_bytes p (run_data p field ts))

    -- begun with the right checksum, it is the plain image
    pub complete_plain : field ≡ crc32 (header_bytes p ++ body_bytes p (run_data p field ts)) → (run_bytes p field ts) ≡ plain_image p (run_data p field ts)
    unfolding plain_image image_with
    complete_plain e = complete_bytes ∙ ap (λ (n : ℕ). header_bytes p ++ (be_bytes 4 n ++ body_bytes p (run_data p field ts))) e

  -- ---- finish

  pub finish_missing : (length (run_data p field ts) ≡ (data_needed p) → ⊥) → writing_summed (run_state p field ts) ≡ record { verdict = refuse data_length_differs 0; checksum = 0 }
  finish_missing n =
      let r = reached in
      let c = r.count_is in
      let s = r.data_sum in
      let m = planned.fields.some in
      sym (summed_missing (run_state p field ts) (λ z. absurd (omega arith)) (λ z. n (omega arith)))

  module _ (all : length (run_data p field ts) ≡ (data_needed p)) where
    finish_whole : writing_summed (run_state p field ts) ≡ record { verdict = Accepted; checksum = final_checksum (run_state p field ts) }
    finish_whole =
        let r = reached in
        let c = r.count_is in
        let s = r.data_sum in
        let m = planned.fields.some in
        sym (summed_whole (run_state p field ts) (λ z. absurd (omega arith)) (omega arith))

    pub finish_accepts : (writing_summed (run_state p field ts)).verdict ≡ Accepted
    finish_accepts = ap (λ (x : Summed). x.verdict) finish_whole

    -- the checksum of the plain image, also where own headers of sections without data are not written yet
    pub finish_checksum : (writing_summed (run_state p field ts)).checksum ≡ crc32 (header_bytes p ++ body_bytes p (run_data p field ts))
    unfolding final_checksum crc32
    finish_checksum =
        let r = reached in
        let s = r.section_sum in
        let f = r.begun_few in
        let c = r.count_is in
        let up = before_le p.places begun_so_far p.count f in
        let left : sections_in (run_state p field ts) - begun_so_far ≡ p.count - begun_so_far = let m = few in omega arith in
        let sum : begun_so_far + (p.count - begun_so_far) ≡ p.count = omega arith in
        let own : own_headers (run_state p field ts).places (sections_in (run_state p field ts) - begun_so_far) begun_so_far ≡ own_headers p.places (p.count - begun_so_far) begun_so_far =
        ap₂ (λ (l : List Place) (n : ℕ). own_headers l n begun_so_far) r.places_are left in
        let body : join_from (section_bytes p.places (run_data p field ts)) begun_so_far 0 ++ own_headers p.places (p.count - begun_so_far) begun_so_far ≡ body_bytes p (run_data p field ts) =
        sym (sections_rest p.places (run_data p field ts) begun_so_far (p.count - begun_so_far) (omega arith)) ∙ ap (λ (n : ℕ). join_from (section_bytes p.places (run_data p field ts)) n 0) sum in
        ap (λ (x : Summed). x.checksum) finish_whole
        ∙ ap (bit_xor ones32)
        (ap₂ crc_from r.checksum_is own
        ∙ sym (crc_from_append (crc_from ones32 (header_bytes p)) (join_from (section_bytes p.places (run_data p field ts)) begun_so_far 0) (own_headers p.places (p.count - begun_so_far) begun_so_far))
        ∙ ap (crc_from (crc_from ones32 (header_bytes p))) body
        ∙ sym (crc_from_append ones32 (header_bytes p) (body_bytes p (run_data p field ts))))

  -- an image written to a file, with the checksum put in its place afterwards, is the plain image
  pub checksum_put : length (run_bytes p field ts) ≡ plain_size p → over (run_bytes p field ts) checksum_at (be_bytes 4 (writing_summed (run_state p field ts)).checksum) ≡ plain_image p (run_data p field ts)
  unfolding plain_image image_with
  checksum_put whole =
      let sum = be_bytes 4 (crc32 (header_bytes p ++ body_bytes p (run_data p field ts))) in
      let h = length_header p in
      let old = be_bytes 4 field in
      let front : length (header_bytes p ++ old) ≡ header_size = header_long in
      let b = packed_before p.places p.count in
      let image = header_bytes p ++ (old ++ body_bytes p (run_data p field ts)) in
      let long : length image ≡ plain_size p = ap length (sym (complete_bytes whole)) ∙ whole in
      ap₂ (λ (l : List ℕ) (n : ℕ). over l checksum_at (be_bytes 4 n)) (complete_bytes whole) (finish_checksum (complete_data whole))
      ∙ over_parts image checksum_at sum (omega arith)
      ∙ ap₂ (λ (x y : List ℕ). x ++ (sum ++ y)) (take_at (header_bytes p) (old ++ body_bytes p (run_data p field ts)) checksum_at h)
      (ap (drop header_size) (sym (append_assoc (header_bytes p) old (body_bytes p (run_data p field ts)))) ∙ drop_at (header_bytes p ++ old) (body_bytes p (run_data p field ts)) header_size front)

  -- ---- progress

  module _ (lent : List ℕ) (room : ℕ) where
    -- what holds of the bytes of each row holds of the bytes of a step
    by_row : (P : Stepped → List ℕ → Type 0)
        → (((run_state p field ts).section_left ≡ 0 → ⊥) → P (data_step (run_state p field ts) lent room) (data_bytes (run_state p field ts) lent room))
        → ((run_state p field ts).section_left ≡ 0 → (run_state p field ts).header_written < header_size → P (header_step (run_state p field ts) room) (header_part (run_state p field ts) room))
        → ((run_state p field ts).section_left ≡ 0 → header_size ≤ (run_state p field ts).header_written → begins_section (run_state p field ts) room ≡ true → P (section_step (run_state p field ts)) (next_header (run_state p field ts)))
        → ((run_state p field ts).section_left ≡ 0 → header_size ≤ (run_state p field ts).header_written → begins_section (run_state p field ts) room ≡ false → P (record { state = (run_state p field ts); taken = 0; written = 0 }) [])
        → P (writing_stepped (run_state p field ts) lent room) (step_bytes (run_state p field ts) lent room)
    by_row P one two three four =
        ⊎_elim
        (λ (e : (run_state p field ts).section_left ≡ 0).
        ⊎_elim
        (λ (h : header_size ≤ (run_state p field ts).header_written). by_section e h (begins_section (run_state p field ts) room) refl)
        (λ (h : (run_state p field ts).header_written < header_size). along (step_header (run_state p field ts) lent room e h) (two e h))
        (le_or_lt header_size (run_state p field ts).header_written))
        (λ (n : (run_state p field ts).section_left ≡ 0 → ⊥). along (step_data_holds (run_state p field ts) lent room n) (one n))
        (equal_or_not (run_state p field ts).section_left 0)
      where
        along : {a : Stepped} {b : List ℕ} → (a ≡ writing_stepped (run_state p field ts) lent room) × (b ≡ (step_bytes (run_state p field ts) lent room)) → P a b → P (writing_stepped (run_state p field ts) lent room) (step_bytes (run_state p field ts) lent room)
        along e x = rw (sym e.0, sym e.1) x

        by_section : (run_state p field ts).section_left ≡ 0 → header_size ≤ (run_state p field ts).header_written → (b : Bool) → begins_section (run_state p field ts) room ≡ b → P (writing_stepped (run_state p field ts) lent room) (step_bytes (run_state p field ts) lent room)
        by_section e h true q = along (step_section (run_state p field ts) lent room e h q) (three e h q)
        by_section e h false q = along (step_none (run_state p field ts) lent room e h q) (four e h q)

    length_data : length (data_bytes (run_state p field ts) lent room) ≡ min (run_state p field ts).section_left (min (length lent) room)
    unfolding data_bytes
    length_data = rw length-take (omega arith)

    length_part : length (header_part (run_state p field ts) room) ≡ min (header_size - (run_state p field ts).header_written) room
    unfolding header_part
    length_part = let l : length (run_state p field ts).header ≡ header_size = ap length reached.header_is ∙ header_long in simp (length-take, length-drop) (omega arith)

    length_next : length (next_header (run_state p field ts)) ≡ section_header_size
    unfolding next_header
    length_next = length_section_header (place_at (run_state p field ts).places (run_state p field ts).sections_begun)

    -- a step answers how many bytes it writes, and writes no more than there is room for
    pub step_counted : ((writing_stepped (run_state p field ts) lent room).written ≡ length (step_bytes (run_state p field ts) lent room)) × (length (step_bytes (run_state p field ts) lent room) ≤ room)
    unfolding data_step header_step section_step
    step_counted =
        by_row (λ s b. (s.written ≡ length b) × (length b ≤ room))
        (λ n. let e = length_data in (sym e, omega arith))
        (λ e h. let l = length_part in (sym l, omega arith))
        (λ e h q. let l = length_next in (sym l, wide q))
        (λ e h q. (refl, omega arith))
      where
        wide : begins_section (run_state p field ts) room ≡ true → length (next_header (run_state p field ts)) ≤ room
        wide q = let w = begins_room (run_state p field ts) room q in let l = length_next in omega arith

    -- while the image is not complete, a step with room for a section's own header writes a byte or more
    module _ (short : length (run_bytes p field ts) < plain_size p) (wide : section_header_size ≤ room) where
      not_done : (run_state p field ts).section_left ≡ 0 → header_size ≤ (run_state p field ts).header_written → begun_so_far < sections_in (run_state p field ts)
      not_done e h =
          let r = reached in
          let w = written_long in
          let b = packed_before p.places p.count in
          let f = r.begun_few in
          let s = r.section_sum in
          let c = r.count_is in
          let m = few in
          let top = r.header_few in
          ⊎_elim
          (λ (z : begun_so_far ≡ p.count). let q = ap (data_before p.places) z in absurd (omega arith))
          (λ (n : begun_so_far ≡ p.count → ⊥). let q : begun_so_far < p.count = lt_of n in omega arith)
          (equal_or_not begun_so_far p.count)
        where
          lt_of : (begun_so_far ≡ p.count → ⊥) → begun_so_far < p.count
          lt_of n = let f = reached.begun_few in ⊎_elim (λ (h : p.count ≤ begun_so_far). absurd (n (omega arith))) (λ h. h) (le_or_lt p.count begun_so_far)

      -- if data is lent where the section begun last needs some
      pub moves : (((run_state p field ts).section_left ≡ 0 → ⊥) → 0 < length lent) → 0 < length (step_bytes (run_state p field ts) lent room)
      moves given =
          by_row (λ s b. 0 < length b)
          (λ n. let e = length_data in let g = given n in let m : 0 < (run_state p field ts).section_left = positive n in omega arith)
          (λ e h. let l = length_part in omega arith)
          (λ e h q. let l = length_next in omega arith)
          (λ e h q. absurd (begins e h q))
        where
          positive : ((run_state p field ts).section_left ≡ 0 → ⊥) → 0 < (run_state p field ts).section_left
          positive n = ⊎_elim (λ (h : (run_state p field ts).section_left ≤ 0). absurd (n (omega arith))) (λ h. h) (le_or_lt (run_state p field ts).section_left 0)

          begins : (run_state p field ts).section_left ≡ 0 → header_size ≤ (run_state p field ts).header_written → begins_section (run_state p field ts) room ≡ false → ⊥
          begins e h q = let t = sym (le-leb section_header_size room wide) ∙ begins_if (run_state p field ts) room (not_done e h) ∙ q in true≢false t

      -- if data is lent
      pub progress : 0 < length lent → 0 < length (step_bytes (run_state p field ts) lent room)
      progress h = moves (λ n. h)

      -- if all data is taken, with no data
      pub progress_all_taken : length (run_data p field ts) ≡ (data_needed p) → 0 < length (step_bytes (run_state p field ts) lent room)
      progress_all_taken all =
          let r = reached in
          let s = r.section_sum in
          let up = before_le p.places begun_so_far p.count r.begun_few in
          moves (λ n. absurd (n (omega arith)))

    -- so a step with room for an own header that writes nothing, though data is lent or all data is taken, says that the image is complete
    pub ended : section_header_size ≤ room → length (step_bytes (run_state p field ts) lent room) ≡ 0 → 0 < length lent → length (run_bytes p field ts) ≡ plain_size p
    ended wide none some =
        let b = bytes_bounded in
        ⊎_elim
        (λ (h : plain_size p ≤ length (run_bytes p field ts)). omega arith)
        (λ (h : length (run_bytes p field ts) < plain_size p). let m = progress h wide some in absurd (omega arith))
        (le_or_lt (plain_size p) (length (run_bytes p field ts)))

    pub ended_all_taken : section_header_size ≤ room → length (step_bytes (run_state p field ts) lent room) ≡ 0 → length (run_data p field ts) ≡ data_needed p
        → length (run_bytes p field ts) ≡ plain_size p
    ended_all_taken wide none all =
        let b = bytes_bounded in
        ⊎_elim
        (λ (h : plain_size p ≤ length (run_bytes p field ts)). omega arith)
        (λ (h : length (run_bytes p field ts) < plain_size p). let m = progress_all_taken h wide all in absurd (omega arith))
        (le_or_lt (plain_size p) (length (run_bytes p field ts)))

  -- ---- a run that is not complete

  module _ (given : List ℕ) (sized : length given ≡ (data_needed p)) (same : take (length (run_data p field ts)) given ≡ (run_data p field ts)) where
    abbrev header : List ℕ
    header = header_bytes p ++ be_bytes 4 field

    abbrev up_to : List ℕ → ℕ → List ℕ
    up_to d k = join_from (section_bytes p.places d) k 0

    -- the data that is not taken, of the section begun last and of those after it
    abbrev due : List ℕ
    due = take (run_state p field ts).section_left (drop (length (run_data p field ts)) given)

    abbrev later : List ℕ
    later = drop (run_state p field ts).section_left (drop (length (run_data p field ts)) given)

    given_is : given ≡ ((run_data p field ts) ++ due) ++ later
    given_is =
        sym
        (append_assoc (run_data p field ts) due later
        ∙ ap₂ (λ (x y : List ℕ). x ++ y) (sym same) (take-append-drop (run_state p field ts).section_left (drop (length (run_data p field ts)) given))
        ∙ take-append-drop (length (run_data p field ts)) given)

    -- where a section is begun, the sections so far are followed by the data due
    sections_first : (m : ℕ) → begun_so_far ≡ suc m → up_to given begun_so_far ≡ up_to (run_data p field ts) begun_so_far ++ due
    sections_first m e =
        let r = reached in
        let s = r.section_sum in
        let up = before_le p.places begun_so_far p.count r.begun_few in
        let b = ap (data_before p.places) e in
        let z : begun_so_far - 1 ≡ m = omega arith in
        let start : data_before p.places m ≤ length (run_data p field ts) = let q = ap (data_before p.places) z in let l = r.last_start in omega arith in
        let long : length due ≡ (run_state p field ts).section_left = simp (length-take, length-drop) (omega arith) in
        let both = length-append (run_data p field ts) due in
        ap₂ up_to given_is e
        ∙ ap (up_to (((run_data p field ts) ++ due) ++ later)) (sym e)
        ∙ sections_kept p.places begun_so_far ((run_data p field ts) ++ due) (omega arith) later
        ∙ ap (up_to ((run_data p field ts) ++ due)) e
        ∙ sections_more p.places m (run_data p field ts) start due (omega arith)
        ∙ ap (λ (k : ℕ). up_to (run_data p field ts) k ++ due) (sym e)

    image_is : image_with p field given ≡ header ++ up_to given p.count
    unfolding image_with
    image_is = sym (append_assoc (header_bytes p) (be_bytes 4 field) (body_bytes p given))

    abbrev image_begins : List ℕ → Type 0
    image_begins rest = image_with p field given ≡ (run_bytes p field ts) ++ rest

    -- the bytes written are the first bytes of the image of any data that begins with the data taken
    pub written_first : (run_bytes p field ts) ≡ take (length (run_bytes p field ts)) (image_with p field given)
    written_first = ⊎_elim (λ (h : begun_so_far ≤ 0). first_of _ (in_header (omega arith))) (λ (h : 0 < begun_so_far). first_of _ (in_sections (begun_so_far - 1) (omega arith))) (le_or_lt begun_so_far 0)
      where
        first_of : (rest : List ℕ) → image_begins rest → (run_bytes p field ts) ≡ take (length (run_bytes p field ts)) (image_with p field given)
        first_of rest e = sym (ap (take (length (run_bytes p field ts))) e ∙ take_at (run_bytes p field ts) rest (length (run_bytes p field ts)) refl)

        in_header : begun_so_far ≡ 0 → image_begins (drop (run_state p field ts).header_written header ++ up_to given p.count)
        in_header z =
            let w = (run_state p field ts).header_written in
            let none : up_to (run_data p field ts) begun_so_far ≡ [] = ap (up_to (run_data p field ts)) z ∙ join_zero (section_bytes p.places (run_data p field ts)) in
            image_is
            ∙ ap (λ (x : List ℕ). x ++ up_to given p.count) (sym (take-append-drop w header))
            ∙ append_assoc (take w header) (drop w header) (up_to given p.count)
            ∙ ap (λ (x : List ℕ). x ++ (drop w header ++ up_to given p.count)) (sym (reached.bytes_are ∙ ap (λ (x : List ℕ). take w header ++ x) none ∙ append-nil (take w header)))

        in_sections : (m : ℕ) → begun_so_far ≡ suc m → image_begins (due ++ join_from (section_bytes p.places given) (p.count - begun_so_far) (0 + begun_so_far))
        in_sections m e =
            let f = reached.begun_few in
            let rest = join_from (section_bytes p.places given) (p.count - begun_so_far) (0 + begun_so_far) in
            let n : p.count ≡ begun_so_far + (p.count - begun_so_far) = omega arith in
            let h : (run_state p field ts).header_written ≡ header_size = reached.header_first (omega arith) in
            let all : take (run_state p field ts).header_written header ≡ header = take_all (run_state p field ts).header_written header (let l = header_long in omega arith) in
            image_is
            ∙ ap (λ (k : ℕ). header ++ up_to given k) n
            ∙ ap (λ (x : List ℕ). header ++ x) (join_add (section_bytes p.places given) begun_so_far (p.count - begun_so_far) 0 ∙ ap (λ (x : List ℕ). x ++ rest) (sections_first m e) ∙ append_assoc (up_to (run_data p field ts) begun_so_far) due rest)
            ∙ sym (append_assoc header (up_to (run_data p field ts) begun_so_far) (due ++ rest))
            ∙ ap (λ (x : List ℕ). x ++ (due ++ rest)) (sym (reached.bytes_are ∙ ap (λ (x : List ℕ). x ++ up_to (run_data p field ts) begun_so_far) all))

-- ---- the data passed twice: a run from any number gives the checksum, and a second run from that checksum, over the same data, writes the plain image

pub passed_twice : (p : Plan) (field : ℕ) (ok : (plan_length p).verdict ≡ Accepted) (ts us : List WriteStep)
    → length (run_data p field ts) ≡ data_needed p
    → (let sum = (writing_summed (run_state p field ts)).checksum in
    run_data p sum us ≡ run_data p field ts → length (run_bytes p sum us) ≡ plain_size p → run_bytes p sum us ≡ plain_image p (run_data p field ts))
passed_twice p field ok ts us all same whole =
    let sum = (writing_summed (run_state p field ts)).checksum in
    complete_plain p sum ok us whole (finish_checksum p field ok ts all ∙ ap (λ (d : List ℕ). crc32 (header_bytes p ++ body_bytes p d)) (sym same))
    ∙ ap (plain_image p) same
