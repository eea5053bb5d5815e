-- What a state is after a run of steps: a function of the data taken and the bytes written so far.
use Prim.Native.Nat.{ℕ, suc, ◌+◌, ◌-◌, ◌<◌, ◌≤◌, min}
use mathlib.Core.Path.{◌≡◌, refl, sym, ap, ap₂, ◌∙◌}
use mathlib.Core.Bool.{Bool, true, false}
use mathlib.Core.List.{List, [], ◌∷◌, ◌++◌, append_assoc, append-nil}
use mathlib.Core.Logic.{⊎_elim}
use native.Mathlib.Omega.{arith}
use lib.ListN.{length, take, drop, length-append, length-take}
use lib.Seq.{take-add}
use Rattle.octets.specs.Bytes.{be_bytes}
use Rattle.octets.proofs.Logic.{equal_or_not, le_or_lt}
use Rattle.crc32.specs.Crc.{crc_from, ones32}
use Rattle.crc32.proofs.Linear.{crc_from_append}
use Rattle.eif.specs.Numbers.{place_count}
use Rattle.eif.specs.Layout.{header_size}
use Rattle.eif.specs.Table.{join_from}
use Rattle.eif.specs.Plan.{place_at, planned_size, data_before, header_bytes, section_header, section_bytes}
use Rattle.eif.specs.declared.Place.{Place}
use Rattle.eif.specs.declared.Plan.{Plan}
use Rattle.plain_laws.proofs.Shape.{before_le, before_suc, before_zero}
use Rattle.writing.specs.Writing.{start_writing, sections_in, data_step, data_bytes, header_step, header_part, begins_section, section_step, next_header, writing_stepped, step_bytes}
use Rattle.writing.specs.declared.Writing.{Writing}
use Rattle.writing.specs.declared.Stepped.{Stepped}
use Rattle.writing.proofs.Steps.{step_data_holds, step_header, step_section, step_none, begins_inside}
use Rattle.writing_laws.specs.Runs.{WriteStep, after_step, step_data, bytes_of_step, after_steps, data_taken, bytes_written}
use Rattle.writing_laws.proofs.Sections.{sections_more, sections_begun}

module _ (p : Plan) (field : ℕ) (few : p.count ≤ place_count) where
  abbrev places : List Place
  places = p.places

  abbrev whole_header : List ℕ
  whole_header = header_bytes p ++ be_bytes 4 field

  -- the first k sections, with data d
  abbrev sections_up_to : List ℕ → ℕ → List ℕ
  sections_up_to d k = join_from (section_bytes places d) k 0

  -- the state a after data d was taken and bytes g were written
  pub record Reached (d g : List ℕ) (a : Writing) : Type 0 where
    pub header_is : a.header ≡ whole_header
    pub places_are : a.places ≡ places
    pub count_is : a.count ≡ p.count
    pub header_few : a.header_written ≤ header_size
    pub header_first : 0 < a.sections_begun → a.header_written ≡ header_size
    pub begun_few : a.sections_begun ≤ p.count
    pub data_sum : length d + a.data_left ≡ data_before places p.count
    pub section_sum : length d + a.section_left ≡ data_before places a.sections_begun
    pub last_start : data_before places (a.sections_begun - 1) ≤ length d
    pub bytes_are : g ≡ take a.header_written whole_header ++ sections_up_to d a.sections_begun
    pub checksum_is : a.checksum ≡ crc_from (crc_from ones32 (header_bytes p)) (sections_up_to d a.sections_begun)

  pub reached_start : Reached [] [] (start_writing p field)
  unfolding start_writing join_from crc_from
  reached_start =
      record {
        header_is = refl;
        places_are = refl;
        count_is = refl;
        header_few = omega arith;
        header_first = λ h. absurd (omega arith);
        begun_few = omega arith;
        data_sum = omega arith;
        section_sum = let z = before_zero places in omega arith;
        last_start = let z = before_zero places in omega arith;
        bytes_are = refl;
        checksum_is = refl;
      }

  -- ---- a step

  module _ (d g : List ℕ) (a : Writing) (r : Reached d g a) (lent : List ℕ) (room : ℕ) where
    -- the state, the data taken and the bytes written after an answer
    abbrev NextReached : Stepped → List ℕ → Type 0
    NextReached s bytes = Reached (d ++ take s.taken lent) (g ++ bytes) s.state

    next_data : (a.section_left ≡ 0 → ⊥) → NextReached (data_step a lent room) (data_bytes a lent room)
    unfolding data_step data_bytes
    next_data some =
        let n = min a.section_left (min (length lent) room) in
        let x = take n lent in
        let k = a.sections_begun in
        let m = k - 1 in
        let long : length x ≡ n = rw length-take (omega arith) in
        let both = length-append d x in
        let sum = r.section_sum in
        let all = r.data_sum in
        let up = before_le places k p.count r.begun_few in
        let last : k ≡ suc m =
        ⊎_elim
        (λ (z : k ≤ 0). let e : k ≡ 0 = omega arith in let b = ap (data_before places) e ∙ before_zero places in absurd (some (omega arith)))
        (λ (h : 0 < k). omega arith)
        (le_or_lt k 0) in
        let b = ap (data_before places) last in
        let more : sections_up_to (d ++ x) k ≡ sections_up_to d k ++ x =
        ap (sections_up_to (d ++ x)) last ∙ sections_more places m d r.last_start x (omega arith) ∙ ap (λ (j : ℕ). sections_up_to d j ++ x) (sym last) in
        record {
          header_is = r.header_is;
          places_are = r.places_are;
          count_is = r.count_is;
          header_few = r.header_few;
          header_first = r.header_first;
          begun_few = r.begun_few;
          data_sum = omega arith;
          section_sum = omega arith;
          last_start = let s = r.last_start in omega arith;
          bytes_are = ap (λ (q : List ℕ). q ++ x) r.bytes_are ∙ append_assoc (take a.header_written whole_header) (sections_up_to d k) x
              ∙ ap (λ (q : List ℕ). take a.header_written whole_header ++ q) (sym more);
          checksum_is = ap (λ (c : ℕ). crc_from c x) r.checksum_is ∙ sym (crc_from_append (crc_from ones32 (header_bytes p)) (sections_up_to d k) x)
              ∙ ap (crc_from (crc_from ones32 (header_bytes p))) (sym more);
        }

    -- a step that takes no data
    no_data : (s : Stepped) (bytes : List ℕ) → s.taken ≡ 0 → Reached d (g ++ bytes) s.state → NextReached s bytes
    no_data s bytes e x = let z : d ++ take s.taken lent ≡ d = ap (λ (n : ℕ). d ++ take n lent) e ∙ append-nil d in rw z x

    no_sections : (k : ℕ) → k ≡ 0 → sections_up_to d k ≡ []
    unfolding join_from
    no_sections k e = ap (sections_up_to d) e

    next_header_holds : a.section_left ≡ 0 → a.header_written < header_size → NextReached (header_step a room) (header_part a room)
    unfolding header_step header_part
    next_header_holds none h =
        let n = min (header_size - a.header_written) room in
        let w = a.header_written in
        let begun : a.sections_begun ≡ 0 =
        ⊎_elim (λ (z : a.sections_begun ≤ 0). omega arith) (λ (q : 0 < a.sections_begun). let e = r.header_first q in absurd (omega arith)) (le_or_lt a.sections_begun 0) in
        let empty : sections_up_to d a.sections_begun ≡ [] = no_sections a.sections_begun begun in
        no_data (header_step a room) (header_part a room) refl
        (record {
          header_is = r.header_is;
          places_are = r.places_are;
          count_is = r.count_is;
          header_few = omega arith;
          header_first = λ q. absurd (omega arith);
          begun_few = r.begun_few;
          data_sum = r.data_sum;
          section_sum = r.section_sum;
          last_start = r.last_start;
          bytes_are = ap₂ (λ (x y : List ℕ). x ++ take n (drop w y)) (r.bytes_are ∙ ap (λ (q : List ℕ). take w whole_header ++ q) empty ∙ append-nil (take w whole_header)) r.header_is
              ∙ sym (take-add w n whole_header) ∙ sym (append-nil (take (w + n) whole_header)) ∙ ap (λ (q : List ℕ). take (w + n) whole_header ++ q) (sym empty);
          checksum_is = r.checksum_is;
        })

    next_section : a.section_left ≡ 0 → header_size ≤ a.header_written → a.sections_begun < sections_in a → NextReached (section_step a) (next_header a)
    unfolding section_step next_header
    next_section none h q =
        let k = a.sections_begun in
        let w = a.header_written in
        let c = r.count_is in
        let sum = r.section_sum in
        let top = r.header_few in
        let next : k + 1 ≡ suc k = omega arith in
        let size = ap (λ (l : List Place). planned_size l k) r.places_are in
        let own = ap (λ (l : List Place). section_header (place_at l k)) r.places_are in
        let b = before_suc places k in
        let e = ap (data_before places) next in
        let z : k + 1 - 1 ≡ k = omega arith in
        let s = ap (data_before places) z in
        let more : sections_up_to d k ++ section_header (place_at a.places k) ≡ sections_up_to d (k + 1) =
        ap (λ (x : List ℕ). sections_up_to d k ++ x) own ∙ sym (sections_begun places k d (omega arith)) ∙ ap (sections_up_to d) (sym next) in
        no_data (section_step a) (next_header a) refl
        (record {
          header_is = r.header_is;
          places_are = r.places_are;
          count_is = r.count_is;
          header_few = top;
          header_first = λ x. omega arith;
          begun_few = omega arith;
          data_sum = r.data_sum;
          section_sum = omega arith;
          last_start = omega arith;
          bytes_are = ap (λ (x : List ℕ). x ++ section_header (place_at a.places k)) r.bytes_are
              ∙ append_assoc (take w whole_header) (sections_up_to d k) (section_header (place_at a.places k)) ∙ ap (λ (x : List ℕ). take w whole_header ++ x) more;
          checksum_is = ap (λ (n : ℕ). crc_from n (section_header (place_at a.places k))) r.checksum_is
              ∙ sym (crc_from_append (crc_from ones32 (header_bytes p)) (sections_up_to d k) (section_header (place_at a.places k)))
              ∙ ap (crc_from (crc_from ones32 (header_bytes p))) more;
        })

    next_none : NextReached (record { state = a; taken = 0; written = 0 }) []
    next_none = rw (append-nil d, append-nil g) r

    -- the row that applies
    pub reached_step : Reached (d ++ take (writing_stepped a lent room).taken lent) (g ++ step_bytes a lent room) (writing_stepped a lent room).state
    reached_step =
        ⊎_elim
        (λ (e : a.section_left ≡ 0).
        ⊎_elim
        (λ (h : header_size ≤ a.header_written). by_section e h (begins_section a room) refl)
        (λ (h : a.header_written < header_size). along (step_header a lent room e h) (next_header_holds e h))
        (le_or_lt header_size a.header_written))
        (λ (n : a.section_left ≡ 0 → ⊥). along (step_data_holds a lent room n) (next_data n))
        (equal_or_not a.section_left 0)
      where
        along : {s : Stepped} {bytes : List ℕ} → (s ≡ writing_stepped a lent room) × (bytes ≡ step_bytes a lent room) → NextReached s bytes → NextReached (writing_stepped a lent room) (step_bytes a lent room)
        along e x = rw (sym e.0, sym e.1) x

        by_section : a.section_left ≡ 0 → header_size ≤ a.header_written → (b : Bool) → begins_section a room ≡ b → NextReached (writing_stepped a lent room) (step_bytes a lent room)
        by_section e h true q = along (step_section a lent room e h q) (next_section e h (begins_inside a room q))
        by_section e h false q = along (step_none a lent room e h q) next_none

  -- ---- a run

  pub reached_run : (ts : List WriteStep) (d g : List ℕ) (a : Writing) → Reached d g a → Reached (d ++ data_taken a ts) (g ++ bytes_written a ts) (after_steps a ts)
  unfolding data_taken bytes_written after_steps
  reached_run [] d g a r = rw (append-nil d, append-nil g) r
  reached_run (t ∷ ts) d g a r =
      rw (sym (append_assoc d (step_data a t) (data_taken (after_step a t) ts)), sym (append_assoc g (bytes_of_step a t) (bytes_written (after_step a t) ts)))
      (reached_run ts (d ++ step_data a t) (g ++ bytes_of_step a t) (after_step a t) (reached_step d g a r t.lent t.room))
