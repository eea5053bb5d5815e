-- Two views that agree on what the rules look at have the same reading.
-- Assumes nothing.
use Prim.Native.Nat.{ℕ, zero, suc, ◌+◌, ◌<◌, ◌≤◌}
use mathlib.Core.Path.{◌≡◌, refl, sym, ap, ap₂, ◌∙◌}
use mathlib.Core.Bool.{not}
use mathlib.Core.Logic.{⊎_elim}
use native.Mathlib.Omega.{arith}
use borrow.Author.Tests.{lt-ltb, le-ltb, eq-eqb, ne_eqb}
use lib.Dec.{eqb}
use Rattle.eif.specs.Numbers.{size_limit, place_count, image_too_short, checksum_differs}
use Rattle.octets.specs.Logic.{choose}
use Rattle.eif.specs.Answers.{refuse, index_of, whole_at, whole_verdict}
use Rattle.eif.specs.Rules.{field_fault, first_fault, missing_fault}
use Rattle.eif.specs.Table.{filled}
use Rattle.eif.specs.Layout.{header_size, section_header_size, entry_size, offsets_at, sizes_at, entry_at, checksum_at, View, version, count, offset, table_size, end, start, header_flags, default_mem, default_cpus, header_flags_at, default_mem_at, default_cpus_at, magic_at, version_at, count_at}
use Rattle.eif.specs.Reading.{header_fault, entry_fault, section_fault, tail_fault, checksum_fault, position_in, located, judged, early, verdict_in, blank_section, section, sections, reading_of, read_view}
use Rattle.eif.specs.declared.Verdict.{Verdict}
use Rattle.eif.specs.declared.Verdict.TheVariants.{Accepted, Refused}
use Rattle.octets.proofs.Logic.{equal_or_not, le_or_lt}
use Rattle.eif_lemmas.proofs.Verdicts.{then_accepted, then_same, accepted_zero, walk_accepted, walk_same}
use Rattle.eif_lemmas.proofs.Types.{order_same, missing_same}
use Rattle.eif_lemmas.proofs.Table.{filled_same}
use Rattle.eif_lemmas.proofs.Position.{located_accepted, early_accepted, judged_index}
use Rattle.eif_lemmas.proofs.View.{header, sound_of}

-- section i is there, and its own header lies in the file, past the file's header
pub record Lies (v : View) (i : ℕ) : Type 0 where
  pub counted : i < count v
  pub place : i < place_count
  pub starts : header_size ≤ offset v i
  pub ends : offset v i + section_header_size ≤ v.size

pub record Agree (v w : View) : Type 0 where
  pub sizes : v.size ≡ w.size
  pub headers : header_size ≤ w.size → (k at : ℕ) → at + k ≤ header_size → v.header k at ≡ w.header k at
  pub kinds : (i : ℕ) → Lies w i → v.kind i ≡ w.kind i
  pub flags : (i : ℕ) → Lies w i → v.flags i ≡ w.flags i
  pub own_sizes : (i : ℕ) → Lies w i → v.own_size i ≡ w.own_size i

-- ---- sections without a fault lie in the file

module _ (v : View) where
  start_low : (i : ℕ) → ((k : ℕ) → k < i → section_fault v k ≡ 0) → header_size ≤ start v i
  start_low zero good = omega arith
  start_low (suc i) good =
      let a = sound_of v i (good i (omega arith)) in
      let b = start_low i (λ k l. good k (omega arith)) in
      let c = a.starts in
      omega arith

  lies : (i : ℕ) → i ≤ place_count → i ≤ count v → ((k : ℕ) → k < i → section_fault v k ≡ 0) → (j : ℕ) → j < i → Lies v j
  lies i few all good j l =
      let a = sound_of v j (good j l) in
      let b = start_low j (λ k p. good k (omega arith)) in
      let c = a.starts in
      let d = a.ends in
      record { counted = omega arith; place = omega arith; starts = omega arith; ends = omega arith }

-- ---- two that agree

module _ (v w : View) (same : Agree v w) where
  header_same : header_fault v ≡ header_fault w
  unfolding header_fault field_fault
  header_same =
      ⊎_elim
      (λ h.
      let m = same.headers h 4 magic_at (omega arith) in
      let n = same.headers h 2 version_at (omega arith) in
      let c = same.headers h 2 count_at (omega arith) in
      rw (same.sizes, m, n, c))
      (λ h. rw same.sizes (simp (lt-ltb w.size header_size h)))
      (le_or_lt header_size w.size)

  module _ (whole : header_size ≤ w.size) where
    version_same : version v ≡ version w
    version_same = same.headers whole 2 version_at (omega arith)

    count_same : count v ≡ count w
    count_same = same.headers whole 2 count_at (omega arith)

    offset_same : (i : ℕ) → i < place_count → offset v i ≡ offset w i
    offset_same i h = same.headers whole entry_size (entry_at offsets_at i) (omega arith)

    size_same : (i : ℕ) → i < place_count → table_size v i ≡ table_size w i
    size_same i h = same.headers whole entry_size (entry_at sizes_at i) (omega arith)

    end_same : (i : ℕ) → i < place_count → end v i ≡ end w i
    end_same i h = ap₂ (λ (a b : ℕ). a + section_header_size + b) (offset_same i h) (size_same i h)

    start_same : (i : ℕ) → i ≤ place_count → start v i ≡ start w i
    start_same zero h = refl
    start_same (suc i) h = end_same i (omega arith)

    section_same : (i : ℕ) → i < place_count → i < count w → ((k : ℕ) → k < i → section_fault w k ≡ 0) → section_fault v i ≡ section_fault w i
    unfolding section_fault entry_fault
    section_same i h n good =
        let low = start_low w i good in
        let before = lies w i (omega arith) (omega arith) good in
        let b = start_same i (omega arith) in
        ⊎_elim
        (λ (p : start w i ≤ offset w i).
        ⊎_elim
        (λ (z : offset w i ≡ start w i).
        ⊎_elim
        (λ (q : end w i ≤ w.size).
        let l : Lies w i = record { counted = n; place = h; starts = omega arith; ends = omega arith } in
        let o = order_same v.kind w.kind (w.kind i) i (λ j g. same.kinds j (before j g)) in
        rw (offset_same i h, b, size_same i h, same.sizes, version_same, same.own_sizes i l, same.kinds i l, o))
        (λ (q : w.size < end w i). rw (offset_same i h, b, size_same i h, same.sizes) (simp (le-ltb (offset w i) (start w i) p, eq-eqb (offset w i) (start w i) z, lt-ltb w.size (end w i) q)))
        (le_or_lt (end w i) w.size))
        (λ (n : offset w i ≡ start w i → ⊥). rw (offset_same i h, b) (simp (le-ltb (offset w i) (start w i) p, ne_eqb (offset w i) (start w i) n)))
        (equal_or_not (offset w i) (start w i)))
        (λ (p : offset w i < start w i). rw (offset_same i h, b) (simp (lt-ltb (offset w i) (start w i) p)))
        (le_or_lt (start w i) (offset w i))

    module _ (few : count w ≤ place_count) where
      tail_same : whole_at (tail_fault v) (start v (count v)) ≡ whole_at (tail_fault w) (start w (count w))
      unfolding tail_fault
      tail_same = rw (count_same, start_same (count w) few, same.sizes)

      walk : first_fault (section_fault v) (count v) 0 ≡ first_fault (section_fault w) (count w) 0
      walk =
          ap (λ (n : ℕ). first_fault (section_fault v) n 0) count_same
          ∙ walk_same (section_fault v) (section_fault w) (count w) (λ j l good. section_same j (omega arith) (omega arith) good)

      module _ (accepted : first_fault (section_fault w) (count w) 0 ≡ Accepted) where
        all_lie : (j : ℕ) → j < count w → Lies w j
        all_lie = lies w (count w) few (omega arith) (λ k l. walk_accepted (section_fault w) (count w) 0 accepted k (omega arith) (omega arith))

        whole_same : missing_fault v.kind (version v) (count v) ≡ missing_fault w.kind (version w) (count w)
        unfolding missing_fault
        whole_same =
            let m = missing_same v.kind w.kind (version w) (count w) (λ j l. same.kinds j (all_lie j l)) in
            rw (version_same, count_same, m)

        sections_same : sections v ≡ sections w
        sections_same =
            ap (filled (section v) blank_section place_count) count_same
            ∙ filled_same (section v) (section w) blank_section place_count (count w) one
          where
            one : (j : ℕ) → j < count w → section v j ≡ section w j
            one j l =
                let p = all_lie j l in
                let a = same.kinds j p in
                let b = same.flags j p in
                let o = offset_same j p.place in
                let z = size_same j p.place in
                rw (a, b, o, z)

  judged_same : judged v ≡ judged w
  unfolding judged
  judged_same =
      then_same _ _ _ _ (ap whole_verdict header_same)
      (λ e.
      let h = header w (accepted_zero _ _ _ e) in
      then_same _ _ _ _ (walk h.whole h.fields.few) (λ a. ap whole_verdict (whole_same h.whole h.fields.few a)))

  -- the position looks only at an entry of the table, and a file too short for one is refused with 2
  located_same : (x : Verdict) → index_of x < place_count → (w.size < header_size → x ≡ refuse image_too_short 0)
      → located v.header x ≡ located w.header x
  unfolding position_in
  located_same Accepted h g = refl
  located_same (Refused r) h g =
      ⊎_elim
      (λ l. let o = offset_same l r.index h in rw o)
      (λ l. ap (located v.header) (g l) ∙ sym (ap (located w.header) (g l)))
      (le_or_lt header_size w.size)

  short : w.size < header_size → judged w ≡ refuse image_too_short 0
  unfolding judged header_fault field_fault
  short l =
      let small : w.size ≤ size_limit = omega arith in
      simp (le-ltb _ _ small, lt-ltb _ _ l)

  -- what an accepted one has
  record Good : Type 0 where
    whole : header_size ≤ w.size
    few : count w ≤ place_count
    walked : first_fault (section_fault w) (count w) 0 ≡ Accepted

  good : judged w ≡ Accepted → Good
  unfolding judged
  good e =
      let a = then_accepted _ _ e in
      let b = then_accepted _ _ a.1 in
      let h = header w (accepted_zero _ _ _ a.0) in
      record { whole = h.whole; few = h.fields.few; walked = b.0 }

  early_same : early v ≡ early w
  unfolding early
  early_same =
      then_same _ _ _ _ (ap (located v.header) judged_same ∙ located_same (judged w) (judged_index w) short)
      (λ e. let g = good (located_accepted _ _ e) in tail_same g.whole g.few)

  module _ (sum : ℕ) where
    verdict_same : verdict_in v sum ≡ verdict_in w sum
    unfolding verdict_in checksum_fault
    verdict_same =
        then_same _ _ _ _ early_same
        (λ e.
        ap (λ (n : ℕ). whole_at (choose (not (eqb n sum)) checksum_differs 0) checksum_at)
        (same.headers (good (early_accepted w e)).whole 4 checksum_at (omega arith)))

    reading_same : (x : Verdict) → (x ≡ Accepted → judged w ≡ Accepted) → reading_of v x ≡ reading_of w x
    reading_same (Refused r) h = refl
    reading_same Accepted h =
        let f = good (h refl) in
        let n = sections_same f.whole f.few f.walked in
        let g = same.headers f.whole 2 header_flags_at (omega arith) in
        let m = same.headers f.whole 8 default_mem_at (omega arith) in
        let c = same.headers f.whole 8 default_cpus_at (omega arith) in
        made (version_same f.whole) g m c (count_same f.whole) n
      where
        made : version v ≡ version w → header_flags v ≡ header_flags w → default_mem v ≡ default_mem w → default_cpus v ≡ default_cpus w
            → count v ≡ count w → sections v ≡ sections w → reading_of v Accepted ≡ reading_of w Accepted
        made a b c d e f = cc

    early_of : verdict_in w sum ≡ Accepted → judged w ≡ Accepted
    unfolding verdict_in
    early_of e = early_accepted w (then_accepted _ _ e).0

    pub read_same : read_view v sum ≡ read_view w sum
    unfolding read_view
    read_same = ap (reading_of v) verdict_same ∙ reading_same (verdict_in w sum) early_of
