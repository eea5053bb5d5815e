-- The sections of a staged view that is not refused: each has the base's type, and its data is the staged part. So their records and
-- streams are those of the image written afresh.
-- Assumes nothing.
use Prim.Native.Nat.{ℕ, ◌+◌, ◌-◌, ◌^◌, ◌<◌, ◌≤◌, min}
use mathlib.Core.Path.{◌≡◌, sym, ap, ap₂, ◌∙◌}
use mathlib.Core.Bool.{Bool, true, false}
use mathlib.Core.List.{List, [], ◌++◌}
use mathlib.Core.Logic.{⊎_elim}
use native.Mathlib.Omega.{arith}
use borrow.Author.Tests.{eq-eqb, ne_eqb, lt-ltb, le-ltb}
use lib.Dec.{ltb, eqb}
use lib.ListN.{length, set, take, drop, length-take, length-drop, drop_of_length-le}
use lib.Seq.{take-length, drop-nil}
use Rattle.octets.specs.Lists.{joined_by}
use Rattle.eif.specs.Numbers.{place_count, size_limit}
use Rattle.octets.specs.Logic.{choose}
use Rattle.eif.specs.Table.{filled}
use Rattle.eif.specs.Layout.{header_flags_of, count_of, kind_at}
use Rattle.eif.specs.Reading.{verdict_of, blank_section, section_at, sections_of, read_image, data_of, own_data}
use Rattle.eif.specs.Plan.{plain_size}
use Rattle.eif.specs.Roll.{Record, flags_record, roll_of, records_of, roll_bytes, records_by}
use Rattle.eif.specs.Stream.{stream_sections, stream_of}
use Rattle.eif.specs.declared.Section.{Section}
use Rattle.eif.specs.declared.Stream.{Stream}
use Rattle.eif.specs.declared.Verdict.TheVariants.{Accepted}
use Rattle.octets.proofs.Logic.{equal_or_not, le_or_lt, choose_holds}
use Rattle.eif_lemmas.proofs.Table.{length_filled}
use Rattle.eif_lemmas.proofs.Accept.{Inside, passes, sound_at}
use Rattle.eif_lemmas.proofs.Reading.{reading_section}
use Rattle.plain_laws.proofs.Written.{size_small, read_flags}
use Rattle.plain_laws.proofs.WriteBack.{sound_head}
use Rattle.staged.specs.Staged.{afresh}
use Rattle.staged.specs.View.{moved, staged_sections, held_by, held_start}
use Rattle.staged.proofs.Accept.{Stages, base_flags, base_sections}
use Rattle.staged.proofs.Afresh.{part_at, parts_joined, changed_plan, fresh_image, plan_is, afresh_is, part_replaced, size_kept, changed_planned, fresh_count, fresh_kind, fresh_data}
use Rattle.staged.proofs.Same.{same_records, set_filled}
use Rattle.eif_lemmas.proofs.Streams.{same_stream}

-- ---- the data of a section by where it starts

module _ (s r : List ℕ) (x : Section) where
  pub held_base : x.position.0 < length s → held_by s r x ≡ data_of s x
  unfolding held_by
  held_base h = simp (lt-ltb _ _ h)

  pub held_after : length s ≤ x.position.0 → held_by s r x ≡ data_of r (moved x (x.position.0 - length s) x.length.0)
  unfolding held_by
  held_after h = simp (le-ltb _ _ h)

  -- and where it stands
  pub start_base : (base replacement : ℕ × ℕ) → x.position.0 < length s → held_start s r x base replacement ≡ (base.0, base.1 + min x.position.0 (length s))
  unfolding held_start
  start_base base replacement h = simp (lt-ltb _ _ h)

  pub start_after : (base replacement : ℕ × ℕ) → length s ≤ x.position.0
      → held_start s r x base replacement ≡ (replacement.0, replacement.1 + min (x.position.0 - length s) (length r))
  unfolding held_start
  start_after base replacement h = simp (le-ltb _ _ h)

  -- a section that lies in the base
  pub held_inside : Inside s x → held_by s r x ≡ data_of s x
  held_inside h =
      ⊎_elim
      (λ (g : length s ≤ x.position.0).
      let z : x.length.0 ≡ 0 = omega arith in
      held_after g
      ∙ ap (λ (n : ℕ). take n (drop (x.position.0 - length s) r)) z
      ∙ sym (ap (λ (n : ℕ). take n (drop x.position.0 s)) z))
      (λ (g : x.position.0 < length s). held_base g)
      (le_or_lt (length s) x.position.0)

  -- no data is longer than both slices
  pub held_within : (n : ℕ) → length s ≤ n → length r ≤ n → length (held_by s r x) ≤ n
  unfolding held_by
  held_within n hs hr =
      let m = x.length.0 in
      let p = x.position.0 in
      choose_holds (λ (d : List ℕ). length d ≤ n) (ltb p (length s)) (take m (drop p s)) (take m (drop (p - length s) r))
      (λ _. omega (arith, length-take m (drop p s), length-drop p s))
      (λ _. omega (arith, length-take m (drop (p - length s) r), length-drop (p - length s) r))

-- with nothing after the base it is the base's
pub held_alone : (s : List ℕ) (x : Section) → held_by s [] x ≡ data_of s x
held_alone s x =
    ⊎_elim
    (λ (g : length s ≤ x.position.0).
    let a : drop x.position.0 s ≡ [] = drop_of_length-le s {i = x.position.0} g in
    held_after s [] x g
    ∙ ap (take x.length.0) (drop-nil (x.position.0 - length s) ∙ sym a))
    (λ (g : x.position.0 < length s). held_base s [] x g)
    (le_or_lt (length s) x.position.0)

-- ---- the sections of the view

module _ (s r : List ℕ) (k : ℕ) where
  -- the replaced section as the view lists it, and section i
  abbrev moved_section : Section
  moved_section = moved (section_at s k) (length s) (length r)

  abbrev pub staged_at : ℕ → Section
  staged_at i = choose (eqb i k) moved_section (section_at s i)

  replaced_data : held_by s r moved_section ≡ r
  replaced_data =
      let z : length s - length s ≡ 0 = omega arith in
      held_after s r moved_section (omega arith)
      ∙ ap (λ (n : ℕ). take (length r) (drop n r)) z ∙ take-length r

  module _ (ok : verdict_of s ≡ Accepted) where
    pub held_is : (i : ℕ) → i < count_of s → held_by s r (staged_at i) ≡ part_at s r k ok i
    held_is i h = by (eqb i k)
      where
        by : (b : Bool) → held_by s r (choose b moved_section (section_at s i)) ≡ choose b r (own_data s i)
        by true = replaced_data
        by false = held_inside s r (section_at s i) (sound_at s ok i h).ends

    pub kind_is : (i : ℕ) → (staged_at i).kind ≡ kind_at s i
    kind_is i =
        ⊎_elim
        (λ (e : i ≡ k). simp (eq-eqb i k e) (ap (kind_at s) (sym e)))
        (λ (n : i ≡ k → ⊥). simp (ne_eqb i k n))
        (equal_or_not i k)

    module _ (h : k < count_of s) where
      pub sections_are : staged_sections (read_image s).sections k (length s) (length r) ≡ filled staged_at blank_section place_count (count_of s)
      unfolding staged_sections
      sections_are =
          let few = (sound_head s ok).fields.few in
          ap₂ (λ (l : List Section) (x : Section). set l k (moved x (length s) (length r))) (base_sections s ok) (reading_section s ok k h)
          ∙ set_filled (section_at s) blank_section moved_section place_count (count_of s) k h few

-- ---- their records and streams are those of the image written afresh

module _ (s r : List ℕ) (k j : ℕ) (a : Stages s (length r) k j) where
  abbrev ok : verdict_of s ≡ Accepted
  ok = a.accepted

  pub within : plain_size (changed_plan s r k ok (length r)) ≤ size_limit
  within = let e = ap plain_size (plan_is s r k ok (length r)) in let h = a.small in omega arith

  -- the replacement is no longer than an image
  replacement_small : length r ≤ size_limit
  replacement_small =
      let h = a.replaced in
      let m = size_small (changed_plan s r k ok (length r)) (parts_joined s r k ok) (changed_planned s r k ok h within) k h in
      let e = size_kept s r k ok h k h in
      let q = ap length (part_replaced s r k ok) in
      omega arith

  -- so no data of the view is
  pub held_short : (x : Section) → length (held_by s r x) ≤ size_limit
  held_short x = held_within s r x size_limit (passes s ok).head.small replacement_small

  abbrev image : List ℕ
  image = fresh_image s r k ok

  abbrev pub staged_list : List Section
  staged_list = staged_sections (read_image s).sections k (length s) (length r)

  same_kinds : (i : ℕ) → i < count_of s → (staged_at s r k i).kind ≡ (section_at image i).kind
  same_kinds i h = kind_is s r k ok i ∙ sym (fresh_kind s r k ok a.replaced within i h)

  same_bytes_holds : (i : ℕ) → i < count_of s → held_by s r (staged_at s r k i) ≡ own_data image i
  same_bytes_holds i h = held_is s r k ok i h ∙ sym (fresh_data s r k ok a.replaced within i h)

  fresh_sections : filled (section_at image) blank_section place_count (count_of s) ≡ sections_of image
  fresh_sections = ap (filled (section_at image) blank_section place_count) (sym (fresh_count s r k ok a.replaced within))

  pub records_are : records_by (held_by s r) staged_list ≡ records_of (afresh s r k)
  records_are =
      ap (records_by (held_by s r)) (sections_are s r k ok a.replaced)
      ∙ same_records (held_by s r) (data_of image) place_count (count_of s) (staged_at s r k) (section_at image) same_kinds same_bytes_holds
      ∙ ap (records_by (data_of image)) fresh_sections
      ∙ ap records_of (sym (afresh_is s r k ok))

  pub stream_is : (stream : Stream) → joined_by (held_by s r) (stream_sections stream staged_list) ≡ stream_of (afresh s r k) stream
  unfolding stream_of
  stream_is = same_stream (held_by s r) (data_of (afresh s r k)) staged_list (sections_of (afresh s r k)) records_are

  pub listed_long : length staged_list ≡ place_count
  listed_long = ap length (sections_are s r k ok a.replaced) ∙ length_filled (staged_at s r k) blank_section place_count (count_of s)

  -- the flags of the image written afresh are the base's, which fit in two bytes
  pub flags_are : (read_image s).flags < 2 ^ 16 → header_flags_of (afresh s r k) ≡ (read_image s).flags
  flags_are h =
      let e = base_flags s ok in
      let g : header_flags_of s < 2 ^ 16 = omega arith in
      ap header_flags_of (afresh_is s r k ok)
      ∙ read_flags (changed_plan s r k ok (length r)) (parts_joined s r k ok) (changed_planned s r k ok a.replaced within) g ∙ sym e

  -- the roll of the image written afresh
  pub roll_is : (read_image s).flags < 2 ^ 16 → flags_record (read_image s).flags ++ roll_of (records_by (held_by s r) staged_list) ≡ roll_bytes (afresh s r k)
  unfolding roll_bytes
  roll_is h = ap₂ (λ (f : ℕ) (l : List Record). flags_record f ++ roll_of l) (sym (flags_are h)) records_are
