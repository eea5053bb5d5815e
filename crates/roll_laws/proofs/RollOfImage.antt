-- The rest of the roll of every accepted image is accepted, and the roll is shorter than the image.
-- Assumes nothing.
use Prim.Native.Nat.{ℕ, zero, suc, ◌+◌, ◌-◌, ◌<◌, ◌≤◌}
use mathlib.Core.Path.{◌≡◌, refl, sym, ap, subst, ◌∙◌}
use mathlib.Core.Bool.{true, false}
use mathlib.Core.List.{List, [], ◌∷◌, ◌++◌, map, append-nil}
use native.Mathlib.Omega.{arith}
use native.Mathlib.Nat.{le_trans}
use borrow.Author.Tests.{leb-true}
use lib.Dec.{leb}
use lib.ListN.{length, drop, length-append, length-map, length-take, length-drop}
use lib.Seq.{drop-cons, drop-length}
use Rattle.plain_laws.proofs.Shape.{packed_zero, packed_suc}
use Rattle.octets.specs.Lists.{All, sum_by}
use Rattle.octets.specs.Bytes.{le_field}
use Rattle.octets.proofs.Value.{le_field_drop, le_field_drop0}
use Rattle.eif.specs.Numbers.{size_limit, place_count, kernel, command_line, ramdisk}
use Rattle.octets.specs.Logic.{choose}
use Rattle.eif.specs.Rules.{boot_type, seen, order_fault, boot_missing, missing}
use Rattle.eif.specs.Layout.{header_size, section_header_size, version_of, header_flags_of, count_of, offset_at, size_at, start_at, kind_at}
use Rattle.eif.specs.Reading.{verdict_of, section_at, blank_section, sections_of, data_of, section_kind}
use Rattle.eif.specs.Roll.{Record, head_of, end_type, flags_record, roll_of, record_for, measured_in, records_by, records_of, roll_bytes, record_at, record_size, record_kind, size_as_image, record_head_size, record_type_at, record_length_at}
use Rattle.eif.specs.declared.Section.{Section}
use Rattle.eif.specs.declared.Stream.TheVariants.{Whole}
use Rattle.eif.specs.declared.Verdict.TheVariants.{Accepted}
use Rattle.octets.proofs.Logic.{both_true, either_false, choose_holds}
use Rattle.octets.proofs.Lists.{all_map}
use Rattle.eif_lemmas.proofs.Table.{length_filled, all_at}
use Rattle.eif_lemmas.proofs.Accept.{passes, order_at, sound_at, file_ends}
use Rattle.eif_lemmas.proofs.Head.{length_head, head_size, head_kind}
use Rattle.eif_lemmas.proofs.Flags.{length_flags}
use Rattle.eif_lemmas.proofs.Types.{whole_kept}
use Rattle.plain_laws.proofs.WriteBack.{sound_head}
use Rattle.stream_laws.proofs.Sections.{kept_fits}
use Rattle.roll_laws.proofs.RollRules.{WholeRoll}
use Rattle.roll_laws.proofs.Prefix.{FitsHead}
use Rattle.roll_laws.proofs.Positions.{empty_record, say_all, suffix, sizes, kinds}
use Rattle.roll_laws.proofs.Sections.{over_sections}
use Rattle.roll_laws.proofs.ImageOfRoll.{boot_there, known_in_roll}
use Rattle.roll_laws.proofs.Order.{InRoll, Types, Follows, knows_none, knows_both, knows_after, order_of_sections, order_of_records}
use Rattle.eif_lemmas.proofs.Streams.{kind_of_record}

-- ---- records that an image can hold

pub record Held (r : Record) : Type 0 where
  pub low : kernel ≤ r.kind
  pub high : r.kind ≤ ramdisk
  pub small : length r.bytes ≤ size_limit

held_fits : (r : Record) → Held r → FitsHead r
held_fits r h = let l = h.low in let k = h.high in let z = h.small in (omega arith, omega arith, omega arith)

-- what holds of a record that an image can hold, holds of each of a list
module _ (s : List ℕ) (small : length s ≤ size_limit) where
  data_small : (x : Section) → length (data_of s x) ≤ size_limit
  data_small x = simp (length-take, length-drop) (omega arith)

  held_one : (x : Section) → boot_type x.kind ≡ true → Held (record_for (data_of s) x)
  held_one x t = let b = both_true (leb kernel x.kind) (leb x.kind ramdisk) t in record { low = leb-true _ _ b.0; high = leb-true _ _ b.1; small = data_small x }

  all_held_holds : (l : List Section) → All Held (records_by (data_of s) l)
  unfolding All measured_in
  all_held_holds [] = tt
  all_held_holds (x ∷ xs) =
      choose_holds (λ (l : List Section). All Held (map (record_for (data_of s)) l)) (boot_type x.kind) _ _ (λ t. (held_one x t, all_held_holds xs)) (λ _. all_held_holds xs)

-- ---- sizes

-- what records would take in an image
abbrev records_sum : List Record → ℕ
records_sum rs = sum_by (λ (r : Record). section_header_size + length r.bytes) rs

module _ (s : List ℕ) (ok : verdict_of s ≡ Accepted) where
  -- the records of the sections from i on fit where these lie
  abbrev SumFits : ℕ → List Section → Type 0
  SumFits i l = start_at s i + records_sum (map (record_for (data_of s)) l) ≤ start_at s (count_of s)

  sum_one : (x : Section) (i : ℕ) (rest : List Section) → i < count_of s → x ≡ section_at s i → SumFits (suc i) rest
      → SumFits i (choose (boot_type x.kind) (x ∷ rest) rest)
  sum_one x i rest h e r =
      choose_holds (SumFits i) (boot_type x.kind) (x ∷ rest) rest (λ _. le_trans (omega (arith, fits, starts)) r) (λ _. le_trans (omega (arith, starts)) r)
    where
      fits : length (data_of s x) ≤ size_at s i
      fits = rw e (simp length-take (omega arith))

      starts : offset_at s i ≡ start_at s i
      starts = (sound_at s ok i h).starts

  -- the records fit in the image, after its header
  sum_small : header_size + records_sum (records_of s) ≤ length s
  sum_small =
      let a = over_sections (count_of s) (λ x i. x ≡ section_at s i) SumFits (omega arith) sum_one (section_at s) (sound_head s ok).fields.few (λ j l. refl) in
      let b : start_at s (count_of s) ≤ length s = omega (arith, file_ends s ok) in
      le_trans a b

-- ---- the roll of records

length_roll : (rs : List Record) → record_head_size ≤ length (roll_of rs)
unfolding roll_of head_of
length_roll [] = omega arith
length_roll (r ∷ rs) = omega arith

roll_le : (rs : List Record) → length (roll_of rs) ≤ record_head_size + records_sum rs
unfolding roll_of head_of
roll_le [] = omega arith
roll_le (r ∷ rs) = let e = roll_le rs in simp length-append (omega arith)

boot_of_missing : (kinds : ℕ → ℕ) (version n : ℕ) → missing kinds version n ≡ false → boot_missing kinds n ≡ false
unfolding missing
boot_of_missing kinds version n e = (either_false _ _ e).0

none_missing_from : (kinds : ℕ → ℕ) (n : ℕ) → seen kinds kernel n ≡ true → seen kinds command_line n ≡ true → boot_missing kinds n ≡ false
none_missing_from kinds n a b = simp (a, b)

module _ (rs : List Record) (held : All Held rs) where
  abbrev t : List ℕ
  t = roll_of rs

  abbrev n : ℕ
  n = length rs

  fit : All FitsHead rs
  fit = all_map Held FitsHead held_fits rs held

  head_inside : (i : ℕ) → i ≤ n → record_at t i + record_head_size ≤ length t
  head_inside i h =
      let e = sym (length-drop (record_at t i) t) ∙ ap length (suffix rs fit i h) in
      let l = length_roll (drop i rs) in
      omega arith

  at_end : drop (record_at t n) t ≡ head_of 0 end_type ++ []
  unfolding roll_of
  at_end = suffix rs fit n (omega arith) ∙ ap roll_of (drop-length rs) ∙ sym (append-nil (head_of 0 end_type))

  ends_there : record_at t n + record_head_size ≡ length t
  ends_there =
      let e : length t - record_at t n ≡ record_head_size =
      sym (length-drop (record_at t n) t) ∙ ap length (at_end ∙ append-nil (head_of 0 end_type)) ∙ length_head 0 end_type in
      let l = head_inside n (omega arith) in
      omega arith

  end_size_is : record_size t n ≡ 0
  end_size_is = le_field_drop0 8 (record_at t n) t ∙ ap (le_field 8 record_length_at) at_end ∙ head_size 0 end_type [] (omega arith)

  end_kind_is : record_kind t n ≡ end_type
  end_kind_is = le_field_drop 2 record_type_at (record_at t n) t ∙ ap (le_field 2 record_type_at) at_end ∙ head_kind 0 end_type [] (omega arith)

  sizes_sum : (i : ℕ) → i ≤ n → size_as_image t i + records_sum (drop i rs) ≡ header_size + records_sum rs
  sizes_sum zero h = ap (λ (x : ℕ). x + records_sum rs) (packed_zero (record_size t))
  sizes_sum (suc i) h =
      let r = sizes_sum i (omega arith) in
      let e = ap records_sum (drop-cons rs i empty_record h) in
      let z = sizes rs fit i h in
      let q = packed_suc (record_size t) i in
      omega arith

-- ---- of an accepted image

module _ (s : List ℕ) (ok : verdict_of s ≡ Accepted) where
  abbrev rs : List Record
  rs = records_of s

  abbrev roll : List ℕ
  roll = roll_of (records_of s)

  held : All Held (records_of s)
  held = all_held_holds s (sound_head s ok).small (sections_of s)

  pub image_fit : All FitsHead (records_of s)
  image_fit = all_map Held FitsHead held_fits (records_of s) held

  -- each of a type that a roll holds
  pub image_in_roll : All InRoll (records_of s)
  image_in_roll = all_map Held InRoll (λ r h. known_in_roll r.kind h.low h.high) (records_of s) held

  pub image_few : length (records_of s) ≤ place_count
  image_few =
      let few = kept_fits Whole section_kind 0 (sections_of s) in
      let same = ap length (whole_kept 0 (sections_of s)) in
      let each = length-map (measured_in (sections_of s)) (record_for (data_of s)) in
      let many = length_filled (section_at s) blank_section place_count (count_of s) in
      omega arith

  ordered : Follows (kind_at s) (count_of s) [] (records_of s)
  ordered = order_of_sections s (kind_at s) (count_of s) (section_at s) (sound_head s ok).fields.few (λ j l. refl) (order_at s ok)

  types : Types (record_kind roll) 0 rs
  types = say_all (record_kind roll) kind_of_record rs (kinds rs image_fit)

  -- a type that a roll holds is in the roll where it is in the image
  seen_both : (k : ℕ) → boot_type k ≡ true → seen (kind_at s) k (count_of s) ≡ true → seen (record_kind roll) k (length rs) ≡ true
  seen_both k m e =
      let z : 0 + length rs ≡ length rs = omega arith in
      sym (ap (seen (record_kind roll) k) z)
      ∙ knows_both (kind_at s) (record_kind roll) (count_of s) (0 + length rs) _ ordered.knows
      (knows_after (record_kind roll) rs 0 [] types (knows_none (record_kind roll))) k m
      ∙ e

  order_there : (i : ℕ) → i < length rs → order_fault (record_kind roll) (record_kind roll i) i ≡ 0
  order_there i h =
      let y : 0 + i ≡ i = omega arith in
      subst (λ (x : ℕ). order_fault (record_kind roll) (record_kind roll x) x ≡ 0) y
      (order_of_records (record_kind roll) rs 0 [] image_in_roll types (knows_none (record_kind roll)) ordered.ordered i h)

  pub roll_whole : WholeRoll roll (length rs)
  roll_whole =
      let m = boot_there (kind_at s) (count_of s) (boot_of_missing (kind_at s) (version_of s) (count_of s) (passes s ok).complete) in
      let z = sizes_sum rs held (length rs) (omega arith) in
      let u = sum_small s ok in
      let v = (sound_head s ok).small in
      record {
        few = image_few;
        heads = head_inside rs held;
        known = λ i h. let x = all_at Held rs i empty_record h held in let k = kinds rs image_fit i h in let lo = x.low in let hi = x.high in (omega arith, omega arith);
        inside = λ i h. let x = head_inside rs held (suc i) h in omega arith;
        order = order_there;
        end_kind = end_kind_is rs held;
        end_size = end_size_is rs held;
        ends = ends_there rs held;
        none_missing = none_missing_from (record_kind roll) (length rs) (seen_both kernel refl m.0) (seen_both command_line refl m.1);
        small = omega arith;
      }

  pub shorter : length (roll_bytes s) < length s
  unfolding roll_bytes
  shorter =
      let a = roll_le (records_of s) in
      let b = sum_small s ok in
      let n = length-append (flags_record (header_flags_of s)) (roll_of (records_of s)) in
      let m = length_flags (header_flags_of s) in
      omega arith
