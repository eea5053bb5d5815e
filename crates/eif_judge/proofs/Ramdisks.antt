-- The ramdisk mark of a reading, accepted or refused: bit i is one exactly when section i is a ramdisk, its ones are as many as
-- the ramdisks of the section list, and its lowest one is the first of them (32 where there is none). Assumes nothing.
use Prim.Native.Nat.{ℕ, ◌/◌, ◌%◌, ◌^◌, ◌<◌}
use mathlib.Core.Path.{◌≡◌, refl, sym, ap, ap₂, ◌∙◌}
use mathlib.Core.List.{List}
use lib.ListN.{length, get_or}
use lib.Count.{ones, count_trailing_zeros}
use Rattle.eif.specs.Numbers.{place_count, ramdisk}
use Rattle.eif.specs.Layout.{View, view_of, count}
use Rattle.eif.specs.Reading.{section, blank_section, mark_of, ramdisk_count, first_ramdisk, verdict_of, reading_of, read_view, read_image}
use Rattle.eif.specs.declared.Verdict.{Verdict}
use Rattle.eif.specs.declared.Verdict.TheVariants.{Accepted, Refused}
use Rattle.eif_lemmas.proofs.Table.{length_filled}
use Rattle.eif_lemmas.proofs.Mark.{mark_one_exactly, ones_mark, trailing_mark}

module _ (v : View) where
  marked : (x : Verdict) → (reading_of v x).ramdisk_mark ≡ mark_of (reading_of v x).sections
  unfolding mark_of
  marked Accepted = refl
  marked (Refused r) = refl

  places : (x : Verdict) → length (reading_of v x).sections ≡ place_count
  places Accepted = length_filled (section v) blank_section place_count (count v)
  places (Refused r) = refl

  pub bit_in : (x : Verdict) (i : ℕ) →
      ((reading_of v x).ramdisk_mark / 2 ^ i % 2 ≡ 1 → (get_or (reading_of v x).sections i blank_section).kind ≡ ramdisk)
      × ((get_or (reading_of v x).sections i blank_section).kind ≡ ramdisk → (reading_of v x).ramdisk_mark / 2 ^ i % 2 ≡ 1)
  bit_in x i = rw (marked x) (mark_one_exactly (reading_of v x).sections i)

  pub count_in : (x : Verdict) → ones (reading_of v x).ramdisk_mark ≡ ramdisk_count (reading_of v x).sections
  count_in x = ap ones (marked x) ∙ ones_mark (reading_of v x).sections

  pub first_in : (x : Verdict) → count_trailing_zeros place_count (reading_of v x).ramdisk_mark ≡ first_ramdisk (reading_of v x).sections
  first_in x = ap₂ count_trailing_zeros (sym (places x)) (marked x) ∙ trailing_mark (reading_of v x).sections

module _ (s : List ℕ) where
  -- of every reading and every place
  pub image_mark_bit : (i : ℕ) → i < place_count →
      ((read_image s).ramdisk_mark / 2 ^ i % 2 ≡ 1 → (get_or (read_image s).sections i blank_section).kind ≡ ramdisk)
      × ((get_or (read_image s).sections i blank_section).kind ≡ ramdisk → (read_image s).ramdisk_mark / 2 ^ i % 2 ≡ 1)
  unfolding read_view
  image_mark_bit i h = bit_in (view_of s) (verdict_of s) i

  pub image_ramdisk_count : ones (read_image s).ramdisk_mark ≡ ramdisk_count (read_image s).sections
  unfolding read_view
  image_ramdisk_count = count_in (view_of s) (verdict_of s)

  pub image_first_ramdisk : count_trailing_zeros place_count (read_image s).ramdisk_mark ≡ first_ramdisk (read_image s).sections
  unfolding read_view
  image_first_ramdisk = first_in (view_of s) (verdict_of s)
