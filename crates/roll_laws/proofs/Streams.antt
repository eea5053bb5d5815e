-- Whole is the roll with its heads taken out, and each stream is what it keeps of that.
-- Assumes nothing.
use Prim.Native.Nat.{ℕ}
use mathlib.Core.Path.{◌≡◌, sym, ap, ◌∙◌}
use mathlib.Core.List.{List}
use lib.ListN.{take}
use Rattle.roll_laws.proofs.Listing.{length_list}
use Rattle.eif_lemmas.proofs.Table.{take_table}
use Rattle.eif.specs.Table.{in_table}
use Rattle.octets.specs.Lists.{joined_by}
use Rattle.octets.proofs.Lists.{joined_map}
use Rattle.eif.specs.Reading.{data_of, sections_of, verdict_of}
use Rattle.eif.specs.Roll.{flags_record_size, record_for, measured_in, records_of, roll_bytes, blank_record}
use Rattle.eif.specs.Stream.{kept, sections_data, stream_of}
use Rattle.eif.specs.declared.RollReading.{RollReading}
use Rattle.eif.specs.declared.RollRecord.{RollRecord}
use Rattle.eif.specs.declared.Stream.{Stream}
use Rattle.eif.specs.declared.Stream.TheVariants.{Whole}
use Rattle.eif.specs.declared.Verdict.TheVariants.{Accepted}
use Rattle.eif_lemmas.proofs.Types.{whole_kept}
use Rattle.roll_laws.specs.Listing.{list_from, found_in, entries_of, joined_at, without_heads, stream_in_roll}
use Rattle.roll_laws.proofs.Demand3.{listing_of_roll, found_in_roll}
use Rattle.eif_lemmas.proofs.Streams.{kind_of_record, record_data, kept_map, stream_of_records}

-- ---- what is kept of records

abbrev entry_kind : RollRecord → ℕ
entry_kind x = x.kind

-- ---- the laws, for every accepted image

module _ (s : List ℕ) (ok : verdict_of s ≡ Accepted) where
  abbrev t : List ℕ
  t = roll_bytes s

  -- the flags record is none of them
  entries_are : entries_of t ≡ list_from flags_record_size (records_of s)
  entries_are =
      let rs = records_of s in
      ap (λ (r : RollReading). take r.count r.records) (listing_of_roll s ok)
      ∙ ap (λ (n : ℕ). take n (in_table blank_record (list_from flags_record_size rs))) (sym (length_list flags_record_size rs))
      ∙ take_table blank_record (list_from flags_record_size rs)

  -- Each stream is what it keeps of the image's roll with the heads taken out.
  pub stream_in_roll_holds : (stream : Stream) → stream_of s stream ≡ stream_in_roll stream (roll_bytes s)
  unfolding stream_of stream_in_roll
  stream_in_roll_holds stream =
      let entries = list_from flags_record_size (records_of s) in
      sym
      (ap (λ (l : List RollRecord). joined_at t (kept stream entry_kind 0 l)) entries_are
      ∙ sym (joined_map record_data (found_in t) (kept stream entry_kind 0 entries))
      ∙ ap (joined_by record_data) (kept_map stream kind_of_record (found_in t) 0 entries ∙ ap (kept stream kind_of_record 0) (found_in_roll s))
      ∙ sym (stream_of_records (data_of s) stream (sections_of s)))

  -- Whole is the image's roll with the heads taken out.
  pub whole_is_roll : stream_of s Whole ≡ without_heads (roll_bytes s)
  unfolding without_heads stream_of
  whole_is_roll =
      sym
      (ap (joined_at t) entries_are
      ∙ sym (joined_map record_data (found_in t) (list_from flags_record_size (records_of s)))
      ∙ ap (joined_by record_data) (found_in_roll s)
      ∙ joined_map record_data (record_for (data_of s)) (measured_in (sections_of s))
      ∙ ap (sections_data s) (sym (whole_kept 0 (sections_of s))))
