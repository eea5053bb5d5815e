-- What the laws of proofs/Demand3.antt state: what a roll tells of its image, and its reader's list.
-- Assumes nothing.
use Rattle.std.specs.Prelude.{ℕ, ◌≤◌, ◌≡◌, List, map, length}
use Rattle.octets.specs.Bytes.{AreBytes}
use Rattle.eif.specs.Numbers.{place_count}
use Rattle.eif.specs.Layout.{header_flags_of}
use Rattle.eif.specs.Reading.{verdict_of}
use Rattle.eif.specs.Roll.{flags_record_size, records_of, roll_bytes, read_roll}
use Rattle.eif.specs.declared.Verdict.TheVariants.{Accepted}
use Rattle.roll_laws.specs.Listing.{list_from, listing_of, found_in}

-- an accepted image whose roll is t
pub record ImageOf (t : List ℕ) : Type 0 where
  pub image : List ℕ
  pub bytes : AreBytes image
  pub accepted : verdict_of image ≡ Accepted
  pub roll : roll_bytes image ≡ t

-- the reader's list of a roll t, said from the sections of an image s alone
pub record ReadsList (t s : List ℕ) : Type 0 where
  -- the flags, the count, and of each section of type 1, 2 or 3 in file order the type, data position and length; unused places blank
  pub reading : read_roll t ≡ listing_of (header_flags_of s) (records_of s)
  -- none is left out
  pub few : length (records_of s) ≤ place_count
  -- the bytes at these positions of the roll are the sections' data
  pub found : map (found_in t) (list_from flags_record_size (records_of s)) ≡ records_of s
