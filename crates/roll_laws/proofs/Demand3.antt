-- Demand 3 (PROMISES.md): what a boot roll tells of its image. Images and rolls are byte strings where it is said; an accepted
-- image is one whose reading is accepted. Assumes nothing.
use Prim.Native.Nat.{ℕ, ◌<◌, ◌≤◌}
use mathlib.Core.Path.{◌≡◌, sym, ap, subst, ap₂, ◌∙◌}
use mathlib.Core.Logic.{◌⊎◌, ⊎_elim}
use mathlib.Core.List.{List, ◌++◌, append_assoc, map}
use native.Mathlib.Omega.{arith}
use lib.ListN.{length, take, drop, take-append-drop}
use lib.Seq.{length-take-le, take_all}
use Rattle.octets.specs.Bytes.{AreBytes}
use Rattle.octets.specs.Over.{over}
use Rattle.octets.proofs.Value.{bytes_take, field_lt}
use Rattle.eif.specs.Numbers.{output_too_short}
use Rattle.eif.specs.Answers.{refuse}
use Rattle.eif.specs.Layout.{header_flags_of, header_flags_at}
use Rattle.eif.specs.Reading.{verdict_of}
use Rattle.eif.specs.Output.{written_for}
use Rattle.eif.specs.Roll.{Record, flags_record_size, flags_record, roll_of, records_of, roll_bytes, SameBoot, Begins, roll_verdict, roll_answer, roll_length, roll_output, roll_flags, record_kind, record_size, read_roll}
use Rattle.eif.specs.declared.Refusal.{Refusal}
use Rattle.eif.specs.declared.RollReading.{RollReading}
use Rattle.eif.specs.declared.Verdict.{Verdict}
use Rattle.eif.specs.declared.Verdict.TheVariants.{Accepted, Refused}
use Rattle.eif_lemmas.proofs.Room.{room_enough, room_handed_on, room_fine, room_short, wrote_refused, wrote_short, wrote_fine}
use Rattle.roll_laws.specs.Listing.{list_from, listing_of, found_in}
use Rattle.roll_laws.proofs.Prefix.{prefix_same}
use Rattle.roll_laws.proofs.Positions.{size_of_record, say_all, sizes, kinds}
use Rattle.roll_laws.proofs.Flags.{flags_past, flags_back, read_on, flags_same}
use Rattle.roll_laws.proofs.RollRules.{→roll}
use Rattle.roll_laws.specs.Told.{ImageOf, ReadsList}
use Rattle.roll_laws.proofs.ImageOfRoll.{image_of_roll}
use Rattle.roll_laws.proofs.RollOfImage.{image_fit, image_few, roll_whole, shorter}
use Rattle.roll_laws.proofs.Listing.{found_from, listing_is}
use Rattle.eif_lemmas.proofs.Streams.{kind_of_record}

-- ---- two rolls

equal_begins : (x y : List ℕ) → x ≡ y → Begins x y
equal_begins x y e = let n = ap length e in record { shorter = omega arith; same = take_all (length x) y (omega arith) ∙ sym e }

module _ (s t : List ℕ) where
  -- If they have the same flags and hold the same, the rolls are equal, whatever differs elsewhere in the files.
  pub same_roll : SameBoot s t → roll_bytes s ≡ roll_bytes t
  unfolding roll_bytes
  same_roll e = ap₂ (λ (f : ℕ) (rs : List Record). flags_record f ++ roll_of rs) e.flags e.sections

  other_way : SameBoot s t → SameBoot t s
  other_way e = record { flags = sym e.flags; sections = sym e.sections }

  module _ (s-bytes : AreBytes s) (s-accepted : verdict_of s ≡ Accepted) (t-bytes : AreBytes t) (t-accepted : verdict_of t ≡ Accepted) where
    begins : Begins (roll_bytes s) (roll_bytes t) → SameBoot s t
    unfolding roll_bytes
    begins b =
        let f : ℕ = header_flags_of s in
        let x : List ℕ = flags_record f ++ roll_of (records_of s) in
        let y : List ℕ = roll_bytes t in
        let more : List ℕ = drop (length x) y in
        let e = flags_same f (header_flags_of t) (roll_of (records_of s) ++ more) (roll_of (records_of t)) (field_lt 2 header_flags_at s s-bytes) (field_lt 2 header_flags_at t t-bytes)
        (sym (append_assoc (flags_record f) (roll_of (records_of s)) more)
        ∙ ap (λ (l : List ℕ). l ++ more) (sym b.same) ∙ take-append-drop (length x) y) in
        record { flags = e.0; sections = prefix_same (records_of s) (records_of t) more (image_fit s s-accepted) (image_fit t t-accepted) e.1 }

-- For every two accepted images, if one roll is equal to the other or is its beginning, then both images have the same flags and hold
-- the same such sections: same kinds, lengths, bytes and order.
module _ (s t : List ℕ) (s-bytes : AreBytes s) (s-accepted : verdict_of s ≡ Accepted) (t-bytes : AreBytes t) (t-accepted : verdict_of t ≡ Accepted) where
  pub begins_same : (roll_bytes s ≡ roll_bytes t) ⊎ (Begins (roll_bytes s) (roll_bytes t) ⊎ Begins (roll_bytes t) (roll_bytes s)) → SameBoot s t
  begins_same =
      ⊎_elim
      (λ e. begins s t s-bytes s-accepted t-bytes t-accepted (equal_begins (roll_bytes s) (roll_bytes t) e))
      (⊎_elim (begins s t s-bytes s-accepted t-bytes t-accepted) (λ b. other_way t s (begins t s t-bytes t-accepted s-bytes s-accepted b)))

-- ---- the roll's reader

-- its list, whatever its flags are read as, and the bytes there
pub listing_of_roll : (s : List ℕ) → verdict_of s ≡ Accepted → read_roll (roll_bytes s) ≡ listing_of (roll_flags (roll_bytes s)) (records_of s)
unfolding roll_bytes
listing_of_roll s ok =
    let rs = records_of s in
    let t = roll_of (records_of s) in
    let f : ℕ = roll_flags (flags_record (header_flags_of s) ++ t) in
    read_on (header_flags_of s) t
    ∙ →roll f t (length rs) (roll_whole s ok)
    ∙ listing_is t f rs (image_few s ok)
    (record {
      kind = say_all (record_kind t) kind_of_record rs (kinds rs (image_fit s ok));
      size = say_all (record_size t) size_of_record rs (sizes rs (image_fit s ok));
    })

pub found_in_roll : (s : List ℕ) → map (found_in (roll_bytes s)) (list_from flags_record_size (records_of s)) ≡ records_of s
unfolding roll_bytes
found_in_roll s =
    let t = roll_of (records_of s) in
    found_from (flags_record (header_flags_of s) ++ t) (records_of s) flags_record_size (flags_past (header_flags_of s) t)

-- its flags are the image's
flags_of_roll : (s : List ℕ) → AreBytes s → roll_flags (roll_bytes s) ≡ header_flags_of s
unfolding roll_bytes
flags_of_roll s w = flags_back (header_flags_of s) (roll_of (records_of s)) (field_lt 2 header_flags_at s w)

-- The roll's reader gives the list of the image, said from the image's sections alone.
pub list_of_image : (s : List ℕ) → AreBytes s → verdict_of s ≡ Accepted → ReadsList (roll_bytes s) s
list_of_image s w ok =
    record {
      reading = listing_of_roll s ok ∙ ap (λ (f : ℕ). listing_of f (records_of s)) (flags_of_roll s w);
      few = image_few s ok;
      found = found_in_roll s;
    }

pub list_of_roll : (t : List ℕ) (i : ImageOf t) → ReadsList t i.image
list_of_roll t i = subst (λ (x : List ℕ). ReadsList x i.image) i.roll (list_of_image i.image i.bytes i.accepted)

-- The roll's reader gives, for any roll it accepts, the list of an accepted image whose roll it is.
pub list_of_accepted : (t : List ℕ) → AreBytes t → (read_roll t).verdict ≡ Accepted → (i : ImageOf t) × ReadsList t i.image
list_of_accepted t w ok = let i = image_of_roll t w ok in (i, list_of_roll t i)

-- Whatever bytes the roll's reader is handed, it accepts them exactly when they are the roll of some accepted image.
pub accepted_exactly_when : (t : List ℕ) → AreBytes t → ((read_roll t).verdict ≡ Accepted → ImageOf t) × (ImageOf t → (read_roll t).verdict ≡ Accepted)
accepted_exactly_when t w = (image_of_roll t w, λ i. ap (λ (r : RollReading). r.verdict) (list_of_roll t i).reading)

-- A roll cut short must not pass for a whole one.
pub no_cut : (t : List ℕ) → AreBytes t → (read_roll t).verdict ≡ Accepted → (n : ℕ) → n < length t → (read_roll (take n t)).verdict ≡ Accepted → ⊥
no_cut t w ok n h cut =
    let i = image_of_roll t w ok in
    let j = image_of_roll (take n t) (bytes_take n t w) cut in
    let l : length (take n t) ≡ n = length-take-le n t (omega arith) in
    let b : Begins (take n t) t = record { shorter = omega arith; same = ap (λ (k : ℕ). take k t) l } in
    let c : Begins (roll_bytes j.image) (roll_bytes i.image) = rw (i.roll, j.roll) b in
    let e = sym j.roll ∙ same_roll j.image i.image (begins j.image i.image j.bytes j.accepted i.bytes i.accepted c) ∙ i.roll in
    let m = ap length e in
    omega arith

-- ---- the roll's writer

-- A roll is always shorter than its image: where it has the flags record and the end record, 22 bytes, the image has its header, 548, and
-- where it has a record's head, 10, the image has a section's, 12.
pub roll_shorter : (s : List ℕ) → verdict_of s ≡ Accepted → length (roll_bytes s) < length s
roll_shorter = shorter

-- For every accepted image the roll's writer gives exactly that image's roll, or, exactly where the output buffer is shorter
-- than it, refuses as too short.
module _ (s : List ℕ) (ok : verdict_of s ≡ Accepted) where
  pub roll_fits : (room : ℕ) → length (roll_bytes s) ≤ room → roll_answer s room ≡ record { verdict = Accepted; length = length (roll_bytes s) }
  unfolding roll_answer roll_verdict
  roll_fits room h = ap (λ (v : Verdict). written_for v (length (roll_bytes s))) (room_fine (verdict_of s) room (length (roll_bytes s)) ok h)

  pub roll_too_long : (room : ℕ) → room < length (roll_bytes s) → roll_answer s room ≡ record { verdict = refuse output_too_short 0; length = 0 }
  unfolding roll_answer roll_verdict
  roll_too_long room h = ap (λ (v : Verdict). written_for v (length (roll_bytes s))) (room_short (verdict_of s) room (length (roll_bytes s)) ok h)

  pub roll_written : (d : List ℕ) → length (roll_bytes s) ≤ length d → roll_output s d ≡ over d 0 (roll_bytes s)
  unfolding roll_output roll_verdict
  roll_written d h = sym (wrote_fine (verdict_of s) (length (roll_bytes s)) (roll_bytes s) d ok h).1

  pub roll_unwritten : (d : List ℕ) → length d < length (roll_bytes s) → roll_output s d ≡ d
  unfolding roll_output roll_verdict
  roll_unwritten d h = sym (wrote_short (verdict_of s) (length (roll_bytes s)) (roll_bytes s) d ok h).1

-- The length of an image's roll is the writer's answer, were there room.
pub roll_length_is_written : (s : List ℕ) (room : ℕ) → length (roll_bytes s) ≤ room → roll_answer s room ≡ roll_length s
unfolding roll_answer roll_length roll_verdict
roll_length_is_written s room h =
    ap (λ (v : Verdict). written_for v (length (roll_bytes s))) (room_enough (verdict_of s) room (length (roll_bytes s)) h)

-- Writing a roll reads the image first and hands any refusal on unchanged.
module _ (s : List ℕ) (r : Refusal) (refused : verdict_of s ≡ Refused r) where
  pub refusal_handed_on : (room : ℕ) → roll_answer s room ≡ record { verdict = Refused r; length = 0 }
  unfolding roll_answer roll_verdict
  refusal_handed_on room = ap (λ (v : Verdict). written_for v (length (roll_bytes s))) (room_handed_on (verdict_of s) room (length (roll_bytes s)) r refused)

  pub refused_unwritten : (d : List ℕ) → roll_output s d ≡ d
  unfolding roll_output roll_verdict
  refused_unwritten d = sym (wrote_refused (verdict_of s) (length (roll_bytes s)) (roll_bytes s) d r refused).1
