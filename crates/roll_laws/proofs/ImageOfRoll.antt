-- Every accepted roll is the roll of an accepted image: the plain image of version 2 with the roll's flags, and with its records as
-- sections.
-- Assumes nothing.
use Prim.Native.Nat.{ℕ, zero, suc, ◌+◌, ◌^◌, ◌<◌, ◌≤◌}
use mathlib.Core.Path.{◌≡◌, refl, sym, ap, ap₂, ◌∙◌}
use mathlib.Core.Bool.{Bool, true, false}
use mathlib.Core.List.{List, [], ◌∷◌, ◌++◌, map, append-nil}
use native.Mathlib.Omega.{arith}
use borrow.Author.Tests.{ne_eqb, le-leb, eqb-true, not-false}
use lib.Dec.{eqb}
use lib.ListN.{length, take, drop, take-append-drop, length-take, length-drop}
use lib.Seq.{drop-drop, drop-length}
use Rattle.octets.specs.Bytes.{AreBytes}
use Rattle.octets.proofs.Value.{bytes_drop, le_field_lt, bytes_part}
use Rattle.eif.specs.Numbers.{place_count, fewest_sections, oldest_version, kernel, command_line, ramdisk, signature, metadata}
use Rattle.octets.specs.Logic.{choose, either}
use Rattle.eif.specs.Rules.{allowed_in, seen, boot_type, boot_missing, missing}
use Rattle.eif.specs.Table.{filled, join_from}
use Rattle.eif.specs.Reading.{verdict_of, data_of}
use Rattle.eif.specs.Plan.{blank_place, place_at, planned_kind, planned_size, packed_at, plain_image}
use Rattle.eif.specs.Roll.{record_head_size, head_of, end_type, flags_length, flags_record_size, flags_record, roll_of, record_for, records_by, records_of, roll_bytes, roll_flags, rest_of, record_at, record_size, record_kind, size_as_image, read_rest, read_roll}
use Rattle.eif.specs.declared.Plan.{Plan}
use Rattle.eif.specs.declared.Place.{Place}
use Rattle.eif.specs.declared.Section.{Section}
use Rattle.eif.specs.declared.Verdict.TheVariants.{Accepted}
use Rattle.octets.proofs.Logic.{not_both, either_false}
use Rattle.eif_lemmas.proofs.Table.{filled_at, bytes_joined}
use Rattle.plain_laws.proofs.Shape.{packed_agree, bytes_plain}
use Rattle.plain_laws.proofs.PlanRules.{types_fine_same, Planned}
use Rattle.plain_laws.specs.RoundTrip.{Fits}
use Rattle.plain_laws.proofs.Written.{read_flags, read_data}
use Rattle.plain_laws.proofs.Joined.{piece_is, length_joined}
use Rattle.plain_laws.specs.Packed.{packed_section}
use Rattle.plain_laws.proofs.ReadBack.{plain_accepted, sections_back}
use Rattle.roll_laws.specs.Told.{ImageOf}
use Rattle.roll_laws.proofs.RollRules.{WholeRoll, roll→}
use Rattle.roll_laws.proofs.Positions.{first_record, next_record}
use Rattle.roll_laws.proofs.Sections.{over_sections}
use Rattle.roll_laws.proofs.Flags.{head_split, flags_split, read_accepted}

-- ---- the types of a roll

known_allowed : (kind : ℕ) → kernel ≤ kind → kind ≤ ramdisk → allowed_in oldest_version kind ≡ true
unfolding allowed_in
known_allowed kind a b =
    let not-signature : kind ≡ signature → ⊥ = λ z. omega arith in
    let not-metadata : kind ≡ metadata → ⊥ = λ z. omega arith in
    simp (ne_eqb _ _ not-signature, ne_eqb _ _ not-metadata, le-leb _ _ a, le-leb _ _ b)

pub known_in_roll : (kind : ℕ) → kernel ≤ kind → kind ≤ ramdisk → boot_type kind ≡ true
known_in_roll kind a b = simp (le-leb _ _ a, le-leb _ _ b)

-- kernel and command line are there
pub boot_there : (kinds : ℕ → ℕ) (n : ℕ) → boot_missing kinds n ≡ false → (seen kinds kernel n ≡ true) × (seen kinds command_line n ≡ true)
boot_there kinds n e = let a = either_false _ _ e in (not-false _ a.0, not-false _ a.1)

-- and nothing else need be in the oldest version
nothing_missing : (kinds : ℕ → ℕ) (n : ℕ) → boot_missing kinds n ≡ false → missing kinds oldest_version n ≡ false
unfolding missing
nothing_missing kinds n e = rw e refl

-- so there are two
two : (kinds : ℕ → ℕ) (n : ℕ) → seen kinds kernel n ≡ true → seen kinds command_line n ≡ true → fewest_sections ≤ n
unfolding seen
two kinds zero a b = not_both a
two kinds (suc zero) a b =
    let x = eqb-true (kinds 0) kernel (last (eqb (kinds 0) kernel) a) in
    let y = eqb-true (kinds 0) command_line (last (eqb (kinds 0) command_line) b) in
    absurd (omega arith)
  where
    last : (t : Bool) → either t false ≡ true → t ≡ true
    last true e = refl
    last false e = e
two kinds (suc (suc n)) a b = omega arith

-- ---- the image of a roll

module _ (s : List ℕ) where
  abbrev roll_place : ℕ → Place
  roll_place i = record { kind = record_kind s i; flags = 0; length = record { 0 = record_size s i } }

  -- the data of record i
  abbrev roll_piece : ℕ → List ℕ
  roll_piece i = take (record_size s i) (drop (record_at s i + record_head_size) s)

  module _ (f n : ℕ) where
    abbrev roll_plan : Plan
    roll_plan = record { version = oldest_version; flags = f; default_mem = 0; default_cpus = 0; count = n; places = filled roll_place blank_place place_count n }

    abbrev roll_data : List ℕ
    roll_data = join_from roll_piece n 0

    abbrev pub roll_image : List ℕ
    roll_image = plain_image roll_plan roll_data

-- s is the rest of a roll with flags f
module _ (f : ℕ) (f-fits : f < 2 ^ 16) (s : List ℕ) (w : AreBytes s) (n : ℕ) (a : WholeRoll s n) where
  abbrev p : Plan
  p = roll_plan s f n

  abbrev l : List Place
  l = filled (roll_place s) blank_place place_count n

  abbrev d : List ℕ
  d = roll_data s f n

  abbrev image : List ℕ
  image = roll_image s f n

  place_is : (i : ℕ) → i < n → place_at l i ≡ roll_place s i
  place_is i h = filled_at (roll_place s) blank_place blank_place place_count n i h a.few

  kind_is : (i : ℕ) → i < n → planned_kind l i ≡ record_kind s i
  kind_is i h = ap (λ (x : Place). x.kind) (place_is i h)

  size_is : (i : ℕ) → i < n → planned_size l i ≡ record_size s i
  size_is i h = ap (λ (x : Place). x.length.0) (place_is i h)

  length_piece_is : (i : ℕ) → i < n → length (roll_piece s i) ≡ planned_size l i
  length_piece_is i h =
      let e = next_record s i in
      let q = a.inside i h in
      simp (length-take, length-drop) (omega arith) ∙ sym (size_is i h)

  pub roll_planned : Planned p (length d)
  roll_planned =
      let m = boot_there (record_kind s) n a.none_missing in
      let z : packed_at l n ≡ size_as_image s n = packed_agree (planned_size l) (record_size s) n size_is in
      let q = a.small in
      record {
        fields = record { low = omega arith; high = omega arith; some = two (record_kind s) n m.0 m.1; few = a.few };
        types =
            types_fine_same oldest_version (planned_kind l) (record_kind s) n kind_is
            (record {
              allowed = λ i h. known_allowed (record_kind s i) (a.known i h).0 (a.known i h).1;
              order = a.order;
              none_missing = nothing_missing (record_kind s) n a.none_missing;
            });
        small = omega arith;
        sized = length_joined l n (roll_piece s) length_piece_is;
      }

  roll_fits : Fits p
  roll_fits = record { flags = f-fits; default_mem = omega arith; default_cpus = omega arith; section_flags = λ i h. rw (place_is i h) (omega arith) }

  bytes_d : AreBytes d
  bytes_d = bytes_joined (roll_piece s) n 0 (λ j. bytes_part (record_size s j) (record_at s j + record_head_size) s w)

  pub image_bytes : AreBytes image
  image_bytes = bytes_plain p d bytes_d

  pub image_accepted : verdict_of image ≡ Accepted
  image_accepted = plain_accepted p d roll_planned bytes_d

  -- the data of section i is the data of record i
  data_is : (i : ℕ) → i < n → data_of image (packed_section l i) ≡ roll_piece s i
  data_is i h = read_data p d roll_planned i h ∙ piece_is l n (roll_piece s) length_piece_is i h

  -- ---- the bytes of the roll, taken apart

  record_split : (i : ℕ) → i < n → drop (record_at s i) s ≡ head_of (record_size s i) (record_kind s i) ++ (roll_piece s i ++ drop (record_at s (suc i)) s)
  record_split i h =
      head_split s w (record_at s i) (a.heads i (omega arith))
      ∙ ap (λ (r : List ℕ). head_of (record_size s i) (record_kind s i) ++ r)
      (sym (take-append-drop (record_size s i) (drop (record_at s i + record_head_size) s))
      ∙ ap (λ (r : List ℕ). roll_piece s i ++ r) (drop-drop (record_size s i) (record_at s i + record_head_size) s ∙ ap (λ (m : ℕ). drop m s) (sym (next_record s i))))

  end_split : drop (record_at s n) s ≡ roll_of []
  unfolding roll_of
  end_split =
      head_split s w (record_at s n) (a.heads n (omega arith))
      ∙ ap₂ (λ (x : List ℕ) (y : List ℕ). x ++ y) (ap₂ head_of a.end_size a.end_kind) (ap (λ (m : ℕ). drop m s) a.ends ∙ drop-length s)
      ∙ append-nil (head_of 0 end_type)

  -- ---- and put together again

  record Matches (x : Section) (i : ℕ) : Type 0 where
    kind : x.kind ≡ record_kind s i
    bytes : data_of image x ≡ roll_piece s i

  one_more : (x : Section) (i : ℕ) (rest : List Section) → i < n → Matches x i → roll_of (map (record_for (data_of image)) rest) ≡ drop (record_at s (suc i)) s
      → roll_of (map (record_for (data_of image)) (choose (boot_type x.kind) (x ∷ rest) rest)) ≡ drop (record_at s i) s
  unfolding roll_of
  one_more x i rest h m e =
      let k = a.known i h in
      let t : boot_type x.kind ≡ true = ap boot_type m.kind ∙ known_in_roll (record_kind s i) k.0 k.1 in
      ap (λ (b : Bool). roll_of (map (record_for (data_of image)) (choose b (x ∷ rest) rest))) t
      ∙ ap₂ (λ (b : List ℕ) (r : List ℕ). head_of (length b) x.kind ++ (b ++ r)) m.bytes e
      ∙ ap₂ (λ (z q : ℕ). head_of z q ++ (roll_piece s i ++ drop (record_at s (suc i)) s)) (length_piece_is i h ∙ size_is i h) m.kind
      ∙ sym (record_split i h)

  rest_again : roll_of (records_of image) ≡ s
  rest_again =
      ap (λ (x : List Section). roll_of (records_by (data_of image) x)) (sections_back p d roll_planned bytes_d roll_fits)
      ∙ over_sections n Matches (λ i x. roll_of (map (record_for (data_of image)) x) ≡ drop (record_at s i) s) (sym end_split) one_more (packed_section l) a.few
      (λ j q. record { kind = kind_is j q; bytes = data_is j q })
      ∙ ap (λ (m : ℕ). drop m s) (first_record s)

  pub roll_again : roll_bytes image ≡ flags_record f ++ s
  unfolding roll_bytes
  roll_again = ap₂ (λ (x : ℕ) (r : List ℕ). flags_record x ++ r) (read_flags p d roll_planned f-fits) rest_again

-- ---- the law

pub image_of_roll : (t : List ℕ) → AreBytes t → (read_roll t).verdict ≡ Accepted → ImageOf t
image_of_roll t w e =
    let f : ℕ = roll_flags t in
    let r : List ℕ = rest_of t in
    let n : ℕ = (read_rest f r).count in
    let g = read_accepted t e in
    let h = le_field_lt flags_length record_head_size t w in
    let v = bytes_drop flags_record_size t w in
    let a = roll→ f r g.1 in
    record {
      image = roll_image r f n;
      bytes = image_bytes f h r v n a;
      accepted = image_accepted f h r v n a;
      roll = roll_again f h r v n a ∙ sym (flags_split t w g.0);
    }
