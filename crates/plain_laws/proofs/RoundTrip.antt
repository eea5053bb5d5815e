-- Demand 2 (PROMISES.md) of the writer and the reader together: what is written of a plan that is not refused is plain, and is read
-- back as the plan and its data; what is read of a plain image is written as that image; plans that differ only past the count have
-- one plain image. Where a law needs it, it says that images and data are bytes and that a plan's numbers that no rule judges fit
-- their fields, as they do in every slice and plan of the code. Assumes nothing.
use Prim.Native.Nat.{ℕ, ◌<◌, ◌≤◌}
use mathlib.Core.Path.{◌≡◌, refl, sym, ap, ap₂, subst, ◌∙◌}
use mathlib.Core.List.{List}
use native.Mathlib.Omega.{arith}
use lib.ListN.{length, get_or, get_or-map}
use Rattle.octets.specs.Bytes.{AreBytes}
use Rattle.eif.specs.Numbers.{place_count}
use Rattle.eif.specs.Output.{written_for, output_for}
use Rattle.eif.specs.Reading.{verdict_of, blank_section, read_image, data_of}
use Rattle.eif.specs.Plan.{place_at, data_before, plain_size, piece_at, plan_verdict, write_verdict, plain_image, write_answer, plan_length, write_output, UnusedZero, Plain, place_of, plan_of, data_joined}
use Rattle.eif.specs.declared.Plan.{Plan}
use Rattle.eif.specs.declared.Verdict.{Verdict}
use Rattle.eif.specs.declared.Verdict.TheVariants.{Accepted}
use Rattle.eif_lemmas.proofs.Table.{filled_at, join_same}
use Rattle.eif_lemmas.proofs.Room.{room_enough, room_fine}
use Rattle.eif_lemmas.proofs.Reading.{reading_accepted}
use Rattle.plain_laws.specs.Packed.{packed_section, packed_reading, SamePlan}
use Rattle.plain_laws.proofs.PlanRules.{Planned, planned→}
use Rattle.plain_laws.specs.RoundTrip.{Fits, ReadsBack, Writes, WrittenFrom, SameWriting}
use Rattle.plain_laws.proofs.Written.{read_data}
use Rattle.plain_laws.proofs.ReadBack.{plain_accepted, reads_back, long}
use Rattle.plain_laws.proofs.Joined.{pieces_joined}
use Rattle.plain_laws.proofs.WriteBack.{plan, given, joined_is, plain_again}
use Rattle.plain_laws.proofs.Plainness.{is_plain, plan_accepted, plan_fits, bytes_given}
use Rattle.plain_laws.proofs.SamePlan.{size_of_same, verdict_of_same, image_of_same}

-- ---- what is written is read back

module _ (p : Plan) (d : List ℕ) (a : Planned p (length d)) where
  abbrev image : List ℕ
  image = plain_image p d

  data_at_holds : (i : ℕ) → i < p.count → data_of image (get_or (packed_reading p).sections i blank_section) ≡ piece_at p.places d i
  data_at_holds i h =
      ap (data_of image) (filled_at (packed_section p.places) blank_section blank_section place_count p.count i h a.fields.few)
      ∙ read_data p d a i h

  data_joined_holds : data_joined image (packed_reading p) ≡ d
  data_joined_holds =
      join_same (λ i. data_of image (get_or (packed_reading p).sections i blank_section)) (piece_at p.places d) p.count 0 (λ i h. data_at_holds i (omega arith))
      ∙ pieces_joined p.places p.count d a.sized

  place_back : (i : ℕ) → i < p.count → place_at (plan_of (packed_reading p)).places i ≡ place_at p.places i
  place_back i h =
      get_or-map place_of (packed_reading p).sections i blank_section
      ∙ ap place_of (filled_at (packed_section p.places) blank_section blank_section place_count p.count i h a.fields.few)

  same_back : SamePlan (plan_of (packed_reading p)) p
  same_back = record { version = refl; flags = refl; default_mem = refl; default_cpus = refl; count = refl; used = place_back }

-- Reading the plain image of a plan that is not refused gives the plan's fields, used places and data back.
pub read_plain : (p : Plan) (d : List ℕ) → plan_verdict p (length d) ≡ Accepted → Fits p → AreBytes d → ReadsBack p d
read_plain p d e c w =
    let a = planned→ p (length d) e in
    let r = reads_back p d a w c in
    record {
      accepted = plain_accepted p d a w;
      reading = r;
      plan_back = rw r (same_back p d a);
      pieces = read_data p d a;
      pieces_whole = pieces_joined p.places p.count d a.sized;
      data_back = ap (data_joined (plain_image p d)) r ∙ data_joined_holds p d a;
      size = long p d a;
    }

-- The plain image of a plan that is not refused is a plain image.
pub plain_is_plain : (p : Plan) (d : List ℕ) → plan_verdict p (length d) ≡ Accepted → AreBytes d → Plain (plain_image p d)
plain_is_plain p d e w = is_plain p d (planned→ p (length d) e) w

-- ---- what the writer answers

-- Where a plan is not refused, the writer writes its plain image.
pub written_plain : (p : Plan) (d : List ℕ) → plan_verdict p (length d) ≡ Accepted → Writes p d (plain_image p d)
unfolding write_answer write_output write_verdict
written_plain p d ok =
    let n = long p d (planned→ p (length d) ok) in
    let v : (room : ℕ) → length (plain_image p d) ≤ room → write_verdict p (length d) room ≡ Accepted =
    λ room h. room_fine (plan_verdict p (length d)) room (plain_size p) ok (omega arith) in
    record {
      not_refused = ok;
      image = refl;
      answer = λ room h. ap₂ written_for (v room h) (sym n);
      output = λ b h. ap (λ (x : Verdict). output_for x (plain_image p d) b) (v (length b) h);
    }

-- The length of a plan's image is the writer's answer, were there data and room as planned.
pub length_is_written : (p : Plan) (given room : ℕ) → given ≡ data_before p.places p.count → plain_size p ≤ room → write_answer p given room ≡ plan_length p
unfolding write_answer plan_length write_verdict
length_is_written p given room e h =
    ap (λ (v : Verdict). written_for v (plain_size p)) (room_enough (plan_verdict p given) room (plain_size p) h ∙ ap (plan_verdict p) e)

-- ---- what is read is written again

-- Writing the reading of any plain image, with its sections' data joined in file order, gives that image.
pub write_read : (s : List ℕ) → AreBytes s → Plain s → Writes (plan_of (read_image s)) (data_joined s (read_image s)) s
write_read s w pl =
    let r = reading_accepted s pl.accepted in
    let j = joined_is s pl.accepted in
    rw (r, j) (subst (Writes (plan s) (given s)) (plain_again s w pl) (written_plain (plan s) (given s) (plan_accepted s pl.accepted)))

-- ---- plain exactly when written

-- An image is plain exactly when it is the plain image of some plan that the writer does not refuse.
pub plain_exactly_when : (s : List ℕ) → AreBytes s → (Plain s → WrittenFrom s) × (WrittenFrom s → Plain s)
plain_exactly_when s w = (
  λ pl.
      record {
        plan = plan s;
        given = given s;
        fits = plan_fits s pl.accepted w;
        bytes = bytes_given s pl.accepted w;
        not_refused = plan_accepted s pl.accepted;
        image = plain_again s w pl;
      },
  λ f. subst Plain f.image (plain_is_plain f.plan f.given f.not_refused f.bytes),
)

-- An accepted image is one that the writer gives exactly when its reserved fields and unused entries are zero.
pub accepted_plain_when : (s : List ℕ) → AreBytes s → verdict_of s ≡ Accepted → (WrittenFrom s → UnusedZero s) × (UnusedZero s → WrittenFrom s)
accepted_plain_when s w e = (
  λ f. ((plain_exactly_when s w).1 f).unused,
  λ z. (plain_exactly_when s w).0 (record { accepted = e; unused = z }),
)

-- ---- the one plain image

-- Plans that agree in version, flags, default_mem, default_cpus, count and used places have the same verdict, length and plain image.
pub one_plain_image : (p q : Plan) → SamePlan p q → SameWriting p q
one_plain_image p q e = record { verdict = verdict_of_same p q e; size = size_of_same p q e; image = image_of_same p q e }

-- The plain image of a plan and its data is the only one: a plain image whose reading gives the plan's fields and used places back, and whose
-- sections' data joined is that data, is this image.
pub only_plain : (s d : List ℕ) (p : Plan) → AreBytes s → Plain s → SamePlan (plan_of (read_image s)) p → data_joined s (read_image s) ≡ d → s ≡ plain_image p d
only_plain s d p w pl same e =
    sym (write_read s w pl).image ∙ ap (plain_image (plan_of (read_image s))) e ∙ (one_plain_image (plan_of (read_image s)) p same).image d
