-- Plans and images that the relations of specs and of eif's Plan hold of, and values that they reject, each by the field that it breaks: of the
-- worked plan and its image.
use Prim.Native.Nat.{ℕ, zero, suc, ◌<◌}
use mathlib.Core.Path.{◌≡◌, refl, sym, ap, subst, ◌∙◌}
use mathlib.Core.Bool.{Bool, true}
use mathlib.Core.List.{List, [], ◌∷◌, ◌++◌}
use native.Mathlib.Omega.{arith}
use borrow.Author.Tests.{ltb-true}
use lib.Dec.{ltb, lit<, lit≤}
use lib.ListN.{length, replicate}
use Rattle.octets.specs.Bytes.{AreBytes, field, be_value}
use Rattle.octets.specs.Logic.{both}
use Rattle.octets.specs.Over.{over}
use Rattle.octets.proofs.Logic.{both_true}
use Rattle.eif.specs.Table.{in_table, join_from}
use Rattle.eif.specs.Layout.{packed_by}
use Rattle.eif.specs.Rules.{allowed_in, seen, order_fault, type_fault, missing, missing_fault, types_verdict, first_refusal, field_fault}
use Rattle.eif.specs.Reading.{early, header_fault, judged, verdict_in, position_in}
use Rattle.eif.specs.Plan.{blank_place, data_before, plan_verdict, size_fault, place_at, UnusedZero, Plain}
use Rattle.eif.specs.Worked.{worked_place, worked_plan, worked_image, worked_plain}
use Rattle.eif.specs.declared.Place.{Place}
use Rattle.eif.specs.declared.Plan.{Plan}
use Rattle.eif.specs.declared.Verdict.TheVariants.{Accepted}
use Rattle.eif_lemmas.proofs.Verdicts.{never}
use Rattle.plain_laws.specs.Packed.{SamePlan}
use Rattle.plain_laws.specs.RoundTrip.{Fits, ReadsBack, Writes, WrittenFrom, SameWriting}
use Rattle.plain_laws.proofs.RoundTrip.{read_plain, written_plain, plain_exactly_when, one_plain_image}

-- ---- bytes

abbrev each_below256 : List ℕ → Bool
each_below256 [] = true
each_below256 (b ∷ bs) = both (ltb b 256) (each_below256 bs)

pub bytes_by : (s : List ℕ) → each_below256 s ≡ true → AreBytes s
bytes_by [] e = tt
bytes_by (b ∷ bs) e = let h = both_true _ _ e in (ltb-true b 256 h.0, bytes_by bs h.1)

pub worked_are_bytes : AreBytes worked_image
worked_are_bytes = bytes_by worked_image refl

-- rejected: 256
bytes_reject : AreBytes (255 ∷ 256 ∷ []) → ⊥
bytes_reject a = let h = a.1.0 in omega arith

-- ---- plans that agree: another place past the count does not matter

abbrev worked_places : List Place
worked_places = worked_place 1 1 ∷ worked_place 2 1 ∷ worked_place 3 0 ∷ []

abbrev plan_with : ℕ → ℕ → ℕ → ℕ → ℕ → List Place → Plan
plan_with version flags memory cpus count places =
    record {
      version = version;
      flags = flags;
      default_mem = memory;
      default_cpus = cpus;
      count = count;
      places = places ++ replicate 28 blank_place;
    }

abbrev spare_plan : Plan
spare_plan = plan_with 2 0 0 0 3 (worked_places ++ worked_place 9 9 ∷ [])

same_plan_holds : SamePlan worked_plan spare_plan
unfolding in_table
same_plan_holds =
    record { version = refl; flags = refl; default_mem = refl; default_cpus = refl; count = refl; used = used }
  where
    used : (i : ℕ) → i < 3 → place_at worked_plan.places i ≡ place_at spare_plan.places i
    used zero h = refl
    used (suc zero) h = refl
    used (suc (suc zero)) h = refl
    used (suc (suc (suc i))) h = absurd (omega arith)

-- rejected: another value in each field, and in a used place
same_plan_rejects :
    (SamePlan spare_plan (plan_with 3 0 0 0 3 worked_places) → ⊥) × (SamePlan spare_plan (plan_with 2 1 0 0 3 worked_places) → ⊥)
    × (SamePlan spare_plan (plan_with 2 0 1 0 3 worked_places) → ⊥) × (SamePlan spare_plan (plan_with 2 0 0 1 3 worked_places) → ⊥)
    × (SamePlan spare_plan (plan_with 2 0 0 0 4 worked_places) → ⊥)
    × (SamePlan spare_plan (plan_with 2 0 0 0 3 (worked_place 1 1 ∷ worked_place 2 1 ∷ worked_place 3 1 ∷ [])) → ⊥)
same_plan_rejects = (
  λ p. let h = p.version in omega arith,
  λ p. let h = p.flags in omega arith,
  λ p. let h = p.default_mem in omega arith,
  λ p. let h = p.default_cpus in omega arith,
  λ p. let h = p.count in omega arith,
  λ p. let h = ap (λ (x : Place). x.length.0) (p.used 2 (lit< tt)) in omega arith,
)

-- ---- numbers that fit

fits_holds : Fits worked_plan
unfolding in_table
fits_holds = record { flags = lit< tt; default_mem = lit< tt; default_cpus = lit< tt; section_flags = small }
  where
    small : (i : ℕ) → i < 3 → (place_at worked_plan.places i).flags < 65536
    small zero h = lit< tt
    small (suc zero) h = lit< tt
    small (suc (suc zero)) h = lit< tt
    small (suc (suc (suc i))) h = absurd (omega arith)

fits_rejects :
    (Fits (plan_with 2 65536 0 0 3 worked_places) → ⊥) × (Fits (plan_with 2 0 18446744073709551616 0 3 worked_places) → ⊥)
    × (Fits (plan_with 2 0 0 18446744073709551616 3 worked_places) → ⊥)
    × (Fits (plan_with 2 0 0 0 1 (record { kind = 1; flags = 65536; length = record { 0 = 1 } } ∷ [])) → ⊥)
fits_rejects = (
  λ f. let h = f.flags in omega arith,
  λ f. let h = f.default_mem in omega arith,
  λ f. let h = f.default_cpus in omega arith,
  λ f. let h = f.section_flags 0 (lit< tt) in omega arith,
)

-- ---- the plan of the worked image is not refused: what is written is read back, and the other way round

plan_accepted : plan_verdict worked_plan 2 ≡ Accepted
unfolding plan_verdict field_fault first_refusal type_fault allowed_in order_fault seen types_verdict missing_fault missing in_table packed_by data_before size_fault
plan_accepted = refl

reads_back_holds : ReadsBack worked_plan (0x4b ∷ 0x61 ∷ [])
reads_back_holds = read_plain worked_plan (0x4b ∷ 0x61 ∷ []) plan_accepted fits_holds (bytes_by (0x4b ∷ 0x61 ∷ []) refl)

-- rejected: a byte of data too many
reads_back_rejects : ReadsBack worked_plan (0x4b ∷ 0x61 ∷ 0x63 ∷ []) → ⊥
unfolding join_from in_table data_before
reads_back_rejects b = let h = ap length b.pieces_whole in omega arith

writes_holds : Writes worked_plan (0x4b ∷ 0x61 ∷ []) worked_image
writes_holds = subst (Writes worked_plan (0x4b ∷ 0x61 ∷ [])) worked_plain (written_plain worked_plan (0x4b ∷ 0x61 ∷ []) plan_accepted)

-- rejected: an image with a byte more; data of another length
writes_rejects : (Writes worked_plan (0x4b ∷ 0x61 ∷ []) (worked_image ++ 0 ∷ []) → ⊥) × (Writes worked_plan (0x4b ∷ []) worked_image → ⊥)
unfolding plan_verdict field_fault first_refusal type_fault allowed_in order_fault seen types_verdict missing_fault missing in_table packed_by data_before size_fault
writes_rejects = (λ w. let h = ap length (sym worked_plain ∙ w.image) in omega arith, λ w. never _ w.not_refused)

written_holds : WrittenFrom worked_image
written_holds =
    record {
      plan = worked_plan;
      given = 0x4b ∷ 0x61 ∷ [];
      fits = fits_holds;
      bytes = bytes_by (0x4b ∷ 0x61 ∷ []) refl;
      not_refused = plan_accepted;
      image = worked_plain;
    }

plain_holds : Plain worked_image
plain_holds = (plain_exactly_when worked_image worked_are_bytes).1 written_holds

abbrev other_reserved : List ℕ
other_reserved = over worked_image 25 (1 ∷ [])

-- rejected: another byte in each reserved field, and in the first unused entry of each table
unused_rejects :
    (UnusedZero other_reserved → ⊥) × (UnusedZero (over worked_image 543 (1 ∷ [])) → ⊥)
    × (UnusedZero (over worked_image 59 (1 ∷ [])) → ⊥) × (UnusedZero (over worked_image 315 (1 ∷ [])) → ⊥)
unfolding over field be_value
unused_rejects = (
  λ u. let h = u.reserved_zero in omega arith,
  λ u. let h = u.reserved_after_zero in omega arith,
  λ u. let h = u.unused_offset 3 (lit≤ tt) (lit< tt) in omega arith,
  λ u. let h = u.unused_size 3 (lit≤ tt) (lit< tt) in omega arith,
)

-- rejected: another byte in a reserved field; no bytes
plain_rejects :
    (Plain other_reserved → ⊥) × (Plain [] → ⊥) × (WrittenFrom other_reserved → ⊥) × (WrittenFrom [] → ⊥)
unfolding over verdict_in early judged header_fault field_fault position_in
plain_rejects = (
  λ p. unused_rejects.0 p.unused,
  λ p. never _ p.accepted,
  λ w. unused_rejects.0 ((plain_exactly_when other_reserved (bytes_by other_reserved refl)).1 w).unused,
  λ w. never _ ((plain_exactly_when [] tt).1 w).accepted,
)

same_writing_holds : SameWriting worked_plan spare_plan
same_writing_holds = one_plain_image worked_plan spare_plan same_plan_holds

-- rejected: a used place with another length
same_writing_rejects : SameWriting worked_plan (plan_with 2 0 0 0 3 (worked_place 1 1 ∷ worked_place 2 1 ∷ worked_place 3 1 ∷ [])) → ⊥
unfolding in_table packed_by
same_writing_rejects w = let h = w.size in omega arith
