-- What is written is plain; and the plan of an accepted image is never refused, and its numbers fit.
-- Assumes nothing.
use Prim.Native.Nat.{ℕ, ◌+◌}
use mathlib.Core.Path.{◌≡◌, ◌∙◌}
use mathlib.Core.List.{List}
use native.Mathlib.Omega.{arith}
use lib.ListN.{length}
use Rattle.octets.specs.Bytes.{AreBytes}
use Rattle.octets.proofs.Value.{field_lt, bytes_part}
use Rattle.eif.specs.Numbers.{place_count}
use Rattle.eif.specs.Layout.{header_flags_at, default_mem_at, default_cpus_at, section_flags_at, section_header_size, version_of, count_of, offset_at, size_at, kind_at}
use Rattle.eif.specs.Reading.{verdict_of, own_data}
use Rattle.eif.specs.Plan.{planned_kind, planned_size, packed_at, plan_verdict, plain_image, Plain}
use Rattle.eif.specs.declared.Place.{Place}
use Rattle.eif.specs.declared.Plan.{Plan}
use Rattle.eif.specs.declared.Verdict.TheVariants.{Accepted}
use Rattle.eif_lemmas.proofs.Table.{filled_past, bytes_joined}
use Rattle.eif_lemmas.proofs.Accept.{passes, order_at, sound_at, file_ends}
use Rattle.plain_laws.proofs.PlanRules.{types_fine_same, Planned, →planned}
use Rattle.plain_laws.specs.RoundTrip.{Fits}
use Rattle.plain_laws.proofs.Written.{read_count, offset_entry_holds, size_entry, read_reserved, read_reserved_after}
use Rattle.plain_laws.proofs.ReadBack.{plain_accepted}
use Rattle.plain_laws.proofs.Joined.{length_joined}
use Rattle.plain_laws.proofs.WriteBack.{plan, given, sound_head, place_is, kind_is, packed_is, length_own}

-- ---- what is written is plain

pub bytes_own : (s : List ℕ) (i : ℕ) → AreBytes s → AreBytes (own_data s i)
bytes_own s i w = bytes_part (size_at s i) (offset_at s i + section_header_size) s w

module _ (p : Plan) (d : List ℕ) (a : Planned p (length d)) where
  abbrev l : List Place
  l = p.places

  pub is_plain : AreBytes d → Plain (plain_image p d)
  is_plain w =
      let n = read_count p d a in
      record {
        accepted = plain_accepted p d a w;
        unused =
            record {
              reserved_zero = read_reserved p d a;
              reserved_after_zero = read_reserved_after p d a;
              unused_offset = λ i k h. offset_entry_holds p d a i h ∙ filled_past (packed_at l) 0 place_count p.count i (omega arith);
              unused_size = λ i k h. size_entry p d a i h ∙ filled_past (planned_size l) 0 place_count p.count i (omega arith);
            };
      }

-- ---- the plan of an accepted image is accepted

module _ (s : List ℕ) (ok : verdict_of s ≡ Accepted) where
  abbrev places : List Place
  places = (plan s).places

  pub plan_planned : Planned (plan s) (length (given s))
  plan_planned =
      let h = sound_head s ok in
      let b = packed_is s ok (count_of s) (omega arith) in
      let e = file_ends s ok in
      record {
        fields = h.fields;
        types =
            types_fine_same (version_of s) (planned_kind places) (kind_at s) (count_of s) (kind_is s ok)
            (record { allowed = λ i q. (sound_at s ok i q).known; order = order_at s ok; none_missing = (passes s ok).complete });
        small = omega arith;
        sized = length_joined places (count_of s) (own_data s) (length_own s ok);
      }

  pub plan_accepted : plan_verdict (plan s) (length (given s)) ≡ Accepted
  plan_accepted = →planned (plan s) (length (given s)) plan_planned

  module _ (w : AreBytes s) where
    pub plan_fits : Fits (plan s)
    plan_fits =
        record {
          flags = field_lt 2 header_flags_at s w;
          default_mem = field_lt 8 default_mem_at s w;
          default_cpus = field_lt 8 default_cpus_at s w;
          section_flags = λ i h. rw (place_is s ok i h) (field_lt 2 (offset_at s i + section_flags_at) s w);
        }

    pub bytes_given : AreBytes (given s)
    bytes_given =
        bytes_joined (own_data s) (count_of s) 0
        (λ j. bytes_own s j w)
