-- Places past the count are ignored: what is judged and written depends on a plan's fields and used places alone.
-- Assumes nothing.
use Prim.Native.Nat.{ℕ, zero, suc, ◌+◌, ◌<◌, ◌≤◌}
use mathlib.Core.Path.{◌≡◌, refl, ap, ap₂, ◌∙◌}
use mathlib.Core.Bool.{not}
use mathlib.Core.List.{List, ◌++◌}
use native.Mathlib.Omega.{arith}
use lib.Dec.{ltb, eqb}
use lib.ListN.{take, drop}
use Rattle.octets.specs.Bytes.{be_bytes, be_bytes_each}
use Rattle.crc32.specs.Crc.{crc32}
use Rattle.eif.specs.Numbers.{size_limit, place_count, image_too_long, data_length_differs}
use Rattle.octets.specs.Logic.{choose}
use Rattle.eif.specs.Answers.{whole_verdict, and_then}
use Rattle.eif.specs.Rules.{field_fault, types_verdict}
use Rattle.eif.specs.Layout.{magic_number, entry_size}
use Rattle.eif.specs.Plan.{place_at, planned_kind, planned_size, packed_at, data_before, plain_size, size_fault, plan_verdict, fixed_fields, table_bytes, header_bytes, piece_at, section_header, section_bytes, body_bytes, plain_image}
use Rattle.eif.specs.declared.Place.{Place}
use Rattle.eif.specs.declared.Plan.{Plan}
use Rattle.plain_laws.specs.Packed.{SamePlan}
use Rattle.eif_lemmas.proofs.Types.{types_same}
use Rattle.eif_lemmas.proofs.Table.{filled_same, join_same}
use Rattle.eif.specs.Table.{join_from}
use Rattle.plain_laws.proofs.Shape.{packed_agree}

table_same : (f g : ℕ → ℕ) (count : ℕ) → ((i : ℕ) → i < count → f i ≡ g i) → table_bytes f count ≡ table_bytes g count
unfolding table_bytes
table_same f g count h = ap (be_bytes_each entry_size) (filled_same f g 0 place_count count h)

-- ---- lists of places with the same first ones

module _ (l m : List Place) (count : ℕ) (same : (i : ℕ) → i < count → place_at l i ≡ place_at m i) where
  kind_same : (i : ℕ) → i < count → planned_kind l i ≡ planned_kind m i
  kind_same i h = ap (λ (x : Place). x.kind) (same i h)

  size_same : (i : ℕ) → i < count → planned_size l i ≡ planned_size m i
  size_same i h = ap (λ (x : Place). x.length.0) (same i h)

  packed_same : (i : ℕ) → i ≤ count → packed_at l i ≡ packed_at m i
  packed_same i h = packed_agree (planned_size l) (planned_size m) i (λ j q. size_same j (omega arith))

  before_same : (i : ℕ) → i ≤ count → data_before l i ≡ data_before m i
  unfolding data_before
  before_same zero h = refl
  before_same (suc i) h = ap₂ (λ (x y : ℕ). x + y) (before_same i (omega arith)) (size_same i h)

  offsets_same : table_bytes (packed_at l) count ≡ table_bytes (packed_at m) count
  offsets_same = table_same (packed_at l) (packed_at m) count (λ i h. packed_same i (omega arith))

  sizes_same : table_bytes (planned_size l) count ≡ table_bytes (planned_size m) count
  sizes_same = table_same (planned_size l) (planned_size m) count size_same

  piece_same : (d : List ℕ) (i : ℕ) → i < count → piece_at l d i ≡ piece_at m d i
  piece_same d i h = ap₂ (λ (n b : ℕ). take n (drop b d)) (size_same i h) (before_same i (omega arith))

  sections_same : (d : List ℕ) → join_from (section_bytes l d) count 0 ≡ join_from (section_bytes m d) count 0
  sections_same d =
      join_same (section_bytes l d) (section_bytes m d) count 0
      (λ i h. ap₂ (λ (x : Place) (r : List ℕ). section_header x ++ r) (same i (omega arith)) (piece_same d i (omega arith)))

-- ---- two such plans

module _ (p q : Plan) (e : SamePlan p q) where
  abbrev l : List Place
  l = p.places

  abbrev m : List Place
  m = q.places

  pub size_of_same : plain_size p ≡ plain_size q
  size_of_same = packed_same l m p.count e.used p.count (omega arith) ∙ ap (packed_at m) e.count

  sum_same : data_before l p.count ≡ data_before m q.count
  sum_same = before_same l m p.count e.used p.count (omega arith) ∙ ap (data_before m) e.count

  types_of_same : types_verdict p.version (planned_kind l) p.count ≡ types_verdict q.version (planned_kind m) q.count
  types_of_same =
      types_same (planned_kind l) (planned_kind m) p.version p.count (kind_same l m p.count e.used)
      ∙ ap₂ (λ (v n : ℕ). types_verdict v (planned_kind m) n) e.version e.count

  -- ---- the same verdict

  pub verdict_of_same : (given : ℕ) → plan_verdict p given ≡ plan_verdict q given
  unfolding plan_verdict size_fault
  verdict_of_same given =
      let f = ap₂ field_fault e.version e.count in
      λ t. and_then (whole_verdict (f t)) (and_then (types_of_same t)
      (whole_verdict (choose (ltb size_limit (size_of_same t)) image_too_long (choose (not (eqb given (sum_same t))) data_length_differs 0))))

  -- ---- the same image

  fixed_same : fixed_fields p ≡ fixed_fields q
  unfolding fixed_fields
  fixed_same =
      λ t.
      be_bytes 4 magic_number ++ (be_bytes 2 (e.version t) ++ (be_bytes 2 (e.flags t) ++ (be_bytes 8 (e.default_mem t)
      ++ (be_bytes 8 (e.default_cpus t) ++ (be_bytes 2 0 ++ be_bytes 2 (e.count t))))))

  header_same : header_bytes p ≡ header_bytes q
  unfolding header_bytes
  header_same =
      let a = fixed_same in
      let b = offsets_same l m p.count e.used ∙ ap (table_bytes (packed_at m)) e.count in
      let c = sizes_same l m p.count e.used ∙ ap (table_bytes (planned_size m)) e.count in
      λ t. a t ++ (b t ++ (c t ++ be_bytes 4 0))

  body_same : (d : List ℕ) → body_bytes p d ≡ body_bytes q d
  body_same d = sections_same l m p.count e.used d ∙ ap (λ (n : ℕ). join_from (section_bytes m d) n 0) e.count

  pub image_of_same : (d : List ℕ) → plain_image p d ≡ plain_image q d
  unfolding plain_image
  image_of_same d = ap₂ (λ (h b : List ℕ). h ++ (be_bytes 4 (crc32 (h ++ b)) ++ b)) header_same (body_same d)
