-- Reading the plain image of a plan gives the plan back.
-- Assumes nothing.
use Prim.Native.Nat.{ℕ, zero, suc, ◌+◌, ◌<◌}
use mathlib.Core.Path.{◌≡◌, refl, sym, ap, ap₂, ◌∙◌}
use mathlib.Core.Bool.{false}
use mathlib.Core.List.{List}
use native.Mathlib.Omega.{arith}
use borrow.Author.Tests.{le-ltb}
use lib.ListN.{length}
use Rattle.octets.specs.Bytes.{AreBytes}
use Rattle.eif.specs.Numbers.{place_count}
use Rattle.eif.specs.Rules.{allowed_in, missing}
use Rattle.eif.specs.Table.{filled}
use Rattle.eif.specs.Layout.{view_of, architecture, count_of, start_at, kind_at, section_header_size}
use Rattle.eif.specs.Reading.{entry_fault, has_tail, checksum_of, verdict_of, section_at, blank_section, sections_of, mark_of, read_image}
use Rattle.eif.specs.Plan.{planned_kind, packed_at, plain_size, plain_image, planned_size}
use Rattle.eif.specs.declared.Place.{Place}
use Rattle.eif.specs.declared.Plan.{Plan}
use Rattle.eif.specs.declared.Verdict.TheVariants.{Accepted}
use Rattle.eif_lemmas.proofs.Table.{filled_same}
use Rattle.eif_lemmas.proofs.View.{no_fault, fault_order}
use Rattle.eif_lemmas.proofs.Accept.{→accepted}
use Rattle.eif_lemmas.proofs.Reading.{reading_accepted}
use Rattle.plain_laws.specs.Packed.{packed_section, packed_sections, packed_reading}
use Rattle.plain_laws.proofs.PlanRules.{TypesFine, types_fine_same, Planned}
use Rattle.plain_laws.proofs.Shape.{packed_le, packed_zero, length_plain}
use Rattle.plain_laws.specs.RoundTrip.{Fits}
use Rattle.plain_laws.proofs.Written.{read_magic, read_version, read_flags, read_default_mem, read_default_cpus, read_count, read_offset, read_size, read_kind, read_section_flags, read_own_size, read_start, read_end, read_sum}

-- ---- it is accepted

module _ (p : Plan) (d : List ℕ) (a : Planned p (length d)) where
  abbrev s : List ℕ
  s = plain_image p d

  abbrev l : List Place
  l = p.places

  pub long : length s ≡ plain_size p
  long = length_plain p d a.sized

  read_types : TypesFine p.version (kind_at s) p.count
  read_types = types_fine_same p.version (kind_at s) (planned_kind l) p.count (read_kind p d a) a.types

  entry_fine : (i : ℕ) → i < p.count → entry_fault (view_of s) i ≡ 0
  entry_fine i h =
      let o = read_offset p d a i h in
      let b = read_start p d a i h in
      let e = read_end p d a i h in
      let n = packed_le l (suc i) p.count h in
      let g = long in
      no_fault (view_of s) i (omega arith) (omega arith) (read_own_size p d a i h ∙ sym (read_size p d a i h))
      (ap (λ (x : ℕ). allowed_in x (kind_at s i)) (read_version p d a) ∙ read_types.allowed i h)

  -- it ends with its last section
  tail_free : has_tail (view_of s) ≡ false
  tail_free = by p.count refl
    where
      by : (n : ℕ) → p.count ≡ n → has_tail (view_of s) ≡ false
      by zero e = let h = a.fields.some in absurd (omega arith)
      by (suc n) e =
          let c : start_at s (count_of s) ≡ start_at s (suc n) = ap (start_at s) (read_count p d a ∙ e) in
          let r = read_end p d a n (omega arith) in
          let g = long ∙ ap (packed_at l) e in
          le-ltb (start_at s (count_of s)) (length s) (omega arith)

  module _ (w : AreBytes d) where
    pub plain_accepted : verdict_of s ≡ Accepted
    plain_accepted =
        let g = long in
        let v = read_version p d a in
        let n = read_count p d a in
        let z = packed_zero (planned_size l) in
        let m = packed_le l 0 p.count (omega arith) in
        let sm = a.small in
        →accepted (view_of s) (checksum_of s)
        (record {
          head = record {
            small = omega arith;
            whole = omega arith;
            magic = read_magic p d a;
            fields = rw (v, n) a.fields;
          };
          sections = λ i h. fault_order (view_of s) i (entry_fine i (omega arith)) ∙ read_types.order i (omega arith);
          complete = ap₂ (missing (kind_at s)) v n ∙ read_types.none_missing;
          no_tail = tail_free;
          sum = read_sum p d a w;
        })

    -- ---- and gives the plan's fields and places

    module _ (c : Fits p) where
      section_back : (i : ℕ) → i < p.count → section_at s i ≡ packed_section l i
      section_back i h =
          let k = read_kind p d a i h in
          let f = read_section_flags p d a i h (c.section_flags i h) in
          let o = ap (λ (x : ℕ). x + section_header_size) (read_offset p d a i h) in
          let z = read_size p d a i h in
          λ t. record { kind = k t; flags = f t; position = record { 0 = o t }; length = record { 0 = z t } }

      pub sections_back : sections_of s ≡ packed_sections p
      sections_back =
          ap (filled (section_at s) blank_section place_count) (read_count p d a)
          ∙ filled_same (section_at s) (packed_section l) blank_section place_count p.count section_back

      pub reads_back : read_image s ≡ packed_reading p
      reads_back =
          let v = read_version p d a in
          let n = read_count p d a in
          let f = read_flags p d a c.flags in
          let m = read_default_mem p d a c.default_mem in
          let u = read_default_cpus p d a c.default_cpus in
          let q = sections_back in
          reading_accepted s plain_accepted
          ∙ (λ t. record { verdict = Accepted; version = v t; flags = f t; architecture = architecture (f t); default_mem = m t; default_cpus = u t; count = n t; sections = q t; ramdisk_mark = mark_of (q t) })
