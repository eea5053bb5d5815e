use Prim.Native.Nat.{ℕ, ◌+◌, ◌≤◌}
use mathlib.Core.Path.{◌≡◌, sym, ap, ◌∙◌}
use mathlib.Core.List.{List}
use native.Mathlib.Omega.{arith}
use lib.ListN.{length}
use Rattle.eif.specs.Numbers.{ramdisk, record_type_wrong}
use Rattle.eif.specs.Rules.{order_fault}
use Rattle.eif.specs.Roll.{record_head_size, end_type, record_at, record_kind, body_fault}
use Rattle.roll_reader.specs.Walk.{record_fault}
use Rattle.roll_reader.proofs.Records.{kept_length, kept_order, kind_here, head_type, head_other, end_size, end_whole, body_count, body_cut, body_order, by_head, by_end, by_body}
use Rattle.roll_reader.proofs.record_fault.Goals as goal
use Rattle.roll_reader.proofs.record_fault.Goals.{After-le16-kind}

-- `roll_reader::record_fault` meets its contract: each return is a rule on the record, from the tests that led to it, and the
-- last hands on what the rules 10 and 11 say of the types that were kept.
-- Assumes nothing.
-- ---- what is known after the head was read
module _ (c : After-le16-kind) where
  abbrev roll : List ℕ
  roll = c.args.rest.now

  abbrev i : ℕ
  i = c.args.i

  abbrev at : ℕ
  at = c.args.at

  abbrev kind : ℕ
  kind = c.le16-kind.result

  abbrev size : ℕ
  size = c.le64-length.result

  here : at ≡ record_at roll i
  here = c.requires.at_value

  whole : at + record_head_size ≤ length roll
  whole = c.requires.record_head_size_in_bounds

  kind-is : kind ≡ record_kind roll i
  kind-is = kind_here roll i at here kind c.le16-kind.ensures

  module _ (known : kind ≤ ramdisk) where
    -- the end record
    module _ (end : kind ≡ end_type) where
      ends : size ≡ 0 → 0 ≡ record_fault roll i
      ends e = by_end roll i (end_whole roll i at here whole kind c.le16-kind.ensures known end size c.le64-length.ensures e) (sym kind-is ∙ end)

      ends-wrong : (size ≡ 0 → ⊥) → record_type_wrong ≡ record_fault roll i
      ends-wrong h = by_head roll i record_type_wrong (λ z. omega arith) (end_size roll i at here whole kind c.le16-kind.ensures known end size c.le64-length.ensures h)

    -- any other
    goes_on : (kind ≡ end_type → ⊥) → body_fault roll i ≡ record_fault roll i
    goes_on other = by_body roll i (head_other roll i at here whole kind c.le16-kind.ensures known other) (λ e. other (kind-is ∙ e))

pub returns-then-kind-gt-RAMDISK : goal.returns-then-kind-gt-RAMDISK
returns-then-kind-gt-RAMDISK c = let q = (goal.at.returns-then-kind-gt-RAMDISK c).After-le16-kind in
    by_head (roll q) (i q) record_type_wrong (λ z. omega arith) (head_type (roll q) (i q) (at q) (here q) (whole q) (kind q) q.le16-kind.ensures c.if-kind-gt-RAMDISK.true)

pub returns-then-length-eq0 : goal.returns-then-length-eq0
returns-then-length-eq0 c = ends (goal.at.returns-then-length-eq0 c).After-le16-kind c.if-kind-gt-RAMDISK.false c.if-kind-eq-END_TYPE.true c.if-length-eq0.true

pub returns-else-length-eq0 : goal.returns-else-length-eq0
returns-else-length-eq0 c = ends-wrong (goal.at.returns-else-length-eq0 c).After-le16-kind c.if-kind-gt-RAMDISK.false c.if-kind-eq-END_TYPE.true c.if-length-eq0.false

pub returns-then-i-eq-PLACES : goal.returns-then-i-eq-PLACES
returns-then-i-eq-PLACES c = let q = (goal.at.returns-then-i-eq-PLACES c).After-le16-kind in
    body_count (roll q) (i q) c.if-i-eq-PLACES.true ∙ goes_on q c.if-kind-gt-RAMDISK.false c.if-kind-eq-END_TYPE.false

pub returns-then-left-length : goal.returns-then-left-length
returns-then-left-length c = let q = (goal.at.returns-then-left-length c).After-le16-kind in
    body_cut (roll q) (i q) (at q) (here q) (whole q) (omega arith) (size q) q.le64-length.ensures c.if-left-length.true
    ∙ goes_on q c.if-kind-gt-RAMDISK.false c.if-kind-eq-END_TYPE.false

pub slice_bounds-order_fault-end : goal.slice_bounds-order_fault-end
slice_bounds-order_fault-end c = let q = (goal.at.slice_bounds-order_fault-end c).After-le16-kind in
    kept_length (roll q) c.args.kinds.now (i q) c.requires.i_le_place_count c.requires.kinds_value

pub returns : goal.returns
returns c = let q = (goal.at.returns c).After-le16-kind in
    c.order_fault.ensures
    ∙ kept_order (roll q) c.args.kinds.now (i q) c.requires.i_le_place_count c.requires.kinds_value (kind q)
    ∙ ap (λ (x : ℕ). order_fault (record_kind (roll q)) x (i q)) (kind-is q)
    ∙ body_order (roll q) (i q) (at q) (here q) (whole q) (omega arith) (size q) q.le64-length.ensures c.if-left-length.false
    ∙ goes_on q c.if-kind-gt-RAMDISK.false c.if-kind-eq-END_TYPE.false
