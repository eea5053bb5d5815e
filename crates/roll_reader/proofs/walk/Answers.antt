use Prim.Native.Nat.{ℕ, suc, ◌+◌, ◌<◌, ◌≤◌}
use mathlib.Core.Path.{◌≡◌, refl, sym, ap, ◌∙◌}
use mathlib.Core.List.{List}
use native.Mathlib.Omega.{arith}
use native.Mathlib.Numerals.{add-one}
use borrow.Author.Rules.{rules}
use lib.ListN.{length}
use Rattle.eif.specs.Numbers.{place_count, record_cut}
use Rattle.eif.specs.Roll.{record_head_size, end_type, record_at, record_kind, listed_at, blank_record, head_fault, body_fault}
use Rattle.eif_lemmas.proofs.Head.{body_zero}
use Rattle.eif_lemmas.proofs.Table.{length_filled, filled_next}
use Rattle.roll_reader.specs.Walk.{record_fault, stopped_at}
use Rattle.roll_reader.proofs.Records.{kind_here, record_next, listed_here, head_cut, head_clean, by_body}
use Rattle.roll_reader.proofs.Ending.{walk_head, walk_end, walk_stop, walk_on}
use Rattle.roll_reader.proofs.walk.Goals as goal
use Rattle.roll_reader.proofs.walk.Goals.{After-le16-kind, After-le64-length, After-record_fault-fault, At-loop-at, Else-fault-ne0}

-- `roll_reader::walk` meets its contract. The loop's invariant: record i starts at `at`, the tables are filled for the
-- records before it, and the rest from here is the whole. The measure is the number of records that may follow.
-- Assumes nothing.
-- ---- what is known where a turn starts, after a record that no rule refuses, after its type and after its length
module _ (c : At-loop-at) where
  abbrev roll : List ℕ
  roll = c.args.rest.now

  abbrev i : ℕ
  i = c.loop-at.i

  abbrev at : ℕ
  at = c.loop-at.at

  abbrev here : at ≡ record_at roll i
  here = c.loop-at.invariant.2

module _ (c : Else-fault-ne0) where
  abbrev turn : At-loop-at
  turn = (goal.at.Else-fault-ne0 c).At-loop-at

  good : record_fault (roll turn) (i turn) ≡ 0
  good = sym c.record_fault-fault.ensures ∙ c.if-fault-ne0.false

  clean : head_fault (roll turn) (i turn) ≡ 0
  clean = head_clean (roll turn) (i turn) good

module _ (c : After-le16-kind) where
  abbrev l : At-loop-at
  l = turn (goal.at.After-le16-kind c).Else-fault-ne0

  kind-is : c.le16-kind.result ≡ record_kind (roll l) (i l)
  kind-is = kind_here (roll l) (i l) (at l) (here l) c.le16-kind.result c.le16-kind.ensures

module _ (c : After-le64-length) where
  abbrev typed : After-le16-kind
  typed = (goal.at.After-le64-length c).After-le16-kind

  abbrev t : At-loop-at
  t = l typed

  other : record_kind (roll t) (i t) ≡ end_type → ⊥
  other e = c.if-kind-eq-END_TYPE.false (kind-is typed ∙ e)

  rest-good : body_fault (roll t) (i t) ≡ 0
  rest-good = by_body (roll t) (i t) (sym (clean (goal.at.After-le16-kind typed).Else-fault-ne0)) other ∙ good (goal.at.After-le16-kind typed).Else-fault-ne0

  free : i t < place_count
  free = (body_zero (roll t) (i t) rest-good).0

  next : at t + record_head_size + c.le64-length.result ≡ record_at (roll t) (suc (i t))
  next = record_next (roll t) (i t) (at t) (here t) c.le64-length.result c.le64-length.ensures

  inside : at t + record_head_size + c.le64-length.result ≤ length (roll t)
  inside = omega (arith, next, (body_zero (roll t) (i t) rest-good).1)

pub loop-at-init : goal.loop-at-init
unfolding record_at
loop-at-init c = (search rules, search rules, refl, refl, refl, refl)

pub returns-then-rest-at-lt-SIZE : goal.returns-then-rest-at-lt-SIZE
returns-then-rest-at-lt-SIZE c = let q = (goal.at.returns-then-rest-at-lt-SIZE c).At-loop-at in
    c.stopped.ensures ∙ ap (stopped_at record_cut (i q)) (here q)
    ∙ walk_head (roll q) (i q) q.loop-at.invariant.0 q.loop-at.invariant.5 record_cut (head_cut (roll q) (i q) (at q) (here q) (omega arith)) (λ z. omega arith)

pub slice_bounds-record_fault-end : goal.slice_bounds-record_fault-end
slice_bounds-record_fault-end c = let q = (goal.at.slice_bounds-record_fault-end c).At-loop-at in
    sym (ap length q.loop-at.invariant.3 ∙ length_filled (record_kind (roll q)) 0 place_count (i q))

pub record_fault-fault-requires : goal.record_fault-fault-requires
record_fault-fault-requires c = let q = c.loop-at in
    record {
      i_le_place_count = q.invariant.0;
      at_value = q.invariant.2;
      record_head_size_in_bounds = omega arith;
      kinds_value = q.invariant.3;
    }

pub returns-then-fault-ne0 : goal.returns-then-fault-ne0
returns-then-fault-ne0 c = let r = (goal.at.returns-then-fault-ne0 c).After-record_fault-fault in
    let q = (goal.at.After-record_fault-fault r).At-loop-at in
    c.stopped-then-fault-ne0.ensures ∙ ap (stopped_at r.record_fault-fault.result (i q)) (here q)
    ∙ walk_stop (roll q) (i q) q.loop-at.invariant.0 q.loop-at.invariant.5 r.record_fault-fault.result r.record_fault-fault.ensures c.if-fault-ne0.true

pub returns-then-kind-eq-END_TYPE : goal.returns-then-kind-eq-END_TYPE
returns-then-kind-eq-END_TYPE c = let q = l (goal.at.returns-then-kind-eq-END_TYPE c).After-le16-kind in
    let v = q.loop-at.invariant in
    walk_end (roll q) (i q) v.0 v.5 (clean (goal.at.returns-then-kind-eq-END_TYPE c).Else-fault-ne0) (at q) q.loop-at.kinds q.loop-at.records (sym (kind-is (goal.at.returns-then-kind-eq-END_TYPE c).After-le16-kind) ∙ c.if-kind-eq-END_TYPE.true) (here q) v.3 v.4

pub offset_bounds-kinds-i : goal.offset_bounds-kinds-i
offset_bounds-kinds-i c = omega (arith, free c)

pub bounds-kinds-i : goal.bounds-kinds-i
bounds-kinds-i c = free c

pub offset_bounds-records-i : goal.offset_bounds-records-i
offset_bounds-records-i c = omega (arith, free c)

pub bounds-records-i : goal.bounds-records-i
bounds-records-i c = free c

pub overflow_add-at-in-loop-at : goal.overflow_add-at-in-loop-at
overflow_add-at-in-loop-at c = omega (arith, inside c)

pub overflow_add-at-in-loop-at-2 : goal.overflow_add-at-in-loop-at-2
overflow_add-at-in-loop-at-2 c = omega (arith, inside c)

pub loop-at-preserved : goal.loop-at-preserved
loop-at-preserved c = let q = t c in
    let s = roll q in
    let n = i q in
    let v = q.loop-at.invariant in
    let k = (typed c).le16-kind in (
      omega (arith, free c),
      inside c,
      next c ∙ ap (record_at s) (sym (add-one n)),
      filled_next (record_kind s) 0 k.result place_count n q.loop-at.kinds (free c) v.3 (kind-is (typed c)),
      filled_next (listed_at s) blank_record _ place_count n q.loop-at.records (free c) v.4 (listed_here s n (at q) (here q) k.result c.le64-length.result k.ensures c.le64-length.ensures),
      walk_on s n v.0 v.5 (clean (goal.at.After-le16-kind (typed c)).Else-fault-ne0) (other c) (rest-good c),
    )

pub overflow_add-records : goal.overflow_add-records
overflow_add-records c = omega (arith, inside c)

pub overflow_add-records-in-loop-at : goal.overflow_add-records-in-loop-at
overflow_add-records-in-loop-at c = omega (arith, inside c)
