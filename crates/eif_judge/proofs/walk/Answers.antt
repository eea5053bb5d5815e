use Prim.Native.Nat.{ℕ, suc, ◌-◌, ◌<◌}
use mathlib.Core.Path.{◌≡◌, refl, sym, ap, ap₂, ◌∙◌}
use mathlib.Core.List.{List}
use native.Mathlib.Omega.{arith}
use native.Mathlib.Nat.{sub_self, sub-zero}
use native.Mathlib.Numerals.{add-one}
use borrow.Author.Rules.{rules}
use lib.ListN.{get_or, set}
use Rattle.eif.specs.Numbers.{place_count}
use Rattle.eif.specs.Answers.{refuse}
use Rattle.eif.specs.Rules.{order_fault, first_fault, first_refusal}
use Rattle.eif.specs.Layout.{View}
use Rattle.eif.specs.Reading.{entry_fault, section_fault}
use Rattle.eif.specs.declared.Verdict.{Verdict}
use Rattle.eif_lemmas.proofs.Verdicts.{never, walk_stop, walk_on}
use Rattle.eif_lemmas.proofs.Types.{order_none, order_kernel, order_lone, order_twice, order_more, order_more_ramdisk}
use Rattle.eif_lemmas.proofs.Table.{filled_more, filled_at}
use Rattle.eif_lemmas.proofs.View.{sound, fault_entry_holds, fault_order}
use Rattle.eif_judge.specs.Kept.{view_from}
use Rattle.eif_judge.proofs.walk.Goals as goal
use Rattle.eif_judge.proofs.walk.Goals.{After-kind_at-kind, At-sections, then-j-eq0+else-kind-eq-RAMDISK, else-j-eq0+then-kind-eq-RAMDISK-2+then-earlier-eq-KERNEL}

-- `eif_judge::walk` meets its contract. Before each section the verdict on the rest from here is the verdict on all, and the
-- tables hold the sections passed; in the check of earlier types the rules 10 and 11 on those that are left stay what they
-- are on all. The measures are the sections and the earlier types left. Assumes nothing.
-- ---- at a section
module _ (c : At-sections) where
  abbrev view : View
  view = view_from c.args.header.now c.args.headers.now c.args.size

  abbrev count : ℕ
  count = c.args.count

  -- the rules' number at this section is the verdict on all
  stop : (v : Verdict) (k : ℕ) → v ≡ refuse k c.sections.i → c.sections.i < count → (k ≡ 0 → ⊥) → section_fault view c.sections.i ≡ k
      → v ≡ first_fault (section_fault view) count 0
  stop v k r h z e = r ∙ walk_stop (section_fault view) c.sections.i count h k z e ∙ c.sections.invariant.3

-- ---- after the section was read
module _ (c : After-kind_at-kind) where
  abbrev at : At-sections
  at = (goal.at.After-kind_at-kind c).At-sections

  abbrev here : ℕ
  here = at.sections.i

  abbrev kind : ℕ
  kind = c.kind_at-kind.result

  clean : entry_fault (view at) here ≡ 0
  clean = sym c.entry_fault-fault.ensures ∙ c.if-fault-ne0.false

  kind-here : kind ≡ (view at).kind here
  kind-here = c.kind_at-kind.ensures

  fault-here : section_fault (view at) here ≡ order_fault (view at).kind kind here
  fault-here = fault_order (view at) here clean ∙ ap (λ (k : ℕ). order_fault (view at).kind k here) (sym kind-here)

  -- the type in place j of the table
  earlier : (j : ℕ) → j < here → get_or at.sections.kinds j 0 ≡ (view at).kind j
  earlier j h =
      ap (λ (l : List ℕ). get_or l j 0) at.sections.invariant.2
      ∙ filled_at (view at).kind 0 0 place_count here j h (omega arith)

pub loop-j-preserved-else-earlier-eq-KERNEL : goal.loop-j-preserved-else-earlier-eq-KERNEL
loop-j-preserved-else-earlier-eq-KERNEL c = let q = (goal.at.loop-j-preserved-else-earlier-eq-KERNEL c).After-kind_at-kind in
    let l = c.loop-j in
    let e : suc (l.j - 1) ≡ l.j = omega arith in
    let step = order_more_ramdisk (view (at q)).kind (kind q) (l.j - 1) c.if-kind-eq-RAMDISK-2.true (λ z. c.if-earlier-eq-KERNEL.false (earlier q (l.j - 1) (omega arith) ∙ z)) in
    (omega arith, sym step ∙ ap (order_fault (view (at q)).kind (kind q)) e ∙ l.invariant.1)

pub loop-j-preserved : goal.loop-j-preserved
loop-j-preserved c = let q = (goal.at.loop-j-preserved c).After-kind_at-kind in
    let l = c.loop-j in
    let e : suc (l.j - 1) ≡ l.j = omega arith in
    let step = order_more (view (at q)).kind (kind q) (l.j - 1) c.if-kind-eq-RAMDISK-2.false (λ z. c.if-earlier-kind.false (earlier q (l.j - 1) (omega arith) ∙ z)) in
    (omega arith, sym step ∙ ap (order_fault (view (at q)).kind (kind q)) e ∙ l.invariant.1)

pub end_at-begin-requires : goal.end_at-begin-requires
end_at-begin-requires c = let q = (goal.at.end_at-begin-requires c).After-kind_at-kind in
    (search rules, (sound (view (at q)) (here q) (clean q)).ends)

pub sections-preserved : goal.sections-preserved
sections-preserved c = let q = (goal.at.sections-preserved c).After-kind_at-kind in
    let l = (at q).sections in
    let t = c.loop-j in
    let few = (at q).requires.1 in
    let ok : order_fault (view (at q)).kind (kind q) (here q) ≡ 0 =
    sym t.invariant.1
    ∙ elim c.if-j-eq0.branch [
      | then-j-eq0+else-kind-eq-RAMDISK w ↦ rw w.if-j-eq0.true (order_none (view (at q)).kind (kind q) w.if-kind-eq-RAMDISK.false)
      | else-j-eq0+then-kind-eq-RAMDISK-2+then-earlier-eq-KERNEL w ↦
          let h : t.j ≡ 0 → ⊥ = w.if-j-eq0.false in
          let p : suc (t.j - 1) ≡ t.j = omega arith in
          sym (ap (order_fault (view (at q)).kind (kind q)) p) ∙ order_kernel (view (at q)).kind (kind q) (t.j - 1) w.if-kind-eq-RAMDISK-2.true (sym (earlier q (t.j - 1) (omega arith)) ∙ w.if-earlier-eq-KERNEL.true)
    ] in (
      omega arith,
      c.end_at-begin.ensures ∙ rw add-one refl,
      ap₂ (λ (a : List ℕ) (x : ℕ). set a l.i x) l.invariant.2 (kind-here q) ∙ filled_more (view (at q)).kind 0 place_count l.i (omega (arith, few)) ∙ rw add-one refl,
      sym (walk_on (section_fault (view (at q))) (here q) (count (at q)) (omega arith) (fault-here q ∙ ok)) ∙ l.invariant.3,
    )

pub returns-then-count-i : goal.returns-then-count-i
unfolding first_refusal
returns-then-count-i c = let l = c.sections in
    let e : l.i ≡ count (goal.at.returns-then-count-i c).At-sections = omega arith in
    record { verdict_value = rw (e, sub_self) at l.invariant.3; kinds_value = λ _. (rw e at l.invariant.2, rw e at l.invariant.1) }

pub returns-then-fault-ne0 : goal.returns-then-fault-ne0
returns-then-fault-ne0 c = let q = (goal.at.returns-then-fault-ne0 c).At-sections in
    let e = c.entry_fault-fault.ensures in
    let r = c.refuse-verdict.ensures in record { verdict_value = stop q _ _ r c.if-count-i.false c.if-fault-ne0.true (fault_entry_holds (view q) q.sections.i (λ z. c.if-fault-ne0.true (e ∙ z)) ∙ sym e); kinds_value = λ a. never _ (sym r ∙ a) }

pub returns-then-kind-eq-RAMDISK : goal.returns-then-kind-eq-RAMDISK
returns-then-kind-eq-RAMDISK c = let q = (goal.at.returns-then-kind-eq-RAMDISK c).After-kind_at-kind in
    let l = c.loop-j in
    let z : l.j ≡ 0 = c.if-j-eq0.true in
    let r = c.refuse-verdict-then-kind-eq-RAMDISK.ensures in record {
      verdict_value = stop (at q) _ _ r q.if-count-i.false (λ e. omega arith)
          (fault-here q ∙ sym l.invariant.1 ∙ rw z (order_lone (view (at q)).kind (kind q) c.if-kind-eq-RAMDISK.true));
      kinds_value = λ a. never _ (sym r ∙ a);
    }

pub returns-then-earlier-kind : goal.returns-then-earlier-kind
returns-then-earlier-kind c = let q = (goal.at.returns-then-earlier-kind c).After-kind_at-kind in
    let l = c.loop-j in
    let e : suc (l.j - 1) ≡ l.j = omega arith in
    let r = c.refuse-verdict-then-earlier-kind.ensures in record {
      verdict_value = stop (at q) _ _ r q.if-count-i.false (λ e. omega arith)
          (fault-here q ∙ sym l.invariant.1 ∙ sym (ap (order_fault (view (at q)).kind (kind q)) e)
          ∙ order_twice (view (at q)).kind (kind q) (l.j - 1) c.if-kind-eq-RAMDISK-2.false (sym (earlier q (l.j - 1) (omega arith)) ∙ c.if-earlier-kind.true));
      kinds_value = λ a. never _ (sym r ∙ a);
    }

pub sections-init : goal.sections-init
sections-init c = (search rules, refl, refl, rw sub-zero refl)

pub loop-j-init : goal.loop-j-init
loop-j-init c = (search rules, refl)
