use Prim.Native.Nat.{ℕ, suc, ◌+◌, ◌-◌, ◌≤◌, min}
use mathlib.Core.Path.{◌≡◌, sym, ap, ap₂, ◌∙◌}
use mathlib.Core.List.{List}
use native.Mathlib.Omega.{arith}
use native.Mathlib.Numerals.{add-one}
use native.Mathlib.Nat.{sub-zero}
use borrow.Author.Tests.{ltb-true, ltb-false}
use Rattle.eif.specs.Numbers.{size_limit}
use Rattle.eif.specs.Layout.{header_size, section_header_size, size_at, offset_at}
use Rattle.arriving_sections.specs.Span.{none_for, data_for, span_from}
use Rattle.arriving_sections.proofs.Steps.{step_elsewhere, step_long, step_own, step_data_holds, step_on}
use Rattle.arriving_sections.proofs.walk.Goals as goal
use Rattle.arriving_sections.proofs.walk.Goals.{Else-offset_at-begin, Else-passes, In-loop-i}

-- `arriving_sections::walk` meets its contract: the span found from section i on is the span found from the first. The measure is the number
-- of sections that are left.
-- names for the values in the loop at section i
module _ (c : In-loop-i) where
  abbrev header : List ℕ
  header = c.args.header.now

  abbrev used : ℕ
  used = c.args.used

  abbrev taken : ℕ
  taken = c.args.taken

  abbrev n : ℕ
  n = c.args.length

  abbrev i : ℕ
  i = c.loop-i.i

  abbrev begin : ℕ
  begin = c.loop-i.begin

  abbrev m : ℕ
  m = used - (i + 1)

  all : span_from header (suc m) i begin taken n ≡ span_from header used 0 header_size taken n
  all =
      let e : used - i ≡ suc m = omega arith in
      ap (λ (k : ℕ). span_from header k i begin taken n) (sym e) ∙ c.loop-i.invariant.2

  -- the end of the section's data, by the size that the code reads
  module _ (size : ℕ) (is : size ≡ size_at header i) where
    end_is : begin + section_header_size + size ≡ begin + section_header_size + size_at header i
    end_is = omega arith

begins : (c : Else-offset_at-begin) → offset_at (header (goal.at.Else-offset_at-begin c).In-loop-i) (i (goal.at.Else-offset_at-begin c).In-loop-i) ≡ begin (goal.at.Else-offset_at-begin c).In-loop-i
begins c = omega (arith, c.offset_at.ensures)

ends : (c : Else-passes) →
    begin (goal.at.Else-passes c).In-loop-i + section_header_size + size_at (header (goal.at.Else-passes c).In-loop-i) (i (goal.at.Else-passes c).In-loop-i) ≤ size_limit
ends c = omega (arith, c.size_at-size.ensures, ltb-false size_limit (begin (goal.at.Else-passes c).In-loop-i + section_header_size + c.size_at-size.result) (sym c.passes.ensures ∙ c.if-passes.false))

pub returns-then-offset_at-begin : goal.returns-then-offset_at-begin
returns-then-offset_at-begin c = let d = (goal.at.returns-then-offset_at-begin c).In-loop-i in
    c.none.ensures ∙ sym (step_elsewhere (header d) (m d) (i d) (begin d) (taken d) (n d) (λ e. omega (arith, c.offset_at.ensures, e))) ∙ all d

pub returns-then-passes : goal.returns-then-passes
returns-then-passes c = let d = (goal.at.returns-then-passes c).In-loop-i in
    let h = ltb-true size_limit (begin d + section_header_size + c.size_at-size.result) (sym c.passes.ensures ∙ c.if-passes.true) in
    c.none-then-passes.ensures
    ∙ sym (step_long (header d) (m d) (i d) (begin d) (taken d) (n d) (begins (goal.at.returns-then-passes c).Else-offset_at-begin) (omega (arith, c.size_at-size.ensures, h)))
    ∙ all d

pub returns-then-taken-start : goal.returns-then-taken-start
returns-then-taken-start c = let e = (goal.at.returns-then-taken-start c).Else-passes in
    let d = (goal.at.Else-passes e).In-loop-i in
    c.none-then-taken-start.ensures ∙ ap (none_for (i d)) c.lesser.ensures
    ∙ sym (step_own (header d) (m d) (i d) (begin d) (taken d) (n d) (begins (goal.at.Else-passes e).Else-offset_at-begin) (ends e) (omega arith))
    ∙ all d

pub returns-then-taken-end : goal.returns-then-taken-end
returns-then-taken-end c = let e = (goal.at.returns-then-taken-end c).Else-passes in
    let d = (goal.at.Else-passes e).In-loop-i in
    let s = e.size_at-size.ensures in
    ap (data_for (i d)) (c.lesser-then-taken-end.ensures ∙ ap (λ (k : ℕ). min (n d) (k - taken d)) (end_is d _ s))
    ∙ sym (step_data_holds (header d) (m d) (i d) (begin d) (taken d) (n d) (begins (goal.at.Else-passes e).Else-offset_at-begin) (ends e) (omega arith) (omega (arith, s)))
    ∙ all d

pub loop-i-preserved : goal.loop-i-preserved
loop-i-preserved c = let e = (goal.at.loop-i-preserved c).Else-passes in
    let d = (goal.at.Else-passes e).In-loop-i in
    let s = e.size_at-size.ensures in (
      omega arith,
      omega (arith, s, ends e),
      ap₂ (λ (j k : ℕ). span_from (header d) (m d) j k (taken d) (n d)) (add-one (i d)) (end_is d _ s)
          ∙ sym (step_on (header d) (m d) (i d) (begin d) (taken d) (n d) (begins (goal.at.Else-passes e).Else-offset_at-begin) (ends e) (omega arith) (omega (arith, s)))
          ∙ all d,
    )

pub returns : goal.returns
unfolding span_from
returns c = let l = c.loop-i in
    let w = c.args in
    let z : w.used - l.i ≡ 0 = omega arith in
    c.none-2.ensures ∙ rw z at l.invariant.2

pub loop-i-init : goal.loop-i-init
loop-i-init c = (omega arith, omega arith, ap (λ (k : ℕ). span_from c.args.header.now k 0 header_size c.args.taken c.args.length) (sub-zero c.args.used))

pub overflow_add-end : goal.overflow_add-end
overflow_add-end c = omega (arith, c.size_at-size.ensures, ends (goal.at.overflow_add-end c).Else-passes)
