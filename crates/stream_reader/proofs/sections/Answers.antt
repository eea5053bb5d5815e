use Prim.Native.Nat.{ℕ, ◌+◌, ◌<◌}
use mathlib.Core.Path.{◌≡◌, refl, sym, ap, ap₂, ◌∙◌}
use mathlib.Core.List.{List, [], ◌∷◌, ◌++◌}
use native.Mathlib.Omega.{arith}
use borrow.Author.Rules.{rules}
use lib.ListN.{length, get_or, set, length-append}
use lib.Seq.{take_all}
use Rattle.eif.specs.Table.{in_table}
use Rattle.eif.specs.Numbers.{place_count}
use Rattle.eif.specs.Reading.{blank_section, section_kind}
use Rattle.eif.specs.Stream.{keeps, kept, sections_answer}
use Rattle.eif.specs.declared.Section.{Section}
use Rattle.eif.specs.declared.StreamSections.{StreamSections}
use Rattle.stream_reader.proofs.Kept.{kept_so_far, ramdisks_of, kept_more, kept_same, ramdisks_next, kept_few, table_next}
use Rattle.stream_reader.proofs.sections.Goals as goal
use Rattle.stream_reader.proofs.sections.Goals.{At-loop-i, Start, Then-is_kept, then-is_kept, else-is_kept}

-- `stream_reader::sections` meets its contract: after i turns the list holds what the stream keeps of the first i places, and the number
-- of ramdisks before is theirs. Assumes nothing.
-- there are as many places as the table has
size : (c : Start) → length c.args.all ≡ place_count
size c = search rules

pub loop-i-init : goal.loop-i-init
unfolding in_table kept
loop-i-init c = (omega arith, refl, refl, refl, omega arith)

-- where one more is kept, there is room for it
room : (c : Then-is_kept) → c.loop-i.count < place_count
room c =
    let w = (goal.at.Then-is_kept c).At-loop-i in
    let n = size (goal.at.At-loop-i w).Start in
    let k = kept_few w.args.stream w.args.all w.loop-i.i (omega arith) in
    omega arith

pub loop-i-preserved : goal.loop-i-preserved
loop-i-preserved c = let w = (goal.at.loop-i-preserved c).At-loop-i in
    let n = size (goal.at.At-loop-i w).Start in
    let l = w.loop-i in
    let stream = w.args.stream in
    let all = w.args.all in
    let h : l.i < length all = omega arith in
    let x = get_or all l.i blank_section in
    let k : keeps stream x.kind (ramdisks_of stream all l.i) ≡ c.is_kept.result =
    ap (keeps stream x.kind) (sym l.invariant.3) ∙ sym c.is_kept.ensures in
    let r = ap₂ (λ (a b : ℕ). a + b) l.invariant.3 c.ramdisk_in-before.ensures.value ∙ sym (ramdisks_next stream all l.i h) in
    elim c.if-is_kept.branch [
      | then-is_kept w ↦
          let e = kept_more stream all l.i h (k ∙ w.if-is_kept.true) in
          let m : length (kept_so_far stream all l.i ++ (x ∷ [])) ≡ length (kept_so_far stream all l.i) + 1 = length-append (kept_so_far stream all l.i) (x ∷ []) in
          let f = kept_few stream all l.i (omega arith) in (
            omega arith,
            w.count-is ∙ ap (λ (n : ℕ). n + 1) l.invariant.1 ∙ sym m ∙ ap length (sym e),
            w.list-is ∙ ap (λ (t : List Section). set t l.count x) l.invariant.2 ∙ table_next (kept_so_far stream all l.i) x l.count l.invariant.1 (omega arith) ∙ ap (in_table blank_section) (sym e),
            r,
            omega arith,
          )
      | else-is_kept w ↦
          let e = kept_same stream all l.i h (k ∙ w.if-is_kept.false) in (
            omega arith,
            w.count-is ∙ l.invariant.1 ∙ ap length (sym e),
            w.list-is ∙ l.invariant.2 ∙ ap (in_table blank_section) (sym e),
            r,
            omega arith,
          )
    ]

pub returns : goal.returns
unfolding sections_answer
returns c = let l = c.loop-i in
    let s = (goal.at.returns c).Start in
    let n = size s in
    let all = s.args.all in
    let e : kept_so_far s.args.stream all l.i ≡ kept s.args.stream section_kind 0 all = ap (kept s.args.stream section_kind 0) (take_all l.i all (omega arith)) in
    ap₂ (λ (m : ℕ) (t : List Section). answer m t) (l.invariant.1 ∙ ap length e) (l.invariant.2 ∙ ap (in_table blank_section) e)
  where
    answer : ℕ → List Section → StreamSections
    answer m t = record { count = m; sections = t }

pub offset_bounds-list-count : goal.offset_bounds-list-count
offset_bounds-list-count c = omega (arith, room (goal.at.offset_bounds-list-count c).Then-is_kept)

pub bounds-list-count : goal.bounds-list-count
bounds-list-count c = omega (arith, room (goal.at.bounds-list-count c).Then-is_kept)

pub overflow_add-count : goal.overflow_add-count
overflow_add-count c = omega (arith, room (goal.at.overflow_add-count c).Then-is_kept)
