use Prim.Native.Nat.{ℕ, ◌<◌, ◌≤◌}
use mathlib.Core.Path.{◌≡◌, sym, ap, ap₂, ◌∙◌}
use mathlib.Core.List.{List}
use native.Mathlib.Omega.{arith}
use lib.ListN.{length, take, get_or}
use lib.Seq.{length-take-le}
use Rattle.eif.specs.Numbers.{place_count, not_packed}
use Rattle.eif.specs.Answers.{refuse, refuse_at, index_of}
use Rattle.eif.specs.Rules.{first_fault, missing}
use Rattle.eif.specs.Layout.{View, version, count, start}
use Rattle.eif.specs.Reading.{header_fault, section_fault, located}
use Rattle.eif.specs.declared.Verdict.TheVariants.{Accepted}
use Rattle.eif_lemmas.proofs.Table.{filled_at, length_filled}
use Rattle.eif_lemmas.proofs.View.{header}
use Rattle.eif_lemmas.proofs.Position.{walk_index}
use Rattle.eif_lemmas.proofs.Reading.{early_header, early_walk}
use Rattle.type_judge.specs.Kinds.{listed_kind}
use Rattle.type_judge.proofs.Parts.{missing_part}
use Rattle.eif_judge.specs.Kept.{view_from}
use Rattle.eif_judge.proofs.Complete.{incomplete, with_tail, complete}
use Rattle.eif_judge.proofs.judge.Goals as goal
use Rattle.eif_judge.proofs.judge.Goals.{After-be16-count, After-lacks, After-walk-walked, Else-lacks}

-- `eif_judge::judge` meets its contract: each step's answer is the definition's step. Assumes nothing.
module _ (c : After-be16-count) where
  abbrev view : View
  view = view_from c.args.header.now c.args.headers.now c.args.size

  clean : header_fault view ≡ 0
  clean = sym (c.header_fault-fault.ensures c.args.headers.now) ∙ c.if-fault-ne0.false

  few : c.be16-count.result ≤ place_count
  few = rw c.be16-count.ensures (header view clean).fields.few

-- ---- after the walk
module _ (c : After-walk-walked) where
  abbrev file : View
  file = view (goal.at.After-walk-walked c).After-be16-count

  abbrev used : ℕ
  used = c.be16-count.result

  abbrev kinds : List ℕ
  kinds = c.walk-walked.result.kinds

  walked : c.walk-walked.result.verdict ≡ first_fault (section_fault file) (count file) 0
  walked = c.walk-walked.ensures.verdict_value ∙ ap (λ (n : ℕ). first_fault (section_fault file) n 0) c.be16-count.ensures

  module _ (ok : c.walk-walked.result.verdict ≡ Accepted) where
    room : length kinds ≡ place_count
    room = ap length (c.walk-walked.ensures.kinds_value ok).0 ∙ length_filled file.kind 0 place_count used

    typed : (j : ℕ) → j < used → get_or kinds j 0 ≡ file.kind j
    typed j h = ap (λ (l : List ℕ). get_or l j 0) (c.walk-walked.ensures.kinds_value ok).0 ∙ filled_at file.kind 0 0 place_count used j h (few (goal.at.After-walk-walked c).After-be16-count)

    -- where the last section ends
    ended : c.walk-walked.result.end ≡ start file (count file)
    ended = (c.walk-walked.ensures.kinds_value ok).1 ∙ ap (start file) c.be16-count.ensures

    lacking : missing (listed_kind (take used kinds)) c.be16-version.result (length (take used kinds)) ≡ missing file.kind (version file) (count file)
    lacking =
        missing_part kinds file.kind used (rw room (few (goal.at.After-walk-walked c).After-be16-count)) typed c.be16-version.result
        ∙ ap₂ (missing file.kind) c.be16-version.ensures c.be16-count.ensures

pub returns-then-fault-ne0 : goal.returns-then-fault-ne0
returns-then-fault-ne0 c = let a = c.args in
    let v = view_from a.header.now a.headers.now a.size in
    let e = c.header_fault-fault.ensures a.headers.now in
    c.refuse_in.ensures ∙ ap (λ (n : ℕ). located v.header (refuse n 0)) e ∙ early_header v (λ z. c.if-fault-ne0.true (e ∙ z))

pub refuse_in-requires-in-Refused : goal.refuse_in-requires-in-Refused
refuse_in-requires-in-Refused c = let w = (goal.at.refuse_in-requires-in-Refused c).After-walk-walked in
    let b = walk_index place_count (omega arith) (section_fault (file w)) w.be16-count.result 0 (omega (arith, few (goal.at.After-walk-walked w).After-be16-count)) in
    omega (arith, b, ap index_of (sym w.walk-walked.ensures.verdict_value ∙ c.in-Refused.is))

pub returns-in-Refused : goal.returns-in-Refused
returns-in-Refused c = let w = (goal.at.returns-in-Refused c).After-walk-walked in
    c.refuse_in-in-Refused.ensures ∙ early_walk (file w) (clean (goal.at.After-walk-walked w).After-be16-count) c.in-Refused.r (sym (walked w) ∙ c.in-Refused.is)

pub returns-then-lacks : goal.returns-then-lacks
returns-then-lacks c = let g = (goal.at.returns-then-lacks c).After-lacks in
    let w = (goal.at.After-lacks g).After-walk-walked in
    let t = g.in_default.is in
    c.refuse_in-then-lacks.ensures
    ∙ incomplete (file w) (clean (goal.at.After-walk-walked w).After-be16-count) (sym (walked w) ∙ t) (sym (g.lacks.ensures ∙ lacking w t) ∙ c.if-lacks.true)

pub returns-then-walked-size : goal.returns-then-walked-size
returns-then-walked-size c = let h = (goal.at.returns-then-walked-size c).Else-lacks in
    let g = (goal.at.Else-lacks h).After-lacks in
    let w = (goal.at.After-lacks g).After-walk-walked in
    let t = g.in_default.is in
    let e = ended w t in
    c.refuse_at.ensures ∙ ap (refuse_at not_packed 0) e
    ∙ with_tail (file w) (clean (goal.at.After-walk-walked w).After-be16-count) (sym (walked w) ∙ t) (sym (g.lacks.ensures ∙ lacking w t) ∙ h.if-lacks.false) (rw e at c.if-walked-size.true)

pub returns : goal.returns
returns c = let h = (goal.at.returns c).Else-lacks in
    let g = (goal.at.Else-lacks h).After-lacks in
    let w = (goal.at.After-lacks g).After-walk-walked in
    let t = g.in_default.is in
    let e = ended w t in
    t ∙ complete (file w) (clean (goal.at.After-walk-walked w).After-be16-count) (sym (walked w) ∙ t) (sym (g.lacks.ensures ∙ lacking w t) ∙ h.if-lacks.false) (rw e at c.if-walked-size.false)

pub walk-walked-requires : goal.walk-walked-requires
walk-walked-requires c = ((header (view c) (clean c)).whole, few c)

pub slice_bounds-kinds-end : goal.slice_bounds-kinds-end
slice_bounds-kinds-end c = rw (room (goal.at.slice_bounds-kinds-end c).After-walk-walked c.in_default.is) (few (goal.at.slice_bounds-kinds-end c).After-be16-count)

pub slice_bounds-lacks-end : goal.slice_bounds-lacks-end
slice_bounds-lacks-end c = sym (length-take-le _ _ (rw (room (goal.at.slice_bounds-lacks-end c).After-walk-walked c.in_default.is) (few (goal.at.slice_bounds-lacks-end c).After-be16-count)))
