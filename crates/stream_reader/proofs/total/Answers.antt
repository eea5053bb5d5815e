use Prim.Native.Nat.{ℕ, ◌+◌, ◌^◌, ◌<◌}
use mathlib.Core.Path.{◌≡◌, refl, ap, ◌∙◌}
use mathlib.Core.List.{List, []}
use native.Mathlib.Omega.{arith}
use borrow.Author.Rules.{rules}
use lib.ListN.{length, get_or, length-append}
use Rattle.eif.specs.Numbers.{place_count}
use Rattle.eif.specs.Reading.{blank_section, data_of}
use Rattle.eif.specs.Stream.{sections_data, listed_bytes}
use Rattle.stream_reader.proofs.Listed.{cut, passed, passed_next, passed_within}
use Rattle.stream_reader.proofs.total.Goals as goal
use Rattle.stream_reader.proofs.total.Goals.{After-lesser-count, After-section_data-bytes, At-loop-i, Start}

-- `stream_reader::total` meets its contract: the sum so far is the length of the data of the sections so far. Assumes nothing.
-- an answer has as many places as the table
size : (c : Start) → length c.args.list.sections ≡ place_count
size c = search rules

-- all of them
whole : (c : After-lesser-count) → passed c.args.image.now c.args.list.sections c.lesser-count.result ≡ listed_bytes c.args.image.now c.args.list
unfolding listed_bytes
whole c =
    let a = c.args in
    let n = size (goal.at.After-lesser-count c).Start in
    let k = c.lesser-count.ensures in
    ap (sections_data a.image.now) (cut a.list.sections a.list.count c.lesser-count.result (omega arith))

-- with the section of this turn
module _ (c : After-section_data-bytes) where
  abbrev w : At-loop-i
  w = (goal.at.After-section_data-bytes c).At-loop-i

  next : w.loop-i.sum + length c.section_data-bytes.result.now ≡ length (passed w.args.image.now w.args.list.sections (w.loop-i.i + 1))
  next =
      let a = w.args in
      let s = a.image.now in
      let all = a.list.sections in
      let places = size (goal.at.At-loop-i w).Start in
      let n = passed_next s all w.loop-i.i (omega arith) in
      let len = ap length n ∙ length-append (passed s all w.loop-i.i) (data_of s (get_or all w.loop-i.i blank_section)) in
      let m = ap length c.section_data-bytes.ensures.result_value in
      omega arith

  fits : w.loop-i.sum + length c.section_data-bytes.result.now < 2 ^ 64
  fits =
      let a = w.args in
      let places = size (goal.at.At-loop-i w).Start in
      let k = passed_within a.image.now a.list.sections (w.loop-i.i + 1) w.lesser-count.result (omega arith) in
      let t = ap length (whole (goal.at.At-loop-i w).After-lesser-count) in
      omega (arith, next)

none_passed : (s : List ℕ) → 0 ≡ length (sections_data s [])
none_passed s = refl

pub overflow_add-sum : goal.overflow_add-sum
overflow_add-sum c = omega (arith, fits (goal.at.overflow_add-sum c).After-section_data-bytes)

pub loop-i-preserved : goal.loop-i-preserved
loop-i-preserved c = (omega arith, next (goal.at.loop-i-preserved c).After-section_data-bytes)

pub returns : goal.returns
returns c = let l = c.loop-i in
    let z : l.i ≡ c.lesser-count.result = omega arith in
    let a = c.args in
    l.invariant.1 ∙ ap (λ (n : ℕ). length (passed a.image.now a.list.sections n)) z ∙ ap length (whole (goal.at.returns c).After-lesser-count)

pub loop-i-init : goal.loop-i-init
loop-i-init c = (omega arith, none_passed c.args.image.now)
