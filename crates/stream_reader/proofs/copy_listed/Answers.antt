use Prim.Native.Nat.{ℕ, ◌+◌, ◌-◌, ◌≤◌, min}
use mathlib.Core.Path.{◌≡◌, refl, sym, ap, ap₂, ◌∙◌}
use mathlib.Core.List.{List, []}
use native.Mathlib.Omega.{arith}
use borrow.Author.Rules.{rules}
use lib.ListN.{length, get_or, drop, length-append, drop_of_length-le}
use Rattle.octets.specs.Over.{over}
use Rattle.octets.proofs.Over.{length_over}
use Rattle.eif.specs.Numbers.{place_count}
use Rattle.eif.specs.Reading.{blank_section, data_of}
use Rattle.eif.specs.Stream.{sections_data, listed_bytes, copied_for}
use Rattle.eif.specs.declared.Verdict.TheVariants.{Accepted}
use Rattle.stream_reader.proofs.Listed.{cut, passed, passed_next, skip_more, done_more, over_more}
use Rattle.stream_reader.proofs.Answers.{listed_past, listed_within}
use Rattle.stream_reader.proofs.copy_listed.Goals as goal
use Rattle.stream_reader.proofs.copy_listed.Goals.{At-loop-i, Start}

-- `stream_reader::copy_listed` meets its contract: after i sections, what is left to pass over, what is copied and the output are those
-- of their data joined. Assumes nothing.
-- an answer has as many places as the table
size : (c : Start) → length c.args.list.sections ≡ place_count
size c = search rules

module _ (c : At-loop-i) where
  -- the output keeps its length
  out-length : length c.loop-i.out ≡ length c.args.out.now
  out-length =
      let a = c.args in
      ap length c.loop-i.invariant.3 ∙ length_over a.out.now 0 (drop a.from.0 (passed a.image.now a.list.sections c.loop-i.i))

  -- and at the end all sections are passed
  all-passed : c.lesser-count.result ≤ c.loop-i.i → passed c.args.image.now c.args.list.sections c.loop-i.i ≡ listed_bytes c.args.image.now c.args.list
  unfolding listed_bytes
  all-passed h =
      let a = c.args in
      let n = size (goal.at.At-loop-i c).Start in
      let k = c.lesser-count.ensures in
      ap (sections_data a.image.now) (cut a.list.sections a.list.count c.loop-i.i (omega arith))

over_none : (d : List ℕ) → over d 0 [] ≡ d
unfolding over
over_none d = refl

pub loop-i-init : goal.loop-i-init
unfolding over
loop-i-init c = let f = c.args.from.0 in
    (omega arith, omega arith, omega arith, ap (over c.args.out.now 0) (sym (drop_of_length-le [] {i = f} (omega arith))))

pub copy_data-next-requires : goal.copy_data-next-requires
copy_data-next-requires c = let l = c.loop-i in
    let n = out-length (goal.at.copy_data-next-requires c).At-loop-i in
    omega arith

pub loop-i-preserved : goal.loop-i-preserved
loop-i-preserved c = let w = (goal.at.loop-i-preserved c).At-loop-i in
    let l = w.loop-i in
    let a = w.args in
    let s = a.image.now in
    let all = a.list.sections in
    let p = passed s all l.i in
    let d = data_of s (get_or all l.i blank_section) in
    let piece = c.section_data in
    let done = c.copy_data-next.ensures in
    let places = size (goal.at.At-loop-i w).Start in
    let n = passed_next s all l.i (omega arith) in
    let len : length (passed s all (l.i + 1)) ≡ length p + length d = ap length n ∙ length-append p d in
    let m : length piece.result.now ≡ length d = ap length piece.ensures.result_value in
    let o = out-length w in (
      omega arith,
      skip_more a.from.0 (length p) (length d) _ l.skip _ len l.invariant.1 (done.skip_value ∙ ap (λ (k : ℕ). l.skip - k) m),
      done_more (length a.out.now) a.from.0 (length p) (length d) _ l.skip l.done _ len l.invariant.1 l.invariant.2
          (done.done_value ∙ ap₂ (λ (x y : ℕ). min x (l.done + (y - l.skip))) o m),
      done.out_after ∙ ap₂ (λ (x y : List ℕ). over x l.done (drop l.skip y)) l.invariant.3 piece.ensures.result_value
          ∙ over_more a.out.now p d a.from.0 l.skip l.done l.invariant.1 l.invariant.2 ∙ ap (λ (x : List ℕ). over a.out.now 0 (drop a.from.0 x)) (sym n),
    )

pub returns-then-skip-gt0 : goal.returns-then-skip-gt0
returns-then-skip-gt0 c = let w = (goal.at.returns-then-skip-gt0 c).At-loop-i in
    let l = w.loop-i in
    let a = w.args in
    let e = all-passed w (omega arith) in
    let n = ap length e in
    let z : drop a.from.0 (listed_bytes a.image.now a.list) ≡ [] = drop_of_length-le (listed_bytes a.image.now a.list) {i = a.from.0} (omega arith) in
    let f = listed_past a.image.now a.list a.from.0 a.out.now (omega arith) in
    record { value = rw c.refuse.ensures f.0; out_after = l.invariant.3 ∙ ap (λ (x : List ℕ). over a.out.now 0 (drop a.from.0 x)) e ∙ ap (over a.out.now 0) z ∙ over_none a.out.now ∙ f.1 }

pub returns : goal.returns
returns c = let w = (goal.at.returns c).At-loop-i in
    let l = w.loop-i in
    let a = w.args in
    let e = all-passed w (omega arith) in
    let n = ap length e in
    let f = listed_within a.image.now a.list a.from.0 a.out.now (omega arith) in record { value = ap (λ (k : ℕ). copied_for Accepted k) (l.invariant.2 ∙ ap (λ (k : ℕ). min (length a.out.now) (k - a.from.0)) n) ∙ f.0; out_after = l.invariant.3 ∙ ap (λ (x : List ℕ). over a.out.now 0 (drop a.from.0 x)) e ∙ f.1 }

pub shape_of-out-then-skip-gt0 : goal.shape_of-out-then-skip-gt0
shape_of-out-then-skip-gt0 c = out-length (goal.at.shape_of-out-then-skip-gt0 c).At-loop-i

pub shape_of-out : goal.shape_of-out
shape_of-out c = out-length (goal.at.shape_of-out c).At-loop-i
