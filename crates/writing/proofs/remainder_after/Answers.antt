use Prim.Native.Nat.{ℕ, suc, ◌-◌}
use mathlib.Core.Path.{◌≡◌, ap, ◌∙◌}
use native.Mathlib.Omega.{arith}
use native.Mathlib.Numerals.{add-one}
use Rattle.crc32.specs.Crc.{crc_from}
use Rattle.eif.specs.Table.{join_from}
use Rattle.writing.specs.Writing.{own_headers}
use Rattle.writing.proofs.Steps.{headers_next}
use Rattle.writing.proofs.remainder_after.Goals as goal
use Rattle.writing.proofs.remainder_after.Goals.{After-section_header-own}

-- `writing::remainder_after` meets its contract: the remainder, taken on over the own headers from place i on, is the remainder over all of them.
pub loop-i-preserved : goal.loop-i-preserved
loop-i-preserved c = let h = (goal.at.loop-i-preserved c).After-section_header-own in
    let v = h.loop-i in
    let a = h.args in
    rw add-one (
    ap (λ (k : ℕ). crc_from k (own_headers a.places (a.end - suc v.i) (suc v.i))) (c.update-remainder.ensures ∙ ap (crc_from v.remainder) h.section_header-own.ensures)
    ∙ headers_next v.remainder a.places a.end v.i (omega arith) ∙ v.invariant
    )

pub returns : goal.returns
unfolding join_from crc_from
returns c = let v = c.loop-i in
    let z : c.args.end - v.i ≡ 0 = omega arith in
    rw z at v.invariant
