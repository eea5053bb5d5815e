use mathlib.Core.Path.{◌≡◌, sym, ◌∙◌}
use native.Mathlib.Omega.{arith}
use Prim.Native.Nat.{◌+◌}
use lib.ListN.{get_or}
use Rattle.cose.specs.Cbor.{in_one_byte, in_two_bytes, in_four_bytes}
use Rattle.cose.specs.Read.{number_width}
use Rattle.cose_lemmas.proofs.Numbers.{at_own, at_after, field_one, width_eight}
use Rattle.cose_reader.proofs.number_at.Goals as goal

-- `cose_reader::number_at` meets its contract: one of the five forms. Assumes nothing.
pub returns-then-b-lt-IN_ONE_BYTE : goal.returns-then-b-lt-IN_ONE_BYTE
returns-then-b-lt-IN_ONE_BYTE c = let a = c.args in c.byte-b.ensures ∙ sym (at_own a.s.now a.at (omega arith))

pub returns-then-b-eq-IN_ONE_BYTE : goal.returns-then-b-eq-IN_ONE_BYTE
unfolding number_width
returns-then-b-eq-IN_ONE_BYTE c = let a = c.args in
    let e : get_or a.s.now a.at 0 ≡ in_one_byte = omega arith in
    c.byte.ensures ∙ sym (at_after a.s.now a.at (omega arith) 1 (rw e) ∙ field_one a.s.now (a.at + 1))

pub returns-then-b-eq-IN_TWO_BYTES : goal.returns-then-b-eq-IN_TWO_BYTES
unfolding number_width
returns-then-b-eq-IN_TWO_BYTES c = let a = c.args in
    let e : get_or a.s.now a.at 0 ≡ in_two_bytes = omega arith in
    c.be16.ensures ∙ sym (at_after a.s.now a.at (omega arith) 2 (rw e))

pub returns-then-b-eq-IN_FOUR_BYTES : goal.returns-then-b-eq-IN_FOUR_BYTES
unfolding number_width
returns-then-b-eq-IN_FOUR_BYTES c = let a = c.args in
    let e : get_or a.s.now a.at 0 ≡ in_four_bytes = omega arith in
    c.be32.ensures ∙ sym (at_after a.s.now a.at (omega arith) 4 (rw e))

pub returns : goal.returns
returns c = let a = c.args in
    c.be64.ensures ∙ sym (at_after a.s.now a.at (omega arith) 8 (width_eight (get_or a.s.now a.at 0) (omega arith)))
