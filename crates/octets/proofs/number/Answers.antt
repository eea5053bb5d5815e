use Prim.Native.Nat.{ℕ, min}
use mathlib.Core.Path.{◌≡◌, ap, sym, ◌∙◌}
use mathlib.Core.List.{List}
use native.Mathlib.Omega.{arith}
use native.Mathlib.Nat.{lt_of_lt_of_le}
use lib.ListN.{length, take, drop, length-drop}
use Rattle.octets.specs.ByteOrder.{value_of}
use Rattle.octets.proofs.Value.{pow_le}
use Rattle.octets.proofs.Lists.{take_min}
use Rattle.octets.proofs.Fields.{field_is}
use Rattle.octets.proofs.number.Goals as goal

-- `octets::number` meets its contract: of a field that is cut, the bytes that the slice has are its bytes.
pub returns-then-count-width : goal.returns-then-count-width
returns-then-count-width c = let a = c.args in
    let count = c.room-count.result in
    let rest : List ℕ = drop a.at a.s.now in
    let n = length-drop a.at a.s.now in
    let m : count ≡ min a.width (length rest) = omega (arith, c.room-count.ensures) in
    let cut : take count rest ≡ take a.width rest = ap (λ (k : ℕ). take k rest) m ∙ take_min a.width rest in record {
      value = c.weighted_sum.ensures.value ∙ field_is a.order count a.at a.s.now ∙ ap (value_of a.order) cut
          ∙ sym (field_is a.order a.width a.at a.s.now);
      upper_bound = lt_of_lt_of_le c.weighted_sum.ensures.upper_bound (pow_le {i = count} {j = a.width} (omega arith));
    }

pub weighted_sum-requires : goal.weighted_sum-requires
weighted_sum-requires c = (omega arith, omega arith)

pub weighted_sum-requires-2 : goal.weighted_sum-requires-2
weighted_sum-requires-2 c = (omega arith, omega arith)
