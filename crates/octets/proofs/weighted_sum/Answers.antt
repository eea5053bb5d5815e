use Prim.Native.Nat.{ℕ, ◌+◌, ◌*◌, ◌%◌, ◌^◌, ◌<◌}
use mathlib.Core.Path.{◌≡◌, ap, ap₂, sym, ◌∙◌}
use mathlib.Core.List.{List}
use native.Mathlib.Omega.{arith}
use native.Mathlib.Nat.{zero-add, mod-eq_of_lt}
use lib.Dec.{lit<}
use lib.ListN.{length, get_or, take, drop, length-take, length-drop}
use Rattle.octets.specs.ByteOrder.{byte_weight, low_bytes}
use Rattle.octets.proofs.Value.{pow_pos_of, pow_bytes, weighted_lt, weighted_fits}
use Rattle.octets.proofs.Fields.{field_is, no_bytes_holds, all_bytes, one_more, part_byte}
use Rattle.octets.proofs.weighted_sum.Goals as goal
use Rattle.octets.proofs.weighted_sum.Goals.{After-wide}

-- `octets::weighted_sum` meets its contract: the number so far is that of the bytes of the lowest weights.
pub loop-k-init : goal.loop-k-init
loop-k-init c = (omega arith, lit< tt, no_bytes_holds c.args.order _)

-- the byte of weight k, and the number with it
module _ (c : After-wide) where
  abbrev bytes : List ℕ
  bytes = let a = c.args in take a.count (drop a.at a.s.now)

  abbrev k : ℕ
  k = c.loop-k.k

  abbrev byte : ℕ
  byte = c.wide.result

  small : byte < 256
  small =
      let a = c.args in
      rw c.wide.ensures (c.shared_slice_known-in-loop-k-1.given (a.at + c.weight-i.result)).fits

  -- the shift loses no bit
  shifted : byte * 2 ^ (8 * k) % 2 ^ 64 ≡ byte * 256 ^ k
  shifted =
      let l = c.loop-k in
      let n = weighted_fits k {v = 0} {b = byte} (omega arith) (pow_pos_of k) small in
      ap (λ (n : ℕ). byte * n % 2 ^ 64) (pow_bytes k) ∙ mod-eq_of_lt (rw zero-add at n)

  is-more : c.loop-k.v + byte * 256 ^ k
      ≡ low_bytes c.args.order bytes (k + 1)
  is-more =
      let l = c.loop-k in
      let a = c.args in
      let i = c.weight-i in
      let n : length bytes ≡ a.count = simp (length-take, length-drop) (omega arith) in
      ap₂ (λ (x y : ℕ). x + y * 256 ^ k) l.invariant.2
      (c.wide.ensures ∙ sym (part_byte a.count a.at i.result a.s.now i.ensures.upper_bound)
      ∙ ap (λ (m : ℕ). get_or bytes m 0) (i.ensures.value ∙ ap (λ (m : ℕ). byte_weight a.order m k) (sym n)))
      ∙ sym (one_more a.order bytes k (rw n (omega arith)))

pub overflow_add-v : goal.overflow_add-v
overflow_add-v c = let l = c.loop-k in
    record { fits = rw (shifted c) (weighted_fits l.k (omega arith) l.invariant.1 (small c)) }

pub loop-k-preserved : goal.loop-k-preserved
loop-k-preserved c = let l = c.loop-k in
    (omega arith, rw (shifted c) (weighted_lt l.k l.invariant.1 (small c)), rw (shifted c) (is-more c))

pub returns : goal.returns
returns c = let l = c.loop-k in
    let a = c.args in
    let t : List ℕ = take a.count (drop a.at a.s.now) in
    let full : l.k ≡ a.count = omega arith in
    let n : l.k ≡ length t = sym (simp (length-take, length-drop) (omega arith)) in record { value = l.invariant.2 ∙ all_bytes a.order t l.k n ∙ sym (field_is a.order a.count a.at a.s.now); upper_bound = rw (sym full) l.invariant.1 }
