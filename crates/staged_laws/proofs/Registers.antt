-- One section replaced (PROMISES.md), the registers: those over a staged view are those of the image written afresh; and a section replaced by
-- its own data gives the base's. Of base and replacement it is assumed only that they are bytes.
use Prim.Native.Nat.{ℕ, ◌<◌}
use mathlib.Core.Path.{◌≡◌, ap}
use mathlib.Core.List.{List, map}
use lib.ListN.{length}
use Rattle.octets.specs.Bytes.{AreBytes}
use Rattle.eif.specs.Layout.{count_of}
use Rattle.eif.specs.Reading.{verdict_of, own_data}
use Rattle.eif.specs.Order.{first_that_applies}
use Rattle.eif.specs.declared.Stream.{Stream}
use Rattle.eif.specs.declared.Verdict.TheVariants.{Accepted}
use Rattle.staged.specs.Staged.{afresh, staged_verdict}
use Rattle.staged.specs.Order.{staged_rules}
use Rattle.sha384_block.specs.Fips.{sha384}
use Rattle.eif_registers.specs.Registers.{register_from, register_of, measured_streams, image_registers, registers_answer, staged_registers}
use Rattle.staged_laws.proofs.Order.{staged_first}
use Rattle.staged_laws.proofs.Staged.{fresh_accepted, own_accepted, own_stream}

-- the order: that of the view
pub staged_registers_first : (s r : List ℕ) (k : ℕ) → (staged_registers s r k).verdict ≡ first_that_applies (staged_rules s (length r) k k)
unfolding staged_registers
staged_registers_first s r k = staged_first s (length r) k k

pub same_registers : (s r : List ℕ) (k : ℕ) → AreBytes s → AreBytes r → staged_verdict s (length r) k k ≡ Accepted
    → staged_registers s r k ≡ registers_answer (afresh s r k)
unfolding staged_registers registers_answer
same_registers s r k ws wr e = let f = fresh_accepted s r k ws wr e in simp (e, f)

module _ (s : List ℕ) (k : ℕ) (ok : verdict_of s ≡ Accepted) (h : k < count_of s) where
  abbrev again : List ℕ
  again = afresh s (own_data s k) k

  own_register : (stream : Stream) → register_of again stream ≡ register_of s stream
  unfolding register_of
  own_register stream = ap (λ (b : List ℕ). register_from (sha384 b)) (own_stream s k ok h stream)

  own_all : image_registers again ≡ image_registers s
  unfolding image_registers
  own_all = λ u. map (λ stream. own_register stream u) measured_streams

  pub own_registers : staged_registers s (own_data s k) k ≡ registers_answer s
  unfolding staged_registers registers_answer
  own_registers = simp (own_accepted s k ok h, ok, own_all)
