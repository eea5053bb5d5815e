-- One section replaced (PROMISES.md), the fingerprint: that of a staged view is that of the image written afresh; and a section replaced by its own
-- data gives the base's. Of base and replacement it is assumed only that they are bytes.
use Prim.Native.Nat.{ℕ, ◌<◌}
use mathlib.Core.Path.{◌≡◌, ap}
use mathlib.Core.List.{List}
use lib.ListN.{length}
use Rattle.octets.specs.Bytes.{AreBytes}
use Rattle.eif.specs.Layout.{count_of}
use Rattle.eif.specs.Reading.{verdict_of, own_data}
use Rattle.eif.specs.Order.{first_that_applies}
use Rattle.eif.specs.declared.Verdict.TheVariants.{Accepted}
use Rattle.sha384_block.specs.Fips.{sha384}
use Rattle.staged.specs.Staged.{afresh, staged_verdict}
use Rattle.staged.specs.Order.{staged_rules}
use Rattle.eif_fingerprint.specs.Fingerprint.{fingerprint_of, fingerprint_answer, staged_fingerprint}
use Rattle.staged_laws.proofs.Order.{staged_first}
use Rattle.staged_laws.proofs.Staged.{fresh_accepted, own_accepted, own_roll}

-- the order: that of the view
pub staged_fingerprint_first : (s r : List ℕ) (k : ℕ) → (staged_fingerprint s r k).verdict ≡ first_that_applies (staged_rules s (length r) k k)
unfolding staged_fingerprint
staged_fingerprint_first s r k = staged_first s (length r) k k

pub same_fingerprint : (s r : List ℕ) (k : ℕ) → AreBytes s → AreBytes r → staged_verdict s (length r) k k ≡ Accepted
    → staged_fingerprint s r k ≡ fingerprint_answer (afresh s r k)
unfolding staged_fingerprint fingerprint_answer
same_fingerprint s r k ws wr e = let f = fresh_accepted s r k ws wr e in simp (e, f)

module _ (s : List ℕ) (k : ℕ) (ok : verdict_of s ≡ Accepted) (h : k < count_of s) (ws : AreBytes s) where
  own_digest : fingerprint_of (afresh s (own_data s k) k) ≡ fingerprint_of s
  unfolding fingerprint_of
  own_digest = ap sha384 (own_roll s k ok h ws)

  pub own_fingerprint : staged_fingerprint s (own_data s k) k ≡ fingerprint_answer s
  unfolding staged_fingerprint fingerprint_answer
  own_fingerprint = simp (own_accepted s k ok h, ok, own_digest)
