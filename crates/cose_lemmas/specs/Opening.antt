-- What only the writer's shape needs: a COSE_Sign1 up to its payload's head, which one function writes. That a COSE_Sign1 begins with it is
-- `sign_parts` of proofs/Parts.antt.
-- Assumes nothing.
use Rattle.std.specs.Prelude.{ℕ, List, ◌++◌}
use Rattle.cose.specs.Cbor.{elements, pairs, byte_string, head_bytes, string_bytes}
use Rattle.cose.specs.Sign1.{protected_bytes}

unfoldable pub opening : ℕ → List ℕ
opening a = head_bytes elements 4 ++ (string_bytes byte_string (protected_bytes a) ++ head_bytes pairs 0)
