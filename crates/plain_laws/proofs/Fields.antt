-- Fields of a written string, found again by their positions; a table of such fields; and that these strings are bytes.
-- Assumes nothing.
use Prim.Native.Nat.{ℕ, zero, suc, ◌+◌, ◌*◌, ◌^◌, ◌<◌}
use mathlib.Core.Path.{◌≡◌, refl, ap, ◌∙◌}
use mathlib.Core.List.{List, [], ◌∷◌, ◌++◌, append_assoc}
use native.Mathlib.Omega.{arith}
use lib.ListN.{length, get_or}
use Rattle.eif.specs.Layout.{entry_size}
use Rattle.octets.specs.Lists.{All}
use Rattle.octets.specs.Bytes.{AreBytes, be_bytes, field, be_bytes_each}
use Rattle.octets.proofs.Value.{field_at, field_past, bytes_append, bytes_be}

-- ---- a field in a string of fields that others follow: further on, the first, the only one

pub skip : (w k at : ℕ) (a b c : List ℕ) → length a ≡ at → field w (at + k) ((a ++ b) ++ c) ≡ field w k (b ++ c)
skip w k at a b c e = ap (field w (at + k)) (append_assoc a b c) ∙ field_past w k at a (b ++ c) e

pub here : (w n : ℕ) (b c : List ℕ) → n < 256 ^ w → field w 0 ((be_bytes w n ++ b) ++ c) ≡ n
here w n b c h = ap (field w 0) (append_assoc (be_bytes w n) b c) ∙ field_at w n 0 [] (b ++ c) refl h

pub last : (w n : ℕ) (c : List ℕ) → n < 256 ^ w → field w 0 (be_bytes w n ++ c) ≡ n
last w n c h = field_at w n 0 [] c refl h

-- ---- a table of entries

pub entry_at_holds : (i : ℕ) (l b : List ℕ) → i < length l → All (λ n. n < 256 ^ entry_size) l → field entry_size (entry_size * i) (be_bytes_each entry_size l ++ b) ≡ get_or l i 0
unfolding All
entry_at_holds i [] b h a = absurd (omega arith)
entry_at_holds zero (x ∷ xs) b h a = here entry_size x (be_bytes_each entry_size xs) b a.0
entry_at_holds (suc i) (x ∷ xs) b h a =
    let e : entry_size * suc i ≡ entry_size + entry_size * i = omega arith in
    ap (λ (k : ℕ). field entry_size k ((be_bytes entry_size x ++ be_bytes_each entry_size xs) ++ b)) e
    ∙ skip entry_size (entry_size * i) entry_size (be_bytes entry_size x) (be_bytes_each entry_size xs) b refl ∙ entry_at_holds i xs b (omega arith) a.1

-- ---- byte strings joined, each kept in sight of the type

pub record Bytes (s : List ℕ) : Type 0 where
  pub are : AreBytes s

pub be : (w n : ℕ) → Bytes (be_bytes w n)
be w n = record { are = bytes_be w n }

pub join : {x y : List ℕ} → Bytes x → Bytes y → Bytes (x ++ y)
join {x} {y} a b = record { are = bytes_append x y a.are b.are }
