-- The checksum of an image in two parts: the bytes before its field, then those after it.
-- Assumes nothing.
use Prim.Native.Nat.{ℕ}
use mathlib.Core.Path.{◌≡◌, sym, ap, ap₂, ◌∙◌}
use mathlib.Core.List.{List}
use lib.Bits.{bit_xor}
use lib.ListN.{take, drop}
use Rattle.crc32.specs.Crc.{crc_from, crc32, ones32}
use Rattle.crc32.proofs.Linear.{crc_from_append}
use Rattle.eif.specs.Layout.{checksum_end, checksum_at}
use Rattle.eif.specs.Reading.{checksum_of}

-- from what each step answers
pub in_parts_holds : (s front back : List ℕ) (before after sum : ℕ) → front ≡ take checksum_at s → back ≡ drop checksum_end s
    → before ≡ crc_from ones32 front → after ≡ crc_from before back → sum ≡ bit_xor ones32 after → sum ≡ checksum_of s
unfolding checksum_of crc32
in_parts_holds s front back before after sum f b x y e =
    e ∙ ap (bit_xor ones32) (y ∙ ap₂ crc_from (x ∙ ap (crc_from ones32) f) b ∙ sym (crc_from_append ones32 (take checksum_at s) (drop checksum_end s)))
