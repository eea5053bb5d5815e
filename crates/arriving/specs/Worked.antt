-- The fresh state and the counter by computation, numbers written out, as FORMAT.md (Check while it arrives) has them. Fresh: nothing taken, the
-- header's 548 bytes and 12 for each of the 32 places zero, the remainder of CRC-32 over no bytes before the final inversion, the end not told.
-- Assumes nothing.
use Rattle.std.specs.Prelude.{ℕ, ◌≡◌, refl, [], ◌∷◌, map, replicate}
use Rattle.eif.specs.Table.{join_from}
use Rattle.octets.specs.Bytes.{field, be_value}
use Rattle.crc32.specs.Crc.{crc_from}
use Rattle.arriving.specs.State.{padded, kept_from, headers_of, kept_of, state_of}
use Rattle.arriving.specs.Calls.{grown, fed}
use Rattle.arriving.specs.declared.Arriving.{Arriving}
use Rattle.arriving.specs.declared.Fed.{Fed}

pub fresh_state_holds : state_of [] ≡ record { taken = 0; header = replicate 548 0; headers = replicate 384 0; checksum = 0xffffffff; ended = 0 }
unfolding state_of kept_of padded headers_of join_from kept_from crc_from field be_value
fresh_state_holds = refl

-- ---- the counter: two bytes more pass 2 to the 32, and at 2 to the 64 less 1 it stops, while both bytes are reported as taken

abbrev counting : ℕ → Arriving
counting n = record { taken = n; header = []; headers = []; checksum = 0; ended = 0 }

abbrev two_more : ℕ → Fed
two_more n = fed (counting n) (7 ∷ 8 ∷ []) 2

pub counts_on :
    map (λ n. (two_more n).state.taken)
    (0 ∷ 4294967294 ∷ 4294967295 ∷ 4294967296 ∷ 18446744073709551613 ∷ 18446744073709551614 ∷ 18446744073709551615 ∷ [])
    ≡ 2 ∷ 4294967296 ∷ 4294967297 ∷ 4294967298 ∷ 18446744073709551615 ∷ 18446744073709551615 ∷ 18446744073709551615 ∷ []
unfolding fed grown
counts_on = refl

pub counts_reported : map (λ n. (two_more n).count) (0 ∷ 4294967295 ∷ 18446744073709551614 ∷ 18446744073709551615 ∷ []) ≡ 2 ∷ 2 ∷ 2 ∷ 2 ∷ []
unfolding fed grown
counts_reported = refl
