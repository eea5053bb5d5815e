-- The state of a digest that is fed in pieces: what a piece makes of it, the digest it stands for, and the state that is right for given bytes.
-- Every definition is for any state whatever, also for one that no run from the fresh one reaches.
-- Assumes nothing.
use Rattle.std.specs.Prelude.{ℕ, ◌+◌, ◌-◌, ◌*◌, ◌/◌, ◌%◌, ◌^◌, List, [], ◌∷◌, ◌++◌, ltb, eqb, length, drop, set, replicate}
use Rattle.eif.specs.Numbers.{message_too_long}
use Rattle.octets.specs.Logic.{choose}
use Rattle.eif.specs.Answers.{refuse}
use Rattle.eif.specs.declared.Verdict.TheVariants.{Accepted}
use Rattle.sha384_block.specs.Fips.{block_size, compress, padding, initial_hash, hash_blocks, digest_of}
use Rattle.sha384.specs.declared.Filling.{Filling}
use Rattle.sha384.specs.declared.State.{State}
use Rattle.sha384.specs.declared.Updated.{Updated}

-- ---- a block that is being filled

-- the place of a block's last byte
abbrev pub block_last : ℕ
block_last = block_size - 1

unfoldable pub no_bytes : List ℕ
no_bytes = replicate block_size 0

-- nothing of the next block yet
unfoldable pub new_block : List ℕ → Filling
new_block words = record { words = words; block = no_bytes; used = 0 }

-- one byte more: where it is the block's last, the block goes into the hash value and the next block starts
unfoldable pub take_byte : Filling → ℕ → Filling
take_byte m b =
    let block = set m.block m.used b in
    choose (eqb m.used block_last)
    (new_block (compress m.words block))
    (record { words = m.words; block = block; used = m.used + 1 })

unfoldable pub take_bytes : Filling → List ℕ → Filling
take_bytes m [] = m
take_bytes m (b ∷ bs) = take_bytes (take_byte m b) bs

-- ---- states

unfoldable pub initial_state : State
initial_state = record { words = initial_hash; block = no_bytes; total = 0 }

abbrev pub filling_of : State → Filling
filling_of st = record { words = st.words; block = st.block; used = st.total % block_size }

-- the state after bytes
unfoldable pub absorbed : State → List ℕ → State
absorbed st s =
    let m = take_bytes (filling_of st) s in
    record { words = m.words; block = m.block; total = st.total + length s }

-- the most bytes of a message: the standard's bound is 2 ^ 128 bits, this one's 2 ^ 61 - 1 bytes
abbrev pub total_limit : ℕ
total_limit = 2 ^ 61 - 1

-- a piece: refused, and the state as it was, exactly where the total would pass the limit
unfoldable pub updated : State → List ℕ → Updated
updated st s =
    choose (ltb total_limit (st.total + length s))
    (record { verdict = refuse message_too_long 0; state = st })
    (record { verdict = Accepted; state = absorbed st s })

-- the state after a piece; the state as it was if the piece would pass the limit
abbrev pub more_hashed : State → List ℕ → State
more_hashed st s = (updated st s).state

-- the state after pieces, one after the other
unfoldable pub after_all : State → List (List ℕ) → State
after_all st [] = st
after_all st (p ∷ ps) = after_all (updated st p).state ps

-- the digest that a state stands for: the padding is taken as bytes like any others, and ends a block
unfoldable pub digest_from : State → List ℕ
digest_from st = digest_of (take_bytes (filling_of st) (padding st.total)).words

-- ---- what the state has to be after given bytes, from the standard: whole blocks are in the hash value, and the rest waits

unfoldable pub state_after : List ℕ → State
state_after s =
    let n = length s in
    record {
      words = hash_blocks (n / block_size) initial_hash s;
      block = drop (n / block_size * block_size) s ++ replicate (block_size - n % block_size) 0;
      total = n;
    }
