-- 29 by computation: a piece of one byte, and of none, where the total is the most that a message may have. The number is written out, as
-- FORMAT.md prints it.
-- Assumes nothing.
use Rattle.std.specs.Prelude.{◌≡◌, refl, [], ◌∷◌}
use Rattle.eif.specs.Answers.{refuse}
use Rattle.eif.specs.declared.Verdict.TheVariants.{Accepted}
use Rattle.sha384_block.specs.Fips.{initial_hash}
use Rattle.sha384.specs.State.{no_bytes, updated}
use Rattle.sha384.specs.declared.State.{State}

abbrev full_state : State
full_state = record { words = initial_hash; block = no_bytes; total = 2305843009213693951 }

pub piece_refused : (updated full_state (0 ∷ [])).verdict ∷ (updated full_state []).verdict ∷ [] ≡ refuse 29 0 ∷ Accepted ∷ []
unfolding updated
piece_refused = refl
