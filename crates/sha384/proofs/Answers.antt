-- The answer to a piece, by whether the total would pass the limit.
-- Assumes nothing.
use Prim.Native.Nat.{ℕ, ◌+◌}
use mathlib.Core.Path.{◌≡◌, ap}
use mathlib.Core.List.{List}
use mathlib.Core.Bool.{true, false}
use lib.Dec.{ltb}
use lib.ListN.{length}
use Rattle.eif.specs.Numbers.{message_too_long}
use Rattle.eif.specs.Answers.{refuse}
use Rattle.eif.specs.declared.Verdict.{Verdict}
use Rattle.eif.specs.declared.Verdict.TheVariants.{Accepted}
use Rattle.sha384.specs.State.{take_bytes, filling_of, absorbed, total_limit, updated}
use Rattle.sha384.specs.declared.Filling.{Filling}
use Rattle.sha384.specs.declared.State.{State}
use Rattle.sha384.specs.declared.Updated.{Updated}

module _ (st : State) (s : List ℕ) where
  abbrev with : Verdict → State → Updated
  with v x = record { verdict = v; state = x }

  pub piece_refused : ltb total_limit (st.total + length s) ≡ true → {v : Verdict} → v ≡ refuse message_too_long 0 → with v st ≡ updated st s
  unfolding updated
  piece_refused h e = simp h (ap (λ (x : Verdict). with x st) e)

  pub piece_taken : ltb total_limit (st.total + length s) ≡ false → {m : Filling} → m ≡ take_bytes (filling_of st) s
      → with Accepted (record { words = m.words; block = m.block; total = st.total + length s }) ≡ updated st s
  unfolding updated absorbed
  piece_taken h e = simp h (ap (λ (x : Filling). with Accepted (record { words = x.words; block = x.block; total = st.total + length s })) e)
