-- A verdict in words. Text is ASCII.
-- Assumes nothing.
use Rattle.std.specs.Prelude.{ℕ, List, [], ◌∷◌}
use Rattle.eif.specs.declared.Verdict.{Verdict}
use Rattle.eif.specs.declared.Verdict.TheVariants.{Accepted, Refused}
use Rattle.eif_lines.specs.Lines.{refusal_then}

-- "accepted"
abbrev pub accepted_word : List ℕ
accepted_word = 97 ∷ 99 ∷ 99 ∷ 101 ∷ 112 ∷ 116 ∷ 101 ∷ 100 ∷ []

-- accepted, or refused NUMBER at INDEX byte POSITION
abbrev pub verdict_text : Verdict → List ℕ
verdict_text Accepted = accepted_word
verdict_text (Refused r) = refusal_then r []
