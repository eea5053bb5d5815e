-- What may still come after a byte is what the table says: antt computes both for each mode and byte.
-- Assumes nothing.
use Prim.Native.Nat.{ℕ, zero, suc}
use mathlib.Core.Path.{◌≡◌, refl}
use mathlib.Core.Bool.{Bool, true, false}
use mathlib.Core.List.{List, [], ◌∷◌}
use Rattle.octets.proofs.Lists.{values_below}
use Rattle.json_grammar.specs.Abnf.{Abnf}
use Rattle.json_machine.specs.Table.{classes}
use Rattle.json_machine.proofs.Derive.{rests}
use Rattle.json_machine.proofs.Modes.{Mode, m-value, m-after, m-firstItem, m-firstMember, m-key, m-colon, m_token, m_string, m_name, each_token, each_string}
use Rattle.json_machine.proofs.Step.{act_at, still, next_at, stills}

abbrev pub by_grammar : ℕ → List Bool → Mode → List (List (List Abnf))
by_grammar d fs m = values_below 256 (λ b. rests b (still m d fs))

abbrev pub by_table : ℕ → List Bool → Mode → List (List (List Abnf))
by_table d fs m = values_below 256 (λ b. stills (next_at m d fs b))

pub right : (m : Mode) (d : ℕ) (fs : List Bool) → by_grammar d fs m ≡ by_table d fs m
unfolding classes act_at
right m-value zero fs = refl
right m-value (suc d) fs = refl
right m-after d [] = refl
right m-after d (false ∷ fs) = refl
right m-after d (true ∷ fs) = refl
right m-firstItem zero fs = refl
right m-firstItem (suc d) fs = refl
right m-firstMember d fs = refl
right m-key d fs = refl
right m-colon d fs = refl
right (m_token t) d [] = each_token (by_grammar d []) (by_table d []) refl t
right (m_token t) d (false ∷ fs) = each_token (by_grammar d (false ∷ fs)) (by_table d (false ∷ fs)) refl t
right (m_token t) d (true ∷ fs) = each_token (by_grammar d (true ∷ fs)) (by_table d (true ∷ fs)) refl t
right (m_string s) d fs = each_string (by_grammar d fs) (by_table d fs) m_string refl s
right (m_name s) d fs = each_string (by_grammar d fs) (by_table d fs) m_name refl s
