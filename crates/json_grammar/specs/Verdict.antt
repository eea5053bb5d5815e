-- Which verdict on bytes is the right one: said of the grammar, and of nothing that computes.
-- Assumes nothing.
use Rattle.std.specs.Prelude.{ℕ, suc, ◌≤◌, ◌<◌, ⊤, List, ◌++◌, length, take, Result, Ok, Err}
use Rattle.json_grammar.specs.Abnf.{Is}
use Rattle.json_grammar.specs.Grammar.{json_text}
use Rattle.json_grammar.specs.declared.JsonFault.{JsonFault}

-- the most arrays or objects that may be open at once
abbrev pub depth_limit : ℕ
depth_limit = 32

-- the bytes are one JSON text within the depth limit
unfoldable pub IsText : List ℕ → Type 0
IsText s = Is (json_text depth_limit) s

-- such a text can begin with these bytes
unfoldable pub CanBegin : List ℕ → Type 0
CanBegin p = (t : List ℕ) × IsText (p ++ t)

-- of bytes that are no such text: p is the place of the first byte that no such text can have after the bytes before it, or, if
-- there is none, the end
pub record FaultsFirstAt (s : List ℕ) (p : ℕ) : Type 0 where
  pub no_text : IsText s → ⊥
  pub within : p ≤ length s
  pub before : CanBegin (take p s)
  pub there : p < length s → CanBegin (take (suc p) s) → ⊥

-- what a checker answers: the bytes are a text, or the place of the fault
abbrev pub JsonVerdict : Type 0
JsonVerdict = Result ⊤ JsonFault

abbrev pub Text : JsonVerdict
Text = Ok tt

abbrev pub Fault : ℕ → JsonVerdict
Fault p = Err (record { place = p })

abbrev pub IsVerdict : List ℕ → JsonVerdict → Type 0
IsVerdict s (Ok _) = IsText s
IsVerdict s (Err fault) = FaultsFirstAt s fault.place
