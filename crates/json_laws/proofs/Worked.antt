-- The texts of FORMAT.md, JSON texts, and those on both sides of what the grammar allows, said of the grammar and of nothing that computes.
-- Assumes nothing.
use mathlib.Core.Path.{◌≡◌, ap, subst}
use mathlib.Core.List.{List, [], ◌∷◌, map, head_d, tail}
use Rattle.octets.specs.Lists.{All}
use Rattle.json_grammar.specs.Verdict.{IsVerdict, JsonVerdict, Text}
use Rattle.json_machine.specs.Machine.{json_verdict}
use Rattle.json_laws.specs.Worked.{WorkedText, worked_texts, verdicts_hold, boundary_texts, boundaries_hold}
use Rattle.json_laws.proofs.Laws.{right_verdict}

abbrev IsRight : WorkedText → Type 0
IsRight t = IsVerdict t.bytes t.verdict

all_right : (l : List WorkedText) → map (λ (t : WorkedText). json_verdict t.bytes) l ≡ map (λ (t : WorkedText). t.verdict) l → All IsRight l
unfolding All head_d
all_right [] e = tt
all_right (t ∷ ts) e = (subst (λ (v : JsonVerdict). IsVerdict t.bytes v) (ap (λ l. head_d l Text) e) (right_verdict t.bytes), all_right ts (ap tail e))

-- each verdict is the right one
pub verdicts_right : All (λ (t : WorkedText). IsVerdict t.bytes t.verdict) worked_texts
verdicts_right = all_right worked_texts verdicts_hold

pub boundaries_right : All (λ (t : WorkedText). IsVerdict t.bytes t.verdict) boundary_texts
boundaries_right = all_right boundary_texts boundaries_hold
