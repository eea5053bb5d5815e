-- The flat answer of the check of JSON.
-- Assumes nothing.
use Rattle.std.specs.Prelude.{ℕ, replicate, Ok, Err}
use Rattle.json_grammar.specs.Verdict.{JsonVerdict}
use Rattle.eif_c.specs.declared.strict.EifJson.{EifJson}

-- 1 for a text
abbrev pub text_flag : JsonVerdict → ℕ
text_flag (Ok _) = 1
text_flag (Err _) = 0

abbrev pub fault_place : JsonVerdict → ℕ
fault_place (Ok _) = 0
fault_place (Err fault) = fault.place

abbrev pub flat_json : JsonVerdict → EifJson
flat_json v = record { is_text = text_flag v; reserved = replicate 7 0; place = fault_place v }
