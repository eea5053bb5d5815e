-- The texts of FORMAT.md, JSON texts, and texts on both sides of what the grammar allows, by computation. Bytes and places are written out, as
-- FORMAT.md prints them.
-- Assumes nothing.
use Rattle.std.specs.Prelude.{ℕ, ◌≡◌, refl, List, [], ◌∷◌, ◌++◌, map, replicate}
use Rattle.json_grammar.specs.Verdict.{JsonVerdict, Text, Fault}
use Rattle.json_machine.specs.Table.{classes, rows}
use Rattle.json_machine.specs.Machine.{json_verdict, walk_from, ends_of, kind_of, act_of, entry_of, after_of}

-- bytes, and the verdict on them
pub record WorkedText : Type 0 where
  pub bytes : List ℕ
  pub verdict : JsonVerdict

abbrev worked_text : List ℕ → JsonVerdict → WorkedText
worked_text bytes verdict = record { bytes = bytes; verdict = verdict }

-- {"a": [1, -0.5e+3, "\u00e9"]}, 0 and ""; none at all; {"a": 1 and {"a": 1,}; -, 1. and 1e; 01 and 1 2; a byte order mark before {}; a string of
-- UTF-8 that is not in its shortest form, a surrogate, and above U+10FFFF; 32 arrays in each other, and 33
abbrev pub worked_texts : List WorkedText
worked_texts =
    worked_text
    (0x7b ∷ 0x22 ∷ 0x61 ∷ 0x22 ∷ 0x3a ∷ 0x20 ∷ 0x5b ∷ 0x31 ∷ 0x2c ∷ 0x20 ∷ 0x2d ∷ 0x30 ∷ 0x2e ∷ 0x35 ∷ 0x65 ∷ 0x2b ∷ 0x33
    ∷ 0x2c ∷ 0x20 ∷ 0x22 ∷ 0x5c ∷ 0x75 ∷ 0x30 ∷ 0x30 ∷ 0x65 ∷ 0x39 ∷ 0x22 ∷ 0x5d ∷ 0x7d ∷ []) Text
    ∷ worked_text (0x30 ∷ []) Text
    ∷ worked_text (0x22 ∷ 0x22 ∷ []) Text
    ∷ worked_text [] (Fault 0)
    ∷ worked_text (0x7b ∷ 0x22 ∷ 0x61 ∷ 0x22 ∷ 0x3a ∷ 0x20 ∷ 0x31 ∷ []) (Fault 7)
    ∷ worked_text (0x7b ∷ 0x22 ∷ 0x61 ∷ 0x22 ∷ 0x3a ∷ 0x20 ∷ 0x31 ∷ 0x2c ∷ 0x7d ∷ []) (Fault 8)
    ∷ worked_text (0x2d ∷ []) (Fault 1)
    ∷ worked_text (0x31 ∷ 0x2e ∷ []) (Fault 2)
    ∷ worked_text (0x31 ∷ 0x65 ∷ []) (Fault 2)
    ∷ worked_text (0x30 ∷ 0x31 ∷ []) (Fault 1)
    ∷ worked_text (0x31 ∷ 0x20 ∷ 0x32 ∷ []) (Fault 2)
    ∷ worked_text (0xef ∷ 0xbb ∷ 0xbf ∷ 0x7b ∷ 0x7d ∷ []) (Fault 0)
    ∷ worked_text (0x22 ∷ 0xc0 ∷ 0x80 ∷ 0x22 ∷ []) (Fault 1)
    ∷ worked_text (0x22 ∷ 0xed ∷ 0xa0 ∷ 0x80 ∷ 0x22 ∷ []) (Fault 2)
    ∷ worked_text (0x22 ∷ 0xf4 ∷ 0x90 ∷ 0x80 ∷ 0x80 ∷ 0x22 ∷ []) (Fault 2)
    ∷ worked_text (replicate 32 0x5b ++ replicate 32 0x5d) Text
    ∷ worked_text (replicate 33 0x5b ++ replicate 33 0x5d) (Fault 32)
    ∷ []

pub verdicts_hold : map (λ (t : WorkedText). json_verdict t.bytes) worked_texts ≡ map (λ (t : WorkedText). t.verdict) worked_texts
unfolding json_verdict walk_from ends_of kind_of act_of entry_of after_of classes rows
verdicts_hold = refl

-- ---- both sides of what the grammar allows

abbrev quoted : List ℕ → List ℕ
quoted s = 0x22 ∷ s ++ 0x22 ∷ []

-- \u0000 with another last digit
abbrev last_digit : ℕ → List ℕ
last_digit b = 0x5c ∷ 0x75 ∷ 0x30 ∷ 0x30 ∷ 0x30 ∷ b ∷ []

-- the four bytes of white space, and vertical tab and form feed; in a string 1f, space and DEL; of two bytes C1, C2 with a first control character
-- (U+0080) and with 7f, with bf (U+00BF) and with c0, the last (U+07FF); of three E0 9F, U+0800, U+D7FF, U+E000 and U+FFFF; of four F0 8F, U+10000,
-- U+40000, U+FFFFF, U+10FFFF, and F5; a byte that only goes on; each escape, and \v; hexadecimal digits at the ends of their three ranges, and beside
-- these; digits, and the bytes beside them; a plus sign, a capital E, a minus sign in the exponent, a point in front; a name in full, cut, and with a
-- capital
abbrev pub boundary_texts : List WorkedText
boundary_texts =
    worked_text (0x20 ∷ 0x09 ∷ 0x0a ∷ 0x0d ∷ 0x30 ∷ 0x20 ∷ 0x09 ∷ 0x0a ∷ 0x0d ∷ []) Text
    ∷ worked_text (0x0b ∷ 0x30 ∷ []) (Fault 0)
    ∷ worked_text (0x0c ∷ 0x30 ∷ []) (Fault 0)
    ∷ worked_text (0x30 ∷ 0x0c ∷ []) (Fault 1)
    ∷ worked_text (quoted (0x1f ∷ [])) (Fault 1)
    ∷ worked_text (quoted (0x20 ∷ [])) Text
    ∷ worked_text (quoted (0x7f ∷ [])) Text
    ∷ worked_text (quoted (0xc1 ∷ 0xbf ∷ [])) (Fault 1)
    ∷ worked_text (quoted (0xc2 ∷ 0x80 ∷ [])) Text
    ∷ worked_text (quoted (0xc2 ∷ 0x7f ∷ [])) (Fault 2)
    ∷ worked_text (quoted (0xc2 ∷ 0xbf ∷ [])) Text
    ∷ worked_text (quoted (0xc2 ∷ 0xc0 ∷ [])) (Fault 2)
    ∷ worked_text (quoted (0xdf ∷ 0xbf ∷ [])) Text
    ∷ worked_text (quoted (0xe0 ∷ 0x9f ∷ 0xbf ∷ [])) (Fault 2)
    ∷ worked_text (quoted (0xe0 ∷ 0xa0 ∷ 0x80 ∷ [])) Text
    ∷ worked_text (quoted (0xed ∷ 0x9f ∷ 0xbf ∷ [])) Text
    ∷ worked_text (quoted (0xee ∷ 0x80 ∷ 0x80 ∷ [])) Text
    ∷ worked_text (quoted (0xef ∷ 0xbf ∷ 0xbf ∷ [])) Text
    ∷ worked_text (quoted (0xf0 ∷ 0x8f ∷ 0xbf ∷ 0xbf ∷ [])) (Fault 2)
    ∷ worked_text (quoted (0xf0 ∷ 0x90 ∷ 0x80 ∷ 0x80 ∷ [])) Text
    ∷ worked_text (quoted (0xf1 ∷ 0x80 ∷ 0x80 ∷ 0x80 ∷ [])) Text
    ∷ worked_text (quoted (0xf3 ∷ 0xbf ∷ 0xbf ∷ 0xbf ∷ [])) Text
    ∷ worked_text (quoted (0xf4 ∷ 0x8f ∷ 0xbf ∷ 0xbf ∷ [])) Text
    ∷ worked_text (quoted (0xf5 ∷ 0x80 ∷ 0x80 ∷ 0x80 ∷ [])) (Fault 1)
    ∷ worked_text (quoted (0x80 ∷ [])) (Fault 1)
    ∷ worked_text (quoted (0x5c ∷ 0x2f ∷ [])) Text
    ∷ worked_text
    (quoted (0x5c ∷ 0x22 ∷ 0x5c ∷ 0x5c ∷ 0x5c ∷ 0x62 ∷ 0x5c ∷ 0x66 ∷ 0x5c ∷ 0x6e ∷ 0x5c ∷ 0x72 ∷ 0x5c ∷ 0x74 ∷ [])) Text
    ∷ worked_text (quoted (0x5c ∷ 0x76 ∷ [])) (Fault 2)
    ∷ worked_text (quoted (0x5c ∷ 0x75 ∷ 0x41 ∷ 0x46 ∷ 0x61 ∷ 0x66 ∷ [])) Text
    ∷ worked_text (quoted (last_digit 0x39)) Text
    ∷ worked_text (quoted (last_digit 0x2f)) (Fault 6)
    ∷ worked_text (quoted (last_digit 0x3a)) (Fault 6)
    ∷ worked_text (quoted (last_digit 0x40)) (Fault 6)
    ∷ worked_text (quoted (last_digit 0x47)) (Fault 6)
    ∷ worked_text (quoted (last_digit 0x60)) (Fault 6)
    ∷ worked_text (quoted (last_digit 0x67)) (Fault 6)
    ∷ worked_text (0x39 ∷ 0x30 ∷ []) Text
    ∷ worked_text (0x2f ∷ []) (Fault 0)
    ∷ worked_text (0x3a ∷ []) (Fault 0)
    ∷ worked_text (0x2b ∷ 0x31 ∷ []) (Fault 0)
    ∷ worked_text (0x31 ∷ 0x45 ∷ 0x39 ∷ []) Text
    ∷ worked_text (0x31 ∷ 0x65 ∷ 0x2d ∷ 0x31 ∷ []) Text
    ∷ worked_text (0x2e ∷ 0x35 ∷ []) (Fault 0)
    ∷ worked_text (0x6e ∷ 0x75 ∷ 0x6c ∷ 0x6c ∷ []) Text
    ∷ worked_text (0x6e ∷ 0x75 ∷ 0x6c ∷ []) (Fault 3)
    ∷ worked_text (0x54 ∷ 0x72 ∷ 0x75 ∷ 0x65 ∷ []) (Fault 0)
    ∷ []

pub boundaries_hold : map (λ (t : WorkedText). json_verdict t.bytes) boundary_texts ≡ map (λ (t : WorkedText). t.verdict) boundary_texts
unfolding json_verdict walk_from ends_of kind_of act_of entry_of after_of classes rows
boundaries_hold = refl
