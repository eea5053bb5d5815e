-- The machine: where it stands, what may still come there, and where a byte takes it.
-- Assumes nothing.
use Prim.Native.Nat.{ℕ, zero, suc}
use mathlib.Core.Bool.{Bool, true, false}
use mathlib.Core.List.{List, [], ◌∷◌}
use lib.ListN.{get_or}
use Rattle.json_grammar.specs.Abnf.{Abnf, range, ◌or◌, many, byte, opt, some}
use Rattle.json_grammar.specs.Utf8.{utf8_tail}
use Rattle.json_grammar.specs.Grammar.{ws, digit, minus, plus, int, frac, exp, hexdig, escaped, char}
use Rattle.json_machine.specs.Table.{classes, rows}
use Rattle.json_machine.specs.Machine.{value_mode, first_item_mode, after_text_mode, after_item_mode, after_member_mode, first_member_mode, key_mode, colon_mode}
use Rattle.json_machine.proofs.Plain.{items, array_rest, plain_member, members, object_rest, plain_value}
use Rattle.json_machine.proofs.Modes.{Token, Str, Mode, m-value, m-after, m-firstItem, m-firstMember, m-key, m-colon, m_token, m_string, m_name, Act, acts, token_number, string_number, name_number}
use Rattle.json_machine.proofs.Modes as T

-- what may still come of a number or of false, null or true, and then k
abbrev pub token : Token → List Abnf → List Abnf
token T.t-minus k = int ∷ opt frac ∷ opt exp ∷ k
token T.t-zero k = opt frac ∷ opt exp ∷ k
token T.t-whole k = many digit ∷ opt frac ∷ opt exp ∷ k
token T.t-point k = some digit ∷ opt exp ∷ k
token T.t-frac k = many digit ∷ opt exp ∷ k
token T.t-exp k = opt (minus or plus) ∷ some digit ∷ k
token T.t-sign k = some digit ∷ k
token T.t-power k = many digit ∷ k
token T.t-alse k = byte 0x61 ∷ byte 0x6C ∷ byte 0x73 ∷ byte 0x65 ∷ k
token T.t-lse k = byte 0x6C ∷ byte 0x73 ∷ byte 0x65 ∷ k
token T.t-se k = byte 0x73 ∷ byte 0x65 ∷ k
token T.t-e k = byte 0x65 ∷ k
token T.t-ull k = byte 0x75 ∷ byte 0x6C ∷ byte 0x6C ∷ k
token T.t-ll k = byte 0x6C ∷ byte 0x6C ∷ k
token T.t-l k = byte 0x6C ∷ k
token T.t-rue k = byte 0x72 ∷ byte 0x75 ∷ byte 0x65 ∷ k
token T.t-ue k = byte 0x75 ∷ byte 0x65 ∷ k

-- the rest of a string, between two characters
abbrev pub chars : List Abnf → List Abnf
chars k = many char ∷ byte 0x22 ∷ k

abbrev pub str : Str → List Abnf → List Abnf
str T.s-char k = chars k
str T.s-escape k = escaped ∷ chars k
str T.s-hex4 k = hexdig ∷ hexdig ∷ hexdig ∷ hexdig ∷ chars k
str T.s-hex3 k = hexdig ∷ hexdig ∷ hexdig ∷ chars k
str T.s-hex2 k = hexdig ∷ hexdig ∷ chars k
str T.s-hex1 k = hexdig ∷ chars k
str T.s-tail1 k = utf8_tail ∷ chars k
str T.s-tail2 k = utf8_tail ∷ utf8_tail ∷ chars k
str T.s-tail3 k = utf8_tail ∷ utf8_tail ∷ utf8_tail ∷ chars k
str T.s-afterE0 k = range 0xA0 0xBF ∷ utf8_tail ∷ chars k
str T.s-afterED k = range 0x80 0x9F ∷ utf8_tail ∷ chars k
str T.s-afterF0 k = range 0x90 0xBF ∷ utf8_tail ∷ utf8_tail ∷ chars k
str T.s-afterF4 k = range 0x80 0x8F ∷ utf8_tail ∷ utf8_tail ∷ chars k

-- what may come after a value: d more may be opened, and these are open, an object where true
abbrev pub after_value : ℕ → List Bool → List Abnf
after_value d [] = ws ∷ []
after_value d (false ∷ fs) = ws ∷ items (plain_value d) ∷ byte 0x5D ∷ after_value (suc d) fs
after_value d (true ∷ fs) = ws ∷ members (plain_value d) ∷ byte 0x7D ∷ after_value (suc d) fs

abbrev pub colon : ℕ → List Bool → List Abnf
colon d fs = ws ∷ byte 0x3A ∷ ws ∷ plain_value d ∷ after_value d (true ∷ fs)

abbrev pub still : Mode → ℕ → List Bool → List Abnf
still m-value d fs = ws ∷ plain_value d ∷ after_value d fs
still m-after d fs = after_value d fs
still m-firstItem d fs = ws ∷ array_rest (plain_value d) ∷ after_value (suc d) fs
still m-firstMember d fs = ws ∷ object_rest (plain_value d) ∷ after_value (suc d) fs
still m-key d fs = ws ∷ plain_member (plain_value d) ∷ members (plain_value d) ∷ byte 0x7D ∷ after_value (suc d) fs
still m-colon d fs = colon d fs
still (m_token t) d fs = token t (after_value d fs)
still (m_string s) d fs = str s (after_value d fs)
still (m_name s) d fs = str s (colon d fs)

abbrev pub frames : Mode → List Bool → List Bool
frames m-value fs = fs
frames m-after fs = fs
frames m-firstItem fs = false ∷ fs
frames m-firstMember fs = true ∷ fs
frames m-key fs = true ∷ fs
frames m-colon fs = true ∷ fs
frames (m_token t) fs = fs
frames (m_string s) fs = fs
frames (m_name s) fs = true ∷ fs

abbrev pub after_number : List Bool → ℕ
after_number [] = after_text_mode
after_number (false ∷ fs) = after_item_mode
after_number (true ∷ fs) = after_member_mode

abbrev pub mode_number : Mode → List Bool → ℕ
mode_number m-value fs = value_mode
mode_number m-after fs = after_number fs
mode_number m-firstItem fs = first_item_mode
mode_number m-firstMember fs = first_member_mode
mode_number m-key fs = key_mode
mode_number m-colon fs = colon_mode
mode_number (m_token t) fs = token_number t
mode_number (m_string s) fs = string_number s
mode_number (m_name s) fs = name_number s

pub data Next : Type 0 where
  refused : Next
  at : Mode → ℕ → List Bool → Next

-- what the tables say of a mode and a class of bytes
unfoldable pub cell : ℕ → ℕ → ℕ
cell n c = get_or (get_or rows n []) c 0

unfoldable pub act_at : ℕ → ℕ → Act
unfolding rows cell
act_at n c = get_or acts (cell n c) T.fault

-- in the mode m, with d more to open and these open
abbrev pub at_mode : Mode → ℕ → List Bool → Next
at_mode m-value d fs = at m-value d fs
at_mode m-after d fs = at m-after d fs
at_mode (m_token t) d fs = at (m_token t) d fs
at_mode (m_string s) d fs = at (m_string s) d fs
at_mode m-firstItem d [] = refused
at_mode m-firstItem d (true ∷ fs) = refused
at_mode m-firstItem d (false ∷ fs) = at m-firstItem d fs
at_mode m-firstMember d [] = refused
at_mode m-firstMember d (false ∷ fs) = refused
at_mode m-firstMember d (true ∷ fs) = at m-firstMember d fs
at_mode m-key d [] = refused
at_mode m-key d (false ∷ fs) = refused
at_mode m-key d (true ∷ fs) = at m-key d fs
at_mode m-colon d [] = refused
at_mode m-colon d (false ∷ fs) = refused
at_mode m-colon d (true ∷ fs) = at m-colon d fs
at_mode (m_name s) d [] = refused
at_mode (m_name s) d (false ∷ fs) = refused
at_mode (m_name s) d (true ∷ fs) = at (m_name s) d fs

abbrev pub opened : Mode → ℕ → List Bool → Next
opened m zero fs = refused
opened m (suc d) fs = at m d fs

abbrev pub closed : ℕ → List Bool → Next
closed d [] = refused
closed d (f ∷ fs) = at m-after (suc d) fs

-- these are open; n is where it goes if a value has ended
abbrev pub act : Act → ℕ → List Bool → Next → Next
act (T.to m) d fs n = at_mode m d fs
act T.fault d fs n = refused
act T.stop d fs n = at m-after d fs
act T.again d fs n = n
act T.openArray d fs n = opened m-firstItem d fs
act T.openObject d fs n = opened m-firstMember d fs
act T.close d fs n = closed d fs

-- at a byte of the class c, and at the byte b
abbrev pub next_on : Mode → ℕ → List Bool → ℕ → Next
next_on m d fs c = act (act_at (mode_number m fs) c) d (frames m fs) (act (act_at (after_number (frames m fs)) c) d (frames m fs) refused)

abbrev pub next_at : Mode → ℕ → List Bool → ℕ → Next
next_at m d fs b = next_on m d fs (get_or classes b 0)

abbrev pub stills : Next → List (List Abnf)
stills refused = []
stills (at m d fs) = still m d fs ∷ []
