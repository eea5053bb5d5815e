-- The grammar with each white space in one place only, so that it is always clear which rule a white space belongs to. Spaces.antt
-- shows that it has the RFC's texts.
-- Assumes nothing.
use Prim.Native.Nat.{ℕ, zero, suc}
use Rattle.json_grammar.specs.Abnf.{Abnf, ◌·◌, ◌or◌, many, byte}
use Rattle.json_grammar.specs.Grammar.{ws, false, null, true, number, string}

abbrev pub items : Abnf → Abnf
items v = many (byte 0x2C · ws · v · ws)

-- what follows [ and white space
abbrev pub array_rest : Abnf → Abnf
array_rest v = byte 0x5D or v · ws · items v · byte 0x5D

abbrev pub plain_array : Abnf → Abnf
plain_array v = byte 0x5B · ws · array_rest v

abbrev pub plain_member : Abnf → Abnf
plain_member v = string · ws · byte 0x3A · ws · v · ws

abbrev pub members : Abnf → Abnf
members v = many (byte 0x2C · ws · plain_member v)

-- what follows { and white space
abbrev pub object_rest : Abnf → Abnf
object_rest v = byte 0x7D or plain_member v · members v · byte 0x7D

abbrev pub plain_object : Abnf → Abnf
plain_object v = byte 0x7B · ws · object_rest v

abbrev pub plain_value : ℕ → Abnf
plain_value zero = false or null or true or number or string
plain_value (suc d) = false or null or true or plain_object (plain_value d) or plain_array (plain_value d) or number or string
