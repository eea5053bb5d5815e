-- RFC 8259's ABNF over bytes, each rule under the RFC's own name, and a number of arrays or objects that may be open at once.
-- Assumes nothing.
use Rattle.std.specs.Prelude.{ℕ, zero, suc}
use Rattle.json_grammar.specs.Abnf.{Abnf, range, ◌·◌, ◌or◌, many, byte, opt, some}
use Rattle.json_grammar.specs.Utf8.{utf8_2, utf8_3, utf8_4}

-- ---- 2. JSON grammar: white space and the six structural characters

-- space, tab, line feed, carriage return
abbrev pub ws : Abnf
ws = many (byte 0x20 or byte 0x09 or byte 0x0A or byte 0x0D)

abbrev pub begin_array : Abnf
begin_array = ws · byte 0x5B · ws

abbrev pub begin_object : Abnf
begin_object = ws · byte 0x7B · ws

abbrev pub end_array : Abnf
end_array = ws · byte 0x5D · ws

abbrev pub end_object : Abnf
end_object = ws · byte 0x7D · ws

abbrev pub name_separator : Abnf
name_separator = ws · byte 0x3A · ws

abbrev pub value_separator : Abnf
value_separator = ws · byte 0x2C · ws

-- ---- 3. the three names

abbrev pub false : Abnf
false = byte 0x66 · byte 0x61 · byte 0x6C · byte 0x73 · byte 0x65

abbrev pub null : Abnf
null = byte 0x6E · byte 0x75 · byte 0x6C · byte 0x6C

abbrev pub true : Abnf
true = byte 0x74 · byte 0x72 · byte 0x75 · byte 0x65

-- ---- 6. numbers

abbrev pub digit : Abnf
digit = range 0x30 0x39

abbrev pub digit1_9 : Abnf
digit1_9 = range 0x31 0x39

abbrev pub minus : Abnf
minus = byte 0x2D

abbrev pub plus : Abnf
plus = byte 0x2B

abbrev pub int : Abnf
int = byte 0x30 or digit1_9 · many digit

abbrev pub frac : Abnf
frac = byte 0x2E · some digit

abbrev pub exp : Abnf
exp = (byte 0x65 or byte 0x45) · opt (minus or plus) · some digit

abbrev pub number : Abnf
number = opt minus · int · opt frac · opt exp

-- ---- 7. strings

-- RFC 5234's HEXDIG, whose letters may be small
abbrev pub hexdig : Abnf
hexdig = digit or range 0x41 0x46 or range 0x61 0x66

-- %x20-21 / %x23-5B / %x5D-10FFFF, the last from 80 on as UTF-8
abbrev pub unescaped : Abnf
unescaped = range 0x20 0x21 or range 0x23 0x5B or range 0x5D 0x7F or utf8_2 or utf8_3 or utf8_4

-- what may follow a reverse solidus: " \ / b f n r t, and uXXXX
abbrev pub escaped : Abnf
escaped =
    byte 0x22 or byte 0x5C or byte 0x2F or byte 0x62 or byte 0x66 or byte 0x6E or byte 0x72 or byte 0x74
    or byte 0x75 · hexdig · hexdig · hexdig · hexdig

abbrev pub char : Abnf
char = unescaped or byte 0x5C · escaped

abbrev pub string : Abnf
string = byte 0x22 · many char · byte 0x22

-- ---- 5. arrays and 4. objects, of values v

abbrev pub array : Abnf → Abnf
array v = begin_array · opt (v · many (value_separator · v)) · end_array

abbrev pub member : Abnf → Abnf
member v = string · name_separator · v

abbrev pub object : Abnf → Abnf
object v = begin_object · opt (member v · many (value_separator · member v)) · end_object

-- ---- 3. values, in which at most so many arrays or objects are open at once

abbrev pub value : ℕ → Abnf
value zero = false or null or true or number or string
value (suc d) = false or null or true or object (value d) or array (value d) or number or string

-- ---- 2. JSON-text

abbrev pub json_text : ℕ → Abnf
json_text d = ws · value d · ws
