-- RFC 3629, 4: the byte sequences of UTF-8. What it calls UTF8-1 is one byte below 80.
-- Assumes nothing.
use Rattle.json_grammar.specs.Abnf.{Abnf, range, ◌·◌, ◌or◌, byte}

abbrev pub utf8_tail : Abnf
utf8_tail = range 0x80 0xBF

abbrev pub utf8_2 : Abnf
utf8_2 = range 0xC2 0xDF · utf8_tail

abbrev pub utf8_3 : Abnf
utf8_3 =
    byte 0xE0 · range 0xA0 0xBF · utf8_tail
    or range 0xE1 0xEC · utf8_tail · utf8_tail
    or byte 0xED · range 0x80 0x9F · utf8_tail
    or range 0xEE 0xEF · utf8_tail · utf8_tail

abbrev pub utf8_4 : Abnf
utf8_4 =
    byte 0xF0 · range 0x90 0xBF · utf8_tail · utf8_tail
    or range 0xF1 0xF3 · utf8_tail · utf8_tail · utf8_tail
    or byte 0xF4 · range 0x80 0x8F · utf8_tail · utf8_tail
