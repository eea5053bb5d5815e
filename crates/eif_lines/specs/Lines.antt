-- The lines of the small programs, byte by byte: a number in decimal, a row of a section, the head line, the refusal line, and the lines
-- of a reading in a buffer. Text is ASCII.
-- Assumes nothing.
use Rattle.std.specs.Prelude.{ℕ, zero, suc, ◌+◌, ◌*◌, ◌-◌, ◌/◌, min, Bool, true, false, List, [], ◌∷◌, ◌++◌, ltb, length, take}
use Rattle.io.specs.Digits.{last_digits}
use Rattle.eif.specs.Numbers.{place_count}
use Rattle.eif.specs.Layout.{section_header_size}
use Rattle.eif.specs.declared.Section.{Section}
use Rattle.eif.specs.declared.Refusal.{Refusal}
use Rattle.eif.specs.declared.Verdict.{Verdict}
use Rattle.eif.specs.declared.Verdict.TheVariants.{Accepted, Refused}
use Rattle.eif.specs.declared.Reading.{Reading}
use Rattle.eif_lines.specs.declared.Text.{Text}
use Rattle.octets.specs.Lists.{in_places}

-- ---- a number in decimal

-- a number below ten (true) has one digit, any other (false) one more than its tenth has; at most so many are looked for after the first
unfoldable pub digits_by : ℕ → Bool → ℕ → ℕ
digits_by zero small n = 1
digits_by (suc more) true n = 1
digits_by (suc more) false n = suc (digits_by more (ltb (n / 10) 10) (n / 10))

-- how many digits a number has; after the first they are never more than the number itself
unfoldable pub digit_count : ℕ → ℕ
digit_count n = digits_by n (ltb n 10) n

-- a number in decimal, with no zero in front
unfoldable pub decimal_text : ℕ → List ℕ
decimal_text n = last_digits 10 (digit_count n) n

-- a number in decimal, and a text after it
unfoldable pub number_then : ℕ → List ℕ → List ℕ
number_then n text = decimal_text n ++ text

-- ---- the words of the lines

abbrev pub space : List ℕ
space = 32 ∷ []

abbrev pub line_feed : List ℕ
line_feed = 10 ∷ []

-- "eif "
abbrev pub eif_word : List ℕ
eif_word = 101 ∷ 105 ∷ 102 ∷ 32 ∷ []

-- "refused "
abbrev pub refused_word : List ℕ
refused_word = 114 ∷ 101 ∷ 102 ∷ 117 ∷ 115 ∷ 101 ∷ 100 ∷ 32 ∷ []

-- " at "
abbrev pub at_word : List ℕ
at_word = 32 ∷ 97 ∷ 116 ∷ 32 ∷ []

-- " byte "
abbrev pub byte_word : List ℕ
byte_word = 32 ∷ 98 ∷ 121 ∷ 116 ∷ 101 ∷ 32 ∷ []

-- ---- the lines

-- where a section's own header stands, which is what the table says of it; 0 where there is no room for one before its data
abbrev pub table_offset : Section → ℕ
table_offset s = s.position.0 - section_header_size

-- INDEX TYPE OFFSET SIZE
unfoldable pub row_line : ℕ → Section → List ℕ
row_line i s =
    number_then i space
    ++ (number_then s.kind space
    ++ (number_then (table_offset s) space
    ++ number_then s.length.0 line_feed))

-- a row for each section of a list; the first has the given index
unfoldable pub row_lines : ℕ → List Section → List ℕ
row_lines i [] = []
row_lines i (s ∷ rest) = row_line i s ++ row_lines (suc i) rest

-- eif VERSION COUNT
unfoldable pub head_line : ℕ → ℕ → List ℕ
head_line version count = eif_word ++ (number_then version space ++ number_then count line_feed)

-- refused NUMBER at INDEX byte POSITION, and a text after it
unfoldable pub refusal_then : Refusal → List ℕ → List ℕ
refusal_then r text = refused_word ++ (number_then r.number at_word ++ (number_then r.index byte_word ++ number_then r.position text))

-- refused NUMBER at INDEX byte POSITION
abbrev pub refusal_line : Refusal → List ℕ
refusal_line r = refusal_then r line_feed

-- the head line, and a row for each section that is counted and has a place
unfoldable pub accepted_lines : Reading → List ℕ
accepted_lines r = head_line r.version r.count ++ row_lines 0 (take (min r.count place_count) r.sections)

abbrev pub lines_for : Verdict → Reading → List ℕ
lines_for Accepted reading = accepted_lines reading
lines_for (Refused r) reading = refusal_line r

-- the lines of a reading
abbrev pub lines_of : Reading → List ℕ
lines_of r = lines_for r.verdict r

-- ---- in a buffer

-- the most digits of a number of 64 bits
abbrev pub most_digits : ℕ
most_digits = 20

-- a row of four such numbers, with a byte after each
abbrev pub longest_line : ℕ
longest_line = 4 * (most_digits + 1)

-- room for the head line and a row for each place of the table
abbrev pub room_size : ℕ
room_size = longest_line * (1 + place_count)

-- a text at the start of the buffer, with zeros up to the buffer's end, and the text's length
unfoldable pub in_buffer : List ℕ → Text
in_buffer text = record { bytes = in_places 0 room_size text; length = length text }
