-- Numbers in decimal, and the lines of small readings, by computation. Assumes nothing.
use Rattle.std.specs.Prelude.{◌-◌, ◌≡◌, refl, [], ◌∷◌, map, length, replicate}
use Rattle.eif.specs.Worked.{worked_section}
use Rattle.eif.specs.Numbers.{place_count, kernel, command_line}
use Rattle.eif.specs.Reading.{blank_section, blank_reading}
use Rattle.eif.specs.Answers.{refuse_at}
use Rattle.eif.specs.declared.Reading.{Reading}
use Rattle.eif.specs.declared.Verdict.TheVariants.{Accepted}
use Rattle.eif_lines.specs.Lines.{digits_by, digit_count, decimal_text, number_then, row_line, row_lines, head_line, refusal_then, accepted_lines, lines_of, most_digits}

-- 0, 9, 10, 548, 65536
decimals : map decimal_text (0 ∷ 9 ∷ 10 ∷ 548 ∷ 65536 ∷ [])
    ≡ (48 ∷ []) ∷ (57 ∷ []) ∷ (49 ∷ 48 ∷ []) ∷ (53 ∷ 52 ∷ 56 ∷ []) ∷ (54 ∷ 53 ∷ 53 ∷ 51 ∷ 54 ∷ []) ∷ []
unfolding digits_by digit_count decimal_text
decimals = refl

-- 2^64-1 has all 20 digits
longest_decimal : length (decimal_text 18446744073709551615) ≡ most_digits
unfolding digits_by digit_count decimal_text
longest_decimal = refl

-- an image of version 2 with a kernel of one byte and an empty command line
abbrev small_reading : Reading
small_reading =
    record {
      verdict = Accepted;
      version = 2;
      flags = 0;
      architecture = 0;
      default_mem = 0;
      default_cpus = 0;
      count = 2;
      sections = worked_section kernel 560 1 ∷ worked_section command_line 573 0 ∷ replicate (place_count - 2) blank_section;
      ramdisk_mark = 0;
    }

-- eif 2 2
-- 0 1 548 1
-- 1 2 561 0
small_lines : lines_of small_reading
    ≡ 101 ∷ 105 ∷ 102 ∷ 32 ∷ 50 ∷ 32 ∷ 50 ∷ 10
    ∷ 48 ∷ 32 ∷ 49 ∷ 32 ∷ 53 ∷ 52 ∷ 56 ∷ 32 ∷ 49 ∷ 10
    ∷ 49 ∷ 32 ∷ 50 ∷ 32 ∷ 53 ∷ 54 ∷ 49 ∷ 32 ∷ 48 ∷ 10 ∷ []
unfolding digits_by digit_count decimal_text number_then row_line row_lines head_line accepted_lines
small_lines = refl

-- refused 13 at 0 byte 544
refused_lines : lines_of (blank_reading (refuse_at 13 0 544))
    ≡ 114 ∷ 101 ∷ 102 ∷ 117 ∷ 115 ∷ 101 ∷ 100 ∷ 32 ∷ 49 ∷ 51 ∷ 32 ∷ 97 ∷ 116 ∷ 32 ∷ 48
    ∷ 32 ∷ 98 ∷ 121 ∷ 116 ∷ 101 ∷ 32 ∷ 53 ∷ 52 ∷ 52 ∷ 10 ∷ []
unfolding digits_by digit_count decimal_text number_then refusal_then
refused_lines = refl
