-- The registers by computation: that of an empty stream, which is register 2 of an image with at most one ramdisk; which register is of which
-- stream; and the zeros beside a refusal.
-- Assumes nothing.
use Rattle.std.specs.Prelude.{◌≡◌, refl, List, [], ◌∷◌, map, ℕ, replicate}
use Rattle.octets.specs.Bytes.{field, be_value}
use Rattle.eif.specs.Numbers.{kernel, command_line, ramdisk}
use Rattle.eif.specs.Answers.{refuse}
use Rattle.eif.specs.Rules.{field_fault}
use Rattle.eif.specs.Reading.{blank_reading, header_fault, judged, early, verdict_in, position_in}
use Rattle.eif.specs.Table.{in_table, join_from}
use Rattle.eif.specs.Layout.{packed_by}
use Rattle.eif.specs.Plan.{data_before, fixed_fields, table_bytes, header_bytes, section_header, plain_image}
use Rattle.eif.specs.Stream.{kept, keeps, stream_of}
use Rattle.eif.specs.Worked.{worked_place, plan_over}
use Rattle.sha384_block.specs.Fips.{ch, maj, big_sigma0, big_sigma1, small_sigma0, small_sigma1, round_constants, padding, initial_hash, next_word, extend, words_from, schedule, temp1, temp2, round, rounds, compress_by, hash_blocks, digest_of, sha384}
use Rattle.eif_registers.specs.Registers.{register_from, register_of, image_registers, no_registers, registers_answer, read_registers}

-- 21b9ef.., as other programs give it
pub empty_register : register_from (sha384 [])
    ≡ 0x21 ∷ 0xb9 ∷ 0xef ∷ 0xbc ∷ 0x18 ∷ 0x48 ∷ 0x07 ∷ 0x66 ∷ 0x2e ∷ 0x96 ∷ 0x6d ∷ 0x34 ∷ 0xf3 ∷ 0x90 ∷ 0x82 ∷ 0x13
    ∷ 0x09 ∷ 0xee ∷ 0xac ∷ 0x68 ∷ 0x02 ∷ 0x30 ∷ 0x97 ∷ 0x98 ∷ 0x82 ∷ 0x62 ∷ 0x96 ∷ 0xbf ∷ 0x3e ∷ 0x8b ∷ 0xec ∷ 0x7c
    ∷ 0x10 ∷ 0xed ∷ 0xb3 ∷ 0x09 ∷ 0x48 ∷ 0xc9 ∷ 0x0b ∷ 0xa6 ∷ 0x73 ∷ 0x10 ∷ 0xf7 ∷ 0xb9 ∷ 0x64 ∷ 0xfc ∷ 0x50 ∷ 0x0a ∷ []
unfolding register_from be_value field ch maj big_sigma0 big_sigma1 small_sigma0 small_sigma1 round_constants padding initial_hash next_word extend words_from schedule temp1 temp2 round rounds compress_by hash_blocks digest_of sha384
empty_register = refl

-- kernel 4b, command line 61 and the ramdisks 72 and 73: register 0 is over all, register 1 over all but the second ramdisk, which is register 2's
abbrev two_ramdisks : List ℕ
two_ramdisks =
    plain_image (plan_over 2 (worked_place kernel 1 ∷ worked_place command_line 1 ∷ worked_place ramdisk 1 ∷ worked_place ramdisk 1 ∷ []))
    (0x4b ∷ 0x61 ∷ 0x72 ∷ 0x73 ∷ [])

pub registers_of_streams :
    image_registers two_ramdisks
    ≡ map (λ (bytes : List ℕ). register_from (sha384 bytes)) ((0x4b ∷ 0x61 ∷ 0x72 ∷ 0x73 ∷ []) ∷ (0x4b ∷ 0x61 ∷ 0x72 ∷ []) ∷ (0x73 ∷ []) ∷ [])
unfolding image_registers register_of stream_of kept keeps field be_value plain_image header_bytes fixed_fields table_bytes packed_by join_from section_header data_before in_table
registers_of_streams = refl

pub refused_registers : registers_answer [] ≡ record { verdict = refuse 2 0; registers = replicate 3 (record { 0 = replicate 48 0 }) }
unfolding registers_answer no_registers verdict_in early judged header_fault field_fault position_in
refused_registers = refl

-- and so from a refused reading, whatever the bytes
pub refused_step : read_registers (0x4b ∷ []) (blank_reading (refuse 13 0)) ≡ replicate 3 (replicate 48 0)
unfolding read_registers no_registers
refused_step = refl
