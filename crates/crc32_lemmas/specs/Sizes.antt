-- Sizes of the buffers that the functions of `crc32_fold` share; its src/lib.rt says what each is for.
-- Assumes nothing.
use Rattle.std.specs.Prelude.{ℕ, ◌+◌, ◌-◌, ◌*◌}
use Rattle.crc32_lemmas.specs.Fold.{window_size, ring_size, low_ring_power, high_ring_power}

-- five words of 64 bits, in bytes
abbrev pub carry_size : ℕ
carry_size = 5 * 8

-- and with a word before them, which can then be folded
abbrev pub word_and_carry : ℕ
word_and_carry = 8 + carry_size

-- how many bytes are folded before the window is moved back, and a buffer for both
abbrev pub round_size : ℕ
round_size = 1024

abbrev pub buffer_size : ℕ
buffer_size = window_size + round_size

-- what is left of it after the four bytes of a state
abbrev pub buffer_rest : ℕ
buffer_rest = buffer_size - 4

-- the place of the window's last byte
abbrev pub window_last : ℕ
window_last = window_size - 1

-- the window in whole words of 64 bits, and how far what is added to them reaches
abbrev pub emptied_size : ℕ
emptied_size = 304

abbrev pub cleared_size : ℕ
cleared_size = 468

-- a ring's buffer in words, and its words in bytes
abbrev pub ring_buffer : ℕ
ring_buffer = ring_size + 1

abbrev pub ring_bytes : ℕ
ring_bytes = 4 * ring_size

-- the place of the ring's last word
abbrev pub ring_last : ℕ
ring_last = ring_size - 1

-- how far before a word the two others stand that are added to it, where they are a round behind
abbrev pub low_back : ℕ
low_back = ring_size - low_ring_power

abbrev pub high_back : ℕ
high_back = ring_size - high_ring_power
