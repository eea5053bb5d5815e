-- Both byte orders in one, so that code and laws on numbers stand once: what the two of `Bytes` are by an order.
-- Assumes nothing.
use Rattle.std.specs.Prelude.{ℕ, ◌-◌, List, length, take, drop}
use Rattle.octets.specs.Bytes.{be_value, le_value, be_bytes, le_bytes, field, le_field}
use Rattle.octets.specs.declared.ByteOrder.{ByteOrder}
use Rattle.octets.specs.declared.ByteOrder.TheVariants.{Big, Little}

-- the number of a byte string
abbrev pub value_of : ByteOrder → List ℕ → ℕ
value_of Big bs = be_value bs
value_of Little bs = le_value bs

-- the w low bytes of a number
abbrev pub bytes_of : ByteOrder → ℕ → ℕ → List ℕ
bytes_of Big w n = be_bytes w n
bytes_of Little w n = le_bytes w n

-- the number of the w bytes at a position
abbrev pub field_of : ByteOrder → ℕ → ℕ → List ℕ → ℕ
field_of Big w at s = field w at s
field_of Little w at s = le_field w at s

-- the weight of the byte at place k of a string of `count` bytes, as a power of 256; the byte of weight k is at the place of the same number
abbrev pub byte_weight : ByteOrder → ℕ → ℕ → ℕ
byte_weight Big count k = count - 1 - k
byte_weight Little count k = k

-- the number of the k bytes of a byte string that have the lowest weights
abbrev pub low_bytes : ByteOrder → List ℕ → ℕ → ℕ
low_bytes Big t k = be_value (drop (length t - k) t)
low_bytes Little t k = le_value (take k t)
