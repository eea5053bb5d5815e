-- Computed spans, with numbers written out: of the worked example of FORMAT.md (one byte of kernel at 560, one byte of command line at 573, an
-- empty ramdisk), and of the same example with tables that are refused.
use Rattle.std.specs.Prelude.{ℕ, ◌≡◌, refl, List, [], ◌∷◌, map, take, replicate}
use Rattle.octets.specs.Bytes.{field, be_value}
use Rattle.octets.specs.Over.{over}
use Rattle.eif.specs.Worked.{worked_image}
use Rattle.arriving.specs.declared.Arriving.{Arriving}
use Rattle.arriving_sections.specs.Span.{span_from, span_of}
use Rattle.arriving_sections.specs.declared.Span.{Span}

-- a state with a header, in which `taken` bytes were taken
abbrev taken_with : List ℕ → ℕ → Arriving
taken_with header taken = record { taken = taken; header = header; headers = replicate 384 0; checksum = 0; ended = 0 }

abbrev span_with : ℕ → ℕ → ℕ → Span
span_with place size begun = record { place = place; length = size; begun = begun }

-- spans of the next 1000 bytes
pub worked_spans :
    map (λ (taken : ℕ). span_of (taken_with (take 548 worked_image) taken) 1000) (0 ∷ 547 ∷ 548 ∷ 559 ∷ 560 ∷ 561 ∷ 573 ∷ 574 ∷ 586 ∷ [])
    ≡ span_with 32 548 0 ∷ span_with 32 1 0 ∷ span_with 32 12 0 ∷ span_with 32 1 0 ∷ span_with 0 1 1 ∷ span_with 32 12 1 ∷ span_with 1 1 2 ∷ span_with 32 12 2
    ∷ span_with 32 1000 3 ∷ []
unfolding span_of span_from field be_value
worked_spans = refl

-- one table has the largest size of eight bytes for the kernel, the other an offset of the command line that is too small by one: that section
-- and later ones have no data
abbrev pub hostile_headers : List (List ℕ)
hostile_headers = over (take 548 worked_image) 284 (replicate 8 255) ∷ over (take 548 worked_image) 43 (0x30 ∷ []) ∷ []

pub hostile_spans :
    map (λ (header : List ℕ). map (λ (taken : ℕ). span_of (taken_with header taken) 100) (560 ∷ 573 ∷ [])) hostile_headers
    ≡ (span_with 32 100 0 ∷ span_with 32 100 0 ∷ []) ∷ (span_with 0 1 1 ∷ span_with 32 100 1 ∷ []) ∷ []
unfolding over span_of span_from field be_value
hostile_spans = refl
