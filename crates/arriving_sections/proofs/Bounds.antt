-- A span has at most the bytes asked for, and at least one if any are asked for. This holds for any state.
use Prim.Native.Nat.{ℕ, zero, suc, ◌+◌, ◌-◌, ◌<◌, ◌≤◌, min}
use mathlib.Core.List.{List}
use native.Mathlib.Omega.{arith}
use mathlib.Core.Bool.{not}
use lib.Dec.{ltb, eqb}
use borrow.Author.Tests.{ltb-true}
use Rattle.octets.proofs.Logic.{choose_holds}
use Rattle.eif.specs.Numbers.{size_limit}
use Rattle.eif.specs.Layout.{header_size, section_header_size, offset_at, size_at}
use Rattle.arriving.specs.declared.Arriving.{Arriving}
use Rattle.arriving_sections.specs.Span.{none_for, data_for, used_places, span_from, span_of}
use Rattle.arriving_sections.specs.declared.Span.{Span}

-- a span of at most n bytes, and of at least one if n is not 0
record Bounded (n : ℕ) (r : Span) : Type 0 where
  some : 0 < n → 0 < r.length
  few : r.length ≤ n

all_of : (i n : ℕ) → Bounded n (none_for i n)
all_of i n = record { some = λ h. h; few = omega arith }

-- the bytes up to a position past those taken
up_to : (i n taken to : ℕ) → taken < to → Bounded n (data_for i (min n (to - taken)))
up_to i n taken to l = record { some = λ h. omega arith; few = omega arith }

none_to : (i n taken to : ℕ) → taken < to → Bounded n (none_for i (min n (to - taken)))
none_to i n taken to l = record { some = λ h. omega arith; few = omega arith }

bounded_from : (header : List ℕ) (m i begin taken n : ℕ) → Bounded n (span_from header m i begin taken n)
unfolding span_from
bounded_from header zero i begin taken n = all_of i n
bounded_from header (suc m) i begin taken n =
    let start = begin + section_header_size in
    let end = start + size_at header i in
    choose_holds (Bounded n) (not (eqb (offset_at header i) begin)) _ _ (λ _. all_of i n)
    (λ _. choose_holds (Bounded n) (ltb size_limit end) _ _ (λ _. all_of i n)
    (λ _. choose_holds (Bounded n) _ _ _ (λ e. none_to i n taken start (ltb-true taken start e))
    (λ _. choose_holds (Bounded n) _ _ _ (λ e. up_to i n taken end (ltb-true taken end e))
    (λ _. bounded_from header m (suc i) end taken n))))

bounded : (a : Arriving) (n : ℕ) → Bounded n (span_of a n)
unfolding span_of
bounded a n =
    choose_holds (Bounded n) _ _ _ (λ e. none_to 0 n a.taken header_size (ltb-true a.taken header_size e))
    (λ _. bounded_from a.header (used_places a.header) 0 header_size a.taken n)

pub span_some : (a : Arriving) (n : ℕ) → 0 < n → 0 < (span_of a n).length
span_some a n = (bounded a n).some

pub span_few : (a : Arriving) (n : ℕ) → (span_of a n).length ≤ n
span_few a n = (bounded a n).few
