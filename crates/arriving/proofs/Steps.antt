-- The code's steps against the definitions: parts of a piece cut to what it has.
-- Assumes nothing.
use Prim.Native.Nat.{ℕ, suc, ◌+◌, ◌*◌, ◌-◌, ◌<◌, ◌≤◌, min}
use mathlib.Core.Path.{◌≡◌, refl, sym, ap, ap₂, ◌∙◌}
use mathlib.Core.List.{List}
use native.Mathlib.Omega.{arith}
use native.Mathlib.Numerals.{add-one}
use borrow.Author.Tests.{eq-eqb, ne_eqb}
use borrow.Author.Rules.{part_to_end}
use lib.ListN.{length, take, drop, length-drop, length-take, drop_of_length-le}
use lib.Seq.{take-nil, take-take}
use Rattle.octets.proofs.Lists.{take_min, drop_min}
use Rattle.octets.specs.Over.{over}
use Rattle.crc32.specs.Crc.{crc_from}
use Rattle.crc32.proofs.Linear.{crc_from_append}
use Rattle.eif.specs.Numbers.{place_count}
use Rattle.eif.specs.Layout.{section_header_size, checksum_at, checksum_end}
use Rattle.arriving.specs.State.{kept_from, checked_after, count_limit}
use Rattle.arriving.specs.Calls.{fed_with, kept_over, headers_over, grown, fed}
use Rattle.arriving.specs.declared.Arriving.{Arriving}

-- ---- the own header of one section

module _ (headers : List ℕ) (at from n : ℕ) (piece : List ℕ) where
  -- it is held whole
  pub head_held : section_header_size ≤ n - from → headers ≡ kept_over headers at from n piece
  unfolding kept_over over
  head_held h = let z : section_header_size - (n - from) ≡ 0 = omega arith in rw z refl

  -- it lies past the piece
  pub head_ahead : length piece ≤ from - n → headers ≡ kept_over headers at from n piece
  unfolding kept_over over
  head_ahead h = rw (drop_of_length-le piece {i = from - n} h, take-nil (section_header_size - (n - from))) refl

  pub head_kept : {now : List ℕ} {held skip size : ℕ} → held ≡ n - from → skip ≡ from - n → size ≡ min (section_header_size - held) (length piece - skip)
      → now ≡ over headers (at + held) (take size (drop skip piece)) → now ≡ kept_over headers at from n piece
  unfolding kept_over
  head_kept {now} {held} {skip} {size} a b c e =
      e
      ∙ ap (λ (k : ℕ). over headers (at + held) (take k (drop skip piece))) (c ∙ ap (λ (k : ℕ). min (section_header_size - held) k) (sym (length-drop skip piece)))
      ∙ ap (over headers (at + held)) (take_min (section_header_size - held) (drop skip piece))
      ∙ ap₂ (λ (k m : ℕ). over headers (at + k) (take (section_header_size - k) (drop m piece))) a b

-- ---- and of the next

pub headers_step : (header piece headers : List ℕ) (n i : ℕ) → i < place_count
    → headers_over header n piece (place_count - (i + 1)) (i + 1) (kept_over headers (section_header_size * i) (kept_from header i) n piece)
    ≡ headers_over header n piece (place_count - i) i headers
unfolding headers_over
headers_step header piece headers n i h =
    let m : place_count - i ≡ suc (place_count - (i + 1)) = omega arith in
    rw (m, add-one i) refl

-- ---- the checksum

pub sum_after : (c n : ℕ) (piece : List ℕ) → checksum_end ≤ n → crc_from c piece ≡ crc_from c (checked_after n piece)
sum_after c n piece h =
    let a : checksum_at - n ≡ 0 = omega arith in
    let b : checksum_end - n ≡ 0 = omega arith in
    rw (a, b) refl

pub sum_parts : (c n : ℕ) (piece : List ℕ) {end start : ℕ} → end ≡ min (checksum_at - n) (length piece) → start ≡ min (checksum_end - n) (length piece)
    → crc_from (crc_from c (take end piece)) (take (length piece - start) (drop start piece)) ≡ crc_from c (checked_after n piece)
sum_parts c n piece {end} {start} a b =
    ap₂ (λ (x y : List ℕ). crc_from (crc_from c x) y)
    (ap (λ (k : ℕ). take k piece) a ∙ take_min (checksum_at - n) piece)
    (part_to_end piece start ∙ ap (λ (k : ℕ). drop k piece) b ∙ drop_min (checksum_end - n) piece)
    ∙ sym (crc_from_append c (take (checksum_at - n) piece) (drop (checksum_end - n) piece))

-- ---- the state

pub grown_is : (a : Arriving) (piece : List ℕ) {header headers : List ℕ} {c : ℕ} → header ≡ over a.header a.taken piece
    → headers ≡ headers_over header a.taken piece place_count 0 a.headers → c ≡ crc_from a.checksum (checked_after a.taken piece)
    → ◌≡◌ {A = Arriving} (record { taken = a.taken + length piece; header = header; headers = headers; checksum = c; ended = a.ended }) (grown a piece)
unfolding grown
grown_is a piece x y z = cc

-- the part of a piece that is kept
pub kept_part : (room n : ℕ) (piece : List ℕ) → take (min room (min n (length piece))) piece ≡ take room (take n piece)
kept_part room n piece =
    ap (λ (m : ℕ). take (min room m) piece) (sym (length-take n piece)) ∙ cut
  where
    cut : take (min room (length (take n piece))) piece ≡ take room (take n piece)
    cut =
        let k : min room (length (take n piece)) ≤ n = rw (length-take n piece) (omega arith) in
        sym (take-take (min room (length (take n piece))) n piece k) ∙ take_min room (take n piece)

pub fed_open : (a : Arriving) (piece : List ℕ) (allowance : ℕ) → a.ended ≡ 0
    → fed a piece allowance ≡ fed_with (grown a (take (count_limit - a.taken) (take allowance piece))) (min allowance (length piece))
unfolding fed
fed_open a piece allowance e = simp (eq-eqb a.ended 0 e)

pub fed_ended : (a : Arriving) (piece : List ℕ) (allowance : ℕ) → (a.ended ≡ 0 → ⊥) → fed a piece allowance ≡ fed_with a 0
unfolding fed
fed_ended a piece allowance e = simp (ne_eqb a.ended 0 e)
