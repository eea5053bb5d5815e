-- The state of bytes, grown by a piece, is the state of the bytes with the piece after them.
-- Assumes nothing.
use Prim.Native.Nat.{ℕ, zero, suc, ◌+◌, ◌*◌, ◌-◌, ◌<◌, ◌≤◌}
use mathlib.Core.Path.{◌≡◌, refl, sym, ap, ap₂, ◌∙◌}
use mathlib.Core.List.{List, [], ◌++◌, append_assoc}
use mathlib.Core.Logic.{⊎_elim}
use native.Mathlib.Omega.{arith}
use lib.ListN.{length, take, drop, length-take, length-append, drop_of_length-le}
use Rattle.eif.specs.Table.{join_from}
use Rattle.octets.proofs.Lists.{take_both}
use Rattle.octets.specs.Over.{over}
use Rattle.octets.proofs.Logic.{le_or_lt}
use Rattle.crc32.specs.Crc.{crc_from, ones32}
use Rattle.crc32.proofs.Linear.{crc_from_append}
use Rattle.eif.specs.Numbers.{place_count}
use Rattle.eif.specs.Layout.{header_size, section_header_size}
use Rattle.arriving.specs.State.{padded, kept_from, header_in, headers_of, checked_after, kept_of, state_of, count_limit}
use Rattle.arriving.specs.Calls.{kept_over, headers_over, grown}
use Rattle.arriving.specs.declared.Arriving.{Arriving}
use Rattle.arriving_laws.proofs.Padded.{checked_both, length_padded, padded_more, over_padded, over_from, over_behind, over_within}
use Rattle.eif_lemmas.proofs.Table.{join_same}

-- ---- the sections' own headers, by one file header

module _ (header s t : List ℕ) where
  -- one among the others
  one_grows : (p r : List ℕ) (i : ℕ) → length p ≡ section_header_size * i
      → kept_over (p ++ (header_in header s i ++ r)) (section_header_size * i) (kept_from header i) (length s) t ≡ (p ++ header_in header (s ++ t) i) ++ r
  unfolding kept_over
  one_grows p r i e =
      let o = kept_from header i in
      let x = header_in header s i in
      let y = drop (o - length s) t in
      let k = length s - o in
      let n : length x ≡ section_header_size = length_padded section_header_size (drop o s) in
      ap (λ (m : ℕ). over (p ++ (x ++ r)) (m + k) (take (section_header_size - k) y)) (sym e)
      ∙ over_behind p (x ++ r) k (take (section_header_size - k) y)
      ∙ ap (λ (m : ℕ). p ++ over (x ++ r) k (take (m - k) y)) (sym n)
      ∙ ap (λ (l : List ℕ). p ++ l) (over_within x r k y ∙ ap (λ (l : List ℕ). l ++ r) (over_from section_header_size o s t))
      ∙ sym (append_assoc p (header_in header (s ++ t) i) r)

  headers_grow : (m i : ℕ) (p : List ℕ) → length p ≡ section_header_size * i
      → headers_over header (length s) t m i (p ++ join_from (header_in header s) m i) ≡ p ++ join_from (header_in header (s ++ t)) m i
  unfolding headers_over join_from
  headers_grow zero i p e = refl
  headers_grow (suc m) i p e =
      let q = p ++ header_in header (s ++ t) i in
      let n : length q ≡ section_header_size * suc i =
      rw (length-append p (header_in header (s ++ t) i), e, length_padded section_header_size (drop (kept_from header i) (s ++ t))) (omega arith) in
      ap (headers_over header (length s) t m (suc i)) (one_grows p (join_from (header_in header s) m (suc i)) i e)
      ∙ headers_grow m (suc i) q n
      ∙ append_assoc p (header_in header (s ++ t) i) (join_from (header_in header (s ++ t)) m (suc i))

-- ---- before the header is whole none has come, wherever its offset will point

early_same : (h g s : List ℕ) → length s < header_size → (i : ℕ) → header_in h s i ≡ header_in g s i
unfolding kept_from
early_same h g s l i =
    let a : drop (kept_from h i) s ≡ [] = drop_of_length-le s {i = kept_from h i} (omega arith) in
    let b : drop (kept_from g i) s ≡ [] = drop_of_length-le s {i = kept_from g i} (omega arith) in
    ap (padded section_header_size) (a ∙ sym b)

-- so the bytes of a header that come later move nothing that is kept
headers_stay : (s t : List ℕ) → headers_of (padded header_size s) s ≡ headers_of (padded header_size (s ++ t)) s
unfolding headers_of
headers_stay s t =
    ⊎_elim
    (λ (h : header_size ≤ length s). ap (λ (l : List ℕ). join_from (header_in l s) place_count 0) (sym (padded_more header_size s t h)))
    (λ (h : length s < header_size).
    join_same (header_in (padded header_size s) s) (header_in (padded header_size (s ++ t)) s) place_count 0 (λ j l. early_same (padded header_size s) (padded header_size (s ++ t)) s h j))
    (le_or_lt header_size (length s))

-- ---- the state

module _ (s t : List ℕ) where
  abbrev whole : List ℕ
  whole = padded header_size (s ++ t)

  headers_all : headers_over whole (length s) t place_count 0 (headers_of whole s) ≡ headers_of whole (s ++ t)
  unfolding headers_of
  headers_all = headers_grow whole s t place_count 0 [] (omega arith)

  headers_next : headers_over (over (padded header_size s) (length s) t) (length s) t place_count 0 (headers_of (padded header_size s) s) ≡ headers_of whole (s ++ t)
  headers_next =
      ap₂ (λ (h l : List ℕ). headers_over h (length s) t place_count 0 l) (over_padded header_size s t) (headers_stay s t) ∙ headers_all

  sum_next : crc_from (crc_from ones32 (checked_after 0 s)) (checked_after (length s) t) ≡ crc_from ones32 (checked_after 0 (s ++ t))
  sum_next =
      sym (ap (crc_from ones32) (checked_both s t) ∙ crc_from_append ones32 (checked_after 0 s) (checked_after (length s) t))

  kept_grows : grown (kept_of s) t ≡ kept_of (s ++ t)
  unfolding grown kept_of
  kept_grows = made (sym (length-append s t)) (over_padded header_size s t) headers_next sum_next
    where
      made : {n m c d : ℕ} {h g k l : List ℕ} → n ≡ m → h ≡ g → k ≡ l → c ≡ d
          → ◌≡◌ {A = Arriving} (record { taken = n; header = h; headers = k; checksum = c; ended = 0 }) (record { taken = m; header = g; headers = l; checksum = d; ended = 0 })
      made a b c d = cc

-- ---- and where the counter ends

pub taken_of_holds : (s : List ℕ) → (state_of s).taken ≡ length (take count_limit s)
unfolding state_of kept_of
taken_of_holds s = refl

pub open_of : (s : List ℕ) → (state_of s).ended ≡ 0
unfolding state_of kept_of
open_of s = refl

pub state_grows : (s t : List ℕ) → grown (state_of s) (take (count_limit - (state_of s).taken) t) ≡ state_of (s ++ t)
unfolding state_of
state_grows s t =
    let room : count_limit - (state_of s).taken ≡ count_limit - length s = rw (taken_of_holds s, length-take count_limit s) (omega arith) in
    ap (λ (n : ℕ). grown (state_of s) (take n t)) room
    ∙ kept_grows (take count_limit s) (take (count_limit - length s) t)
    ∙ ap kept_of (sym (take_both count_limit s t))
