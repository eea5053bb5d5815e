-- No roll is the proper beginning of another: where the roll of some records, with any bytes after it, is the roll of others, the
-- records are the same.
-- Assumes nothing.
use Prim.Native.Nat.{ℕ, ◌^◌, ◌<◌}
use mathlib.Core.Path.{◌≡◌, refl, sym, ap, ap₂, ◌∙◌}
use mathlib.Core.List.{List, [], ◌∷◌, ◌++◌, append_assoc, append-nil}
use native.Mathlib.Omega.{arith}
use lib.ListN.{length, take, drop}
use lib.Seq.{take_at, drop_at}
use Rattle.octets.specs.Lists.{All}
use Rattle.octets.specs.Bytes.{le_field}
use Rattle.eif.specs.Roll.{Record, record_head_size, record_length_at, record_type_at, head_of, end_type, roll_of}
use Rattle.eif_lemmas.proofs.Head.{head_size, head_kind, head_past}

-- a record that a roll can hold: not of the end record's type, and of numbers that fit their fields
abbrev pub FitsHead : Record → Type 0
FitsHead r = (end_type < r.kind) × (r.kind < 2 ^ 16) × (length r.bytes < 2 ^ 64)

split_same {ℓ} : {A : Type ℓ} (x u y v : List A) → length x ≡ length u → x ++ y ≡ u ++ v → (x ≡ u) × (y ≡ v)
split_same x u y v n e = (
  sym (take_at x y (length x) refl) ∙ ap (take (length x)) e ∙ take_at u v (length x) (sym n),
  sym (drop_at x y (length x) refl) ∙ ap (drop (length x)) e ∙ drop_at u v (length x) (sym n),
)

record SameHead (m k n l : ℕ) (y v : List ℕ) : Type 0 where
  size : m ≡ n
  kind : k ≡ l
  rest : y ≡ v

head_same : (m k n l : ℕ) (y v : List ℕ) → m < 2 ^ 64 → n < 2 ^ 64 → k < 2 ^ 16 → l < 2 ^ 16
    → head_of m k ++ y ≡ head_of n l ++ v → SameHead m k n l y v
head_same m k n l y v hm hn hk hl e =
    record {
      size = sym (head_size m k y hm) ∙ ap (le_field 8 record_length_at) e ∙ head_size n l v hn;
      kind = sym (head_kind m k y hk) ∙ ap (le_field 2 record_type_at) e ∙ head_kind n l v hl;
      rest = sym (head_past m k y) ∙ ap (drop record_head_size) e ∙ head_past n l v;
    }

record_same : (r q : Record) → r.kind ≡ q.kind → r.bytes ≡ q.bytes → r ≡ q
record_same r q k b = λ i. record { kind = k i; bytes = b i }

pub prefix_same : (a b : List Record) (t : List ℕ) → All FitsHead a → All FitsHead b → roll_of a ++ t ≡ roll_of b → a ≡ b
unfolding All roll_of
prefix_same [] [] t fa fb e = refl
prefix_same [] (q ∷ qs) t fa fb e =
    let h = head_same 0 end_type (length q.bytes) q.kind t (q.bytes ++ roll_of qs) (omega arith) fb.0.2 (omega arith) fb.0.1 e in
    let k = h.kind in
    let p = fb.0.0 in
    absurd (omega arith)
prefix_same (r ∷ rs) [] t fa fb e =
    let h = head_same (length r.bytes) r.kind 0 end_type ((r.bytes ++ roll_of rs) ++ t) [] fa.0.2 (omega arith) fa.0.1 (omega arith)
    (sym (append_assoc (head_of (length r.bytes) r.kind) (r.bytes ++ roll_of rs) t) ∙ e ∙ sym (append-nil (head_of 0 end_type))) in
    let k = h.kind in
    let p = fa.0.0 in
    absurd (omega arith)
prefix_same (r ∷ rs) (q ∷ qs) t fa fb e =
    let h = head_same (length r.bytes) r.kind (length q.bytes) q.kind ((r.bytes ++ roll_of rs) ++ t) (q.bytes ++ roll_of qs) fa.0.2 fb.0.2 fa.0.1 fb.0.1
    (sym (append_assoc (head_of (length r.bytes) r.kind) (r.bytes ++ roll_of rs) t) ∙ e) in
    let d = split_same r.bytes q.bytes (roll_of rs ++ t) (roll_of qs) h.size (sym (append_assoc r.bytes (roll_of rs) t) ∙ h.rest) in
    ap₂ (λ (x : Record) (xs : List Record). x ∷ xs) (record_same r q h.kind d.0) (prefix_same rs qs t fa.1 fb.1 d.1)
