-- A record that is written to a buffer of its size fills it.
use Prim.Native.Nat.{ℕ, ◌-◌}
use mathlib.Core.Path.{◌≡◌, refl, ap, ◌∙◌}
use mathlib.Core.List.{List, ◌++◌, append-nil}
use native.Mathlib.Omega.{arith}
use lib.ListN.{length, replicate}
use Rattle.octets.specs.Over.{over}
use Rattle.octets.specs.Bytes.{le_bytes}
use Rattle.octets.proofs.Over.{over_row, over_joined}
use Rattle.eif.specs.Roll.{record_head_size, record_length_at, record_type_at, flags_length, flags_type, flags_record_size, head_of, flags_record}
use Rattle.eif_lemmas.proofs.Head.{length_head}
use Rattle.eif_lemmas.proofs.Flags.{length_flags}

over_whole : (n : ℕ) (x : List ℕ) → length x ≡ n → over (replicate n 0) 0 x ≡ x
over_whole n x e =
    let z : n - length x ≡ 0 = omega arith in
    over_row n 0 x (omega arith) ∙ ap (λ (k : ℕ). x ++ replicate {A = ℕ} k 0) z ∙ append-nil x

pub whole_head : (size kind : ℕ) {b c : List ℕ} → b ≡ over (replicate record_head_size 0) record_length_at (le_bytes 8 size) → c ≡ over b record_type_at (le_bytes 2 kind) → c ≡ head_of size kind
unfolding head_of
whole_head size kind e f =
    over_joined (replicate record_head_size 0) record_length_at (le_bytes 8 size) (le_bytes 2 kind) {m = record_type_at} e f refl ∙ over_whole record_head_size (head_of size kind) (length_head size kind)

pub whole_flags : (flags : ℕ) {b c d : List ℕ} → b ≡ over (replicate flags_record_size 0) record_length_at (le_bytes 8 flags_length) → c ≡ over b record_type_at (le_bytes 2 flags_type)
    → d ≡ over c record_head_size (le_bytes flags_length flags) → d ≡ flags_record flags
unfolding head_of flags_record
whole_flags flags e f g =
    over_joined (replicate flags_record_size 0) 0 (head_of flags_length flags_type) (le_bytes flags_length flags) {m = record_head_size}
    (over_joined (replicate flags_record_size 0) record_length_at (le_bytes 8 flags_length) (le_bytes 2 flags_type) {m = record_type_at} e f refl) g refl
    ∙ over_whole flags_record_size (flags_record flags) (length_flags flags)
