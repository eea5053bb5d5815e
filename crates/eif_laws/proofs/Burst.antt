-- What the checksum promises (PROMISES.md): damage within four neighbouring bytes is always seen, and so is damage to the
-- checksum alone. Images are byte strings, and nothing else is assumed.
use Prim.Native.Nat.{ℕ, ◌+◌, ◌-◌, ◌≤◌, min}
use mathlib.Core.Path.{◌≡◌, sym, ap, ap₂, ◌∙◌}
use mathlib.Core.List.{List, ◌++◌}
use native.Mathlib.Omega.{arith}
use lib.ListN.{length, take, drop, length-take, length-drop, length-append}
use lib.Seq.{take_at, drop_at}
use Rattle.octets.specs.Bytes.{AreBytes, be_value, be_bytes, field}
use Rattle.octets.proofs.Value.{bytes_append, bytes_take, bytes_drop, be_bytes_be_value, field_length, bytes_part}
use Rattle.octets.proofs.Over.{in_three}
use Rattle.crc32.specs.Crc.{crc32}
use Rattle.crc32.proofs.Burst.{burst}
use Rattle.eif.specs.Layout.{header_size, checksum_at, checksum_end}
use Rattle.eif.specs.Reading.{checked_bytes, checksum_of, verdict_of}
use Rattle.eif.specs.Acceptance.{MeetsRules}
use Rattle.eif.specs.Burst.{SameBut, DifferWithin}
use Rattle.eif.specs.declared.Verdict.TheVariants.{Accepted}
use Rattle.eif_laws.proofs.Acceptance.{accepted_exactly_when}

-- ---- byte strings

-- of one length and one checksum, different at most within four bytes
module _ (at : ℕ) (a b : List ℕ) (wa : AreBytes a) (wb : AreBytes b) (n : length a ≡ length b) where
  same_bytes_holds : SameBut 4 at a b → crc32 a ≡ crc32 b → a ≡ b
  same_bytes_holds h e =
      let p : List ℕ = take at a in
      let x : List ℕ = take 4 (drop at a) in
      let y : List ℕ = take 4 (drop at b) in
      let q : List ℕ = drop (at + 4) a in
      let ea : p ++ (x ++ q) ≡ a = in_three a at 4 in
      let eb : p ++ (y ++ q) ≡ b = ap₂ (λ (u v : List ℕ). u ++ (y ++ v)) h.0 h.1 ∙ in_three b at 4 in
      let l : length x ≡ length y = simp (length-take, length-drop) (ap (λ (m : ℕ). min 4 (m - at)) n) in
      let k : length x ≤ 4 = simp length-take (omega arith) in
      let z : x ≡ y =
      burst p x y q (bytes_take at a wa) (bytes_part 4 at a wa) (bytes_part 4 at b wb) (bytes_drop (at + 4) a wa) l k
      (ap crc32 ea ∙ e ∙ sym (ap crc32 eb)) in
      sym ea ∙ ap (λ (u : List ℕ). p ++ (u ++ q)) z ∙ eb

-- ---- accepted images

abbrev field_bytes : List ℕ → List ℕ
field_bytes s = take 4 (drop checksum_at s)

bytes_checked : (s : List ℕ) → AreBytes s → AreBytes (checked_bytes s)
bytes_checked s w = bytes_append (take checksum_at s) (drop checksum_end s) (bytes_take checksum_at s w) (bytes_drop checksum_end s w)

checked_length : (s : List ℕ) → length (checked_bytes s) ≡ min checksum_at (length s) + (length s - checksum_end)
checked_length s = simp (length-append, length-take, length-drop)

module _ (a b : List ℕ) (wa : AreBytes a) (wb : AreBytes b) (aa : verdict_of a ≡ Accepted) (ab : verdict_of b ≡ Accepted) where
  ma : MeetsRules a
  ma = (accepted_exactly_when a).0 aa

  mb : MeetsRules b
  mb = (accepted_exactly_when b).0 ab

  same_file : checked_bytes a ≡ checked_bytes b → field_bytes a ≡ field_bytes b → a ≡ b
  same_file c f =
      let ha : header_size ≤ length a = ma.not_too_short in
      let hb : header_size ≤ length b = mb.not_too_short in
      let la : length (take checksum_at a) ≡ checksum_at = simp length-take (omega arith) in
      let lb : length (take checksum_at b) ≡ checksum_at = simp length-take (omega arith) in
      let t : take checksum_at a ≡ take checksum_at b =
      sym (take_at (take checksum_at a) (drop checksum_end a) checksum_at la) ∙ ap (take checksum_at) c ∙ take_at (take checksum_at b) (drop checksum_end b) checksum_at lb in
      let r : drop checksum_end a ≡ drop checksum_end b =
      sym (drop_at (take checksum_at a) (drop checksum_end a) checksum_at la) ∙ ap (drop checksum_at) c ∙ drop_at (take checksum_at b) (drop checksum_end b) checksum_at lb in
      sym (in_three a checksum_at 4)
      ∙ ap₂ (λ (u v : List ℕ). u ++ (field_bytes a ++ v)) t r
      ∙ ap (λ (u : List ℕ). take checksum_at b ++ (u ++ drop checksum_end b)) f
      ∙ in_three b checksum_at 4

  -- damage within four neighbouring bytes of those that are checked, 543 and 548 being neighbours, is seen
  pub burst_seen : length a ≡ length b → take 4 (drop checksum_at a) ≡ take 4 (drop checksum_at b) → DifferWithin 4 (checked_bytes a) (checked_bytes b) → a ≡ b
  unfolding field checksum_of
  burst_seen n f d =
      let e : crc32 (checked_bytes a) ≡ crc32 (checked_bytes b) = sym ma.right_checksum ∙ ap be_value f ∙ mb.right_checksum in
      let l : length (checked_bytes a) ≡ length (checked_bytes b) =
      checked_length a ∙ ap (λ (m : ℕ). min checksum_at m + (m - checksum_end)) n ∙ sym (checked_length b) in
      same_file (same_bytes_holds d.0 (checked_bytes a) (checked_bytes b) (bytes_checked a wa) (bytes_checked b wb) l d.1 e) f

  -- damage to the four bytes of the checksum alone is seen
  pub checksum_seen : SameBut 4 checksum_at a b → a ≡ b
  unfolding field checksum_of
  checksum_seen h =
      let c : checked_bytes a ≡ checked_bytes b = ap₂ (λ (u v : List ℕ). u ++ v) h.0 h.1 in
      let ha : header_size ≤ length a = ma.not_too_short in
      let hb : header_size ≤ length b = mb.not_too_short in
      let fa = field_bytes a in
      let fb = field_bytes b in
      let l : length fa ≡ length fb = field_length 4 checksum_at a (omega arith) ∙ sym (field_length 4 checksum_at b (omega arith)) in
      let e : be_value fa ≡ be_value fb = ma.right_checksum ∙ ap crc32 c ∙ sym mb.right_checksum in
      same_file c
      (sym (be_bytes_be_value fa (bytes_part 4 checksum_at a wa)) ∙ ap₂ be_bytes l e
      ∙ be_bytes_be_value fb (bytes_part 4 checksum_at b wb))
