-- The registers of an image by the step over sections with its streams, as its own reading has them; and the answers.
-- Assumes nothing.
use Prim.Native.Nat.{ℕ, ◌≤◌}
use mathlib.Core.Path.{◌≡◌, refl, sym, ap, ◌∙◌}
use mathlib.Core.List.{List, [], ◌∷◌, map}
use native.Mathlib.Omega.{arith}
use lib.ListN.{length, get_or}
use Rattle.octets.specs.Lists.{joined_by}
use Rattle.eif.specs.Numbers.{size_limit, place_count}
use Rattle.eif.specs.Answers.{beside}
use Rattle.eif.specs.Layout.{count_of, view_of}
use Rattle.eif.specs.Reading.{verdict_of, sections_of, section_at, blank_section, data_of, read_image, reading_of}
use Rattle.eif.specs.Stream.{stream_sections, stream_of}
use Rattle.eif.specs.declared.Reading.{Reading}
use Rattle.eif.specs.declared.Refusal.{Refusal}
use Rattle.eif.specs.declared.Section.{Section}
use Rattle.eif.specs.declared.Stream.{Stream}
use Rattle.eif.specs.declared.Verdict.{Verdict}
use Rattle.eif.specs.declared.Verdict.TheVariants.{Accepted, Refused}
use Rattle.eif.specs.Order.{first_that_applies, image_rules}
use Rattle.eif_laws.proofs.FirstApplies.{read_first}
use Rattle.eif_lemmas.proofs.Table.{length_filled}
use Rattle.eif_lemmas.proofs.Accept.{passes}
use Rattle.eif_lemmas.proofs.Reading.{reading_accepted, verdict_is}
use Rattle.sha384_block.specs.Fips.{sha384}
use Rattle.eif_registers.specs.Registers.{register_from, register_of, measured_streams, image_registers, no_registers, as_digest, registers_for, registers_beside, registers_answer, step_register, step_registers, read_registers}
use Rattle.eif_registers.specs.declared.Measurement.{Measurement}
use Rattle.eif_registers.proofs.Hashed.{digest_joined}
use Rattle.stream_reader.proofs.Answers.{stream_bound}

-- of sections whose streams are those of an image within the limit
module _ (held : Section → List ℕ) (l : List Section) (t : List ℕ) (small : length t ≤ size_limit)
    (same : (stream : Stream) → joined_by held (stream_sections stream l) ≡ stream_of t stream) where
  register_is : (stream : Stream) → step_register held l stream ≡ register_of t stream
  unfolding step_register register_of stream_of
  register_is stream =
      let h = stream_bound t stream (sections_of t) small (length_filled (section_at t) blank_section place_count (count_of t)) in
      let n = ap length (same stream) in
      ap register_from (digest_joined held (stream_sections stream l) (omega arith) ∙ ap sha384 (same stream))

  pub registers_are : step_registers held l ≡ image_registers t
  unfolding step_registers image_registers
  registers_are = λ u. map (λ stream. register_is stream u) measured_streams

-- the step over a reading that is refused, and over any other
module _ (s : List ℕ) (x : Reading) where
  pub read_refused : (r : Refusal) → x.verdict ≡ Refused r → no_registers ≡ read_registers s x
  unfolding read_registers
  read_refused r e = simp e

  pub read_accepted : x.verdict ≡ Accepted → step_registers (data_of s) x.sections ≡ read_registers s x
  unfolding read_registers
  read_accepted e = simp e

module _ (s : List ℕ) where
  -- the step over the image's own reading
  pub step_is : verdict_of s ≡ Accepted → (r : Reading) → r ≡ read_image s → read_registers s r ≡ image_registers s
  unfolding stream_of
  step_is ok r is =
      let e : r ≡ reading_of (view_of s) Accepted = is ∙ reading_accepted s ok in
      sym (read_accepted s r (ap (λ (x : Reading). x.verdict) e))
      ∙ ap (λ (x : Reading). step_registers (data_of s) x.sections) e
      ∙ registers_are (data_of s) (sections_of s) s (passes s ok).head.small (λ stream. refl)

  agrees_by : (v : Verdict) → verdict_of s ≡ v → read_registers s (read_image s) ≡ beside (verdict_of s) (image_registers s) no_registers
  agrees_by (Refused r) e =
      let z : no_registers ≡ beside (verdict_of s) (image_registers s) no_registers = rw e refl in
      sym (read_refused s (read_image s) r (verdict_is s (read_image s) refl ∙ e)) ∙ z
  agrees_by Accepted e =
      let z : image_registers s ≡ beside (verdict_of s) (image_registers s) no_registers = rw e refl in
      step_is e (read_image s) refl ∙ z

  -- the step over an image's own reading gives the registers that the image's answer has, zeros where it is refused
  pub step_agrees : map as_digest (read_registers s (read_image s)) ≡ (registers_answer s).registers
  unfolding registers_answer
  step_agrees = ap (map as_digest) (agrees_by (verdict_of s) refl)

  -- the order: the image's own rules
  pub registers_first : (registers_answer s).verdict ≡ first_that_applies (image_rules s)
  unfolding registers_answer
  registers_first = read_first s

-- the answers, whatever the verdict is of
module _ (v : Verdict) (s : List ℕ) where
  pub beside_refused : (r : Refusal) → v ≡ Refused r → registers_for (Refused r) no_registers ≡ registers_beside v s
  beside_refused r e = simp e

  pub beside_accepted : v ≡ Accepted → registers_for Accepted (image_registers s) ≡ registers_beside v s
  beside_accepted e = simp e

-- an answer with three registers of a list
abbrev pub three : List (List ℕ) → Measurement
three l = registers_for Accepted (get_or l 0 [] ∷ get_or l 1 [] ∷ get_or l 2 [] ∷ [])

-- three, one by one
pub one_by_one : {A : Type 0} {x y z x₁ y₁ z₁ : A} → x ≡ x₁ → y ≡ y₁ → z ≡ z₁ → ◌≡◌ {A = List A} (x ∷ y ∷ z ∷ []) (x₁ ∷ y₁ ∷ z₁ ∷ [])
one_by_one p q r = cc
