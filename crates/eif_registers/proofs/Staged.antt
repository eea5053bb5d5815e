-- The registers of a staged view, by the step over its sections; those from the base's own view are those of the image written afresh.
use Prim.Native.Nat.{ℕ, ◌≤◌}
use mathlib.Core.Path.{◌≡◌, refl, sym, ap, ◌∙◌}
use mathlib.Core.List.{List, [], map}
use native.Mathlib.Omega.{arith}
use lib.ListN.{length}
use Rattle.eif.specs.Answers.{beside}
use Rattle.eif.specs.Numbers.{size_limit}
use Rattle.eif.specs.Reading.{data_of}
use Rattle.eif.specs.declared.Refusal.{Refusal}
use Rattle.eif.specs.declared.Section.{Section}
use Rattle.eif.specs.declared.Verdict.{Verdict}
use Rattle.eif.specs.declared.Verdict.TheVariants.{Accepted, Refused}
use Rattle.plain_laws.proofs.ReadBack.{long}
use Rattle.staged.specs.Staged.{afresh, staged_verdict}
use Rattle.staged.specs.View.{held_by, staged_view}
use Rattle.staged.specs.declared.Staged.{Staged}
use Rattle.staged.proofs.Accept.{Stages, staged→}
use Rattle.staged.proofs.Afresh.{parts_joined, changed_plan, afresh_is, changed_planned}
use Rattle.staged.proofs.Held.{held_alone, within, staged_list, stream_is}
use Rattle.staged_view.proofs.View.{view_verdict_holds, view_sections}
use Rattle.eif_registers.specs.Registers.{image_registers, no_registers, as_digest, staged_registers, step_registers, view_registers}
use Rattle.eif_registers.proofs.Answers.{registers_are}

-- with nothing replaced the step is that over the image
pub step_alone : (s : List ℕ) (l : List Section) → step_registers (held_by s []) l ≡ step_registers (data_of s) l
step_alone s l = ap (λ (held : Section → List ℕ). step_registers held l) (λ t x. held_alone s x t)

-- any view
module _ (s r : List ℕ) (x : Staged) where
  pub view_refused : (f : Refusal) → x.verdict ≡ Refused f → no_registers ≡ view_registers s r x
  unfolding view_registers
  view_refused f e = simp e

  pub view_accepted : x.verdict ≡ Accepted → step_registers (held_by s r) x.sections ≡ view_registers s r x
  unfolding view_registers
  view_accepted e = simp e

module _ (s r : List ℕ) (k : ℕ) where
  module _ (a : Stages s (length r) k k) where
    fresh_small : length (afresh s r k) ≤ size_limit
    fresh_small =
        let w = within s r k k a in
        let e = ap length (afresh_is s r k a.accepted) in
        let n = long (changed_plan s r k a.accepted (length r)) (parts_joined s r k a.accepted) (changed_planned s r k a.accepted a.replaced w) in
        omega arith

    staged_registers_holds : step_registers (held_by s r) (staged_list s r k k a) ≡ image_registers (afresh s r k)
    staged_registers_holds = registers_are (held_by s r) (staged_list s r k k a) (afresh s r k) fresh_small (stream_is s r k k a)

  -- the base's own view
  module _ (x : Staged) (is : x ≡ staged_view s (length r) k k) where
    pub verdict_is : x.verdict ≡ staged_verdict s (length r) k k
    verdict_is = view_verdict_holds s (length r) k k x is

    pub view_is : x.verdict ≡ Accepted → view_registers s r x ≡ image_registers (afresh s r k)
    view_is told =
        sym (view_accepted s r x told)
        ∙ ap (step_registers (held_by s r)) (view_sections s (length r) k k x is told)
        ∙ staged_registers_holds (staged→ s (length r) k k (sym verdict_is ∙ told))

    view_by : (v : Verdict) → x.verdict ≡ v → view_registers s r x ≡ beside v (image_registers (afresh s r k)) no_registers
    view_by (Refused f) e = sym (view_refused s r x f e)
    view_by Accepted e = view_is e

  -- the step over the base's view gives the registers that the answer for base and replacement has, zeros where it is refused
  pub step_view_agrees : map as_digest (view_registers s r (staged_view s (length r) k k)) ≡ (staged_registers s r k).registers
  unfolding staged_registers
  step_view_agrees =
      let view : Staged = staged_view s (length r) k k in
      ap (map as_digest) (view_by view refl (staged_verdict s (length r) k k) (verdict_is view refl))
