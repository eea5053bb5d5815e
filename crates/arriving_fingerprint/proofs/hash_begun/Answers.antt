use mathlib.Core.Path.{sym, ap, ap₂, ◌∙◌}
use native.Mathlib.Omega.{arith}
use Prim.Native.Nat.{ℕ}
use Rattle.eif.specs.Rules.{boot_type}
use Rattle.eif.specs.Roll.{head_of}
use Rattle.sha384.specs.State.{more_hashed}
use Rattle.arriving_fingerprint.proofs.Steps.{begun_past, begun_boot, begun_other}
use Rattle.arriving_fingerprint.proofs.hash_begun.Goals as goal
use Rattle.arriving_fingerprint.proofs.hash_begun.Goals.{After-is_boot, After-kind_at-kind}

-- `arriving_fingerprint::hash_begun` meets its contract, by the section's type.
pub returns-then-i : goal.returns-then-i
returns-then-i c = let a = c.args in
    sym (begun_past a.roll a.header.now a.headers.now a.i (omega arith))

pub returns-then-is_boot : goal.returns-then-is_boot
returns-then-is_boot c = let b = (goal.at.returns-then-is_boot c).After-is_boot in
    let k = (goal.at.After-is_boot b).After-kind_at-kind in
    let a = k.args in
    let t = ap boot_type (sym k.kind_at-kind.ensures) ∙ sym b.is_boot.ensures ∙ c.if-is_boot.true in
    c.hash_head.ensures ∙ ap₂ (λ (n j : ℕ). more_hashed a.roll (head_of n j)) c.size_at.ensures k.kind_at-kind.ensures
    ∙ sym (begun_boot a.roll a.header.now a.headers.now a.i (omega arith) t)

pub returns : goal.returns
returns c = let b = (goal.at.returns c).After-is_boot in
    let k = (goal.at.After-is_boot b).After-kind_at-kind in
    let a = k.args in
    let t = ap boot_type (sym k.kind_at-kind.ensures) ∙ sym b.is_boot.ensures ∙ c.if-is_boot.false in
    sym (begun_other a.roll a.header.now a.headers.now a.i (omega arith) t)
