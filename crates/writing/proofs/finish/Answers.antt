use Prim.Native.Nat.{ℕ, ◌-◌}
use mathlib.Core.Path.{ap, ◌∙◌}
use native.Mathlib.Omega.{arith}
use Rattle.crc32.specs.Crc.{crc_from, ones32}
use lib.Bits.{bit_xor}
use Rattle.eif.specs.declared.Verdict.{Verdict}
use Rattle.eif.specs.declared.Verdict.TheVariants.{Accepted}
use Rattle.writing.specs.Writing.{own_headers, final_checksum}
use Rattle.writing.proofs.Steps.{summed_none, summed_missing, summed_whole}
use Rattle.writing.proofs.finish.Goals as goal
use Rattle.writing.proofs.finish.Goals.{After-refuse, After-remainder_after-remainder, After-sections}

-- `writing::finish` meets its contract: 15 where data is missing; otherwise the remainder goes on over the own headers that are left.
pub returns-then-state-eq0 : goal.returns-then-state-eq0
returns-then-state-eq0 c = let r = (goal.at.returns-then-state-eq0 c).After-refuse in
    ap (λ (v : Verdict). record { verdict = v; checksum = 0 }) r.refuse.ensures ∙ summed_none r.args.state (omega arith)

pub returns-then-state-ne0 : goal.returns-then-state-ne0
returns-then-state-ne0 c = let r = (goal.at.returns-then-state-ne0 c).After-refuse in
    ap (λ (v : Verdict). record { verdict = v; checksum = 0 }) r.refuse.ensures ∙ summed_missing r.args.state (λ e. omega arith) (λ e. omega arith)

pub returns : goal.returns
unfolding final_checksum
returns c = let r = (goal.at.returns c).After-remainder_after-remainder in
    let s = (goal.at.After-remainder_after-remainder r).After-sections in
    let a = s.args.state in
    let k = r.remainder_after-remainder.ensures ∙ ap (λ (n : ℕ). crc_from a.checksum (own_headers a.places (n - a.sections_begun) a.sections_begun)) s.sections.ensures in
    ap (λ (n : ℕ). record { verdict = Accepted; checksum = n }) (c.finish.ensures ∙ ap (bit_xor ones32) k) ∙ summed_whole a (λ e. omega arith) (omega arith)
