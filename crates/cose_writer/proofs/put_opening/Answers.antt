use mathlib.Core.Path.{sym, ap, ◌∙◌}
use native.Mathlib.Omega.{arith}
use lib.ListN.{length}
use Rattle.octets.specs.Over.{over}
use Rattle.cose_lemmas.proofs.Parts.{opening_first, opening_second, opening_third}
use Rattle.cose_writer.proofs.put_opening.Goals as goal
use Rattle.cose_writer.proofs.put_opening.Goals.{After-copy, After-copy-2, After-copy-then-algorithm-eq-ES384}

-- `cose_writer::put_opening` meets its contract: one of three. Assumes nothing.
pub returns-then-algorithm-eq-ES256 : goal.returns-then-algorithm-eq-ES256
returns-then-algorithm-eq-ES256 c = let z = (goal.at.returns-then-algorithm-eq-ES256 c).After-copy in
    let a = z.args in
    let e = opening_first a.algorithm (omega arith) in
    record { value = sym (ap length e); upper_bound = omega arith; out_after = z.copy.ensures ∙ ap (over a.out.now 0) (sym e) }

pub returns-then-algorithm-eq-ES384 : goal.returns-then-algorithm-eq-ES384
returns-then-algorithm-eq-ES384 c = let z = (goal.at.returns-then-algorithm-eq-ES384 c).After-copy-then-algorithm-eq-ES384 in
    let a = z.args in
    let e = opening_second a.algorithm (omega arith) in
    record { value = sym (ap length e); upper_bound = omega arith; out_after = z.copy-then-algorithm-eq-ES384.ensures ∙ ap (over a.out.now 0) (sym e) }

pub returns : goal.returns
returns c = let z = (goal.at.returns c).After-copy-2 in
    let a = z.args in
    let e = opening_third a.algorithm (omega arith) (λ q. omega arith) (λ q. omega arith) in
    record { value = sym (ap length e); upper_bound = omega arith; out_after = z.copy-2.ensures ∙ ap (over a.out.now 0) (sym e) }
