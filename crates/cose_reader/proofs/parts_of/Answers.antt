use native.Mathlib.Omega.{arith}
use Rattle.cose_lemmas.proofs.Same.{claim_is, start_is}
use Rattle.cose_reader.proofs.parts_of.Goals as goal
use Rattle.cose_reader.proofs.parts_of.Goals.{After-algorithm_of-algorithm, After-index_start-from, After-number_at-index, After-number_end-next, After-values-found}

-- `cose_reader::parts_of` meets its contract: each part starts where the one before it ends. Assumes nothing.
pub returns : goal.returns
returns c = let v = (goal.at.returns c).After-values-found in
    let e = (goal.at.After-values-found v).After-number_end-next in
    let n = (goal.at.After-number_end-next e).After-number_at-index in
    let f = (goal.at.After-number_at-index n).After-index_start-from in
    let a = (goal.at.After-index_start-from f).After-algorithm_of-algorithm in
    let s = a.args.s.now in
    let p = f.index_start-from.ensures.value in
    let q = e.number_end-next.ensures.value in
    let r = v.values-found.ensures in
    record { claim_value = claim_is s p q a.algorithm_of-algorithm.ensures n.number_at-index.ensures r.value_value; start_value = start_is s p q r.end_value; start_bound = omega arith }
