use mathlib.Core.Path.{sym, ap, ◌∙◌}
use native.Mathlib.Omega.{arith}
use Prim.Native.Nat.{ℕ}
use Rattle.eif.specs.Roll.{flags_record}
use Rattle.sha384.specs.State.{more_hashed}
use Rattle.arriving_fingerprint.proofs.Steps.{more_early, more_flags, more_data, more_begun, more_same}
use Rattle.arriving_fingerprint.proofs.hash_part.Goals as goal
use Rattle.arriving_fingerprint.proofs.hash_part.Goals.{After-be16}

-- `arriving_fingerprint::hash_part` meets its contract, by the part of the image that the bytes belong to.
pub returns-then-to : goal.returns-then-to
returns-then-to c = let a = c.args in
    sym (more_early a.roll a.header.now a.headers.now a.from a.to a.span a.begun a.bytes.now (omega arith) (omega arith))

pub returns-then-from : goal.returns-then-from
returns-then-from c = let b = (goal.at.returns-then-from c).After-be16 in
    let a = b.args in
    c.hash_flags.ensures ∙ ap (λ (n : ℕ). more_hashed a.roll (flags_record n)) b.be16.ensures
    ∙ sym (more_flags a.roll a.header.now a.headers.now a.from a.to a.span a.begun a.bytes.now (omega arith) (omega arith))

pub returns-then-span : goal.returns-then-span
returns-then-span c = let a = c.args in
    c.hash_data.ensures
    ∙ sym (more_data a.roll a.header.now a.headers.now a.from a.to a.span a.begun a.bytes.now (omega arith) (omega arith))

pub returns-then-span-begun : goal.returns-then-span-begun
returns-then-span-begun c = let a = c.args in
    c.hash_begun.ensures
    ∙ sym (more_begun a.roll a.header.now a.headers.now a.from a.to a.span a.begun a.bytes.now (omega arith) (omega arith) (omega arith))

pub returns : goal.returns
returns c = let a = c.args in
    sym (more_same a.roll a.header.now a.headers.now a.from a.to a.span a.begun a.bytes.now (omega arith) (omega arith) (omega arith))
