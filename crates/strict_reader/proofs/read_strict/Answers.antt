use Prim.Native.Nat.{ℕ}
use mathlib.Core.Path.{◌≡◌, sym, subst, ◌∙◌}
use mathlib.Core.List.{List}
use Rattle.eif.specs.declared.Reading.{Reading}
use Rattle.strict_reader.specs.Strict.{read_strict, StrictlyRead}
use Rattle.strict_reader.proofs.Grammar.{strictly_read}
use Rattle.strict_reader.proofs.Steps.{strict_refused, count_small, strict_blank, strict_whole}
use Rattle.strict_reader.proofs.read_strict.Goals as goal

-- `strict_reader::read_strict` meets its contract: the reading where it refuses, or 21 and all zero, or the reading. Assumes nothing.
-- the second part of the contract, from the first
second : (s : List ℕ) (r : Reading) → r ≡ read_strict s → StrictlyRead s r
second s r e = subst (StrictlyRead s) (sym e) (strictly_read s)

pub returns-in_default : goal.returns-in_default
returns-in_default c = let s = c.args.image.now in
    let r = c.read-reading.result in
    let e : r ≡ read_strict s = strict_refused s r c.read-reading.ensures c.in_default.field-0 c.in_default.is in
    record { value = e; strictly_read = second s r e }

pub judge-strict-requires : goal.judge-strict-requires
judge-strict-requires c = count_small c.args.image.now c.read-reading.result c.read-reading.ensures c.in-Accepted.is

pub returns-in_default-strict : goal.returns-in_default-strict
returns-in_default-strict c = let s = c.args.image.now in
    let j = c.judge-strict in
    let t = c.in_default-strict in
    let e : c.refused.result ≡ read_strict s =
    c.refused.ensures ∙ strict_blank s c.read-reading.result c.read-reading.ensures c.in-Accepted.is j.result j.ensures t.field-0 t.is in
    record { value = e; strictly_read = second s c.refused.result e }

pub returns : goal.returns
returns c = let s = c.args.image.now in
    let r = c.read-reading.result in
    let j = c.judge-strict in
    let e : r ≡ read_strict s = strict_whole s r c.read-reading.ensures c.in-Accepted.is j.result j.ensures c.in-Accepted-strict.is in
    record { value = e; strictly_read = second s r e }
