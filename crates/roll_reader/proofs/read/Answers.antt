use Prim.Native.Nat.{ℕ, ◌≤◌}
use mathlib.Core.Path.{◌≡◌, sym, ap, ◌∙◌}
use mathlib.Core.List.{List}
use native.Mathlib.Omega.{arith}
use borrow.Author.Rules.{rules}
use lib.ListN.{length, length-take, length-drop}
use Rattle.eif.specs.Roll.{flags_record_size, flags_fault, refused_roll}
use Rattle.eif_lemmas.proofs.Flags.{flags_zero}
use Rattle.roll_reader.proofs.Flags.{read_flags_refused, read_on}
use Rattle.roll_reader.proofs.read.Goals as goal
use Rattle.roll_reader.proofs.read.Goals.{After-flags_fault-fault, After-le16-flags}

-- `roll_reader::read` meets its contract: the flags record's refusal, or what its flags and the rest answer.
-- Assumes nothing.
-- the flags record has no fault
module _ (c : After-le16-flags) where
  abbrev roll : List ℕ
  roll = c.args.roll.now

  clean : flags_fault roll ≡ 0
  clean = sym c.flags_fault-fault.ensures ∙ c.if-fault-ne0.false

  fits : flags_record_size ≤ length roll
  fits = (flags_zero roll clean).whole

pub returns-then-fault-ne0 : goal.returns-then-fault-ne0
returns-then-fault-ne0 c = let q = (goal.at.returns-then-fault-ne0 c).After-flags_fault-fault in
    c.refused.ensures ∙ ap refused_roll c.refuse.ensures
    ∙ read_flags_refused q.args.roll.now q.flags_fault-fault.result q.flags_fault-fault.ensures c.if-fault-ne0.true

pub slice_bounds-read_rest-count : goal.slice_bounds-read_rest-count
slice_bounds-read_rest-count c = fits c

pub slice_bounds-read_rest-start : goal.slice_bounds-read_rest-start
slice_bounds-read_rest-start c = let h = fits c in search rules

pub read_rest-requires : goal.read_rest-requires
read_rest-requires c = let h = fits (goal.at.read_rest-requires c).After-le16-flags in simp (length-take, length-drop) (omega arith)

pub returns : goal.returns
returns c = let q = (goal.at.returns c).After-le16-flags in c.read_rest.ensures ∙ read_on (roll q) (clean q) q.le16-flags.result q.le16-flags.ensures
