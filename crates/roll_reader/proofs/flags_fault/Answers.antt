use Prim.Native.Nat.{ℕ, ◌≤◌}
use mathlib.Core.Path.{◌≡◌, sym, ◌∙◌}
use mathlib.Core.List.{List}
use lib.ListN.{length}
use Rattle.octets.specs.Bytes.{le_field}
use Rattle.eif.specs.Roll.{record_head_size, flags_type, record_type_at}
use Rattle.eif_lemmas.proofs.Flags.{zero_flags}
use Rattle.roll_reader.proofs.Flags.{flags_head_cut, flags_kind, flags_size, flags_cut}
use Rattle.roll_reader.proofs.flags_fault.Goals as goal
use Rattle.roll_reader.proofs.flags_fault.Goals.{After-le16, After-le64}

-- `roll_reader::flags_fault` meets its contract: each return is a rule on the flags record, from the tests that led to it.
-- Assumes nothing.
pub returns-then-roll-lt-SIZE : goal.returns-then-roll-lt-SIZE
returns-then-roll-lt-SIZE c = flags_head_cut c.args.roll.now c.if-roll-lt-SIZE.true

-- the type and then the length were read
module _ (c : After-le16) where
  abbrev roll : List ℕ
  roll = c.args.roll.now

  abbrev head : record_head_size ≤ length roll
  head = c.if-roll-lt-SIZE.false

module _ (c : After-le64) where
  abbrev q : After-le16
  q = (goal.at.After-le64 c).After-le16

  kind : le_field 2 record_type_at (roll q) ≡ flags_type
  kind = sym q.le16.ensures ∙ c.if-le16-ne-TYPE.false

pub returns-then-le16-ne-TYPE : goal.returns-then-le16-ne-TYPE
returns-then-le16-ne-TYPE c = let q = (goal.at.returns-then-le16-ne-TYPE c).After-le16 in flags_kind (roll q) (head q) (λ e. c.if-le16-ne-TYPE.true (q.le16.ensures ∙ e))

pub returns-then-le64-ne-LENGTH : goal.returns-then-le64-ne-LENGTH
returns-then-le64-ne-LENGTH c = let p = (goal.at.returns-then-le64-ne-LENGTH c).After-le64 in flags_size (roll (q p)) (head (q p)) (kind p) (λ e. c.if-le64-ne-LENGTH.true (p.le64.ensures ∙ e))

pub returns-then-roll-lt-SIZE-2 : goal.returns-then-roll-lt-SIZE-2
returns-then-roll-lt-SIZE-2 c = let p = (goal.at.returns-then-roll-lt-SIZE-2 c).After-le64 in flags_cut (roll (q p)) (head (q p)) (kind p) (sym p.le64.ensures ∙ c.if-le64-ne-LENGTH.false) c.if-roll-lt-SIZE-2.true

pub returns-else-roll-lt-SIZE-2 : goal.returns-else-roll-lt-SIZE-2
returns-else-roll-lt-SIZE-2 c = let p = (goal.at.returns-else-roll-lt-SIZE-2 c).After-le64 in sym (zero_flags (roll (q p)) (record { whole = c.if-roll-lt-SIZE-2.false; kind = kind p; size = sym p.le64.ensures ∙ c.if-le64-ne-LENGTH.false }))
