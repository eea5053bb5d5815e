use Prim.Native.Nat.{ℕ}
use mathlib.Core.Path.{◌≡◌, sym, ap, ◌∙◌}
use lib.Bits.{bit_xor}
use Rattle.crc32.specs.Crc.{crc_from, ones32}
use Rattle.eif.specs.Layout.{View}
use Rattle.eif.specs.Reading.{blank_reading}
use Rattle.eif_lemmas.proofs.Reading.{read_refused, read_differs, read_accepted}
use Rattle.eif_judge.specs.Kept.{view_from}
use Rattle.eif_judge.proofs.read.Goals as goal
use Rattle.eif_judge.proofs.read.Goals.{After-be32, After-judge-verdict}

-- `eif_judge::read` meets its contract: a refusal by all rules but 13 stays whatever the checksum, and else rule 13 is added.
-- Assumes nothing.
module _ (c : After-judge-verdict) where
  abbrev view : View
  view = view_from c.args.header.now c.args.headers.now c.args.size

  abbrev sum : ℕ
  sum = bit_xor ones32 (crc_from c.args.state c.args.rest.now)

-- ---- after both checksums
module _ (c : After-be32) where
  abbrev judged : After-judge-verdict
  judged = (goal.at.After-be32 c).After-judge-verdict

  computed : c.finish-computed.result ≡ sum judged
  computed = c.finish-computed.ensures ∙ ap (bit_xor ones32) c.update.ensures

pub returns-in_default : goal.returns-in_default
returns-in_default c = let j = (goal.at.returns-in_default c).After-judge-verdict in
    let t = c.in_default in
    c.refused.ensures ∙ ap blank_reading t.is ∙ read_refused (view j) (sum j) t.field-0 (sym j.judge-verdict.ensures ∙ t.is)

pub returns-then-be32-computed : goal.returns-then-be32-computed
returns-then-be32-computed c = let b = (goal.at.returns-then-be32-computed c).After-be32 in
    let j = judged b in
    let t = b.in-Accepted.is in
    c.refused-then-be32-computed.ensures ∙ ap blank_reading c.refuse_at.ensures
    ∙ read_differs (view j) (sum j) (sym j.judge-verdict.ensures ∙ t) (λ e. c.if-be32-computed.true (b.be32.ensures ∙ e ∙ sym (computed b)))

pub accepted-requires : goal.accepted-requires
accepted-requires c = let b = (goal.at.accepted-requires c).After-be32 in
    let j = judged b in
    sym j.judge-verdict.ensures ∙ b.in-Accepted.is

pub returns : goal.returns
returns c = let b = (goal.at.returns c).After-be32 in
    let j = judged b in
    let t = b.in-Accepted.is in
    c.accepted.ensures ∙ read_accepted (view j) (sum j) (sym j.judge-verdict.ensures ∙ t) (sym b.be32.ensures ∙ c.if-be32-computed.false ∙ computed b)
