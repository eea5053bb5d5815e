use Prim.Native.Nat.{ℕ}
use mathlib.Core.Path.{sym, ap, ap₂, ◌∙◌}
use lib.ListN.{length}
use Rattle.eif.specs.Stream.{listed_bytes}
use Rattle.eif.specs.declared.StreamLength.{StreamLength}
use Rattle.eif.specs.declared.StreamSections.{StreamSections}
use Rattle.eif.specs.declared.Verdict.{Verdict}
use Rattle.eif_lemmas.proofs.Reading.{verdict_is, told_accepted}
use Rattle.stream_reader.proofs.Answers.{stream_is, stream_fits, length_refused, length_accepted}
use Rattle.stream_reader.proofs.length.Goals as goal
use Rattle.stream_reader.proofs.length.Goals.{After-read-reading}

-- `stream_reader::length` meets its contract: the image's refusal, or the length of the data of the stream's sections.
-- Assumes nothing.
pub returns-in_default : goal.returns-in_default
returns-in_default c = let w = (goal.at.returns-in_default c).After-read-reading in
    let a = w.args in
    let t = c.in_default in
    rw t.is (length_refused a.image.now a.stream t.field-0 (sym (verdict_is a.image.now w.read-reading.result w.read-reading.ensures) ∙ t.is))

pub total-requires : goal.total-requires
total-requires c = let w = (goal.at.total-requires c).After-read-reading in
    let a = w.args in
    rw c.sections-list.ensures (stream_fits a.image.now w.read-reading.result w.read-reading.ensures c.in-Accepted.is a.stream)

pub returns : goal.returns
returns c = let w = (goal.at.returns c).After-read-reading in
    let a = w.args in
    let t = c.in-Accepted.is in
    let s = a.image.now in
    let n = c.total.ensures ∙ ap (λ (l : StreamSections). length (listed_bytes s l)) c.sections-list.ensures ∙ ap length (stream_is s w.read-reading.result w.read-reading.ensures t a.stream) in
    ap₂ (λ (v : Verdict) (m : ℕ). answer v m) t n ∙ length_accepted s a.stream (told_accepted s w.read-reading.result w.read-reading.ensures t)
  where
    answer : Verdict → ℕ → StreamLength
    answer v m = record { verdict = v; length = record { 0 = m } }
