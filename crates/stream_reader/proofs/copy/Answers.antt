use mathlib.Core.Path.{sym, ap, ◌∙◌}
use lib.ListN.{length}
use Rattle.eif.specs.Stream.{copy_listed_answer, copy_listed_output}
use Rattle.eif.specs.declared.StreamSections.{StreamSections}
use Rattle.eif_lemmas.proofs.Reading.{verdict_is}
use Rattle.stream_reader.proofs.Answers.{copy_refused, answer_is, output_is}
use Rattle.stream_reader.proofs.copy.Goals as goal
use Rattle.stream_reader.proofs.copy.Goals.{After-read-reading}

-- `stream_reader::copy` meets its contract: the image's refusal, or what is copied from the stream's sections. Assumes nothing.
pub returns-in_default : goal.returns-in_default
returns-in_default c = let w = (goal.at.returns-in_default c).After-read-reading in
    let a = w.args in
    let t = c.in_default in
    let e = copy_refused a.image.now a.stream a.from.0 a.out.now t.field-0 (sym (verdict_is a.image.now w.read-reading.result w.read-reading.ensures) ∙ t.is) in
    record { value = rw t.is e.0; out_after = e.1 }

pub returns : goal.returns
returns c = let list = c.sections-list in
    let w = (goal.at.returns c).After-read-reading in
    let a = w.args in
    let t = c.in-Accepted.is in
    let s = a.image.now in
    let done = c.copy_listed.ensures in record {
      value = done.value ∙ ap (λ (l : StreamSections). copy_listed_answer s l a.from.0 (length a.out.now)) list.ensures
          ∙ answer_is s w.read-reading.result w.read-reading.ensures t a.stream a.from.0 a.out.now;
      out_after = done.out_after ∙ ap (λ (l : StreamSections). copy_listed_output s l a.from.0 a.out.now) list.ensures
          ∙ output_is s w.read-reading.result w.read-reading.ensures t a.stream a.from.0 a.out.now;
    }
