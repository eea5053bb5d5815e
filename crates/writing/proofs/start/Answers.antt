use Prim.Native.Nat.{ℕ}
use mathlib.Core.Path.{◌≡◌, sym, ap, ap₂, ◌∙◌}
use mathlib.Core.List.{List}
use Rattle.crc32.specs.Crc.{crc_from, ones32}
use Rattle.eif.specs.Plan.{data_before, header_bytes}
use Rattle.eif.specs.declared.Plan.{Plan}
use Rattle.eif_writer.proofs.Image.{header_some}
use Rattle.plan_judge.proofs.Size.{data_some}
use Rattle.writing.specs.Writing.{start_writing}
use Rattle.writing.specs.declared.Writing.{Writing}
use Rattle.writing.proofs.Steps.{has_image, header_front}
use Rattle.writing.proofs.start.Goals as goal
use Rattle.writing.proofs.start.Goals.{After-data_size, After-header-header}

-- `writing::start` meets its contract: the plan has an image, so the header and the length of the data are those of the plan.
-- the state of a plan, with the parts that calls give
with : Plan → ℕ → List ℕ → ℕ → Writing
with p size header remainder =
    record {
      header_written = 0;
      sections_begun = 0;
      section_left = 0;
      data_left = size;
      count = p.count;
      places = p.places;
      header = header;
      checksum = remainder;
    }

pub returns : goal.returns
unfolding start_writing with
returns c = let d = (goal.at.returns c).After-data_size in
    let h = (goal.at.After-data_size d).After-header-header in
    let a = h.args in
    let some = has_image a.plan a.checksum h.requires.0 h.requires.1 in
    let e = h.header-header.ensures ∙ sym (header_some a.plan a.checksum some) in
    let size = d.data_size.ensures ∙ sym (data_some a.plan some) in
    let sum : c.update.result ≡ crc_from ones32 (header_bytes a.plan) = cc (e, header_front a.plan a.checksum) in
    ap₂ (λ (x y : ℕ). with a.plan x h.header-header.result y) size sum
    ∙ ap (λ (l : List ℕ). with a.plan (data_before a.plan.places a.plan.count) l (crc_from ones32 (header_bytes a.plan))) e
