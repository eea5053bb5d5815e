use Prim.Native.Nat.{ℕ}
use mathlib.Core.Path.{ap, ◌∙◌}
use Rattle.octets.specs.Over.{over}
use Rattle.crc32.specs.Crc.{crc_from}
use Rattle.writing.specs.Writing.{section_step, next_header}
use Rattle.writing.specs.declared.Stepped.{Stepped}
use Rattle.writing.specs.declared.Writing.{Writing}
use Rattle.writing.proofs.begin_section.Goals as goal
use Rattle.writing.proofs.begin_section.Goals.{After-copy, After-section_header-own}

-- `writing::begin_section` meets its contract: the own header of the next section is written and checksummed.
-- the answer, with a remainder
withRemainder : Writing → ℕ → Stepped
withRemainder a k =
    let s = section_step a in
    record {
      state = record {
        header_written = s.state.header_written;
        sections_begun = s.state.sections_begun;
        section_left = s.state.section_left;
        data_left = s.state.data_left;
        count = s.state.count;
        places = s.state.places;
        header = s.state.header;
        checksum = k;
      };
      taken = s.taken;
      written = s.written;
    }

pub returns : goal.returns
unfolding section_step next_header withRemainder
returns c = let k = (goal.at.returns c).After-copy in
    let h = (goal.at.After-copy k).After-section_header-own in
    let a = h.args in record { value = ap (withRemainder a.state) (c.update.ensures ∙ ap (crc_from a.state.checksum) h.section_header-own.ensures); out_after = k.copy.ensures ∙ ap (over a.out.now 0) h.section_header-own.ensures }
