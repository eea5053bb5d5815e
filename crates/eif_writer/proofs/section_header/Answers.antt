use Rattle.eif_writer.proofs.Pieces.{whole_section_header}
use Rattle.eif_writer.proofs.section_header.Goals as goal
use Rattle.eif_writer.proofs.section_header.Goals.{After-put_be16, After-put_be16-2, After-put_be64}

-- `eif_writer::section_header` meets its contract: the fields, one after the other, fill the array.
pub returns : goal.returns
returns c = let z = (goal.at.returns c).After-put_be64 in
    let y = (goal.at.After-put_be64 z).After-put_be16-2 in
    let x = (goal.at.After-put_be16-2 y).After-put_be16 in
    whole_section_header x.args.place x.put_be16.ensures y.put_be16-2.ensures z.put_be64.ensures
