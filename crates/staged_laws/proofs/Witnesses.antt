-- An image that is written afresh as `WrittenAfresh` says, and a base of which none is: the worked image with one byte 63 for its ramdisk, and no
-- bytes.
use mathlib.Core.Path.{◌≡◌, refl}
use mathlib.Core.List.{[], ◌∷◌}
use lib.Dec.{lit<}
use Rattle.octets.specs.Bytes.{field, be_value}
use Rattle.eif.specs.Table.{join_from}
use Rattle.eif.specs.Layout.{packed_by}
use Rattle.eif.specs.Rules.{field_fault}
use Rattle.eif.specs.Reading.{header_fault, judged, early, verdict_in, position_in, read_view}
use Rattle.eif.specs.Plan.{data_before, fixed_fields, table_bytes, header_bytes, section_header, plain_image}
use Rattle.eif.specs.Worked.{worked_image}
use Rattle.eif.proofs.Worked.{worked_accepted}
use Rattle.eif.specs.declared.Verdict.TheVariants.{Accepted}
use Rattle.eif_lemmas.proofs.Verdicts.{never}
use Rattle.plain_laws.proofs.Witnesses.{worked_are_bytes}
use Rattle.staged.specs.Staged.{staged_plan, staged_joined, afresh, staged_verdict}
use Rattle.staged_laws.specs.Afresh.{WrittenAfresh}
use Rattle.staged_laws.proofs.Staged.{written_afresh}

view_accepted : staged_verdict worked_image 1 2 2 ≡ Accepted
unfolding staged_verdict staged_plan read_view packed_by field be_value
view_accepted = rw worked_accepted refl

afresh_holds : WrittenAfresh worked_image (0x63 ∷ []) 2
afresh_holds = written_afresh worked_image (0x63 ∷ []) 2 2 worked_are_bytes (lit< tt, tt) view_accepted

-- rejected: a base without bytes
afresh_rejects : WrittenAfresh [] [] 0 → ⊥
unfolding afresh staged_plan staged_joined read_view verdict_in early judged header_fault field_fault position_in plain_image header_bytes fixed_fields table_bytes packed_by join_from section_header data_before field be_value
afresh_rejects w = never _ w.plain.accepted
