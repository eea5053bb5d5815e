-- Images that the relations of the stricter reading hold of, and images that they reject: of version 4, with metadata that is an opening bracket or
-- a digit.
use Prim.Native.Nat.{ℕ}
use mathlib.Core.Path.{refl, sym, ap, ◌∙◌}
use mathlib.Core.Logic.{⊎_elim}
use Rattle.eif.specs.Reading.{read_image}
use Rattle.eif.specs.declared.Reading.{Reading}
use Rattle.eif_lemmas.proofs.Reading.{verdict_is}
use Rattle.eif_lemmas.proofs.Verdicts.{never}
use Rattle.strict_reader.specs.Strict.{MetadataIsJson, FirstNotText, ReadAsOrdinary, ReadAs21, StrictlyRead, read_strict}
use Rattle.strict_reader.proofs.Grammar.{strictly_read}
use Rattle.strict_laws.specs.Refused.{Refused21}
use Rattle.strict_laws.specs.Worked.{bracket_image, digit_image, bracket_accepted, bracket_refused, digit_strict}
use Rattle.strict_laws.proofs.Strict.{strict_exactly_when, same_or_21}

metadata_holds : MetadataIsJson digit_image
metadata_holds = ((strict_exactly_when digit_image).0 digit_strict).1

metadata_rejects : MetadataIsJson bracket_image → ⊥
metadata_rejects m = never _ (sym bracket_refused ∙ (strict_exactly_when bracket_image).1 (bracket_accepted, m))

refused_holds : Refused21 bracket_image
refused_holds = ⊎_elim (λ e. never _ (sym bracket_refused ∙ e ∙ bracket_accepted)) (λ r. r) (same_or_21 bracket_image)

-- rejected: the digit is a text
refused_rejects : Refused21 digit_image → ⊥
refused_rejects r = never _ (sym r.strict ∙ digit_strict)

-- ---- the reading, said of the grammar

read_as_21 : ReadAs21 bracket_image (read_strict bracket_image)
read_as_21 = ⊎_elim (λ o. absurd (metadata_rejects (o.metadata_json bracket_accepted))) (λ r. r) (strictly_read bracket_image)

-- rejected: no metadata section of the other image is at fault
first_rejects : (i : ℕ) → FirstNotText digit_image i → ⊥
first_rejects i f = f.no_text (metadata_holds i f.is_section f.is_metadata)

read_as_ordinary : ReadAsOrdinary digit_image (read_strict digit_image)
read_as_ordinary = ⊎_elim (λ o. o) (λ r. absurd (first_rejects r.index r.first)) (strictly_read digit_image)

-- rejected: the ordinary reading of the image with the bracket
strictly_rejects : StrictlyRead bracket_image (read_image bracket_image) → ⊥
strictly_rejects =
    ⊎_elim
    (λ o. metadata_rejects (o.metadata_json bracket_accepted))
    (λ r. never _ (sym (ap (λ (x : Reading). x.verdict) r.reading) ∙ verdict_is bracket_image (read_image bracket_image) refl ∙ bracket_accepted))
