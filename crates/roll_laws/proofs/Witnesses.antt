-- Rolls and images that the relations of eif's Roll and of specs hold of, and values that they reject, by computation: of the worked image and its
-- roll, which has the kernel's one byte at 22.
use mathlib.Core.Path.{◌≡◌, refl, ap}
use mathlib.Core.List.{List, [], ◌∷◌, head_d}
use Prim.Native.Nat.{ℕ}
use native.Mathlib.Omega.{arith}
use lib.Dec.{lit≤}
use lib.ListN.{length, get_or, take}
use Rattle.octets.specs.Bytes.{field, be_value, le_field}
use Rattle.octets.specs.Over.{over}
use Rattle.eif.specs.Table.{in_table}
use Rattle.eif.specs.Answers.{and_then}
use Rattle.eif.specs.Output.{room_verdict}
use Rattle.eif.specs.Layout.{packed_by}
use Rattle.eif.specs.Rules.{seen, order_fault, missing}
use Rattle.eif.specs.Roll.{Record, head_of, flags_record, measured_in, SameBoot, Begins, flags_fault, record_at, head_fault, body_fault, end_from, roll_fault, read_rest, read_roll, roll_of, roll_bytes, roll_verdict}
use Rattle.eif.specs.Rows.{worked_roll}
use Rattle.eif.specs.Worked.{worked_image, worked_roll_holds}
use Rattle.eif.proofs.Worked.{worked_accepted}
use Rattle.eif.specs.declared.RollReading.{RollReading}
use Rattle.eif.specs.declared.Verdict.{Verdict}
use Rattle.eif.specs.declared.Verdict.TheVariants.{Accepted}
use Rattle.eif_lemmas.proofs.Verdicts.{never}
use Rattle.plain_laws.proofs.Witnesses.{bytes_by, worked_are_bytes}
use Rattle.roll_laws.specs.Told.{ImageOf, ReadsList}
use Rattle.roll_laws.proofs.Demand3.{accepted_exactly_when}

-- ---- the reader's list

list_holds : ReadsList worked_roll worked_image
unfolding measured_in field be_value head_of flags_record flags_fault read_rest read_roll end_from record_at le_field seen order_fault missing head_fault body_fault packed_by roll_fault in_table
list_holds = record { reading = refl; few = lit≤ tt; found = refl }

-- rejected: other flags; and another byte in the kernel's place, which the list does not show
list_rejects : (ReadsList (over worked_roll 10 (1 ∷ [])) worked_image → ⊥) × (ReadsList (over worked_roll 22 (0x4c ∷ [])) worked_image → ⊥)
unfolding over measured_in field be_value head_of flags_record flags_fault read_rest read_roll end_from record_at le_field seen order_fault missing head_fault body_fault packed_by roll_fault in_table head_d
list_rejects = (
  λ l. let h = ap (λ (r : RollReading). r.flags) l.reading in omega arith,
  λ l. let h = ap (λ (rs : List Record). get_or (head_d rs (record { kind = 0; bytes = [] })).bytes 0 0) l.found in omega arith,
)

-- ---- an image whose roll it is

image_holds : ImageOf worked_roll
image_holds = record { image = worked_image; bytes = worked_are_bytes; accepted = worked_accepted; roll = worked_roll_holds }

-- rejected: a roll without its last byte, and no bytes
image_rejects : (ImageOf (take 53 worked_roll) → ⊥) × (ImageOf [] → ⊥)
unfolding measured_in field be_value head_of flags_record flags_fault read_rest read_roll end_from record_at le_field seen order_fault missing head_fault body_fault packed_by roll_fault in_table
image_rejects = (
  λ i. never _ ((accepted_exactly_when (take 53 worked_roll) (bytes_by (take 53 worked_roll) refl)).1 i),
  λ i. never _ ((accepted_exactly_when [] tt).1 i),
)

-- ---- the same flags and sections: another version does not matter; rejected: another byte in the kernel, another flag

boot_holds : SameBoot worked_image (over worked_image 5 (3 ∷ []))
unfolding over measured_in field be_value
boot_holds = record { flags = refl; sections = refl }

boot_rejects : (SameBoot worked_image (over worked_image 7 (1 ∷ [])) → ⊥) × (SameBoot worked_image (over worked_image 560 (0x4c ∷ [])) → ⊥)
unfolding over measured_in field be_value head_d
boot_rejects = (
  λ b. let h = b.flags in omega arith,
  λ b. let h = ap (λ (rs : List Record). get_or (head_d rs (record { kind = 0; bytes = [] })).bytes 0 0) b.sections in omega arith,
)

-- ---- beginnings; rejected: a longer one, another byte

begins_holds : Begins (1 ∷ 2 ∷ []) (1 ∷ 2 ∷ 3 ∷ [])
begins_holds = record { shorter = lit≤ tt; same = refl }

begins_rejects : (Begins (1 ∷ 2 ∷ 3 ∷ []) (1 ∷ 2 ∷ []) → ⊥) × (Begins (1 ∷ 3 ∷ []) (1 ∷ 2 ∷ 3 ∷ []) → ⊥)
begins_rejects = (λ b. let h = b.shorter in omega arith, λ b. let h = ap (λ (l : List ℕ). get_or l 1 0) b.same in omega arith)

-- ---- room of exactly the roll's length is enough; with a byte less it is refused: `eif/proofs/Worked.roll_refused`

roll_fits : roll_verdict worked_image 54 ≡ Accepted
unfolding roll_verdict roll_bytes flags_record roll_of head_of measured_in field be_value
roll_fits = ap (λ (v : Verdict). and_then v (room_verdict 54 (length (roll_bytes worked_image)))) worked_accepted
