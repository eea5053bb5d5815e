-- The rules that image, plan and boot roll have in common. Types are given by a function from place to type.
-- Assumes nothing.
use Rattle.std.specs.Prelude.{ℕ, zero, suc, Bool, false, not, leb, eqb}
use Rattle.eif.specs.Numbers.{signature_version, metadata_version, oldest_version, newest_version, fewest_sections, place_count, kernel, command_line, ramdisk, signature, metadata, wrong_version, wrong_count, type_not_allowed, ramdisk_before_kernel, type_repeated, section_missing}
use Rattle.octets.specs.Logic.{both, either, choose}
use Rattle.eif.specs.Answers.{verdict_at, and_then, whole_verdict}
use Rattle.eif.specs.declared.Verdict.{Verdict}
use Rattle.eif.specs.declared.Verdict.TheVariants.{Accepted}

-- the test of rule 4
abbrev pub version_known : ℕ → Bool
version_known version = both (leb oldest_version version) (leb version newest_version)

-- the test of rule 5
abbrev pub count_known : ℕ → Bool
count_known count = both (leb fewest_sections count) (leb count place_count)

-- the rules 4 and 5; 0: neither applies
unfoldable pub field_fault : ℕ → ℕ → ℕ
field_fault version count =
    choose (not (version_known version)) wrong_version
    (choose (not (count_known count)) wrong_count
    0)

-- kernel, command line, ramdisk: the types that every version allows, that a roll holds, and that are measured
abbrev pub boot_type : ℕ → Bool
boot_type kind = both (leb kernel kind) (leb kind ramdisk)

-- the test of rule 9: whether an image of a version may hold a section of a type
unfoldable pub allowed_in : ℕ → ℕ → Bool
allowed_in version kind =
    choose (eqb kind signature) (leb signature_version version)
    (choose (eqb kind metadata) (leb metadata_version version)
    (boot_type kind))

-- whether one of the places before i has a type
unfoldable pub seen : (ℕ → ℕ) → ℕ → ℕ → Bool
seen kinds kind zero = false
seen kinds kind (suc i) = either (eqb (kinds i) kind) (seen kinds kind i)

-- the rules 10 and 11, by whether it is a ramdisk, a kernel was seen before, and its type was; 0: none applies
abbrev pub order_of : Bool → Bool → Bool → ℕ
order_of isRamdisk kernelSeen typeSeen = choose isRamdisk (choose kernelSeen 0 ramdisk_before_kernel) (choose typeSeen type_repeated 0)

-- at a section of a type that stands after i others
unfoldable pub order_fault : (ℕ → ℕ) → ℕ → ℕ → ℕ
order_fault kinds kind i = order_of (eqb kind ramdisk) (seen kinds kernel i) (seen kinds kind i)

-- the rules 9, 10 and 11 at section i, in a version; 0: none applies
unfoldable pub type_fault : ℕ → (ℕ → ℕ) → ℕ → ℕ
type_fault version kinds i =
    choose (not (allowed_in version (kinds i))) type_not_allowed (order_fault kinds (kinds i) i)

-- the test of rule 12 on a roll: among the first n there is no kernel, or no command line
abbrev pub boot_missing : (ℕ → ℕ) → ℕ → Bool
boot_missing kinds n = either (not (seen kinds kernel n)) (not (seen kinds command_line n))

-- on an image or a plan: one of these is missing, or the metadata that a version asks for
unfoldable pub missing : (ℕ → ℕ) → ℕ → ℕ → Bool
missing kinds version n = either (boot_missing kinds n) (both (eqb version metadata_version) (not (seen kinds metadata n)))

-- the first refusal at the n places from i on, where the verdicts are given by place
unfoldable pub first_refusal : (ℕ → Verdict) → ℕ → ℕ → Verdict
first_refusal verdict zero i = Accepted
first_refusal verdict (suc n) i = and_then (verdict i) (first_refusal verdict n (suc i))

-- the first of them that has a fault, where the faults are given by place (0: none)
abbrev pub first_fault : (ℕ → ℕ) → ℕ → ℕ → Verdict
first_fault fault n i = first_refusal (λ j. verdict_at (fault j) j 0) n i

-- rule 12 on an image or a plan; 0: it does not apply
unfoldable pub missing_fault : (ℕ → ℕ) → ℕ → ℕ → ℕ
missing_fault kinds version n = choose (missing kinds version n) section_missing 0

-- all rules on the types of n sections: 9, 10 and 11 section by section, then 12
unfoldable pub types_verdict : ℕ → (ℕ → ℕ) → ℕ → Verdict
types_verdict version kinds n = and_then (first_fault (type_fault version kinds) n 0) (whole_verdict (missing_fault kinds version n))
