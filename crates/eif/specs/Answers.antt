-- Verdicts: what each case of the answering enum says (FORMAT.md, Answer numbers), and one verdict after another.
-- Assumes nothing.
use Rattle.std.specs.Prelude.{ℕ, eqb}
use Rattle.octets.specs.Logic.{choose}
use Rattle.eif.specs.declared.Verdict.{Verdict}
use Rattle.eif.specs.declared.Verdict.TheVariants.{Accepted, Refused}

-- the refusal with an answer number, about the section or record of an index (0 where it is about none), with the position
-- of what is at fault (0 where it has none)
abbrev pub refuse_at : ℕ → ℕ → ℕ → Verdict
refuse_at number index position = Refused (record { number = number; index = index; position = position })

-- the same without a position
abbrev pub refuse : ℕ → ℕ → Verdict
refuse number index = refuse_at number index 0

-- the answer number of a verdict; 0: accepted
abbrev pub number_of : Verdict → ℕ
number_of Accepted = 0
number_of (Refused r) = r.number

-- the index of a verdict; 0 also where it accepts
abbrev pub index_of : Verdict → ℕ
index_of Accepted = 0
index_of (Refused r) = r.index

-- the position of a verdict; 0 also where it accepts
abbrev pub position_of : Verdict → ℕ
position_of Accepted = 0
position_of (Refused r) = r.position

-- a value beside a verdict: beside a refusal it is the given blank
abbrev pub beside {ℓ} : {A : Type ℓ} → Verdict → A → A → A
beside Accepted value blank = value
beside (Refused r) value blank = blank

-- a verdict, or where it accepts, the next
abbrev pub and_then : Verdict → Verdict → Verdict
and_then Accepted next = next
and_then (Refused r) next = Refused r

-- a number at an index and a position; 0: none applies
abbrev pub verdict_at : ℕ → ℕ → ℕ → Verdict
verdict_at number index position = choose (eqb number 0) Accepted (refuse_at number index position)

-- one that is about no one section, with a position
abbrev pub whole_at : ℕ → ℕ → Verdict
whole_at number position = verdict_at number 0 position

abbrev pub whole_verdict : ℕ → Verdict
whole_verdict number = whole_at number 0
