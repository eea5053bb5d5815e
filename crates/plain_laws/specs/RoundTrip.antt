-- What the laws of proofs/RoundTrip.antt state.
-- Assumes nothing.
use Rattle.std.specs.Prelude.{ℕ, ◌^◌, ◌<◌, ◌≤◌, ◌≡◌, List, length}
use Rattle.eif.specs.Table.{join_from}
use Rattle.octets.specs.Bytes.{AreBytes}
use Rattle.octets.specs.Over.{over}
use Rattle.eif.specs.Reading.{verdict_of, read_image, data_of}
use Rattle.eif.specs.Plan.{place_at, plain_size, piece_at, plan_verdict, plain_image, write_answer, write_output, plan_of, data_joined}
use Rattle.eif.specs.declared.Plan.{Plan}
use Rattle.eif.specs.declared.Verdict.TheVariants.{Accepted}
use Rattle.plain_laws.specs.Packed.{packed_section, packed_reading, SamePlan}

-- the numbers of a plan that no rule judges fit their fields
pub record Fits (p : Plan) : Type 0 where
  pub flags : p.flags < 2 ^ 16
  pub default_mem : p.default_mem < 2 ^ 64
  pub default_cpus : p.default_cpus < 2 ^ 64
  pub section_flags : (i : ℕ) → i < p.count → (place_at p.places i).flags < 2 ^ 16

-- ---- what is written is read back

pub record ReadsBack (p : Plan) (d : List ℕ) : Type 0 where
  -- the plain image is accepted, and its reading has the plan's version, flags, default_mem, default_cpus and count, of each used place
  -- the type, flags, length and packed position, and unused places blank
  pub accepted : verdict_of (plain_image p d) ≡ Accepted
  pub reading : read_image (plain_image p d) ≡ packed_reading p
  -- as a plan, that reading is the plan in every field and used place
  pub plan_back : SamePlan (plan_of (read_image (plain_image p d))) p
  -- the data at those positions is the lent data's pieces in order, and joined it is the lent data
  pub pieces : (i : ℕ) → i < p.count → data_of (plain_image p d) (packed_section p.places i) ≡ piece_at p.places d i
  pub pieces_whole : join_from (piece_at p.places d) p.count 0 ≡ d
  pub data_back : data_joined (plain_image p d) (read_image (plain_image p d)) ≡ d
  -- the image is as long as reported
  pub size : length (plain_image p d) ≡ plain_size p

-- ---- what is read is written

-- a plan and data for which the writer gives the image s
pub record Writes (p : Plan) (given s : List ℕ) : Type 0 where
  -- the plan is not refused, and its plain image is s
  pub not_refused : plan_verdict p (length given) ≡ Accepted
  pub image : plain_image p given ≡ s
  -- in an output at least as long the writer reports the length of s and writes s over the start
  pub answer : (room : ℕ) → length s ≤ room → write_answer p (length given) room ≡ record { verdict = Accepted; length = length s }
  pub output : (d : List ℕ) → length s ≤ length d → write_output p given d ≡ over d 0 s

-- ---- plain exactly when written

-- a plan that the writer does not refuse, and data, whose plain image is s
pub record WrittenFrom (s : List ℕ) : Type 0 where
  pub plan : Plan
  pub given : List ℕ
  pub fits : Fits plan
  pub bytes : AreBytes given
  pub not_refused : plan_verdict plan (length given) ≡ Accepted
  pub image : plain_image plan given ≡ s

-- ---- the one plain image

-- two plans have the same verdict, length and plain image
pub record SameWriting (p q : Plan) : Type 0 where
  pub verdict : (given : ℕ) → plan_verdict p given ≡ plan_verdict q given
  pub size : plain_size p ≡ plain_size q
  pub image : (d : List ℕ) → plain_image p d ≡ plain_image q d
