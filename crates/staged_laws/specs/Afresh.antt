-- What the laws of proofs/Staged.antt state of the image written afresh.
-- Assumes nothing.
use Rattle.std.specs.Prelude.{ℕ, ◌<◌, ◌≡◌, List, length}
use Rattle.plain_laws.specs.RoundTrip.{Writes}
use Rattle.eif.specs.Layout.{view_of, default_mem, default_cpus, version_of, header_flags_of, count_of, kind_at, flags_at}
use Rattle.eif.specs.Plan.{Plain}
use Rattle.staged.specs.Staged.{staged_part, afresh, staged_plan, staged_joined}
use Rattle.eif.specs.Reading.{own_data}

pub record WrittenAfresh (s r : List ℕ) (k : ℕ) : Type 0 where
  -- it is what the writer writes for the base's plan with the replacement's length, and the data with the replacement
  pub writes : Writes (staged_plan s k (length r)) (staged_joined s r k) (afresh s r k)
  -- it is accepted, and plain
  pub plain : Plain (afresh s r k)
  -- it has the base's header fields and sections, in order, and their data are the staged parts
  pub version_is : version_of (afresh s r k) ≡ version_of s
  pub flags : header_flags_of (afresh s r k) ≡ header_flags_of s
  pub default_mem_is : default_mem (view_of (afresh s r k)) ≡ default_mem (view_of s)
  pub default_cpus_is : default_cpus (view_of (afresh s r k)) ≡ default_cpus (view_of s)
  pub count : count_of (afresh s r k) ≡ count_of s
  pub kinds : (j : ℕ) → j < count_of s → kind_at (afresh s r k) j ≡ kind_at s j
  pub section_flags : (j : ℕ) → j < count_of s → flags_at (afresh s r k) j ≡ flags_at s j
  pub parts_are : (j : ℕ) → j < count_of s → own_data (afresh s r k) j ≡ staged_part s r k j
