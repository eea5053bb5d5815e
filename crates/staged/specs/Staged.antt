-- Staging: an image with one section's data replaced and no second image (FORMAT.md, Staging). The image written afresh with the
-- replacement, the order of the refusals, what is shown of a section, and the roll. In all of them s is the base, r the replacement, k the
-- number of the replaced section and j that of the section to be shown. Assumes nothing.
use Rattle.std.specs.Prelude.{ℕ, List, [], ltb, leb, eqb, length, set}
use Rattle.eif.specs.Table.{join_from}
use Rattle.eif.specs.Numbers.{size_limit, image_too_long, no_such_section}
use Rattle.octets.specs.Logic.{either, choose}
use Rattle.eif.specs.Answers.{refuse, and_then, beside}
use Rattle.eif.specs.Reading.{verdict_of, data_of, read_image, section_in}
use Rattle.eif.specs.Output.{room_verdict, written_for, output_for}
use Rattle.eif.specs.Plan.{place_at, plain_size, plain_image, plan_of}
use Rattle.eif.specs.Roll.{roll_bytes}
use Rattle.eif.specs.declared.Place.{Place}
use Rattle.eif.specs.declared.Plan.{Plan}
use Rattle.eif.specs.declared.Written.{Written}
use Rattle.eif.specs.declared.Verdict.{Verdict}
use Rattle.eif.specs.declared.Verdict.TheVariants.{Accepted}

-- ---- the image written afresh

-- a place with another length
abbrev pub with_length : Place → ℕ → Place
with_length x size = record { kind = x.kind; flags = x.flags; length = record { 0 = size } }

-- a plan with another length at place k
abbrev pub with_place : Plan → ℕ → ℕ → Plan
with_place p k size =
    record {
      version = p.version;
      flags = p.flags;
      default_mem = p.default_mem;
      default_cpus = p.default_cpus;
      count = p.count;
      places = set p.places k (with_length (place_at p.places k) size);
    }

-- the plan of the base's reading, with the replacement's length at the replaced place
unfoldable pub staged_plan : List ℕ → ℕ → ℕ → Plan
staged_plan s k size = with_place (plan_of (read_image s)) k size

-- the data of section j: the replacement, or a part of the base
unfoldable pub staged_part : List ℕ → List ℕ → ℕ → ℕ → List ℕ
staged_part s r k j = choose (eqb j k) r (data_of s (section_in (read_image s).sections j))

-- the sections' data, joined in file order
unfoldable pub staged_joined : List ℕ → List ℕ → ℕ → List ℕ
staged_joined s r k = join_from (staged_part s r k) (read_image s).count 0

-- the plain image of these
unfoldable pub afresh : List ℕ → List ℕ → ℕ → List ℕ
afresh s r k = plain_image (staged_plan s k (length r)) (staged_joined s r k)

-- ---- the refusals: the base's, 27 for either number, 1 for the image written afresh; size is the replacement's length

-- the view's own, by the base's number of sections and the plan of the image written afresh
abbrev pub view_verdict : ℕ → Plan → ℕ → ℕ → Verdict
view_verdict count plan k j =
    choose (either (leb count k) (leb count j)) (refuse no_such_section 0)
    (choose (ltb size_limit (plain_size plan)) (refuse image_too_long 0)
    Accepted)

unfoldable pub staged_verdict : List ℕ → ℕ → ℕ → ℕ → Verdict
staged_verdict s size k j = and_then (verdict_of s) (view_verdict (read_image s).count (staged_plan s k size) k j)

-- ---- what is shown of section j: its data, or where it is refused no byte

unfoldable pub shown_part : List ℕ → List ℕ → ℕ → ℕ → List ℕ
shown_part s r k j = beside (staged_verdict s (length r) k j) (staged_part s r k j) []

-- ---- the roll: that of the image written afresh. The refusals, then 14

unfoldable pub staged_roll_verdict : List ℕ → List ℕ → ℕ → ℕ → Verdict
staged_roll_verdict s r k room =
    and_then (staged_verdict s (length r) k k) (room_verdict room (length (roll_bytes (afresh s r k))))

unfoldable pub staged_roll_answer : List ℕ → List ℕ → ℕ → ℕ → Written
staged_roll_answer s r k room = written_for (staged_roll_verdict s r k room) (length (roll_bytes (afresh s r k)))

unfoldable pub staged_roll_output : List ℕ → List ℕ → ℕ → List ℕ → List ℕ
staged_roll_output s r k d = output_for (staged_roll_verdict s r k (length d)) (roll_bytes (afresh s r k)) d

-- how long that roll is
unfoldable pub staged_roll_length : List ℕ → List ℕ → ℕ → Written
staged_roll_length s r k = written_for (staged_verdict s (length r) k k) (length (roll_bytes (afresh s r k)))
