-- The size of a plan's image, as the code gives it: 0 where there is none within the limit, since `Plan.plain_size` of any lengths need not
-- fit a number of the code. Within the limit the two are one: `image_limited` and `limited_in` of proofs/Size.antt.
-- Assumes nothing.
use Rattle.std.specs.Prelude.{ℕ, ltb, eqb}
use Rattle.eif.specs.Numbers.{size_limit, place_count}
use Rattle.octets.specs.Logic.{choose}
use Rattle.eif.specs.Plan.{data_before, plain_size}
use Rattle.eif.specs.declared.Plan.{Plan}

-- a size, or 0 where it is over the limit
unfoldable pub limited : ℕ → ℕ
limited n = choose (ltb size_limit n) 0 n

-- how long the plain image of a plan is; 0 where the plan has more sections than places, or the size is over the limit
unfoldable pub image_size : Plan → ℕ
image_size p = choose (ltb place_count p.count) 0 (limited (plain_size p))

-- how much data it has; 0 where there is no such image
unfoldable pub data_size : Plan → ℕ
data_size p = choose (eqb (image_size p) 0) 0 (data_before p.places p.count)
