-- The order of the refusals of writing and of reading one COSE_Sign1, as lists of rules, like those of an image.
-- That each verdict is that of the first rule that applies: `cose_laws/FirstApplies`. Assumes nothing.
use Rattle.std.specs.Prelude.{ℕ, not, List, [], ◌∷◌, length}
use Rattle.eif.specs.Numbers.{not_sign1}
use Rattle.eif.specs.Order.{Rule, rule, room_rule}
use Rattle.cose.specs.Sign1.{signature_fits, sign1_bytes}
use Rattle.cose.specs.Read.{sign1_formed}
use Rattle.cose.specs.declared.Claim.{Claim}

-- for so many bytes of room
unfoldable pub sign1_write_rules : Claim → List ℕ → ℕ → List Rule
sign1_write_rules c signature room =
    rule (not (signature_fits c.algorithm (length signature))) not_sign1 0 0
    ∷ room_rule room (length (sign1_bytes c signature))
    ∷ []

unfoldable pub sign1_read_rules : List ℕ → List Rule
sign1_read_rules s = rule (not (sign1_formed s)) not_sign1 0 0 ∷ []
