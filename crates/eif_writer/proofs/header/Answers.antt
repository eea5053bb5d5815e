use Prim.Native.Nat.{◌<◌}
use mathlib.Core.Path.{◌≡◌, refl, sym, ◌∙◌}
use native.Mathlib.Omega.{arith}
use Rattle.plan_judge.proofs.Size.{size_few, within_limit}
use Rattle.plan_judge.specs.Size.{image_size}
use Rattle.eif_writer.proofs.Image.{whole_header, header_none, header_some}
use Rattle.eif_writer.proofs.header.Goals as goal
use Rattle.eif_writer.proofs.header.Goals.{After-image_size}

-- `eif_writer::header` meets its contract: a plan without an image leaves the zeros; otherwise the header's bytes and the
-- checksum field fill the array. Assumes nothing.

-- past the test the plan has an image
some : (c : After-image_size) → 0 < c.image_size.result → image_size c.args.plan ≡ 0 → ⊥
some c h z = let r : c.image_size.result ≡ 0 = c.image_size.ensures ∙ z in omega arith

pub returns-then-image_size-eq0 : goal.returns-then-image_size-eq0
returns-then-image_size-eq0 c = let z : c.image_size.result ≡ 0 = omega arith in
    header_none c.args.plan c.args.checksum (sym c.image_size.ensures ∙ z)

pub put_header-requires : goal.put_header-requires
put_header-requires c = let p = c.args.plan in
    let s = some (goal.at.put_header-requires c).After-image_size (omega arith) in
    let few = size_few p s in
    (few, (within_limit p (image_size p) few refl s).0)

pub returns : goal.returns
returns c = let s = some (goal.at.returns c).After-image_size (omega arith) in
    whole_header c.args.plan c.args.checksum c.put_header.ensures c.put_be32.ensures ∙ header_some c.args.plan c.args.checksum s
