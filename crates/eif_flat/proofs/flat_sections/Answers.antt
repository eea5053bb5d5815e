use mathlib.Core.Path.{◌≡◌, refl, sym}
use native.Mathlib.Omega.{arith}
use borrow.Author.Rules.{rules}
use lib.ListN.{length}
use Rattle.eif.specs.Numbers.{place_count}
use Rattle.eif.specs.Reading.{blank_section}
use Rattle.eif_flat.specs.Flat.{flat_section}
use Rattle.eif_flat.proofs.Mapped.{mapped_next, mapped_all}
use Rattle.eif_flat.proofs.flat_sections.Goals as goal

-- `flat_sections` meets its contract: after i turns the first i are in place. Assumes nothing.
pub loop-i-init : goal.loop-i-init
loop-i-init c = let size : length c.args.sections ≡ place_count = search rules in
    (omega arith, record { sizes = sym size; so_far = refl })

pub loop-i-preserved : goal.loop-i-preserved
loop-i-preserved c = let l = c.args.sections in
    let o = c.loop-i in
    let size : length l ≡ place_count = search rules in
    (omega arith, mapped_next flat_section l o.flat o.i blank_section c.flat_section.result (omega arith) c.flat_section.ensures o.invariant.1)

pub returns : goal.returns
returns c = let l = c.args.sections in
    let size : length l ≡ place_count = search rules in
    mapped_all flat_section l c.loop-i.flat c.loop-i.i (omega arith) c.loop-i.invariant.1
