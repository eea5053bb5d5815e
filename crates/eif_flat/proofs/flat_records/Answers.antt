use mathlib.Core.Path.{◌≡◌, refl, sym}
use native.Mathlib.Omega.{arith}
use borrow.Author.Rules.{rules}
use lib.ListN.{length}
use Rattle.eif.specs.Numbers.{place_count}
use Rattle.eif.specs.Roll.{blank_record}
use Rattle.eif_flat.specs.Flat.{flat_record}
use Rattle.eif_flat.proofs.Mapped.{mapped_next, mapped_all}
use Rattle.eif_flat.proofs.flat_records.Goals as goal

-- `flat_records` meets its contract: after i turns the first i are in place. Assumes nothing.
pub loop-i-init : goal.loop-i-init
loop-i-init c = let size : length c.args.records ≡ place_count = search rules in
    (omega arith, record { sizes = sym size; so_far = refl })

pub loop-i-preserved : goal.loop-i-preserved
loop-i-preserved c = let l = c.args.records in
    let o = c.loop-i in
    let size : length l ≡ place_count = search rules in
    (omega arith, mapped_next flat_record l o.flat o.i blank_record c.flat_record.result (omega arith) c.flat_record.ensures o.invariant.1)

pub returns : goal.returns
returns c = let l = c.args.records in
    let size : length l ≡ place_count = search rules in
    mapped_all flat_record l c.loop-i.flat c.loop-i.i (omega arith) c.loop-i.invariant.1
