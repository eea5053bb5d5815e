use mathlib.Core.Path.{refl}
use Rattle.writing.specs.Writing.{empty_writing}
use Rattle.writing.proofs.empty.Goals as goal

-- `writing::empty` meets its contract.
pub returns : goal.returns
unfolding empty_writing
returns c = refl
