-- One complete set of pieces of an image of n bytes, none of which disagree, and the image that they are: the pieces joined in the
-- order of their starts. Assumes nothing.
use Rattle.std.specs.Prelude.{ℕ, ◌≡◌, List, [], ◌∷◌, ◌⊎◌, eqb}
use Rattle.octets.specs.Lists.{All}
use Rattle.octets.specs.Logic.{choose}
use Rattle.eif.specs.Table.{join_from}
use Rattle.assembler.specs.Records.{number_in, data_in, pieces_of, place_in}
use Rattle.assembler_laws.specs.Run.{Memory, PieceFor, AllSent, TransferOf}

-- one of the records
unfoldable pub In : List (List ℕ) → List ℕ → Type 0
In [] r = ⊥
In (p ∷ ps) r = (p ≡ r) ⊎ In ps r

pub record CompleteSet (n : ℕ) (ps : List (List ℕ)) : Type 0 where
  pub fit : (r : List ℕ) → In ps r → PieceFor n r
  -- no two pieces for the same start disagree
  pub agree : (r s : List ℕ) → In ps r → In ps s → number_in r ≡ number_in s → data_in r ≡ data_in s
  pub cover : AllSent n ps

-- the bytes of the first record that carries the piece of a place
unfoldable pub bytes_for : List (List ℕ) → ℕ → List ℕ
bytes_for [] k = []
bytes_for (r ∷ rs) k = choose (eqb (place_in r) k) (data_in r) (bytes_for rs k)

-- the pieces of all places, joined
abbrev pub joined_pieces : ℕ → List (List ℕ) → List ℕ
joined_pieces n ps = join_from (bytes_for ps) (pieces_of n) 0

-- any order and any repeats of the set
pub record AnyOrder (n : ℕ) (ps rs : List (List ℕ)) : Type 0 where
  pub from_set : All (In ps) rs
  pub cover : AllSent n rs

-- a transfer of n bytes: the set is brought, in any order and with any repeats
abbrev pub SetTransfer : ℕ → List (List ℕ) → Memory → List ℕ → List (List ℕ) → List ℕ → Type 0
SetTransfer n ps = TransferOf n (AnyOrder n ps)
