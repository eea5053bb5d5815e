-- Transfers: calls in turn, each given the state and both buffers as the last one left them, and what the pieces of an image are.
-- Assumes nothing.
use Rattle.std.specs.Prelude.{ℕ, ◌+◌, ◌<◌, ◌≤◌, ◌%◌, ◌≡◌, true, false, List, [], ◌∷◌, ◌++◌, ◌⊎◌, length, take, drop, replicate, eqb}
use Rattle.octets.specs.Logic.{choose}
use Rattle.octets.specs.Lists.{All}
use Rattle.eif.specs.Numbers.{size_limit}
use Rattle.eif.specs.declared.Verdict.TheVariants.{Accepted}
use Rattle.assembler.specs.Records.{piece_size, open_kind, piece_kind, close_kind, kind_in, number_in, data_in, formed, pieces_of, piece_size_at, place_in}
use Rattle.assembler.specs.Rules.{fault_of, is_opened}
use Rattle.assembler.specs.Step.{fresh_state, step_answer, image_after, marks_after}
use Rattle.assembler.specs.declared.State.{State}
use Rattle.assembler.specs.declared.Stepped.{Stepped}

-- ---- calls in turn

-- the state and the contents of both buffers
pub record Memory : Type 0 where
  pub state : State
  pub image : List ℕ
  pub marks : List ℕ

abbrev pub memory : State → List ℕ → List ℕ → Memory
memory state image marks = record { state = state; image = image; marks = marks }

-- what the call with a record answers, and what it leaves: the contract of `assembler_step::step`
abbrev pub answer_to : Memory → List ℕ → Stepped
answer_to w r = step_answer w.state r w.image w.marks

abbrev pub memory_after : Memory → List ℕ → Memory
memory_after w r = memory (answer_to w r).state (image_after w.state r w.image w.marks) (marks_after w.state r w.image w.marks)

-- the number that it refuses with; 0: it is taken
abbrev pub fault_at : Memory → List ℕ → ℕ
fault_at w r = fault_of w.state r w.image w.marks

-- what records in turn leave
unfoldable pub run : Memory → List (List ℕ) → Memory
run w [] = w
run w (r ∷ rs) = run (memory_after w r) rs

-- of records in turn, those that are taken
unfoldable pub taken_of : Memory → List (List ℕ) → List (List ℕ)
taken_of w [] = []
taken_of w (r ∷ rs) =
    let rest = taken_of (memory_after w r) rs in
    choose (eqb (fault_at w r) 0) (r ∷ rest) rest

-- P holds at each call in turn, of the memory before the call and its record
unfoldable pub EachCall : (Memory → List ℕ → Type 0) → Memory → List (List ℕ) → Type 0
EachCall P w [] = Unit
EachCall P w (r ∷ rs) = P w r × EachCall P (memory_after w r) rs

-- each call is accepted
abbrev pub AllAccepted : Memory → List (List ℕ) → Type 0
AllAccepted = EachCall (λ w r. (answer_to w r).verdict ≡ Accepted)

-- ---- records about an image of n bytes, and about an image m

-- an open that announces n bytes
pub record Announces (n : ℕ) (r : List ℕ) : Type 0 where
  pub form : formed r ≡ true
  pub kind : kind_in r ≡ open_kind
  pub announced : number_in r ≡ n

-- an open for m: it announces m's length
abbrev pub OpenFor : List ℕ → List ℕ → Type 0
OpenFor m = Announces (length m)

-- a piece whose start is one of an image of n bytes, and whose bytes are right for that start
pub record PieceWith (n : ℕ) (Right : ℕ → List ℕ → Type 0) (r : List ℕ) : Type 0 where
  pub form : formed r ≡ true
  pub kind : kind_in r ≡ piece_kind
  pub inside : number_in r < n
  pub on_grid : number_in r % piece_size ≡ 0
  pub bytes_are : Right (number_in r) (data_in r)

-- a piece of an image of n bytes: as many bytes as belong there
abbrev pub PieceFor : ℕ → List ℕ → Type 0
PieceFor n = PieceWith n (λ start bytes. length bytes ≡ piece_size_at n start)

-- a piece that agrees with m: the bytes that stand there in m
abbrev pub PieceOf : List ℕ → List ℕ → Type 0
PieceOf m = PieceWith (length m) (λ start bytes. bytes ≡ take piece_size (drop start m))

-- a close
pub record Close (r : List ℕ) : Type 0 where
  pub form : formed r ≡ true
  pub kind : kind_in r ≡ close_kind

-- one of the records carries the piece of a place
unfoldable pub Sent : ℕ → List (List ℕ) → Type 0
Sent k [] = ⊥
Sent k (r ∷ rs) = (place_in r ≡ k) ⊎ Sent k rs

-- and so for each place of an image of n bytes
abbrev pub AllSent : ℕ → List (List ℕ) → Type 0
AllSent n rs = (k : ℕ) → k < pieces_of n → Sent k rs

-- the records are pieces of m, in any order and with any repeats, and together they are complete
pub record Pieces (m : List ℕ) (rs : List (List ℕ)) : Type 0 where
  pub agree : All (PieceOf m) rs
  pub cover : AllSent (length m) rs

-- ---- a transfer of n bytes, from a state that is not open and with room for them: an open that announces n, what is brought, and a close

pub record TransferOf (n : ℕ) (Brought : List (List ℕ) → Type 0) (w : Memory) (o : List ℕ) (rs : List (List ℕ)) (c : List ℕ) : Type 0 where
  pub closed : is_opened w.state ≡ false
  pub small : n ≤ size_limit
  pub image_room : n ≤ length w.image
  pub mark_room : pieces_of n ≤ length w.marks
  pub opens : Announces n o
  pub pieces : Brought rs
  pub closes : Close c

-- a transfer of m: its pieces are brought
abbrev pub Transfer : List ℕ → Memory → List ℕ → List (List ℕ) → List ℕ → Type 0
Transfer m = TransferOf (length m) (Pieces m)

-- m assembled over buffers that held x and y: m stands in the image buffer, the marks of its pieces are 1, every other byte of both buffers is as
-- it was, and no transfer is open
abbrev pub holding : List ℕ → List ℕ → List ℕ → Memory
holding m x y = memory fresh_state (m ++ drop (length m) x) (replicate (pieces_of (length m)) 1 ++ drop (pieces_of (length m)) y)

-- all is accepted, the close reports m's length, and m is assembled
pub record Assembled (m : List ℕ) (w : Memory) (o : List ℕ) (rs : List (List ℕ)) (c : List ℕ) : Type 0 where
  pub accepted : AllAccepted w (o ∷ (rs ++ (c ∷ [])))
  pub reported : (answer_to (run w (o ∷ rs)) c).length ≡ length m
  pub left : run w (o ∷ (rs ++ (c ∷ []))) ≡ holding m w.image w.marks

-- ---- the bytes of the image buffer that a run leaves

-- byte i lies outside a record's piece
abbrev pub Outside : ℕ → List ℕ → Type 0
Outside i r = (i < number_in r) ⊎ (number_in r + length (data_in r) ≤ i)

-- if the call takes a piece, byte i lies outside it
abbrev pub OutsideTaken : ℕ → Memory → List ℕ → Type 0
OutsideTaken i w r = (answer_to w r).verdict ≡ Accepted → kind_in r ≡ piece_kind → Outside i r

-- and so for each call
abbrev pub OutsideAll : ℕ → Memory → List (List ℕ) → Type 0
OutsideAll i = EachCall (OutsideTaken i)

-- the record does not bring the piece of place k
abbrev pub OtherPiece : ℕ → List ℕ → Type 0
OtherPiece k r = kind_in r ≡ piece_kind → place_in r ≡ k → ⊥

-- mark k is of no piece that the record opens or brings
abbrev pub OtherMark : ℕ → List ℕ → Type 0
OtherMark k r = (kind_in r ≡ open_kind → pieces_of (number_in r) ≤ k) × OtherPiece k r

-- ---- any records between the open and the close, also such as are refused

-- a record that is a piece of an image of m's length agrees with m
abbrev pub Agrees : List ℕ → List ℕ → Type 0
Agrees m r = PieceFor (length m) r → PieceOf m r

-- none of the calls closes the transfer: it is open after each
abbrev pub StaysOpen : Memory → List (List ℕ) → Type 0
StaysOpen = EachCall (λ w r. is_opened (memory_after w r).state ≡ true)

-- a piece is taken, any calls follow with the transfer open, and a record comes with the same start and the same bytes
pub record Repeated (w : Memory) (r : List ℕ) (rs : List (List ℕ)) (s : List ℕ) : Type 0 where
  pub taken : (answer_to w r).verdict ≡ Accepted
  pub kind : kind_in r ≡ piece_kind
  pub stays_open : StaysOpen (memory_after w r) rs
  pub form_again : formed s ≡ true
  pub kind_again : kind_in s ≡ piece_kind
  pub same_start : number_in s ≡ number_in r
  pub same_bytes_holds : data_in s ≡ data_in r

-- an open for m that is taken, any records of which no piece disagrees with m and none closes, and a close that is taken
pub record AnyBetween (m : List ℕ) (w : Memory) (o : List ℕ) (rs : List (List ℕ)) (c : List ℕ) : Type 0 where
  pub opens : OpenFor m o
  pub open_accepted : (answer_to w o).verdict ≡ Accepted
  pub agree : All (Agrees m) rs
  pub stays_open : StaysOpen (memory_after w o) rs
  pub closes : Close c
  pub close_accepted : (answer_to (run (memory_after w o) rs) c).verdict ≡ Accepted

-- ---- a piece missing: after an open, any records but the piece of a place, and a close

pub record WithoutPiece (k : ℕ) (w : Memory) (o : List ℕ) (rs : List (List ℕ)) (c : List ℕ) : Type 0 where
  pub open_kind_holds : kind_in o ≡ open_kind
  pub open_accepted : (answer_to w o).verdict ≡ Accepted
  pub of_image : k < pieces_of (number_in o)
  pub not_sent : All (OtherPiece k) rs
  pub closes : Close c
