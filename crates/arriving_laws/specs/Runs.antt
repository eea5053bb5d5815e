-- Runs of calls of the arriving reader, each given the state as the last one left it (FORMAT.md, Check while it arrives).
-- Assumes nothing.
use Rattle.std.specs.Prelude.{ℕ, ◌<◌, Bool, true, false, List, [], ◌∷◌, ◌++◌, take, drop}
use Rattle.octets.specs.Lists.{All}
use Rattle.octets.specs.Logic.{choose}
use Rattle.arriving.specs.State.{state_of}
use Rattle.arriving.specs.Calls.{fed, told_end, finished}
use Rattle.arriving.specs.declared.Arriving.{Arriving}

-- ---- calls

-- a piece handed over with an allowance, or the end told
pub data Call : Type 0 where
  feed : List ℕ → ℕ → Call
  finish : Call

-- the state after a call, and after a run of them
abbrev pub after_call : Arriving → Call → Arriving
after_call a (feed piece allowance) = (fed a piece allowance).state
after_call a finish = (finished a).state

unfoldable pub after_calls : Arriving → List Call → Arriving
after_calls a [] = a
after_calls a (c ∷ cs) = after_calls (after_call a c) cs

-- the state before the first byte
abbrev pub fresh : Arriving
fresh = state_of []

-- the bytes that a call takes, as many of its piece as it reports; and those that a run takes
abbrev pub taken_by : Arriving → Call → List ℕ
taken_by a (feed piece allowance) = take (fed a piece allowance).count piece
taken_by a finish = []

unfoldable pub taken_in : Arriving → List Call → List ℕ
taken_in a [] = []
taken_in a (c ∷ cs) = taken_by a c ++ taken_in (after_call a c) cs

-- whether a run tells the end
unfoldable pub told : List Call → Bool
told [] = false
told (feed piece allowance ∷ cs) = told cs
told (finish ∷ cs) = true

-- what a run hands over: of each piece before the end as many bytes as its call allows
unfoldable pub handed : List Call → List ℕ
handed [] = []
handed (feed piece allowance ∷ cs) = take allowance piece ++ handed cs
handed (finish ∷ cs) = []

-- the defined state of bytes, before or after the end is told
abbrev pub state_at : Bool → List ℕ → Arriving
state_at ended s = choose ended (told_end (state_of s)) (state_of s)

-- ---- a file handed over

-- a turn: so many of the bytes that are left, with an allowance
pub record Turn : Type 0 where
  pub size : ℕ
  pub allowance : ℕ

-- each turn can take a byte
abbrev pub CanTake : List Turn → Type 0
CanTake ts = All (λ (t : Turn). (0 < t.size) × (0 < t.allowance)) ts

-- the state, and what is left of the file
pub record Sending : Type 0 where
  pub state : Arriving
  pub left : List ℕ

abbrev pub unsent : List ℕ → Sending
unsent file = record { state = fresh; left = file }

-- what the call reports as taken is not handed over again
abbrev pub turn : Sending → Turn → Sending
turn x t =
    let answer = fed x.state (take t.size x.left) t.allowance in
    record { state = answer.state; left = drop answer.count x.left }

unfoldable pub turns : Sending → List Turn → Sending
turns x [] = x
turns x (t ∷ ts) = turns (turn x t) ts
