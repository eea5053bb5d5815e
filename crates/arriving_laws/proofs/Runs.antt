-- The laws of a state begun fresh and given to each call as the last one left it (FORMAT.md, Check while it arrives): however the file was
-- cut, the state is the defined one of the bytes taken, and the answer is the whole reader's on them.
-- Assumes nothing.
use Prim.Native.Nat.{ℕ, ◌<◌, ◌≤◌, min}
use mathlib.Core.Path.{◌≡◌, refl, sym, ap, ap₂, ◌∙◌}
use mathlib.Core.Bool.{Bool, true, false}
use mathlib.Core.List.{List, [], ◌∷◌, ◌++◌, append_assoc, append-nil}
use native.Mathlib.Omega.{arith}
use lib.ListN.{length, take, drop, length-take, length-drop, take-append-drop}
use lib.Seq.{take-take}
use Rattle.octets.proofs.Lists.{take_min, none_of}
use Rattle.octets.specs.Lists.{All}
use Rattle.eif.specs.Numbers.{size_limit, image_too_long}
use Rattle.eif.specs.Answers.{number_of}
use Rattle.eif.specs.Reading.{read_image}
use Rattle.eif.specs.declared.Reading.{Reading}
use Rattle.arriving.specs.State.{count_limit, state_of}
use Rattle.arriving.specs.Calls.{fed, answer_of, told_end, finished, fed_with}
use Rattle.arriving.specs.declared.Arriving.{Arriving}
use Rattle.arriving.specs.declared.Fed.{Fed}
use Rattle.arriving.proofs.Steps.{fed_open, fed_ended}
use Rattle.arriving_laws.specs.Runs.{Call, feed, finish, after_call, after_calls, fresh, taken_by, taken_in, told, handed, state_at, Turn, CanTake, Sending, unsent, turn, turns}
use Rattle.arriving_laws.proofs.Growth.{taken_of_holds, open_of, state_grows}
use Rattle.arriving_laws.proofs.Answer.{image_too_long_holds, answer_of_holds}
use Rattle.octets.proofs.Logic.{choose_holds}

-- ---- one call

-- before the end is told
pub fed_state : (s piece : List ℕ) (allowance : ℕ) → fed (state_of s) piece allowance ≡ fed_with (state_of (s ++ take allowance piece)) (min allowance (length piece))
fed_state s piece allowance =
    fed_open (state_of s) piece allowance (open_of s) ∙ ap (λ (a : Arriving). fed_with a (min allowance (length piece))) (state_grows s (take allowance piece))

pub told_ended : (a : Arriving) → (told_end a).ended ≡ 1
unfolding told_end
told_ended a = refl

-- after it
fed_told : (a : Arriving) (piece : List ℕ) (allowance : ℕ) → fed (told_end a) piece allowance ≡ fed_with (told_end a) 0
fed_told a piece allowance =
    fed_ended (told_end a) piece allowance (λ e. omega (arith, told_ended a, e))

-- telling the end again: the same answer, and the state as it was; of any state
pub finish_again : (a : Arriving) → finished (finished a).state ≡ finished a
unfolding finished told_end answer_of
finish_again a = refl

finish_state : (a : Arriving) → (finished a).state ≡ told_end a
unfolding finished
finish_state a = refl

finish_reading : (a : Arriving) → (finished a).reading ≡ answer_of a
unfolding finished
finish_reading a = refl

told_again : (a : Arriving) → told_end (told_end a) ≡ told_end a
unfolding told_end
told_again a = refl

told_taken : (a : Arriving) → (told_end a).taken ≡ a.taken
unfolding told_end
told_taken a = refl

told_answer : (a : Arriving) → answer_of (told_end a) ≡ answer_of a
unfolding told_end answer_of
told_answer a = refl

-- ---- after the end is told nothing changes, and nothing is taken

pub after_told : (a : Arriving) (c : Call) → after_call (told_end a) c ≡ told_end a
after_told a (feed piece allowance) = ap (λ (f : Fed). f.state) (fed_told a piece allowance)
after_told a finish = finish_state (told_end a) ∙ told_again a

none_told : (a : Arriving) (c : Call) → taken_by (told_end a) c ≡ []
none_told a (feed piece allowance) = ap (λ (f : Fed). take f.count piece) (fed_told a piece allowance)
none_told a finish = refl

run_told : (a : Arriving) (cs : List Call) → after_calls (told_end a) cs ≡ told_end a
unfolding after_calls
run_told a [] = refl
run_told a (c ∷ cs) = ap (λ (b : Arriving). after_calls b cs) (after_told a c) ∙ run_told a cs

taken_told : (a : Arriving) (cs : List Call) → taken_in (told_end a) cs ≡ []
unfolding taken_in
taken_told a [] = refl
taken_told a (c ∷ cs) =
    ap₂ (λ (x y : List ℕ). x ++ y) (none_told a c) (ap (λ (b : Arriving). taken_in b cs) (after_told a c) ∙ taken_told a cs)

-- ---- a run from the state of bytes

taken_from : (s : List ℕ) (cs : List Call) → taken_in (state_of s) cs ≡ handed cs
unfolding taken_in handed
taken_from s [] = refl
taken_from s (feed piece allowance ∷ cs) =
    ap₂ (λ (x y : List ℕ). x ++ y)
    (ap (λ (f : Fed). take f.count piece) (fed_state s piece allowance) ∙ take_min allowance piece)
    (ap (λ (f : Fed). taken_in f.state cs) (fed_state s piece allowance) ∙ taken_from (s ++ take allowance piece) cs)
taken_from s (finish ∷ cs) = ap (λ (a : Arriving). taken_in a cs) (finish_state (state_of s)) ∙ taken_told (state_of s) cs

run_from : (s : List ℕ) (cs : List Call) → after_calls (state_of s) cs ≡ state_at (told cs) (s ++ handed cs)
unfolding after_calls told handed
run_from s [] = ap state_of (sym (append-nil s))
run_from s (feed piece allowance ∷ cs) =
    ap (λ (f : Fed). after_calls f.state cs) (fed_state s piece allowance) ∙ run_from (s ++ take allowance piece) cs
    ∙ ap (state_at (told cs)) (append_assoc s (take allowance piece) (handed cs))
run_from s (finish ∷ cs) =
    ap (λ (a : Arriving). after_calls a cs) (finish_state (state_of s)) ∙ run_told (state_of s) cs ∙ ap (λ (l : List ℕ). told_end (state_of l)) (sym (append-nil s))

-- ---- the laws of any run of calls from the fresh state

module _ (cs : List Call) where
  -- the bytes taken are those handed over before the end, of each piece as many as allowed
  pub taken_is : taken_in fresh cs ≡ handed cs
  taken_is = taken_from [] cs

  -- the state is the defined state of exactly the bytes taken
  pub run_state_holds : after_calls fresh cs ≡ state_at (told cs) (taken_in fresh cs)
  run_state_holds = run_from [] cs ∙ ap (state_at (told cs)) (sym taken_is)

  -- finishing gives the whole reader's answer on the bytes taken, refusal and index included; also where the end was told before
  pub run_answer : (finished (after_calls fresh cs)).reading ≡ read_image (taken_in fresh cs)
  run_answer =
      let s = taken_in fresh cs in
      finish_reading (after_calls fresh cs) ∙ ap answer_of run_state_holds
      ∙ choose_holds (λ (a : Arriving). answer_of a ≡ read_image s) (told cs) _ _ (λ _. told_answer (state_of s) ∙ answer_of_holds s) (λ _. answer_of_holds s)

  -- the counter has the number of bytes taken, and stops where 64 bits end
  pub run_counter : (after_calls fresh cs).taken ≡ min count_limit (length (taken_in fresh cs))
  run_counter =
      let s = taken_in fresh cs in
      ap (λ (a : Arriving). a.taken) run_state_holds
      ∙ choose_holds (λ (a : Arriving). a.taken ≡ length (take count_limit s)) (told cs) _ _ (λ _. told_taken (state_of s) ∙ taken_of_holds s) (λ _. taken_of_holds s)
      ∙ length-take count_limit s

  -- past the limit of an image, as where the counter stops, the answer is 1
  pub run_too_long : size_limit < length (taken_in fresh cs) → number_of (finished (after_calls fresh cs)).reading.verdict ≡ image_too_long
  run_too_long h = ap (λ (r : Reading). number_of r.verdict) (run_answer ∙ image_too_long_holds (taken_in fresh cs) h)

  module _ (going : told cs ≡ false) where
    open_state_holds : after_calls fresh cs ≡ state_of (taken_in fresh cs)
    open_state_holds = run_state_holds ∙ ap (λ (b : Bool). state_at b (taken_in fresh cs)) going

    module _ (piece : List ℕ) (allowance : ℕ) where
      -- until the end is told, a piece is taken up to the allowance
      pub count_open : (fed (after_calls fresh cs) piece allowance).count ≡ min allowance (length piece)
      count_open = ap (λ (a : Arriving). (fed a piece allowance).count) open_state_holds ∙ ap (λ (f : Fed). f.count) (fed_state (taken_in fresh cs) piece allowance)

      -- so at least one byte, where there is one and one is allowed
      pub takes_one : 0 < allowance → 0 < length piece → 0 < (fed (after_calls fresh cs) piece allowance).count
      takes_one h g = rw count_open (omega arith)

  module _ (ended : told cs ≡ true) where
    ended_state : after_calls fresh cs ≡ told_end (state_of (taken_in fresh cs))
    ended_state = run_state_holds ∙ ap (λ (b : Bool). state_at b (taken_in fresh cs)) ended

    -- after the end is told nothing is taken
    pub count_ended : (piece : List ℕ) (allowance : ℕ) → (fed (after_calls fresh cs) piece allowance).count ≡ 0
    count_ended piece allowance =
        ap (λ (a : Arriving). (fed a piece allowance).count) ended_state ∙ ap (λ (f : Fed). f.count) (fed_told (state_of (taken_in fresh cs)) piece allowance)

    -- and no call changes the state
    pub ended_stays : (c : Call) → after_call (after_calls fresh cs) c ≡ after_calls fresh cs
    ended_stays c = ap (λ (a : Arriving). after_call a c) ended_state ∙ after_told (state_of (taken_in fresh cs)) c ∙ sym ended_state

-- ---- a file handed over in turns

abbrev sending : List ℕ → List ℕ → Sending
sending before left = record { state = state_of before; left = left }

-- one turn takes the first k bytes of what is left
turn_takes : (before left : List ℕ) (t : Turn) (k : ℕ) → k ≡ min t.allowance (length (take t.size left))
    → turn (sending before left) t ≡ sending (before ++ take k left) (drop k left)
turn_takes before left t k e =
    ap (λ (f : Fed). still f) (fed_state before (take t.size left) t.allowance)
    ∙ ap₂ (λ (l : List ℕ) (n : ℕ). sending (before ++ l) (drop n left)) cut (sym e)
  where
    still : Fed → Sending
    still f = record { state = f.state; left = drop f.count left }

    cut : take t.allowance (take t.size left) ≡ take k left
    cut =
        let h : k ≤ t.size = rw (e, length-take t.size left) (omega arith) in
        sym (take_min t.allowance (take t.size left)) ∙ ap (λ (n : ℕ). take n (take t.size left)) (sym e) ∙ take-take k t.size left h

ends_from : (before left : List ℕ) (ts : List Turn) → CanTake ts → length left ≤ length ts → turns (sending before left) ts ≡ sending (before ++ left) []
unfolding All turns
ends_from before left [] w h =
    let e = none_of left (omega arith) in
    ap₂ sending (sym (append-nil before) ∙ ap (λ (l : List ℕ). before ++ l) (sym e)) e
ends_from before left (t ∷ ts) w h =
    let k = min t.allowance (length (take t.size left)) in
    let n : length (drop k left) ≤ length ts = rw (length-drop k left, length-take t.size left) (omega (arith, w.0.0, w.0.1)) in
    ap (λ (x : Sending). turns x ts) (turn_takes before left t k refl)
    ∙ ends_from (before ++ take k left) (drop k left) ts w.1 n
    ∙ ap (λ (l : List ℕ). sending l []) (append_assoc before (take k left) (drop k left) ∙ ap (λ (l : List ℕ). before ++ l) (take-append-drop k left))

module _ (file : List ℕ) (ts : List Turn) (able : CanTake ts) (enough : length file ≤ length ts) where
  -- a file of n bytes ends within n turns that can take a byte: nothing is left, and the state is the file's
  pub file_ends : turns (unsent file) ts ≡ record { state = state_of file; left = [] }
  file_ends = ends_from [] file ts able enough

  -- and the end then told, its answer is the whole reader's
  pub file_answer : (finished (turns (unsent file) ts).state).reading ≡ read_image file
  file_answer = ap (λ (x : Sending). (finished x.state).reading) file_ends ∙ finish_reading (state_of file) ∙ answer_of_holds file
