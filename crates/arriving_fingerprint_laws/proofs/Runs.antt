-- The laws of runs from the fresh state, in which each call gets the state that the call before it left (FORMAT.md, The boot roll and Check while
-- it arrives): however the file was cut, the state is the defined state of the bytes taken, and the answer is their reading and fingerprint.
use Prim.Native.Nat.{ℕ, min}
use mathlib.Core.Path.{◌≡◌, refl, sym, ap, ap₂, ◌∙◌}
use mathlib.Core.Bool.{Bool, true, false}
use mathlib.Core.List.{List, [], ◌∷◌, ◌++◌, append_assoc, append-nil}
use native.Mathlib.Omega.{arith}
use lib.ListN.{length, take}
use Rattle.octets.proofs.Lists.{take_min}
use Rattle.octets.proofs.Logic.{choose_holds}
use Rattle.eif.specs.Reading.{read_image}
use Rattle.sha384_laws.proofs.Fed.{fresh_fed, fed_nothing}
use Rattle.sha384.specs.State.{initial_state, state_after}
use Rattle.eif_fingerprint.specs.Fingerprint.{fingerprint_answer}
use Rattle.arriving.specs.State.{state_of}
use Rattle.arriving.specs.Calls.{told_end, answer_of}
use Rattle.arriving_laws.specs.Runs.{Call, feed, finish, told, handed}
use Rattle.arriving_laws.proofs.Runs.{told_ended}
use Rattle.arriving_fingerprint.specs.Fingerprinting.{fingerprinting_of, fresh_fingerprinting, fed_fingerprinting_with, fed_fingerprinting, finished_fingerprinting}
use Rattle.arriving_fingerprint.specs.declared.Fingerprinting.{Fingerprinting}
use Rattle.arriving_fingerprint.specs.declared.Fed.{Fed}
use Rattle.arriving_fingerprint.specs.declared.Finished.{Finished}
use Rattle.arriving_fingerprint.proofs.Steps.{fed_ended}
use Rattle.arriving_fingerprint_laws.specs.Roll.{roll_so_far, fingerprinting_state}
use Rattle.arriving_fingerprint_laws.specs.Runs.{fingerprinting_after_call, fingerprinting_after, fingerprinting_taken_by, fingerprinting_taken, ended_fingerprinting, fingerprinting_at}
use Rattle.arriving_fingerprint_laws.proofs.Growth.{roll_early, flags_none, fed_fingerprinting_holds}
use Rattle.arriving_fingerprint_laws.proofs.Answer.{reading_is, digest_is}

-- ---- the fresh state

none_so_far : roll_so_far [] ≡ []
none_so_far = roll_early [] (omega arith) ∙ flags_none [] (omega arith)

pub fresh_is : fresh_fingerprinting ≡ fingerprinting_state []
unfolding fresh_fingerprinting
fresh_is = ap (fingerprinting_of (state_of [])) (sym (fed_nothing initial_state) ∙ fresh_fed [] ∙ ap state_after (sym none_so_far))

-- ---- after the end nothing changes, and nothing is taken

finish_state : (m : Fingerprinting) → (finished_fingerprinting m).state ≡ ended_fingerprinting m
unfolding finished_fingerprinting
finish_state m = refl

-- finishing again gives the same answer and leaves the state as it was; this holds for any state
pub finish_again : (m : Fingerprinting) → finished_fingerprinting (finished_fingerprinting m).state ≡ finished_fingerprinting m
unfolding finished_fingerprinting told_end answer_of
finish_again m = refl

told_again : (m : Fingerprinting) → finished_fingerprinting (ended_fingerprinting m) ≡ finished_fingerprinting m
unfolding finished_fingerprinting told_end answer_of
told_again m = refl

fed_told : (m : Fingerprinting) (piece : List ℕ) (allowance : ℕ) → fed_fingerprinting (ended_fingerprinting m) piece allowance ≡ fed_fingerprinting_with (ended_fingerprinting m) 0
fed_told m piece allowance = fed_ended (ended_fingerprinting m) piece allowance (λ e. omega (arith, told_ended m.arriving, e))

pub after_told : (m : Fingerprinting) (c : Call) → fingerprinting_after_call (ended_fingerprinting m) c ≡ ended_fingerprinting m
after_told m (feed piece allowance) = ap (λ (f : Fed). f.state) (fed_told m piece allowance)
after_told m finish = ap (λ (f : Finished). f.state) (told_again m) ∙ finish_state m

none_told : (m : Fingerprinting) (c : Call) → fingerprinting_taken_by (ended_fingerprinting m) c ≡ []
none_told m (feed piece allowance) = ap (λ (f : Fed). take f.count piece) (fed_told m piece allowance)
none_told m finish = refl

run_told : (m : Fingerprinting) (cs : List Call) → fingerprinting_after (ended_fingerprinting m) cs ≡ ended_fingerprinting m
unfolding fingerprinting_after
run_told m [] = refl
run_told m (c ∷ cs) = ap (λ (b : Fingerprinting). fingerprinting_after b cs) (after_told m c) ∙ run_told m cs

taken_told : (m : Fingerprinting) (cs : List Call) → fingerprinting_taken (ended_fingerprinting m) cs ≡ []
unfolding fingerprinting_taken
taken_told m [] = refl
taken_told m (c ∷ cs) = ap₂ (λ (x y : List ℕ). x ++ y) (none_told m c) (ap (λ (b : Fingerprinting). fingerprinting_taken b cs) (after_told m c) ∙ taken_told m cs)

-- ---- a run from the state of bytes

taken_from : (s : List ℕ) (cs : List Call) → fingerprinting_taken (fingerprinting_state s) cs ≡ handed cs
unfolding fingerprinting_taken handed
taken_from s [] = refl
taken_from s (feed piece allowance ∷ cs) =
    ap₂ (λ (x y : List ℕ). x ++ y)
    (ap (λ (f : Fed). take f.count piece) (fed_fingerprinting_holds s piece allowance) ∙ take_min allowance piece)
    (ap (λ (f : Fed). fingerprinting_taken f.state cs) (fed_fingerprinting_holds s piece allowance) ∙ taken_from (s ++ take allowance piece) cs)
taken_from s (finish ∷ cs) = ap (λ (m : Fingerprinting). fingerprinting_taken m cs) (finish_state (fingerprinting_state s)) ∙ taken_told (fingerprinting_state s) cs

run_from : (s : List ℕ) (cs : List Call) → fingerprinting_after (fingerprinting_state s) cs ≡ fingerprinting_at (told cs) (s ++ handed cs)
unfolding fingerprinting_after told handed
run_from s [] = ap fingerprinting_state (sym (append-nil s))
run_from s (feed piece allowance ∷ cs) =
    ap (λ (f : Fed). fingerprinting_after f.state cs) (fed_fingerprinting_holds s piece allowance) ∙ run_from (s ++ take allowance piece) cs
    ∙ ap (fingerprinting_at (told cs)) (append_assoc s (take allowance piece) (handed cs))
run_from s (finish ∷ cs) =
    ap (λ (m : Fingerprinting). fingerprinting_after m cs) (finish_state (fingerprinting_state s)) ∙ run_told (fingerprinting_state s) cs ∙ ap (λ (l : List ℕ). ended_fingerprinting (fingerprinting_state l)) (sym (append-nil s))

-- ---- the laws of any run of calls from the fresh state

module _ (cs : List Call) where
  -- the bytes taken are the allowed bytes of each piece handed over before the end
  pub taken_is : fingerprinting_taken fresh_fingerprinting cs ≡ handed cs
  taken_is = ap (λ (m : Fingerprinting). fingerprinting_taken m cs) fresh_is ∙ taken_from [] cs

  -- the state is the defined state of exactly the bytes taken
  pub run_state_holds : fingerprinting_after fresh_fingerprinting cs ≡ fingerprinting_at (told cs) (fingerprinting_taken fresh_fingerprinting cs)
  run_state_holds = ap (λ (m : Fingerprinting). fingerprinting_after m cs) fresh_is ∙ run_from [] cs ∙ ap (fingerprinting_at (told cs)) (sym taken_is)

  finish_same : finished_fingerprinting (fingerprinting_after fresh_fingerprinting cs) ≡ finished_fingerprinting (fingerprinting_state (fingerprinting_taken fresh_fingerprinting cs))
  finish_same =
      ap finished_fingerprinting run_state_holds
      ∙ choose_holds (λ (m : Fingerprinting). finished_fingerprinting m ≡ finished_fingerprinting (fingerprinting_state (fingerprinting_taken fresh_fingerprinting cs))) (told cs) _ _ (λ _. told_again (fingerprinting_state (fingerprinting_taken fresh_fingerprinting cs))) (λ _. refl)

  -- finishing gives the whole reader's answer on the bytes taken, also after an earlier finish
  pub run_answer : (finished_fingerprinting (fingerprinting_after fresh_fingerprinting cs)).reading ≡ read_image (fingerprinting_taken fresh_fingerprinting cs)
  run_answer = ap (λ (f : Finished). f.reading) finish_same ∙ reading_is (fingerprinting_taken fresh_fingerprinting cs)

  -- finishing gives the fingerprint of the bytes taken, as `eif_fingerprint::fingerprint` answers it: zero for a refused image
  pub run_digest : (finished_fingerprinting (fingerprinting_after fresh_fingerprinting cs)).digest ≡ (fingerprint_answer (fingerprinting_taken fresh_fingerprinting cs)).digest
  run_digest = ap (λ (f : Finished). f.digest) finish_same ∙ digest_is (fingerprinting_taken fresh_fingerprinting cs)

  module _ (going : told cs ≡ false) where
    open_state_holds : fingerprinting_after fresh_fingerprinting cs ≡ fingerprinting_state (fingerprinting_taken fresh_fingerprinting cs)
    open_state_holds = run_state_holds ∙ ap (λ (b : Bool). fingerprinting_at b (fingerprinting_taken fresh_fingerprinting cs)) going

    -- before the end, a piece is taken up to the allowance
    pub count_open : (piece : List ℕ) (allowance : ℕ) → (fed_fingerprinting (fingerprinting_after fresh_fingerprinting cs) piece allowance).count ≡ min allowance (length piece)
    count_open piece allowance = ap (λ (m : Fingerprinting). (fed_fingerprinting m piece allowance).count) open_state_holds ∙ ap (λ (f : Fed). f.count) (fed_fingerprinting_holds (fingerprinting_taken fresh_fingerprinting cs) piece allowance)

  module _ (ended : told cs ≡ true) where
    ended_state : fingerprinting_after fresh_fingerprinting cs ≡ ended_fingerprinting (fingerprinting_state (fingerprinting_taken fresh_fingerprinting cs))
    ended_state = run_state_holds ∙ ap (λ (b : Bool). fingerprinting_at b (fingerprinting_taken fresh_fingerprinting cs)) ended

    -- after the end nothing is taken
    pub count_ended : (piece : List ℕ) (allowance : ℕ) → (fed_fingerprinting (fingerprinting_after fresh_fingerprinting cs) piece allowance).count ≡ 0
    count_ended piece allowance = ap (λ (m : Fingerprinting). (fed_fingerprinting m piece allowance).count) ended_state ∙ ap (λ (f : Fed). f.count) (fed_told (fingerprinting_state (fingerprinting_taken fresh_fingerprinting cs)) piece allowance)

    -- after the end no call changes the state
    pub ended_stays : (c : Call) → fingerprinting_after_call (fingerprinting_after fresh_fingerprinting cs) c ≡ fingerprinting_after fresh_fingerprinting cs
    ended_stays c = ap (λ (m : Fingerprinting). fingerprinting_after_call m c) ended_state ∙ after_told (fingerprinting_state (fingerprinting_taken fresh_fingerprinting cs)) c ∙ sym ended_state
