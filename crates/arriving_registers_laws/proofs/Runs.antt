-- The laws of runs from the fresh state, in which each call gets the state that the call before it left (FORMAT.md, Registers and Check while it
-- arrives): however the file was cut, the state is the defined state of the bytes taken, and the answer is their reading and their registers.
use Prim.Native.Nat.{ℕ, min}
use mathlib.Core.Path.{◌≡◌, refl, sym, ap, ap₂, ◌∙◌}
use mathlib.Core.Bool.{Bool, true, false}
use mathlib.Core.List.{List, [], ◌∷◌, ◌++◌, append_assoc, append-nil}
use native.Mathlib.Omega.{arith}
use lib.ListN.{length, take}
use Rattle.octets.proofs.Lists.{take_min}
use Rattle.octets.proofs.Logic.{choose_holds}
use Rattle.eif.specs.Reading.{read_image}
use Rattle.sha384_laws.proofs.Fed.{fresh_fed, fed_nothing}
use Rattle.sha384.specs.State.{initial_state, state_after}
use Rattle.eif_registers.specs.Registers.{registers_answer}
use Rattle.arriving.specs.State.{state_of}
use Rattle.arriving.specs.Calls.{told_end, answer_of}
use Rattle.arriving_laws.specs.Runs.{Call, feed, finish, told, handed}
use Rattle.arriving_laws.proofs.Runs.{told_ended}
use Rattle.arriving_sections_laws.proofs.Growth.{data_early}
use Rattle.arriving_registers.specs.Measuring.{streams_of, measuring_of, fresh_measuring, fed_measuring_with, fed_measuring, finished_measuring}
use Rattle.arriving_registers.specs.declared.Measuring.{Measuring}
use Rattle.arriving_registers.specs.declared.Fed.{Fed}
use Rattle.arriving_registers.specs.declared.Finished.{Finished}
use Rattle.arriving_registers.proofs.Steps.{fed_ended}
use Rattle.eif.specs.declared.Stream.{Stream}
use Rattle.eif.specs.declared.Stream.TheVariants.{Whole, Boot, App}
use Rattle.eif.specs.Numbers.{place_count}
use Rattle.arriving_registers_laws.specs.Streams.{measured_so_far, stream_so_far, digest_so_far, digests_so_far, measured_of}
use Rattle.arriving_registers_laws.specs.Runs.{measuring_after_call, measuring_after, measuring_taken_by, measuring_taken, told_of, measuring_at}
use Rattle.arriving_sections_laws.proofs.Joined.{join_none}
use Rattle.arriving_registers_laws.proofs.Streams.{kept_nothing}
use Rattle.arriving_registers_laws.proofs.Growth.{fed_measured}
use Rattle.arriving_registers_laws.proofs.Answer.{reading_is, registers_are}

-- ---- the fresh state

none_so_far : (stream : Stream) → stream_so_far [] stream ≡ []
unfolding stream_so_far
none_so_far stream = join_none (measured_so_far stream []) place_count 0 (λ j l. kept_nothing stream [] j (data_early [] j (omega arith)))

pub fresh_is : fresh_measuring ≡ measured_of []
unfolding fresh_measuring digests_so_far
fresh_is = λ u. measuring_of (state_of []) (streams_of (each Whole u) (each Boot u) (each App u))
  where
    each : (stream : Stream) → initial_state ≡ digest_so_far [] stream
    each stream = sym (fed_nothing initial_state) ∙ fresh_fed [] ∙ ap state_after (sym (none_so_far stream))

-- ---- after the end nothing changes, and nothing is taken

finish_state : (m : Measuring) → (finished_measuring m).state ≡ told_of m
unfolding finished_measuring
finish_state m = refl

-- finishing again gives the same answer and leaves the state as it was; this holds for any state
pub finish_again : (m : Measuring) → finished_measuring (finished_measuring m).state ≡ finished_measuring m
unfolding finished_measuring told_end answer_of
finish_again m = refl

told_again : (m : Measuring) → finished_measuring (told_of m) ≡ finished_measuring m
unfolding finished_measuring told_end answer_of
told_again m = refl

fed_told : (m : Measuring) (piece : List ℕ) (allowance : ℕ) → fed_measuring (told_of m) piece allowance ≡ fed_measuring_with (told_of m) 0
fed_told m piece allowance = fed_ended (told_of m) piece allowance (λ e. omega (arith, told_ended m.arriving, e))

pub after_told : (m : Measuring) (c : Call) → measuring_after_call (told_of m) c ≡ told_of m
after_told m (feed piece allowance) = ap (λ (f : Fed). f.state) (fed_told m piece allowance)
after_told m finish = ap (λ (f : Finished). f.state) (told_again m) ∙ finish_state m

none_told : (m : Measuring) (c : Call) → measuring_taken_by (told_of m) c ≡ []
none_told m (feed piece allowance) = ap (λ (f : Fed). take f.count piece) (fed_told m piece allowance)
none_told m finish = refl

run_told : (m : Measuring) (cs : List Call) → measuring_after (told_of m) cs ≡ told_of m
unfolding measuring_after
run_told m [] = refl
run_told m (c ∷ cs) = ap (λ (b : Measuring). measuring_after b cs) (after_told m c) ∙ run_told m cs

taken_told : (m : Measuring) (cs : List Call) → measuring_taken (told_of m) cs ≡ []
unfolding measuring_taken
taken_told m [] = refl
taken_told m (c ∷ cs) = ap₂ (λ (x y : List ℕ). x ++ y) (none_told m c) (ap (λ (b : Measuring). measuring_taken b cs) (after_told m c) ∙ taken_told m cs)

-- ---- a run from the state of bytes

taken_from : (s : List ℕ) (cs : List Call) → measuring_taken (measured_of s) cs ≡ handed cs
unfolding measuring_taken handed
taken_from s [] = refl
taken_from s (feed piece allowance ∷ cs) =
    ap₂ (λ (x y : List ℕ). x ++ y)
    (ap (λ (f : Fed). take f.count piece) (fed_measured s piece allowance) ∙ take_min allowance piece)
    (ap (λ (f : Fed). measuring_taken f.state cs) (fed_measured s piece allowance) ∙ taken_from (s ++ take allowance piece) cs)
taken_from s (finish ∷ cs) = ap (λ (m : Measuring). measuring_taken m cs) (finish_state (measured_of s)) ∙ taken_told (measured_of s) cs

run_from : (s : List ℕ) (cs : List Call) → measuring_after (measured_of s) cs ≡ measuring_at (told cs) (s ++ handed cs)
unfolding measuring_after told handed
run_from s [] = ap measured_of (sym (append-nil s))
run_from s (feed piece allowance ∷ cs) =
    ap (λ (f : Fed). measuring_after f.state cs) (fed_measured s piece allowance) ∙ run_from (s ++ take allowance piece) cs
    ∙ ap (measuring_at (told cs)) (append_assoc s (take allowance piece) (handed cs))
run_from s (finish ∷ cs) =
    ap (λ (m : Measuring). measuring_after m cs) (finish_state (measured_of s)) ∙ run_told (measured_of s) cs ∙ ap (λ (l : List ℕ). told_of (measured_of l)) (sym (append-nil s))

-- ---- the laws of any run of calls from the fresh state

module _ (cs : List Call) where
  -- the bytes taken are the allowed bytes of each piece handed over before the end
  pub taken_is : measuring_taken fresh_measuring cs ≡ handed cs
  taken_is = ap (λ (m : Measuring). measuring_taken m cs) fresh_is ∙ taken_from [] cs

  -- the state is the defined state of exactly the bytes taken
  pub run_state_holds : measuring_after fresh_measuring cs ≡ measuring_at (told cs) (measuring_taken fresh_measuring cs)
  run_state_holds = ap (λ (m : Measuring). measuring_after m cs) fresh_is ∙ run_from [] cs ∙ ap (measuring_at (told cs)) (sym taken_is)

  finish_same : finished_measuring (measuring_after fresh_measuring cs) ≡ finished_measuring (measured_of (measuring_taken fresh_measuring cs))
  finish_same =
      ap finished_measuring run_state_holds
      ∙ choose_holds (λ (m : Measuring). finished_measuring m ≡ finished_measuring (measured_of (measuring_taken fresh_measuring cs))) (told cs) _ _ (λ _. told_again (measured_of (measuring_taken fresh_measuring cs))) (λ _. refl)

  -- finishing gives the whole reader's answer on the bytes taken, also after an earlier finish
  pub run_answer : (finished_measuring (measuring_after fresh_measuring cs)).reading ≡ read_image (measuring_taken fresh_measuring cs)
  run_answer = ap (λ (f : Finished). f.reading) finish_same ∙ reading_is (measuring_taken fresh_measuring cs)

  -- finishing gives the registers of the bytes taken, all zero for a refused image
  pub run_registers : (finished_measuring (measuring_after fresh_measuring cs)).registers ≡ (registers_answer (measuring_taken fresh_measuring cs)).registers
  run_registers = ap (λ (f : Finished). f.registers) finish_same ∙ registers_are (measuring_taken fresh_measuring cs)

  module _ (going : told cs ≡ false) where
    open_state_holds : measuring_after fresh_measuring cs ≡ measured_of (measuring_taken fresh_measuring cs)
    open_state_holds = run_state_holds ∙ ap (λ (b : Bool). measuring_at b (measuring_taken fresh_measuring cs)) going

    -- before the end, a piece is taken up to the allowance
    pub count_open : (piece : List ℕ) (allowance : ℕ) → (fed_measuring (measuring_after fresh_measuring cs) piece allowance).count ≡ min allowance (length piece)
    count_open piece allowance = ap (λ (m : Measuring). (fed_measuring m piece allowance).count) open_state_holds ∙ ap (λ (f : Fed). f.count) (fed_measured (measuring_taken fresh_measuring cs) piece allowance)

  module _ (ended : told cs ≡ true) where
    ended_state : measuring_after fresh_measuring cs ≡ told_of (measured_of (measuring_taken fresh_measuring cs))
    ended_state = run_state_holds ∙ ap (λ (b : Bool). measuring_at b (measuring_taken fresh_measuring cs)) ended

    -- after the end nothing is taken
    pub count_ended : (piece : List ℕ) (allowance : ℕ) → (fed_measuring (measuring_after fresh_measuring cs) piece allowance).count ≡ 0
    count_ended piece allowance = ap (λ (m : Measuring). (fed_measuring m piece allowance).count) ended_state ∙ ap (λ (f : Fed). f.count) (fed_told (measured_of (measuring_taken fresh_measuring cs)) piece allowance)

    -- after the end no call changes the state
    pub ended_stays : (c : Call) → measuring_after_call (measuring_after fresh_measuring cs) c ≡ measuring_after fresh_measuring cs
    ended_stays c = ap (λ (m : Measuring). measuring_after_call m c) ended_state ∙ after_told (measured_of (measuring_taken fresh_measuring cs)) c ∙ sym ended_state
