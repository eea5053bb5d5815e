-- The laws of writing a staged view in pieces: a run of steps from `begin` writes the image written afresh but for its checksum field, however the
-- output buffers are cut. All laws suppose that begin accepts; what else a law supposes stands in its statement.
use Prim.Native.Nat.{ℕ, zero, suc, ◌+◌, ◌-◌, ◌<◌, ◌≤◌, min}
use mathlib.Core.Path.{◌≡◌, refl, sym, ap, ap₂, ◌∙◌}
use mathlib.Core.List.{List, [], ◌∷◌, ◌++◌, append_assoc, append-nil}
use mathlib.Core.Logic.{⊎_elim}
use native.Mathlib.Omega.{arith}
use lib.ListN.{length, take, drop, length-append, length-take, length-drop}
use lib.Seq.{take-nil, drop-nil, take-add, take-take, take_all, drop-length, drop-drop}
use Rattle.octets.specs.Bytes.{be_bytes}
use Rattle.octets.specs.Over.{over}
use Rattle.octets.proofs.Logic.{equal_or_not, le_or_lt}
use Rattle.octets.proofs.Lists.{take_min}
use Rattle.eif.specs.Numbers.{place_count}
use Rattle.eif.specs.Answers.{beside}
use Rattle.eif.specs.Layout.{checksum_at, count_of, offset_at, section_header_size}
use Rattle.eif.specs.Output.{written_for}
use Rattle.eif.specs.Reading.{section_at, own_data}
use Rattle.eif.specs.Plan.{planned_size, data_before, plain_size, piece_at, plain_image, plan_length}
use Rattle.eif.specs.declared.Place.{Place}
use Rattle.eif.specs.declared.Plan.{Plan}
use Rattle.eif.specs.declared.Verdict.{Verdict}
use Rattle.eif.specs.declared.Verdict.TheVariants.{Accepted}
use Rattle.plain_laws.proofs.Joined.{piece_is, length_joined}
use Rattle.plain_laws.proofs.PlanRules.{planned→}
use Rattle.plain_laws.proofs.Shape.{before_le, before_suc, before_zero}
use Rattle.staged.specs.Staged.{staged_plan, staged_joined, staged_verdict, afresh}
use Rattle.staged.proofs.Accept.{Stages, staged→}
use Rattle.staged.proofs.Afresh.{part_at, changed_plan, plan_is, parts_are, part_replaced, part_kept, size_kept}
use Rattle.writing.specs.Writing.{start_writing, empty_writing, writing_begun, writing_stepped, step_bytes, writing_summed}
use Rattle.writing.specs.declared.Writing.{Writing}
use Rattle.writing_laws.specs.Runs.{WriteStep, after_steps, data_taken, bytes_written, image_with}
use Rattle.writing_laws.proofs.Runs.{bytes_bounded, complete_data, complete_plain, finish_accepts, finish_checksum, checksum_put, written_first, moves}
use Rattle.writing_laws.proofs.Reached.{Reached, reached_start, reached_step}
use Rattle.staged_writing.specs.StagedWriting.{begun_with, refused_begun, staged_begun, base_data, whole_data, due_data, staged_stepped}
use Rattle.staged_writing.specs.declared.StagedWriting.{StagedWriting}
use Rattle.staged_writing.proofs.Begun.{plan_accepted, base_some, whole_replaced, whole_kept}
use Rattle.staged_writing_laws.specs.StagedRuns.{staged_run_state, staged_run_bytes, staged_bytes_of, after_staged_steps, staged_bytes_written, staged_steps}

-- ---- the first bytes of a list

-- some of the first bytes are the first bytes
first_bytes : (n m : ℕ) (x : List ℕ) → take n (take m x) ≡ take (length (take n (take m x))) x
first_bytes n m x =
    let few : length (take n (take m x)) ≡ min n (min m (length x)) = simp length-take refl in
    let k = min n m in
    let e : take n (take m x) ≡ take k x =
    sym (take_min n (take m x)) ∙ ap (λ (j : ℕ). take j (take m x)) (ap (min n) (length-take m x)) ∙ take-take (min n (min m (length x))) m x (omega arith)
    ∙ ap (λ (j : ℕ). take j x) (let z : min n (min m (length x)) ≡ min k (length x) = omega arith in z) ∙ take_min k x in
    e ∙ sym (take_min k x) ∙ ap (λ (j : ℕ). take j x) (let z : min k (length x) ≡ length (take n (take m x)) = omega arith in z)

-- as many as there are of the first n
own_length : (n : ℕ) (x : List ℕ) → take (length (take n x)) x ≡ take n x
own_length n x = ap (λ (m : ℕ). take m x) (length-take n x) ∙ take_min n x

-- what follows the first a of a + c elements
drop_first : (a c : ℕ) (x : List ℕ) → drop a (take (a + c) x) ≡ take c (drop a x)
drop_first zero c x = let z : 0 + c ≡ c = omega arith in ap (λ (n : ℕ). take n x) z
drop_first (suc a) c [] = ap (drop (suc a)) (take-nil (suc a + c)) ∙ drop-nil (suc a) ∙ sym (ap (take c) (drop-nil (suc a)) ∙ take-nil c)
drop_first (suc a) c (b ∷ x) = let z : suc a + c ≡ suc (a + c) = omega arith in ap (λ (n : ℕ). drop (suc a) (take n (b ∷ x))) z ∙ drop_first a c x

module _ (s r : List ℕ) (k field : ℕ) (ok : staged_verdict s (length r) k k ≡ Accepted) where
  abbrev places : List Place
  places = (staged_plan s k (length r)).places

  -- the data of all sections of the image written afresh
  abbrev fresh_data : List ℕ
  fresh_data = staged_joined s r k

  stages : Stages s (length r) k k
  stages = staged→ s (length r) k k ok

  plan_ok : (plan_length (staged_plan s k (length r))).verdict ≡ Accepted
  unfolding plan_length
  plan_ok = plan_accepted s r k field ok

  few : (staged_plan s k (length r)).count ≤ place_count
  unfolding plan_length
  few = (planned→ (staged_plan s k (length r)) (data_before places (staged_plan s k (length r)).count) plan_ok).fields.few

  -- the plan and the data by the header of the base
  abbrev base_plan : Plan
  base_plan = changed_plan s r k stages.accepted (length r)

  plan_same : (staged_plan s k (length r)) ≡ base_plan
  plan_same = plan_is s r k stages.accepted (length r)

  count_same : (staged_plan s k (length r)).count ≡ count_of s
  count_same = ap (λ (p : Plan). p.count) plan_same

  sizes : (i : ℕ) → i < count_of s → length (part_at s r k stages.accepted i) ≡ planned_size base_plan.places i
  sizes = size_kept s r k stages.accepted stages.replaced

  piece_part : (i : ℕ) → i < (staged_plan s k (length r)).count → piece_at places fresh_data i ≡ part_at s r k stages.accepted i
  piece_part i h =
      let c = count_same in
      ap₂ (λ (p : Plan) (d : List ℕ). piece_at p.places d i) plan_same (parts_are s r k stages.accepted)
      ∙ piece_is base_plan.places (count_of s) (part_at s r k stages.accepted) sizes i (omega arith)

  -- the data of place i of the base, other than the replaced one, is what the plan takes of the data of all sections
  base_piece : (i : ℕ) → i < (staged_plan s k (length r)).count → (i ≡ k → ⊥) → base_data s places i ≡ piece_at places fresh_data i
  base_piece i h n =
      let c = count_same in
      let f = few in
      let q : i < count_of s = omega arith in
      let rest = drop (offset_at s i + section_header_size) s in
      let own = part_kept s r k stages.accepted i n in
      let size : planned_size places i ≡ length (own_data s i) =
      ap (λ (p : Plan). planned_size p.places i) plan_same ∙ sym (sizes i q) ∙ ap length own in
      sym (base_some s places i (omega arith))
      ∙ ap₂ (λ (m : ℕ) (l : List ℕ). take m l) size (drop-drop section_header_size (offset_at s i) s)
      ∙ own_length (section_at s i).length.0 rest
      ∙ sym (piece_part i h ∙ own)

  -- the data of the section begun last
  whole_piece : (a : StagedWriting) → a.replaced ≡ k → a.writing.places ≡ places → (i : ℕ) → i < (staged_plan s k (length r)).count → a.writing.sections_begun - 1 ≡ i
      → whole_data a s r ≡ piece_at places fresh_data i
  whole_piece a e l i h z =
      ⊎_elim
      (λ (q : i ≡ k).
      sym (whole_replaced a s r (z ∙ q ∙ sym e)) ∙ sym (piece_part i h ∙ ap (part_at s r k stages.accepted) q ∙ part_replaced s r k stages.accepted))
      (λ (n : i ≡ k → ⊥).
      sym (whole_kept a s r (λ q. n (sym z ∙ q ∙ e))) ∙ ap₂ (λ (m : List Place) (j : ℕ). base_data s m j) l z ∙ base_piece i h n)
      (equal_or_not i k)

  piece_long : (i : ℕ) → i < (staged_plan s k (length r)).count → length (piece_at places fresh_data i) ≡ planned_size places i
  piece_long i h =
      let c = count_same in
      ap length (piece_part i h) ∙ sizes i (omega arith) ∙ ap (λ (p : Plan). planned_size p.places i) (sym plan_same)

  joined_long : length fresh_data ≡ data_before places (staged_plan s k (length r)).count
  joined_long =
      ap length (parts_are s r k stages.accepted) ∙ length_joined base_plan.places (count_of s) (part_at s r k stages.accepted) sizes
      ∙ ap (λ (p : Plan). data_before p.places p.count) (sym plan_same)

  -- ---- what a state is after a run

  -- the state a after data d was taken and bytes g were written: d is the first of the joined data
  record StagedReached (d g : List ℕ) (a : StagedWriting) : Type 0 where
    reached : Reached (staged_plan s k (length r)) field few d g a.writing
    replaced_stays : a.replaced ≡ k
    data_first : d ≡ take (length d) fresh_data

  module _ (d g : List ℕ) (a : StagedWriting) (x : StagedReached d g a) where
    abbrev left : ℕ
    left = a.writing.section_left

    abbrev last_begun : ℕ
    last_begun = a.writing.sections_begun

    -- the data due is the next of the joined data
    due_none : left ≡ 0 → due_data a s r ≡ take left (drop (length d) fresh_data)
    unfolding due_data
    due_none e =
        let whole = whole_data a s r in
        let n : length whole - left ≡ length whole = omega arith in
        ap (λ (m : ℕ). drop m whole) n ∙ drop-length whole ∙ ap (λ (m : ℕ). take m (drop (length d) fresh_data)) (sym e)

    due_some : (m : ℕ) → last_begun ≡ suc m → due_data a s r ≡ take left (drop (length d) fresh_data)
    unfolding due_data
    due_some m e =
        let y = x.reached in
        let start = y.last_start in
        let sum = y.section_sum in
        let f = y.begun_few in
        let z : last_begun - 1 ≡ m = omega arith in
        let b = ap (data_before places) e ∙ before_suc places m in
        let q = ap (data_before places) z in
        let size = planned_size places m in
        let rest = size - left in
        let whole : whole_data a s r ≡ take (rest + left) (drop (data_before places m) fresh_data) =
        whole_piece a x.replaced_stays y.places_are m (omega arith) z
        ∙ ap (λ (n : ℕ). take n (drop (data_before places m) fresh_data)) (let n : size ≡ rest + left = omega arith in n) in
        let long : length (take (rest + left) (drop (data_before places m) fresh_data)) - left ≡ rest =
        let l = piece_long m (omega arith) in
        let n : rest + left ≡ size = omega arith in
        let t = ap (λ (j : ℕ). length (take j (drop (data_before places m) fresh_data))) n in
        omega arith in
        ap (λ (l : List ℕ). drop (length l - left) l) whole
        ∙ ap (λ (n : ℕ). drop n (take (rest + left) (drop (data_before places m) fresh_data))) long
        ∙ drop_first rest left (drop (data_before places m) fresh_data)
        ∙ ap (take left) (drop-drop rest (data_before places m) fresh_data ∙ ap (λ (n : ℕ). drop n fresh_data) (let n : data_before places m + rest ≡ length d = omega arith in n))

    due_is : due_data a s r ≡ take left (drop (length d) fresh_data)
    due_is =
        ⊎_elim
        (λ (z : last_begun ≤ 0).
        let e : last_begun ≡ 0 = omega arith in
        let b = ap (data_before places) e ∙ before_zero places in
        let sum = x.reached.section_sum in
        due_none (omega arith))
        (λ (h : 0 < last_begun). due_some (last_begun - 1) (omega arith))
        (le_or_lt last_begun 0)

    staged_next : (room : ℕ)
        → StagedReached (d ++ take (writing_stepped a.writing (due_data a s r) room).taken (due_data a s r)) (g ++ staged_bytes_of a s r room) (staged_stepped a s r room).state
    unfolding staged_stepped
    staged_next room =
        let n = (writing_stepped a.writing (due_data a s r) room).taken in
        let y = take n (due_data a s r) in
        let rest = drop (length d) fresh_data in
        let some : y ≡ take (length y) rest = ap (take n) due_is ∙ first_bytes n left rest ∙ ap (λ (l : List ℕ). take (length (take n l)) rest) (sym due_is) in
        record {
          reached = reached_step (staged_plan s k (length r)) field few d g a.writing x.reached (due_data a s r) room;
          replaced_stays = x.replaced_stays;
          data_first = ap₂ (λ (u v : List ℕ). u ++ v) x.data_first some ∙ sym (take-add (length d) (length y) fresh_data) ∙ ap (λ (m : ℕ). take m fresh_data) (sym (length-append d y));
        }

  staged_run : (rooms : List ℕ) (d g : List ℕ) (a : StagedWriting) → StagedReached d g a
      → StagedReached (d ++ data_taken a.writing (staged_steps a s r rooms)) (g ++ staged_bytes_written a s r rooms) (after_staged_steps a s r rooms)
  unfolding staged_steps data_taken staged_bytes_written after_staged_steps staged_stepped
  staged_run [] d g a x = rw (append-nil d, append-nil g) x
  staged_run (room ∷ rooms) d g a x =
      let next = (staged_stepped a s r room).state in
      let y = take (writing_stepped a.writing (due_data a s r) room).taken (due_data a s r) in
      rw (sym (append_assoc d y (data_taken next.writing (staged_steps next s r rooms))), sym (append_assoc g (staged_bytes_of a s r room) (staged_bytes_written next s r rooms)))
      (staged_run rooms (d ++ y) (g ++ staged_bytes_of a s r room) next (staged_next d g a x room))

  -- the run is one of writing
  steps_same : (rooms : List ℕ) (a : StagedWriting)
      → ((after_staged_steps a s r rooms).writing ≡ after_steps a.writing (staged_steps a s r rooms)) × (staged_bytes_written a s r rooms ≡ bytes_written a.writing (staged_steps a s r rooms))
  unfolding staged_steps after_steps bytes_written staged_bytes_written after_staged_steps staged_stepped
  steps_same [] a = (refl, refl)
  steps_same (room ∷ rooms) a =
      let next = (staged_stepped a s r room).state in
      let e = steps_same rooms next in
      (e.0, ap (λ (l : List ℕ). staged_bytes_of a s r room ++ l) e.1)

  -- ---- the laws

  module _ (rooms : List ℕ) where
    abbrev as_steps : List WriteStep
    as_steps = staged_steps (staged_begun s r k field).state s r rooms

    abbrev plan_start : Writing
    plan_start = (writing_begun (staged_plan s k (length r)) field).state

    first_start : (staged_begun s r k field).state.writing ≡ start_writing (staged_plan s k (length r)) field
    unfolding staged_begun
    first_start = ap (λ (v : Verdict). (beside v (begun_with (start_writing (staged_plan s k (length r)) field) k (written_for v (plain_size (staged_plan s k (length r))))) (refused_begun v)).state.writing) ok

    first_same : (staged_begun s r k field).state.writing ≡ plan_start
    unfolding writing_begun
    first_same = first_start ∙ sym (ap (λ (v : Verdict). beside v (start_writing (staged_plan s k (length r)) field) empty_writing) plan_ok)

    first_replaced : (staged_begun s r k field).state.replaced ≡ k
    unfolding staged_begun
    first_replaced = ap (λ (v : Verdict). (beside v (begun_with (start_writing (staged_plan s k (length r)) field) k (written_for v (plain_size (staged_plan s k (length r))))) (refused_begun v)).state.replaced) ok

    whole_run : StagedReached (data_taken (staged_begun s r k field).state.writing as_steps) (staged_run_bytes s r k field rooms) (staged_run_state s r k field rooms)
    whole_run = staged_run rooms [] [] (staged_begun s r k field).state (record { reached = rw first_start (reached_start (staged_plan s k (length r)) field few); replaced_stays = first_replaced; data_first = refl })

    written_same : (staged_run_bytes s r k field rooms) ≡ bytes_written plan_start as_steps
    written_same = (steps_same rooms (staged_begun s r k field).state).1 ∙ ap (λ (a : Writing). bytes_written a as_steps) first_same

    last_same : (staged_run_state s r k field rooms).writing ≡ after_steps plan_start as_steps
    last_same = (steps_same rooms (staged_begun s r k field).state).0 ∙ ap (λ (a : Writing). after_steps a as_steps) first_same

    -- no more bytes are written than begin answered
    pub staged_bytes_bounded : length (staged_run_bytes s r k field rooms) ≤ plain_size (staged_plan s k (length r))
    staged_bytes_bounded = rw written_same (bytes_bounded (staged_plan s k (length r)) field plan_ok as_steps)

    -- the image is complete when as many bytes are written as begin answered
    module _ (whole : length (staged_run_bytes s r k field rooms) ≡ plain_size (staged_plan s k (length r))) where
      whole_same : length (bytes_written plan_start as_steps) ≡ plain_size (staged_plan s k (length r))
      whole_same = ap length (sym written_same) ∙ whole

      -- the data taken is all data of the image written afresh
      all_data : data_taken plan_start as_steps ≡ fresh_data
      all_data =
          let t : data_taken plan_start as_steps ≡ take (length (data_taken plan_start as_steps)) fresh_data = rw first_same at whole_run.data_first in
          let n = complete_data (staged_plan s k (length r)) field plan_ok as_steps whole_same in
          let l = joined_long in
          t ∙ take_all (length (data_taken plan_start as_steps)) fresh_data (omega arith)

      pub staged_finish : (writing_summed (staged_run_state s r k field rooms).writing).verdict ≡ Accepted
      staged_finish = rw last_same (finish_accepts (staged_plan s k (length r)) field plan_ok as_steps (complete_data (staged_plan s k (length r)) field plan_ok as_steps whole_same))

      -- with the checksum put in its place, the bytes written are the image written afresh
      pub staged_checksum_put : over (staged_run_bytes s r k field rooms) checksum_at (be_bytes 4 (writing_summed (staged_run_state s r k field rooms).writing).checksum) ≡ afresh s r k
      unfolding afresh
      staged_checksum_put =
          ap₂ (λ (l : List ℕ) (a : Writing). over l checksum_at (be_bytes 4 (writing_summed a).checksum)) written_same last_same
          ∙ checksum_put (staged_plan s k (length r)) field plan_ok as_steps whole_same ∙ ap (plain_image (staged_plan s k (length r))) all_data

      -- the checksum is that of the image written afresh, and begun with it the bytes written are that image
      pub staged_plain : field ≡ (writing_summed (staged_run_state s r k field rooms).writing).checksum → staged_run_bytes s r k field rooms ≡ afresh s r k
      unfolding afresh
      staged_plain e =
          let sum = ap (λ (a : Writing). (writing_summed a).checksum) last_same in
          let right = finish_checksum (staged_plan s k (length r)) field plan_ok as_steps (complete_data (staged_plan s k (length r)) field plan_ok as_steps whole_same) in
          written_same ∙ complete_plain (staged_plan s k (length r)) field plan_ok as_steps whole_same (e ∙ sum ∙ right) ∙ ap (plain_image (staged_plan s k (length r))) all_data

    -- a run that is not complete has written the first bytes of the image written afresh, but for the checksum field
    pub staged_written_first : staged_run_bytes s r k field rooms ≡ take (length (staged_run_bytes s r k field rooms)) (image_with (staged_plan s k (length r)) field (staged_joined s r k))
    staged_written_first =
        let t : data_taken plan_start as_steps ≡ take (length (data_taken plan_start as_steps)) fresh_data = rw first_same at whole_run.data_first in
        let w = written_first (staged_plan s k (length r)) field plan_ok as_steps fresh_data joined_long (sym t) in
        written_same ∙ w ∙ ap (λ (l : List ℕ). take (length l) (image_with (staged_plan s k (length r)) field fresh_data)) (sym written_same)

    -- while the image is not complete, a step with room for a section's own header writes a byte or more
    pub staged_progress : (room : ℕ) → length (staged_run_bytes s r k field rooms) < plain_size (staged_plan s k (length r)) → section_header_size ≤ room → 0 < length (staged_bytes_of (staged_run_state s r k field rooms) s r room)
    staged_progress room short wide =
        let end = after_steps plan_start as_steps in
        let t = data_taken (staged_begun s r k field).state.writing as_steps in
        let y = whole_run.reached in
        let sum = y.section_sum in
        let up = before_le places (staged_run_state s r k field rooms).writing.sections_begun (staged_plan s k (length r)).count y.begun_few in
        let long = joined_long in
        let due : length (due_data (staged_run_state s r k field rooms) s r) ≡ min (staged_run_state s r k field rooms).writing.section_left (length fresh_data - length t) =
        ap length (due_is t (staged_run_bytes s r k field rooms) (staged_run_state s r k field rooms) whole_run) ∙ length-take (staged_run_state s r k field rooms).writing.section_left (drop (length t) fresh_data)
        ∙ ap (min (staged_run_state s r k field rooms).writing.section_left) (length-drop (length t) fresh_data) in
        let lent : (end.section_left ≡ 0 → ⊥) → 0 < length (due_data (staged_run_state s r k field rooms) s r) =
        λ n.
        ⊎_elim
        (λ (z : (staged_run_state s r k field rooms).writing.section_left ≤ 0). absurd (n (ap (λ (a : Writing). a.section_left) (sym last_same) ∙ (omega arith))))
        (λ (h : 0 < (staged_run_state s r k field rooms).writing.section_left). omega arith)
        (le_or_lt (staged_run_state s r k field rooms).writing.section_left 0) in
        let less : length (bytes_written plan_start as_steps) < plain_size (staged_plan s k (length r)) = rw written_same at short in
        let some = moves (staged_plan s k (length r)) field plan_ok as_steps (due_data (staged_run_state s r k field rooms) s r) room less wide lent in
        let same = ap (λ (a : Writing). length (step_bytes a (due_data (staged_run_state s r k field rooms) s r) room)) last_same in
        omega arith
