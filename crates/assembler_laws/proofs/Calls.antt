-- One call, in any state and over any buffers: what it leaves, a repeat, a close with a piece missing, what is taken after a
-- close, and the bytes that no call changes. Assumes nothing.
use Prim.Native.Nat.{ℕ, ◌+◌, ◌<◌, ◌≤◌}
use mathlib.Core.Path.{◌≡◌, refl, sym, ap, subst, ◌∙◌}
use mathlib.Core.Bool.{Bool, true, false}
use mathlib.Core.List.{List, [], ◌∷◌}
use mathlib.Core.Logic.{◌⊎◌, inl, inr, ⊎_elim}
use native.Mathlib.Omega.{arith}
use native.Mathlib.Nat.{lt_of_lt_of_le, zero-add}
use borrow.Author.Tests.{eqb-true}
use lib.Dec.{eqb}
use lib.ListN.{length, get_or, set, replicate, length-set, length-replicate, get_or-replicate}
use lib.Seq.{get_or-set_same, get_or-set_other}
use Rattle.eif_lemmas.proofs.Verdicts.{never}
use Rattle.octets.specs.Lists.{All}
use Rattle.octets.specs.Over.{over}
use Rattle.octets.proofs.Over.{length_over, over_here}
use Rattle.octets.specs.Logic.{choose}
use Rattle.eif.specs.Answers.{refuse}
use Rattle.eif.specs.declared.Verdict.{Verdict}
use Rattle.eif.specs.declared.Verdict.TheVariants.{Accepted}
use Rattle.octets.proofs.Logic.{equal_or_not, true_or_false, not_both, le_or_lt, choose_holds}
use Rattle.assembler.specs.Records.{open_kind, piece_kind, close_kind, kind_in, number_in, data_in, formed, pieces_of, place_in}
use Rattle.eif.specs.Numbers.{piece_out_of_turn, piece_missing}
use Rattle.assembler.specs.Rules.{is_held, standing, is_opened}
use Rattle.assembler.specs.Step.{fresh_state, open_state, stepped, image_after, marks_after, piece_written, piece_marked}
use Rattle.assembler.specs.declared.State.{State}
use Rattle.assembler.specs.declared.Stepped.{Stepped}
use Rattle.assembler.proofs.Piece.{place_in_holds, piece_in, held_yes, same_agrees, piece_left}
use Rattle.assembler.proofs.Faults.{PieceTaken, fault_not_open, accepted_form, accepted_piece, LongEnough, accepted_open}
use Rattle.assembler.proofs.Steps.{StepAnswers, step_refused, step_opened, step_taken, step_closed}
use Rattle.assembler.proofs.Form.{formed_kinds}
use Rattle.assembler_laws.specs.Run.{Memory, memory, answer_to, memory_after, fault_at, run, OutsideTaken, OutsideAll, OtherMark, EachCall, Outside, PieceFor, Close}
use Rattle.assembler_laws.proofs.Lists.{over_in, over_other, gap_found}
use Rattle.assembler_laws.proofs.Accept.{piece_fine, close_lacks}

pub equal_parts : {s t : State} {a b c d : List ℕ} → s ≡ t → a ≡ b → c ≡ d → memory s a c ≡ memory t b d
equal_parts e f g = λ i. memory (e i) (f i) (g i)

-- what a call answers and leaves, as a memory
called : (w : Memory) (r : List ℕ) (s : Stepped) (i k : List ℕ) → StepAnswers w.state r w.image w.marks s i k
    → memory_after w r ≡ memory s.state i k
called w r s i k h = equal_parts (sym (ap (λ (a : Stepped). a.state) h.0)) (sym h.1) (sym h.2)

-- ---- a refusal changes neither buffer nor state

pub refused_keeps : (w : Memory) (r : List ℕ) → (fault_at w r ≡ 0 → ⊥)
    → (answer_to w r ≡ stepped (refuse (fault_at w r) 0) w.state 0) × (memory_after w r ≡ w)
refused_keeps w r h =
    let s = step_refused w.state r w.image w.marks (fault_at w r) refl h in
    (sym s.0, called w r _ _ _ s)

-- an accepted call has no fault
refused_not : (n : ℕ) (v : Verdict) → v ≡ refuse n 0 → v ≡ Accepted → ⊥
refused_not n v a b = never _ (sym a ∙ b)

pub no_fault : (w : Memory) (r : List ℕ) → (answer_to w r).verdict ≡ Accepted → fault_at w r ≡ 0
no_fault w r e =
    ⊎_elim (λ z. z)
    (λ h. absurd (refused_not (fault_at w r) (answer_to w r).verdict (ap (λ (a : Stepped). a.verdict) (refused_keeps w r h).0) e))
    (equal_or_not (fault_at w r) 0)

-- ---- a piece that is taken

-- a record's piece in its place
abbrev pub piece_put : Memory → List ℕ → Memory
piece_put w r = memory w.state (over w.image (number_in r) (data_in r)) (set w.marks (place_in r) 1)

module _ (w : Memory) (r : List ℕ) (z : fault_at w r ≡ 0) (k : kind_in r ≡ piece_kind) where
  answered : StepAnswers w.state r w.image w.marks (stepped Accepted w.state 0) (piece_written r w.image w.marks) (piece_marked r w.marks)
  answered = step_taken w.state r w.image w.marks z k

  pub taken_accepts : (answer_to w r).verdict ≡ Accepted
  taken_accepts = sym (ap (λ (a : Stepped). a.verdict) answered.0)

  pub taken_piece : PieceTaken w.state r w.image w.marks
  taken_piece = accepted_piece w.state r w.image w.marks z k

  pub taken_fits : PieceFor w.state.length r
  taken_fits =
      let g = taken_piece.grid in
      record { form = accepted_form w.state r w.image w.marks z; kind = k; inside = g.inside; on_grid = g.on_grid; bytes_are = g.sized }

  pub taken_state : (memory_after w r).state ≡ w.state
  taken_state = sym (ap (λ (a : Stepped). a.state) answered.0)

  abbrev put : Memory
  put = piece_put w r

  left_by : (b : Bool) → is_held r w.marks ≡ b → memory_after w r ≡ memory w.state (choose b w.image put.image) (choose b w.marks put.marks)
  left_by b h =
      let p = piece_left r w.marks w.image b h in
      called w r (stepped Accepted w.state 0) _ _ (answered.0, p.0 ∙ answered.1, p.1 ∙ answered.2)

  -- a piece that is held and taken again changes nothing
  pub repeat_keeps : is_held r w.marks ≡ true → (answer_to w r ≡ stepped Accepted w.state 0) × (memory_after w r ≡ w)
  repeat_keeps h = (sym answered.0, left_by true h)

  -- and one that is not held is put
  pub after_taken : (P : Memory → Type 0) → (is_held r w.marks ≡ true → P w) → (is_held r w.marks ≡ false → P put) → P (memory_after w r)
  after_taken P held free =
      ⊎_elim (λ h. subst P (sym (left_by true h)) (held h)) (λ h. subst P (sym (left_by false h)) (free h)) (true_or_false (is_held r w.marks))

  fits : number_in r + length (data_in r) ≤ length w.image
  fits =
      let a = piece_in w.state.length (number_in r) (length (data_in r)) taken_piece.grid.inside taken_piece.grid.sized in
      let b = taken_piece.enough.image_room in
      omega arith

  pub put_stands : standing r put.image ≡ data_in r
  put_stands = over_here w.image (number_in r) (data_in r) fits (length (data_in r)) refl

  -- both buffers are as long as before
  pub put_enough : LongEnough w.state (length w.image) (length w.marks) → LongEnough w.state (length put.image) (length put.marks)
  put_enough e = rw (length_over w.image (number_in r) (data_in r), length-set w.marks (place_in r) 1) e

  put_fine : fault_at put r ≡ 0
  put_fine =
      piece_fine w.state r put.image put.marks taken_piece.open_now (put_enough taken_piece.enough) taken_fits
      (same_agrees r put.marks put.image put_stands)

  pub put_held : is_held r put.marks ≡ true
  put_held =
      let n = lt_of_lt_of_le (place_in_holds w.state.length (number_in r) taken_piece.grid.inside) taken_piece.enough.mark_room in
      let s = get_or-set_same w.marks (place_in r) 1 0 n in
      held_yes r put.marks (number_in r) refl (λ e. omega arith)

-- the same piece straight after it was taken is taken, and changes nothing
pub again_keeps : (w : Memory) (r : List ℕ) → fault_at w r ≡ 0 → kind_in r ≡ piece_kind
    → (fault_at (memory_after w r) r ≡ 0) × (memory_after (memory_after w r) r ≡ memory_after w r)
again_keeps w r z k =
    after_taken w r z k (λ v. (fault_at v r ≡ 0) × (memory_after v r ≡ v))
    (λ h. (z, (repeat_keeps w r z k h).1))
    (λ h. (put_fine w r z k, (repeat_keeps (piece_put w r) r (put_fine w r z k) k (put_held w r z k)).1))

-- ---- a close

-- with a piece missing it is 26
pub missing_refused : (w : Memory) (r : List ℕ) → Close r → is_opened w.state ≡ true
    → LongEnough w.state (length w.image) (length w.marks) → (k : ℕ) → k < pieces_of w.state.length → get_or w.marks k 0 ≡ 0
    → (answer_to w r ≡ stepped (refuse piece_missing 0) w.state 0) × (memory_after w r ≡ w)
missing_refused w r c o m k h e =
    let n = close_lacks w.state r w.image w.marks o m c (gap_found w.marks (pieces_of w.state.length) k h (lt_of_lt_of_le h m.mark_room) e) in
    let s = refused_keeps w r (λ z. omega arith) in
    (s.0 ∙ ap (λ (j : ℕ). stepped (refuse j 0) w.state 0) n, s.1)

-- taken, it reports the image length, leaves both buffers, and the state is fresh
pub close_ends : (w : Memory) (r : List ℕ) → fault_at w r ≡ 0 → kind_in r ≡ close_kind
    → (answer_to w r ≡ stepped Accepted fresh_state w.state.length) × (memory_after w r ≡ memory fresh_state w.image w.marks)
close_ends w r z c =
    let s = step_closed w.state r w.image w.marks z c in
    (sym s.0, called w r _ _ _ s)

-- in a state that is not open, as after a close, only an open is taken; any other record of one of the three forms is 23
module _ (w : Memory) (r : List ℕ) (closed : is_opened w.state ≡ false) where
  pub other_refused : formed r ≡ true → (kind_in r ≡ open_kind → ⊥) → fault_at w r ≡ piece_out_of_turn
  other_refused f h = sym (fault_not_open w.state r w.image w.marks f h closed)

  pub only_open : fault_at w r ≡ 0 → kind_in r ≡ open_kind
  only_open z =
      ⊎_elim (λ e. e)
      (λ h. let n = other_refused (accepted_form w.state r w.image w.marks z) h in absurd (omega arith))
      (equal_or_not (kind_in r) open_kind)

-- ---- any record while a transfer is open

-- what holds of the memory before holds after, if it does after a piece and after a close that are taken: no open is, and a refusal changes nothing
pub after_any : (P : Memory → Type 0) (w : Memory) (r : List ℕ) → is_opened w.state ≡ true → P w
    → (fault_at w r ≡ 0 → kind_in r ≡ piece_kind → P (memory_after w r)) → (fault_at w r ≡ 0 → kind_in r ≡ close_kind → P (memory_after w r))
    → P (memory_after w r)
after_any P w r o p piece closes = ⊎_elim by_kind (λ h. subst P (sym (refused_keeps w r h).1) p) (equal_or_not (fault_at w r) 0)
  where
    opens : fault_at w r ≡ 0 → kind_in r ≡ open_kind → P (memory_after w r)
    opens z k = not_both (sym (accepted_open w.state r w.image w.marks z k).not_open ∙ o)

    by_kind : fault_at w r ≡ 0 → P (memory_after w r)
    by_kind z =
        ⊎_elim (opens z)
        (λ h. ⊎_elim (piece z) (λ q. closes z (formed_kinds r (accepted_form w.state r w.image w.marks z) h q)) (equal_or_not (kind_in r) piece_kind))
        (equal_or_not (kind_in r) open_kind)

-- and if the transfer stays open, it is enough that it holds after a piece
pub while_open : (P : Memory → Type 0) (w : Memory) (r : List ℕ) → is_opened w.state ≡ true → is_opened (memory_after w r).state ≡ true → P w
    → (fault_at w r ≡ 0 → kind_in r ≡ piece_kind → P (memory_after w r)) → P (memory_after w r)
while_open P w r o stays p piece =
    after_any P w r o p piece (λ z k. not_both (sym (ap (λ (v : Memory). is_opened v.state) (close_ends w r z k).1) ∙ stays))

-- ---- the bytes that a call leaves

-- a byte lies outside a record's piece or in it
pub out_or_in : (i : ℕ) (r : List ℕ) → Outside i r ⊎ ((number_in r ≤ i) × (i < number_in r + length (data_in r)))
out_or_in i r =
    ⊎_elim (λ b. inl (inr b)) (λ b. ⊎_elim (λ a. inr (a, b)) (λ a. inl (inl a)) (le_or_lt (number_in r) i)) (le_or_lt (number_in r + length (data_in r)) i)

module _ (w : Memory) (r : List ℕ) where
  -- what holds of the image buffer before holds after, if it does with a piece put that is taken
  image_by : (P : List ℕ → Type 0) → P w.image → (fault_at w r ≡ 0 → kind_in r ≡ piece_kind → P (over w.image (number_in r) (data_in r)))
      → P (memory_after w r).image
  unfolding image_after
  image_by P same put =
      choose_holds P (eqb (fault_at w r) 0) _ _
      (λ a.
      choose_holds P (eqb (kind_in r) piece_kind) _ _
      (λ b. choose_holds P (is_held r w.marks) _ _ (λ _. same) (λ _. put (eqb-true _ _ a) (eqb-true _ _ b)))
      (λ _. same))
      (λ _. same)

  -- and so of the mark buffer, with the marks of an open cleared and the mark of a piece set
  marks_by : (P : List ℕ → Type 0) → P w.marks → (kind_in r ≡ open_kind → P (over w.marks 0 (replicate (pieces_of (number_in r)) 0)))
      → (kind_in r ≡ piece_kind → P (set w.marks (place_in r) 1)) → P (memory_after w r).marks
  unfolding marks_after
  marks_by P same cleared marked =
      choose_holds P (eqb (fault_at w r) 0) _ _
      (λ _.
      choose_holds P (eqb (kind_in r) open_kind) _ _ (λ b. cleared (eqb-true _ _ b))
      (λ _.
      choose_holds P (eqb (kind_in r) piece_kind) _ _
      (λ c. choose_holds P (is_held r w.marks) _ _ (λ _. same) (λ _. marked (eqb-true _ _ c)))
      (λ _. same)))
      (λ _. same)

  -- no byte of the image buffer changes but those of a piece that is taken
  pub image_elsewhere : (i : ℕ) → OutsideTaken i w r → get_or (memory_after w r).image i 0 ≡ get_or w.image i 0
  image_elsewhere i h =
      image_by (λ l. get_or l i 0 ≡ get_or w.image i 0) refl (λ z k. over_other w.image (number_in r) (data_in r) i (h (taken_accepts w r z k) k))

  pub marks_elsewhere : (k : ℕ) → OtherMark k r → get_or (memory_after w r).marks k 0 ≡ get_or w.marks k 0
  marks_elsewhere k h =
      marks_by (λ l. get_or l k 0 ≡ get_or w.marks k 0) refl
      (λ e.
      let n = length-replicate {A = ℕ} (pieces_of (number_in r)) 0 in
      let m = h.0 e in
      over_other w.marks 0 (replicate (pieces_of (number_in r)) 0) k (inr (omega arith)))
      (λ e. get_or-set_other w.marks (place_in r) k 1 0 (λ i. h.1 e (sym i)))

  pub lengths_kept : (length (memory_after w r).image ≡ length w.image) × (length (memory_after w r).marks ≡ length w.marks)
  lengths_kept = (
    image_by (λ l. length l ≡ length w.image) refl (λ z k. length_over w.image (number_in r) (data_in r)),
    marks_by (λ l. length l ≡ length w.marks) refl (λ e. length_over w.marks 0 (replicate (pieces_of (number_in r)) 0)) (λ e. length-set w.marks (place_in r) 1),
  )

-- an open that is taken: the state, and each mark of its pieces is 0
module _ (w : Memory) (o : List ℕ) (z : fault_at w o ≡ 0) (k : kind_in o ≡ open_kind) where
  abbrev zeros : List ℕ
  zeros = replicate (pieces_of (number_in o)) 0

  open_answer_holds : StepAnswers w.state o w.image w.marks (stepped Accepted (open_state (number_in o) (length w.image) (length w.marks)) 0) w.image (over w.marks 0 zeros)
  open_answer_holds = step_opened w.state o w.image w.marks z k

  pub opened_accepts : (answer_to w o).verdict ≡ Accepted
  opened_accepts = sym (ap (λ (a : Stepped). a.verdict) open_answer_holds.0)

  pub opened_state : (memory_after w o).state ≡ open_state (number_in o) (length w.image) (length w.marks)
  opened_state = sym (ap (λ (a : Stepped). a.state) open_answer_holds.0)

  pub opened_marks : (j : ℕ) → j < pieces_of (number_in o) → get_or (memory_after w o).marks j 0 ≡ 0
  opened_marks j h =
      let room = (accepted_open w.state o w.image w.marks z k).mark_room in
      let n = length-replicate {A = ℕ} (pieces_of (number_in o)) 0 in
      ap (λ (l : List ℕ). get_or l j 0) (sym open_answer_holds.2) ∙ sym (ap (λ (i : ℕ). get_or (over w.marks 0 zeros) i 0) (zero-add j))
      ∙ over_in w.marks 0 zeros j (omega arith) (omega arith) ∙ get_or-replicate (pieces_of (number_in o)) j 0 0 h

-- ---- calls in turn

-- what holds of each record holds at each call
pub at_each : (Q : List ℕ → Type 0) (rs : List (List ℕ)) (w : Memory) → All Q rs → EachCall (λ v r. Q r) w rs
unfolding All EachCall
at_each Q [] w h = tt
at_each Q (r ∷ rs) w h = (h.0, at_each Q rs (memory_after w r) h.1)

-- what each call keeps, a run keeps
pub run_keeps : (P : Memory → Type 0) (Q : Memory → List ℕ → Type 0) → ((w : Memory) (r : List ℕ) → Q w r → P w → P (memory_after w r))
    → (rs : List (List ℕ)) (w : Memory) → EachCall Q w rs → P w → P (run w rs)
unfolding run EachCall
run_keeps P Q keeps [] w q p = p
run_keeps P Q keeps (r ∷ rs) w q p = run_keeps P Q keeps rs (memory_after w r) q.1 (keeps w r q.0 p)

-- a run changes no byte of the image buffer outside the pieces that it takes
pub run_elsewhere : (rs : List (List ℕ)) (w : Memory) (i : ℕ) → OutsideAll i w rs → get_or (run w rs).image i 0 ≡ get_or w.image i 0
run_elsewhere rs w i h =
    run_keeps (λ v. get_or v.image i 0 ≡ get_or w.image i 0) (OutsideTaken i) (λ v r a e. image_elsewhere v r i a ∙ e) rs w h refl

-- nor a mark but those of the pieces that are opened or brought
pub run_marks_elsewhere : (rs : List (List ℕ)) (w : Memory) (k : ℕ) → All (OtherMark k) rs → get_or (run w rs).marks k 0 ≡ get_or w.marks k 0
run_marks_elsewhere rs w k h =
    run_keeps (λ v. get_or v.marks k 0 ≡ get_or w.marks k 0) (λ v r. OtherMark k r) (λ v r a e. marks_elsewhere v r k a ∙ e) rs w (at_each (OtherMark k) rs w h) refl
