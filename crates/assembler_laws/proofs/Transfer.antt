-- Pieces out of order, pieces twice: after an open, any list of pieces that agree with an image and together cover it, in any
-- order and with any repeats, is taken, and a close then reports the image's length and leaves the image. Assumes nothing.
use Prim.Native.Nat.{ℕ, ◌+◌, ◌-◌, ◌/◌, ◌<◌, ◌≤◌, min}
use mathlib.Core.Path.{◌≡◌, refl, sym, ap, subst, ◌∙◌}
use mathlib.Core.Bool.{true, false}
use mathlib.Core.List.{List, [], ◌∷◌, ◌++◌}
use mathlib.Core.Logic.{◌⊎◌, inl, inr, ⊎_elim}
use native.Mathlib.Omega.{arith}
use lib.ListN.{length, take, drop, get_or, replicate, length-take, length-drop, length-set, length-replicate, get_or-replicate}
use lib.Seq.{get_or-set_same, get_or-set_other, take_at}
use Rattle.assembler.proofs.Faults.{LongEnough}
use Rattle.octets.specs.Lists.{All}
use Rattle.octets.proofs.Lists.{taken_append}
use Rattle.octets.proofs.Over.{length_over}
use Rattle.eif.specs.Numbers.{size_limit}
use Rattle.eif.specs.declared.Verdict.TheVariants.{Accepted}
use Rattle.octets.proofs.Logic.{equal_or_not, not_both}
use Rattle.octets.proofs.Fields.{part_byte}
use Rattle.assembler.specs.Records.{piece_size, close_kind, kind_in, number_in, data_in, pieces_of, piece_size_at, place_in}
use Rattle.assembler.specs.Rules.{all_held, is_held, standing, held_with_other, is_opened}
use Rattle.assembler.specs.Step.{open_state, fresh_state, stepped}
use Rattle.assembler.specs.declared.State.{State}
use Rattle.assembler.specs.declared.Stepped.{Stepped}
use Rattle.assembler.proofs.Piece.{place_in_holds, piece_in, held_no, not_held, same_agrees}
use Rattle.assembler_laws.specs.Run.{Memory, memory, answer_to, memory_after, run, AllAccepted, OpenFor, PieceOf, Close, Sent, Pieces, Transfer, Assembled, EachCall, Outside, fault_at, holding, PieceFor}
use Rattle.assembler_laws.proofs.Lists.{over_other, over_in, starts_with, all_held_holds, part_is}
use Rattle.assembler_laws.proofs.Accept.{open_fine, piece_fine, close_fine, open_enough}
use Rattle.assembler_laws.proofs.Calls.{taken_accepts, piece_put, image_elsewhere, marks_elsewhere, lengths_kept, opened_state, opened_marks, out_or_in, close_ends, equal_parts, after_taken, opened_accepts}

-- ---- while a transfer of m is open, over buffers that first held x and y

pub record InProgress (m x y : List ℕ) (w : Memory) : Type 0 where
  pub state_is : w.state ≡ open_state (length m) (length x) (length y)
  pub image_length : length w.image ≡ length x
  pub marks_length : length w.marks ≡ length y
  -- a held piece stands in the image
  pub right : (i : ℕ) → i < length m → get_or w.marks (i / piece_size) 0 ≡ 1 → get_or w.image i 0 ≡ get_or m i 0
  pub zero_or_one : (k : ℕ) → k < pieces_of (length m) → (get_or w.marks k 0 ≡ 0) ⊎ (get_or w.marks k 0 ≡ 1)
  pub image_rest : (i : ℕ) → length m ≤ i → get_or w.image i 0 ≡ get_or x i 0
  pub marks_rest : (k : ℕ) → pieces_of (length m) ≤ k → get_or w.marks k 0 ≡ get_or y k 0

-- v comes after w by a piece of a place: the transfer is still open, that piece is held, and so is each that was held
pub record PieceAdded (m x y : List ℕ) (w : Memory) (place : ℕ) (v : Memory) : Type 0 where
  pub open_still : InProgress m x y v
  pub here : get_or v.marks place 0 ≡ 1
  pub still : (k : ℕ) → get_or w.marks k 0 ≡ 1 → get_or v.marks k 0 ≡ 1

-- ---- calls in turn

pub run_append : (w : Memory) (rs ss : List (List ℕ)) → run w (rs ++ ss) ≡ run (run w rs) ss
unfolding run
run_append w rs ss = taken_append run (λ v. refl) (λ v r l. refl) w rs ss

accepted_append : (rs : List (List ℕ)) (w : Memory) (ss : List (List ℕ)) → AllAccepted w rs → AllAccepted (run w rs) ss → AllAccepted w (rs ++ ss)
unfolding EachCall run
accepted_append [] w ss a b = b
accepted_append (r ∷ rs) w ss a b = (a.0, accepted_append rs (memory_after w r) ss a.1 b)

module _ (m x y : List ℕ) (image_room : length m ≤ length x) (mark_room : pieces_of (length m) ≤ length y) where
  -- ---- one piece

  module _ (w : Memory) (g : InProgress m x y w) where
    pub size_is : w.state.length ≡ length m
    size_is = ap (λ (s : State). s.length) g.state_is

    pub open_now : is_opened w.state ≡ true
    open_now = ap (λ (s : State). is_opened s) g.state_is

    long_enough : LongEnough w.state (length w.image) (length w.marks)
    long_enough = rw (g.state_is, g.image_length, g.marks_length) (open_enough (length m) (length x) (length y) image_room mark_room)

    module _ (r : List ℕ) (p : PieceOf m r) where
      count_is : length (data_in r) ≡ piece_size_at (length m) (number_in r)
      count_is = ap length p.bytes_are ∙ length-take piece_size (drop (number_in r) m) ∙ ap (min piece_size) (length-drop (number_in r) m)

      place_is : place_in r < pieces_of (length m)
      place_is = place_in_holds (length m) (number_in r) p.inside

      fits : number_in r + length (data_in r) ≤ length m
      fits = piece_in (length m) (number_in r) (length (data_in r)) p.inside count_is

      byte_is : (j : ℕ) → j < length (data_in r) → get_or (data_in r) j 0 ≡ get_or m (number_in r + j) 0
      byte_is j h =
          let c = count_is in
          ap (λ (l : List ℕ). get_or l j 0) p.bytes_are ∙ part_byte piece_size (number_in r) j m (omega arith)

      -- a byte of the piece has the piece's mark
      mark_is : (j : ℕ) → j < length (data_in r) → (number_in r + j) / piece_size ≡ place_in r
      mark_is j h =
          let c = count_is in
          let o = p.on_grid in
          omega arith

      -- held already, it stands there
      stands : get_or w.marks (place_in r) 0 ≡ 1 → standing r w.image ≡ data_in r
      stands e =
          let f = fits in
          let n = g.image_length in
          part_is w.image (number_in r) (data_in r) (omega arith)
          (λ j h. g.right (number_in r + j) (omega arith) (ap (λ (k : ℕ). get_or w.marks k 0) (mark_is j h) ∙ e) ∙ sym (byte_is j h))

      free : get_or w.marks (place_in r) 0 ≡ 0 → is_held r w.marks ≡ false
      free e = held_no r w.marks (number_in r) refl e

      agrees : held_with_other r w.image w.marks ≡ false
      agrees =
          ⊎_elim (λ e. sym (not_held r w.marks w.image (free e))) (λ e. same_agrees r w.marks w.image (stands e)) (g.zero_or_one (place_in r) place_is)

      taken : fault_at w r ≡ 0
      taken =
          piece_fine w.state r w.image w.marks open_now long_enough
          (subst (λ (n : ℕ). PieceFor n r) (sym size_is) (record { form = p.form; kind = p.kind; inside = p.inside; on_grid = p.on_grid; bytes_are = count_is }))
          agrees

      next_held : is_held r w.marks ≡ true → PieceAdded m x y w (place_in r) w
      next_held h =
          record {
            open_still = g;
            here = ⊎_elim (λ e. not_both (sym (free e) ∙ h)) (λ e. e) (g.zero_or_one (place_in r) place_is);
            still = λ k e. e;
          }

      -- not held yet, it is put
      abbrev put : Memory
      put = piece_put w r

      set_here : (k : ℕ) → k ≡ place_in r → get_or put.marks k 0 ≡ 1
      set_here k z =
          let n = g.marks_length in
          let q = place_is in
          ap (λ (n : ℕ). get_or put.marks n 0) z ∙ get_or-set_same w.marks (place_in r) 1 0 (omega arith)

      set_other : (k : ℕ) → (k ≡ place_in r → ⊥) → get_or put.marks k 0 ≡ get_or w.marks k 0
      set_other k h = get_or-set_other w.marks (place_in r) k 1 0 h

      outside : (i : ℕ) → i < length m → Outside i r → i / piece_size ≡ place_in r → ⊥
      outside i h o q =
          let c = count_is in
          let n = p.on_grid in
          ⊎_elim (λ a. omega arith) (λ a. omega arith) o

      right_outside : (i : ℕ) → i < length m → get_or put.marks (i / piece_size) 0 ≡ 1 → Outside i r → get_or put.image i 0 ≡ get_or m i 0
      right_outside i h q o =
          over_other w.image (number_in r) (data_in r) i o ∙ g.right i h (sym (set_other (i / piece_size) (outside i h o)) ∙ q)

      right_inside : (i : ℕ) → number_in r ≤ i → i < number_in r + length (data_in r) → get_or put.image i 0 ≡ get_or m i 0
      right_inside i a b =
          let f = fits in
          let n = g.image_length in
          let j : number_in r + (i - number_in r) ≡ i = omega arith in
          sym (ap (λ (k : ℕ). get_or put.image k 0) j)
          ∙ over_in w.image (number_in r) (data_in r) (i - number_in r) (omega arith) (omega arith)
          ∙ byte_is (i - number_in r) (omega arith) ∙ ap (λ (k : ℕ). get_or m k 0) j

      next_put : PieceAdded m x y w (place_in r) put
      next_put =
          record {
            open_still =
                record {
                  state_is = g.state_is;
                  image_length = length_over w.image (number_in r) (data_in r) ∙ g.image_length;
                  marks_length = length-set w.marks (place_in r) 1 ∙ g.marks_length;
                  right = λ i h q. ⊎_elim (λ a. right_outside i h q a) (λ a. right_inside i a.0 a.1) (out_or_in i r);
                  zero_or_one = zero_or_one_put;
                  image_rest = λ i h. let f = fits in over_other w.image (number_in r) (data_in r) i (inr (omega arith)) ∙ g.image_rest i h;
                  marks_rest = λ k h. let q = place_is in set_other k (λ z. omega arith) ∙ g.marks_rest k h;
                };
            here = set_here (place_in r) refl;
            still = still_put;
          }
        where
          zero_or_one_put : (k : ℕ) → k < pieces_of (length m) → (get_or put.marks k 0 ≡ 0) ⊎ (get_or put.marks k 0 ≡ 1)
          zero_or_one_put k h =
              ⊎_elim (λ z. inr (set_here k z))
              (λ z. ⊎_elim (λ q. inl (set_other k z ∙ q)) (λ q. inr (set_other k z ∙ q)) (g.zero_or_one k h))
              (equal_or_not k (place_in r))

          still_put : (k : ℕ) → get_or w.marks k 0 ≡ 1 → get_or put.marks k 0 ≡ 1
          still_put k q =
              ⊎_elim (λ z. set_here k z) (λ z. set_other k z ∙ q) (equal_or_not k (place_in r))

      -- either way
      pub one_piece : ((answer_to w r).verdict ≡ Accepted) × PieceAdded m x y w (place_in r) (memory_after w r)
      one_piece =
          (taken_accepts w r taken p.kind, after_taken w r taken p.kind (PieceAdded m x y w (place_in r)) next_held (λ h. next_put))

  -- ---- any number of pieces

  record Through (w : Memory) (rs : List (List ℕ)) : Type 0 where
    accepted : AllAccepted w rs
    open_still : InProgress m x y (run w rs)
    held_all : (k : ℕ) → Sent k rs → get_or (run w rs).marks k 0 ≡ 1
    still : (k : ℕ) → get_or w.marks k 0 ≡ 1 → get_or (run w rs).marks k 0 ≡ 1

  through : (rs : List (List ℕ)) (w : Memory) → InProgress m x y w → All (PieceOf m) rs → Through w rs
  unfolding EachCall run Sent All
  through [] w g a = record { accepted = tt; open_still = g; held_all = λ k s. absurd s; still = λ k h. h }
  through (r ∷ rs) w g a =
      let o = one_piece w g r a.0 in
      let t = through rs (memory_after w r) o.1.open_still a.1 in
      record {
        accepted = (o.0, t.accepted);
        open_still = t.open_still;
        held_all =
            λ k s.
            ⊎_elim (λ e. t.still k (sym (ap (λ (n : ℕ). get_or (memory_after w r).marks n 0) e) ∙ o.1.here)) (λ e. t.held_all k e) s;
        still = λ k h. t.still k (o.1.still k h);
      }

  -- ---- a close that is taken when every piece is held

  module _ (full : Memory) (g : InProgress m x y full) (complete : (k : ℕ) → k < pieces_of (length m) → get_or full.marks k 0 ≡ 1)
      (c : List ℕ) (taken : fault_at full c ≡ 0) (kind : kind_in c ≡ close_kind) where
    image_is : full.image ≡ m ++ drop (length m) x
    image_is =
        starts_with full.image m x g.image_length image_room
        (λ i h. g.right i h (complete (i / piece_size) (place_in_holds (length m) i h)))
        g.image_rest

    marks_are : full.marks ≡ replicate (pieces_of (length m)) 1 ++ drop (pieces_of (length m)) y
    marks_are =
        let ones : List ℕ = replicate (pieces_of (length m)) 1 in
        let n = length-replicate {A = ℕ} (pieces_of (length m)) 1 in
        starts_with full.marks ones y g.marks_length (omega arith)
        (λ k h. let b : k < pieces_of (length m) = omega arith in complete k b ∙ sym (get_or-replicate (pieces_of (length m)) k 1 0 b))
        (λ k h. g.marks_rest k (omega arith))
        ∙ ap (λ (j : ℕ). ones ++ drop j y) n

    pub close_answer_holds : answer_to full c ≡ stepped Accepted fresh_state (length m)
    close_answer_holds = (close_ends full c taken kind).0 ∙ ap (λ (n : ℕ). stepped Accepted fresh_state n) (size_is full g)

    pub close_leaves : memory_after full c ≡ holding m x y
    close_leaves = (close_ends full c taken kind).1 ∙ equal_parts refl image_is marks_are

  -- ---- the open

  module _ (st : State) (closed : is_opened st ≡ false) (small : length m ≤ size_limit) (o : List ℕ) (opens : OpenFor m o) where
    abbrev pub begun : Memory
    begun = memory st x y

    open_taken : fault_at begun o ≡ 0
    open_taken = open_fine st o x y (length m) opens closed small image_room mark_room

    cleared : (k : ℕ) → k < pieces_of (length m) → get_or (memory_after begun o).marks k 0 ≡ 0
    cleared k h = opened_marks begun o open_taken opens.kind k (rw opens.announced h)

    pub starts : InProgress m x y (memory_after begun o)
    starts =
        let kind = opens.kind in
        record {
          state_is = opened_state begun o open_taken kind ∙ ap (λ (n : ℕ). open_state n (length x) (length y)) opens.announced;
          image_length = (lengths_kept begun o).0;
          marks_length = (lengths_kept begun o).1;
          right = λ i h q. let z = cleared (i / piece_size) (place_in_holds (length m) i h) in absurd (omega arith);
          zero_or_one = λ k h. inl (cleared k h);
          image_rest = λ i h. image_elsewhere begun o i (λ a e. absurd (omega arith));
          marks_rest = λ k h. marks_elsewhere begun o k (λ e. rw opens.announced h, λ e i. omega arith);
        }

    -- ---- the close

    module _ (rs : List (List ℕ)) (pieces : Pieces m rs) (c : List ℕ) (closes : Close c) where
      t : Through (memory_after begun o) rs
      t = through rs (memory_after begun o) starts pieces.agree

      abbrev full : Memory
      full = run (memory_after begun o) rs

      abbrev g : InProgress m x y full
      g = t.open_still

      complete : (k : ℕ) → k < pieces_of (length m) → get_or full.marks k 0 ≡ 1
      complete k h = t.held_all k (pieces.cover k h)

      close_taken : fault_at full c ≡ 0
      close_taken =
          let n = g.marks_length in
          close_fine full.state c full.image full.marks (open_now full g) (long_enough full g) closes
          (ap (λ (k : ℕ). all_held (take (pieces_of k) full.marks)) (size_is full g)
          ∙ all_held_holds full.marks (pieces_of (length m)) (omega arith) (λ k h z. let e = complete k h in omega arith))

      answer_is : answer_to full c ≡ stepped Accepted fresh_state (length m)
      answer_is = close_answer_holds full g complete c close_taken closes.kind

      pub ends : Assembled m begun o rs c
      unfolding EachCall run
      ends =
          record {
            accepted = (opened_accepts begun o open_taken opens.kind, accepted_append rs (memory_after begun o) (c ∷ []) t.accepted (ap (λ (a : Stepped). a.verdict) answer_is, tt));
            reported = ap (λ (a : Stepped). a.length) answer_is;
            left = run_append (memory_after begun o) rs (c ∷ []) ∙ close_leaves full g complete c close_taken closes.kind;
          }

-- every transfer of m, whatever the order of its pieces and however often each comes
pub assembled : (m : List ℕ) (w : Memory) (o : List ℕ) (rs : List (List ℕ)) (c : List ℕ) → Transfer m w o rs c → Assembled m w o rs c
assembled m w o rs c t =
    ends m w.image w.marks t.image_room t.mark_room w.state t.closed t.small o t.opens rs t.pieces c t.closes

-- so two transfers of m over the same buffers leave the same, and over any buffers the same image
pub same_memory : (m : List ℕ) (w : Memory) (o p : List ℕ) (rs ss : List (List ℕ)) (c d : List ℕ) → Transfer m w o rs c → Transfer m w p ss d
    → run w (o ∷ (rs ++ (c ∷ []))) ≡ run w (p ∷ (ss ++ (d ∷ [])))
same_memory m w o p rs ss c d s t = (assembled m w o rs c s).left ∙ sym (assembled m w p ss d t).left

pub image_starts : (m : List ℕ) (w : Memory) (o : List ℕ) (rs : List (List ℕ)) (c : List ℕ) → Transfer m w o rs c
    → take (length m) (run w (o ∷ (rs ++ (c ∷ [])))).image ≡ m
image_starts m w o rs c t =
    ap (λ (v : Memory). take (length m) v.image) (assembled m w o rs c t).left ∙ take_at m (drop (length m) w.image) (length m) refl

pub same_image : (m : List ℕ) (w v : Memory) (o p : List ℕ) (rs ss : List (List ℕ)) (c d : List ℕ) → Transfer m w o rs c → Transfer m v p ss d
    → take (length m) (run w (o ∷ (rs ++ (c ∷ [])))).image ≡ take (length m) (run v (p ∷ (ss ++ (d ∷ [])))).image
same_image m w v o p rs ss c d s t = image_starts m w o rs c s ∙ sym (image_starts m v p ss d t)
