-- A complete set of pieces that do not disagree is the set of pieces of one image, the pieces joined in the order of their starts;
-- so what is promised: any order and any repeats of the set give that image at close. Assumes nothing.
use Prim.Native.Nat.{ℕ, suc, ◌+◌, ◌*◌, ◌/◌, ◌%◌, ◌<◌}
use mathlib.Core.Path.{◌≡◌, refl, sym, ap, ap₂, subst, ◌∙◌}
use mathlib.Core.Bool.{Bool, true, false}
use mathlib.Core.List.{List, [], ◌∷◌, ◌++◌}
use mathlib.Core.Logic.{inl, inr, ⊎_elim}
use native.Mathlib.Omega.{arith}
use borrow.Author.Tests.{eqb-true, eqb-false}
use lib.Dec.{eqb}
use lib.ListN.{length, take, drop, get_or, length-take, length-drop, take-append-drop, drop_of_length-le}
use lib.Seq.{drop-drop, ext_get_or}
use Rattle.octets.specs.Lists.{All}
use Rattle.octets.specs.Logic.{choose}
use Rattle.octets.proofs.Fields.{part_byte}
use Rattle.octets.proofs.Lists.{all_map}
use Rattle.eif.specs.Table.{filled}
use Rattle.eif_lemmas.proofs.Table.{filled_at, length_filled, join_split}
use Rattle.assembler.specs.Records.{piece_size, number_in, data_in, pieces_of, place_in}
use Rattle.assembler_laws.specs.Run.{Memory, run, PieceFor, PieceOf, Sent, Pieces, TransferOf, Assembled, Transfer}
use Rattle.assembler_laws.specs.Set.{In, CompleteSet, bytes_for, joined_pieces, AnyOrder, SetTransfer}
use Rattle.assembler_laws.proofs.Transfer.{assembled, same_memory}

-- ---- the first record of a place

record Found (ps : List (List ℕ)) (k : ℕ) : Type 0 where
  sent : List ℕ
  member : In ps sent
  place : place_in sent ≡ k
  bytes : bytes_for ps k ≡ data_in sent

found_by : (r : List ℕ) (rs : List (List ℕ)) (k : ℕ) (t : Bool) → eqb (place_in r) k ≡ t → Sent k (r ∷ rs) → (Sent k rs → Found rs k) → Found (r ∷ rs) k
unfolding In Sent bytes_for
found_by r rs k true e h next =
    record { sent = r; member = inl refl; place = eqb-true _ _ e; bytes = ap (λ (t : Bool). choose t (data_in r) (bytes_for rs k)) e }
found_by r rs k false e h next =
    let f = next (⊎_elim (λ z. absurd (eqb-false _ _ e z)) (λ s. s) h) in
    record {
      sent = f.sent;
      member = inr f.member;
      place = f.place;
      bytes = ap (λ (t : Bool). choose t (data_in r) (bytes_for rs k)) e ∙ f.bytes;
    }

found : (ps : List (List ℕ)) (k : ℕ) → Sent k ps → Found ps k
unfolding Sent
found [] k h = absurd h
found (r ∷ rs) k h = found_by r rs k (eqb (place_in r) k) refl h (λ s. found rs k s)

sent_in : (ps : List (List ℕ)) (r : List ℕ) → In ps r → Sent (place_in r) ps
unfolding In Sent
sent_in [] r h = absurd h
sent_in (p ∷ ps) r h = ⊎_elim (λ e. inl (ap place_in e)) (λ m. inr (sent_in ps r m)) h

-- ---- the image

module _ (n : ℕ) (ps : List (List ℕ)) (all : CompleteSet n ps) where
  abbrev content_byte : ℕ → ℕ
  content_byte i = get_or (bytes_for ps (i / piece_size)) (i % piece_size) 0

  -- byte by byte
  content : List ℕ
  content = filled content_byte 0 n n

  content_length : length content ≡ n
  unfolding content
  content_length = length_filled content_byte 0 n n

  content_at : (i : ℕ) → i < n → get_or content i 0 ≡ content_byte i
  unfolding content
  content_at i h = filled_at content_byte 0 0 n n i h (omega arith)

  module _ (r : List ℕ) (m : In ps r) where
    fit : PieceFor n r
    fit = all.fit r m

    bytes_here : bytes_for ps (place_in r) ≡ data_in r
    bytes_here =
        let f = found ps (place_in r) (sent_in ps r m) in
        let g = all.fit f.sent f.member in
        let a = g.on_grid in
        let b = fit.on_grid in
        let c = f.place in
        let e : number_in f.sent ≡ number_in r = omega arith in
        f.bytes ∙ all.agree f.sent r f.member m e

    bytes_are : data_in r ≡ take piece_size (drop (number_in r) content)
    bytes_are =
        let s = fit.bytes_are in
        let i = fit.inside in
        let o = fit.on_grid in
        let l = content_length in
        let d = length-drop (number_in r) content in
        let t = length-take piece_size (drop (number_in r) content) in
        ext_get_or 0 (data_in r) (take piece_size (drop (number_in r) content)) (omega arith)
        (λ j h.
        let p : (number_in r + j) / piece_size ≡ place_in r = omega arith in
        let q : (number_in r + j) % piece_size ≡ j = omega arith in
        sym
        (part_byte piece_size (number_in r) j content (omega arith)
        ∙ content_at (number_in r + j) (omega arith)
        ∙ ap₂ (λ (a b : ℕ). get_or (bytes_for ps a) b 0) p q
        ∙ ap (λ (b : List ℕ). get_or b j 0) bytes_here))

    piece_of : PieceOf content r
    piece_of =
        let l = content_length in
        let i = fit.inside in
        record { form = fit.form; kind = fit.kind; inside = omega arith; on_grid = fit.on_grid; bytes_are = bytes_are }

  -- the piece of each place
  bytes_of_holds : (k : ℕ) → k < pieces_of n → bytes_for ps k ≡ take piece_size (drop (k * piece_size) content)
  bytes_of_holds k h =
      let f = found ps k (all.cover k h) in
      let g = all.fit f.sent f.member in
      let a = g.on_grid in
      let c = f.place in
      let e : number_in f.sent ≡ k * piece_size = omega arith in
      f.bytes ∙ bytes_are f.sent f.member ∙ ap (λ (i : ℕ). take piece_size (drop i content)) e

  -- it stands before what follows it
  piece_stands : (k : ℕ) → k < pieces_of n → drop (k * piece_size) content ≡ bytes_for ps k ++ drop (suc k * piece_size) content
  piece_stands k h =
      let s : k * piece_size + piece_size ≡ suc k * piece_size = omega arith in
      sym (take-append-drop piece_size (drop (k * piece_size) content))
      ∙ ap₂ (λ (a b : List ℕ). a ++ b) (sym (bytes_of_holds k h)) (drop-drop piece_size (k * piece_size) content ∙ ap (λ (i : ℕ). drop i content) s)

  -- the pieces joined
  image_is : content ≡ joined_pieces n ps
  image_is =
      let l = content_length in
      join_split (bytes_for ps) (λ k. k * piece_size) (pieces_of n) content piece_stands (drop_of_length-le content {i = pieces_of n * piece_size} (omega arith)) (pieces_of n) 0 (omega arith)

  pub image_length : length (joined_pieces n ps) ≡ n
  image_length = sym (ap length image_is) ∙ content_length

  every_piece : (rs : List (List ℕ)) → All (In ps) rs → All (PieceOf (joined_pieces n ps)) rs
  every_piece = all_map (In ps) (PieceOf (joined_pieces n ps)) (λ r h. subst (λ (l : List ℕ). PieceOf l r) image_is (piece_of r h))

  pub pieces_of_holds : (rs : List (List ℕ)) → AnyOrder n ps rs → Pieces (joined_pieces n ps) rs
  pieces_of_holds rs h = record { agree = every_piece rs h.from_set; cover = λ k b. h.cover k (rw image_length at b) }

  -- the transfer of the set, in any order and with any repeats
  module _ (w : Memory) (o : List ℕ) (rs : List (List ℕ)) (c : List ℕ) (t : SetTransfer n ps w o rs c) where
    transfer : Transfer (joined_pieces n ps) w o rs c
    transfer =
        subst (λ (j : ℕ). TransferOf j (Pieces (joined_pieces n ps)) w o rs c) (sym image_length)
        (record {
          closed = t.closed;
          small = t.small;
          image_room = t.image_room;
          mark_room = t.mark_room;
          opens = t.opens;
          pieces = pieces_of_holds rs t.pieces;
          closes = t.closes;
        })

    pub any_order : Assembled (joined_pieces n ps) w o rs c
    any_order = assembled (joined_pieces n ps) w o rs c transfer

-- two such transfers over the same buffers leave the same, byte for byte
pub order_free : (n : ℕ) (ps : List (List ℕ)) → CompleteSet n ps → (w : Memory) (o p : List ℕ) (rs ss : List (List ℕ)) (c d : List ℕ)
    → SetTransfer n ps w o rs c → SetTransfer n ps w p ss d → run w (o ∷ (rs ++ (c ∷ []))) ≡ run w (p ∷ (ss ++ (d ∷ [])))
order_free n ps all w o p rs ss c d s t = same_memory (joined_pieces n ps) w o p rs ss c d (transfer n ps all w o rs c s) (transfer n ps all w p ss d t)
