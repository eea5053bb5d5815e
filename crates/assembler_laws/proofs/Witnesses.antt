-- Records, runs and lengths of buffers that the relations of specs and of assembler's Faults hold of, and values that they reject, each by the field
-- that it breaks: of a transfer of two pieces in both orders and with a repeat, and of an image of one byte. So no law of this crate is about
-- nothing. Numbers are written out.
use Prim.Native.Nat.{ℕ, zero, suc, ◌<◌, ◌≤◌}
use mathlib.Core.Path.{◌≡◌, refl, sym, ap, subst}
use mathlib.Core.Bool.{true, false≢true, true≢false}
use mathlib.Core.List.{List, [], ◌∷◌, ◌++◌}
use mathlib.Core.Logic.{inl, inr, ⊎_elim}
use native.Mathlib.Omega.{arith}
use lib.Dec.{lit<, lit≤, ltb}
use lib.ListN.{get_or, replicate}
use borrow.Author.Tests.{ltb-true}
use Rattle.octets.specs.Bytes.{le_field, le_bytes}
use Rattle.octets.specs.Lists.{All}
use Rattle.octets.specs.Over.{over}
use Rattle.octets.specs.Same.{same_bytes}
use Rattle.eif.specs.Table.{join_from}
use Rattle.eif.specs.Roll.{head_of}
use Rattle.eif_lemmas.proofs.Verdicts.{never}
use Rattle.assembler.specs.Records.{number_in, data_in, formed, off_grid}
use Rattle.assembler.specs.Rules.{too_small, shorter_than_at_open, all_held, fault_of}
use Rattle.assembler.specs.Step.{fresh_state, open_state, step_answer, image_after, marks_after}
use Rattle.assembler.proofs.Faults.{LongEnough}
use Rattle.assembler_laws.specs.Run.{Memory, memory, run, taken_of, EachCall, AllAccepted, Announces, PieceFor, PieceOf, Close, Sent, AllSent, Pieces, TransferOf, Transfer, Assembled, OutsideAll, OtherPiece, OtherMark, StaysOpen, Repeated, AnyBetween, WithoutPiece}
use Rattle.assembler_laws.specs.Set.{In, CompleteSet, bytes_for, joined_pieces, AnyOrder, SetTransfer}
use Rattle.assembler_laws.specs.Made.{open_record, piece_record, close_record}
use Rattle.assembler_laws.specs.Long.{LongRecord}
use Rattle.assembler_laws.proofs.Made.{made_close}
use Rattle.assembler_laws.proofs.Content.{any_order}

apart : (a b : ℕ) → ltb a b ≡ true → a ≡ b → ⊥
apart a b l e = let h = ltb-true a b l in omega arith

-- ---- an image of 4,097 bytes, 4,096 of 61 and one of 62, and its two pieces; another last piece; and buffers with a byte and a mark more

unfoldable image : List ℕ
image = replicate 4096 0x61 ++ 0x62 ∷ []

unfoldable first : List ℕ
first = piece_record 0 (replicate 4096 0x61)

abbrev second : List ℕ
second = piece_record 4096 (0x62 ∷ [])

abbrev other : List ℕ
other = piece_record 4096 (0x63 ∷ [])

abbrev set : List (List ℕ)
set = first ∷ second ∷ []

unfoldable room_for_both : List ℕ
room_for_both = replicate 4098 0xee

abbrev before_both : Memory
before_both = memory fresh_state room_for_both (5 ∷ 6 ∷ 7 ∷ [])

-- open for it
abbrev open_for_both : Memory
open_for_both = memory (open_state 4097 4098 3) room_for_both (0 ∷ 0 ∷ 7 ∷ [])

-- ---- an image of the one byte 61, and another; buffers of two bytes and two marks, before an open, after it, and with the piece taken

abbrev lone : List ℕ
lone = piece_record 0 (0x61 ∷ [])

abbrev other_lone : List ℕ
other_lone = piece_record 0 (0x62 ∷ [])

abbrev not_opened : Memory
not_opened = memory fresh_state (8 ∷ 9 ∷ []) (5 ∷ 6 ∷ [])

abbrev opened_for_one : Memory
opened_for_one = memory (open_state 1 2 2) (8 ∷ 9 ∷ []) (0 ∷ 6 ∷ [])

abbrev with_lone : Memory
with_lone = memory (open_state 1 2 2) (0x61 ∷ 9 ∷ []) (1 ∷ 6 ∷ [])

-- ---- records: an open, pieces, a close

open_holds : Announces 4097 (open_record 4097)
unfolding formed le_field head_of
open_holds = record { form = refl; kind = refl; announced = refl }

-- rejected: a byte too long, a close, another length
open_rejects :
    (Announces 4097 (open_record 4097 ++ 0 ∷ []) → ⊥) × (Announces 0 close_record → ⊥) × (Announces 4097 (open_record 4096) → ⊥)
unfolding formed le_field head_of
open_rejects = (λ a. false≢true a.form, λ a. let h = a.kind in omega arith, λ a. let h = a.announced in omega arith)

first_fits : PieceFor 4097 first
unfolding first formed le_field head_of
first_fits = record { form = refl; kind = refl; inside = lit< tt; on_grid = refl; bytes_are = refl }

second_fits : PieceFor 4097 second
unfolding formed le_field head_of
second_fits = record { form = refl; kind = refl; inside = lit< tt; on_grid = refl; bytes_are = refl }

other_fits : PieceFor 4097 other
unfolding formed le_field head_of
other_fits = record { form = refl; kind = refl; inside = lit< tt; on_grid = refl; bytes_are = refl }

-- rejected: a length that is not its own, an open, a start past the image, a start off the grid, a byte too many
fits_rejects :
    (PieceFor 4097 (second ++ 0 ∷ []) → ⊥) × (PieceFor 4097 (open_record 0) → ⊥) × (PieceFor 4097 (piece_record 8192 []) → ⊥)
    × (PieceFor 4097 (piece_record 1 (replicate 4096 0)) → ⊥) × (PieceFor 4097 (piece_record 4096 (0x62 ∷ 0x62 ∷ [])) → ⊥)
unfolding formed le_field head_of
fits_rejects = (
  λ p. false≢true p.form,
  λ p. let h = p.kind in omega arith,
  λ p. let h = p.inside in omega arith,
  λ p. let h = p.on_grid in omega arith,
  λ p. let h = p.bytes_are in omega arith,
)

first_of : PieceOf image first
unfolding image first formed le_field head_of
first_of = record { form = refl; kind = refl; inside = lit< tt; on_grid = refl; bytes_are = refl }

second_of : PieceOf image second
unfolding image formed le_field head_of
second_of = record { form = refl; kind = refl; inside = lit< tt; on_grid = refl; bytes_are = refl }

-- rejected: another byte
of_rejects : PieceOf image other → ⊥
unfolding image formed le_field head_of
of_rejects p = let h = ap (λ (l : List ℕ). get_or l 0 0) p.bytes_are in omega arith

-- a close; rejected: a byte too long, an open
close_rejects : (Close (close_record ++ 0 ∷ []) → ⊥) × (Close (open_record 1) → ⊥)
unfolding formed le_field head_of
close_rejects = (λ c. false≢true c.form, λ c. let h = c.kind in omega arith)

-- ---- pieces that cover the image, in both orders and with a repeat

covered : AllSent 4097 (second ∷ first ∷ second ∷ [])
unfolding Sent first le_field head_of
covered zero h = inr (inl refl)
covered (suc zero) h = inl refl
covered (suc (suc k)) h = absurd (omega arith)

covered_in_order : AllSent 4097 set
unfolding Sent first le_field head_of
covered_in_order zero h = inl refl
covered_in_order (suc zero) h = inr (inl refl)
covered_in_order (suc (suc k)) h = absurd (omega arith)

-- rejected: the last piece is not among them
first_alone : AllSent 4097 (first ∷ first ∷ []) → ⊥
unfolding Sent first le_field head_of
first_alone c = ⊎_elim (apart 0 1 refl) (⊎_elim (apart 0 1 refl) absurd) (c 1 (lit< tt))

pieces_hold : Pieces image (second ∷ first ∷ second ∷ [])
unfolding All image
pieces_hold = record { agree = (second_of, (first_of, (second_of, tt))); cover = covered }

-- rejected: a piece of another image among them, and one missing
pieces_reject : (Pieces image (second ∷ first ∷ other ∷ []) → ⊥) × (Pieces image (first ∷ first ∷ []) → ⊥)
unfolding All image
pieces_reject = (λ p. of_rejects p.agree.1.1.0, λ p. first_alone p.cover)

-- ---- the two pieces as a set

of_set : (P : List ℕ → Type 0) → P first → P second → (r : List ℕ) → In set r → P r
unfolding In
of_set P a b r i = ⊎_elim (λ e. subst P e a) (⊎_elim (λ e. subst P e b) absurd) i

set_agrees : (r s : List ℕ) → In set r → In set s → number_in r ≡ number_in s → data_in r ≡ data_in s
unfolding first le_field head_of
set_agrees r s i j =
    of_set (λ r. number_in r ≡ number_in s → data_in r ≡ data_in s)
    (of_set (λ s. number_in first ≡ number_in s → data_in first ≡ data_in s) (λ e. refl) (λ e. absurd (apart 0 4096 refl e)) s j)
    (of_set (λ s. number_in second ≡ number_in s → data_in second ≡ data_in s) (λ e. absurd (apart 0 4096 refl (sym e))) (λ e. refl) s j)
    r i

set_complete : CompleteSet 4097 set
set_complete = record { fit = of_set (PieceFor 4097) first_fits second_fits; agree = set_agrees; cover = covered_in_order }

-- rejected: a record that is no piece, two pieces for the same start that disagree, a piece missing
set_rejects :
    (CompleteSet 4097 (first ∷ second ∷ open_record 4097 ∷ []) → ⊥) × (CompleteSet 4097 (first ∷ second ∷ other ∷ []) → ⊥)
    × (CompleteSet 4097 (first ∷ first ∷ []) → ⊥)
unfolding In formed le_field head_of
set_rejects = (
  λ c. let h = (c.fit (open_record 4097) (inr (inr (inl refl)))).kind in omega arith,
  λ c. apart 0x62 0x63 refl (ap (λ (l : List ℕ). get_or l 0 0) (c.agree second other (inr (inl refl)) (inr (inr (inl refl))) refl)),
  λ c. first_alone c.cover,
)

any_order_holds : AnyOrder 4097 set (second ∷ first ∷ second ∷ [])
unfolding All In
any_order_holds = record { from_set = (inr (inl refl), (inl refl, (inr (inl refl), tt))); cover = covered }

in_order_holds : AnyOrder 4097 set set
unfolding All In
in_order_holds = record { from_set = (inl refl, (inr (inl refl), tt)); cover = covered_in_order }

-- rejected: a record that is not of the set, a piece missing
any_order_rejects : (AnyOrder 4097 set (second ∷ first ∷ other ∷ []) → ⊥) × (AnyOrder 4097 set (first ∷ first ∷ []) → ⊥)
unfolding All In first le_field head_of
any_order_rejects = (
  λ a. ⊎_elim (λ e. apart 0 4096 refl (ap number_in e))
      (⊎_elim (λ e. apart 0x62 0x63 refl (ap (λ (r : List ℕ). get_or (data_in r) 0 0) e)) absurd) a.from_set.1.1.0,
  λ a. first_alone a.cover,
)

-- ---- transfers of it

transfer_with : (rs : List (List ℕ)) → AnyOrder 4097 set rs → SetTransfer 4097 set before_both (open_record 4097) rs close_record
unfolding room_for_both
transfer_with rs o =
    record { closed = refl; small = lit≤ tt; image_room = lit≤ tt; mark_room = lit≤ tt; opens = open_holds; pieces = o; closes = made_close }

-- rejected: a transfer is open, an image over the limit, no room for its last byte, nor for its last mark, and what open, pieces and close are not
abbrev Any : List (List ℕ) → Type 0
Any rs = Unit

transfer_rejects :
    (TransferOf 4097 Any open_for_both (open_record 4097) set close_record → ⊥)
    × (TransferOf 1073741825 Any before_both (open_record 1073741825) [] close_record → ⊥)
    × (TransferOf 4099 Any before_both (open_record 4099) [] close_record → ⊥)
    × (TransferOf 4097 Any (memory fresh_state room_for_both (5 ∷ [])) (open_record 4097) set close_record → ⊥)
    × (TransferOf 4097 Any before_both (open_record 4096) set close_record → ⊥)
    × (Transfer image before_both (open_record 4097) (first ∷ first ∷ []) close_record → ⊥)
    × (TransferOf 4097 Any before_both (open_record 4097) set (open_record 1) → ⊥)
unfolding room_for_both
transfer_rejects = (
  λ t. true≢false t.closed,
  λ t. let h = t.small in omega arith,
  λ t. let h = t.image_room in omega arith,
  λ t. let h = t.mark_room in omega arith,
  λ t. open_rejects.2 t.opens,
  λ t. pieces_reject.1 t.pieces,
  λ t. close_rejects.1 t.closes,
)

-- in both orders the pieces joined are the image, and that is what the buffers hold then
joined_is : joined_pieces 4097 set ≡ image
unfolding join_from bytes_for image first le_field head_of
joined_is = refl

assembled_by : (rs : List (List ℕ)) → AnyOrder 4097 set rs → Assembled image before_both (open_record 4097) rs close_record
assembled_by rs o =
    subst (λ m. Assembled m before_both (open_record 4097) rs close_record) joined_is
    (any_order 4097 set set_complete before_both (open_record 4097) rs close_record (transfer_with rs o))

assembled_in_order : Assembled image before_both (open_record 4097) set close_record
assembled_in_order = assembled_by set in_order_holds

assembled_out_of_order : Assembled image before_both (open_record 4097) (second ∷ first ∷ second ∷ []) close_record
assembled_out_of_order = assembled_by (second ∷ first ∷ second ∷ []) any_order_holds

left_is : run before_both (open_record 4097 ∷ second ∷ first ∷ second ∷ close_record ∷ []) ≡ memory fresh_state (image ++ 0xee ∷ []) (1 ∷ 1 ∷ 7 ∷ [])
unfolding room_for_both image
left_is = assembled_out_of_order.left

-- rejected: a piece missing, so that the close is refused; a length that is not reported, over a buffer that holds the byte after the image's as
-- well; another image
assembled_rejects :
    (Assembled (0x61 ∷ []) not_opened (open_record 1) [] close_record → ⊥)
    × (Assembled (0x61 ∷ 9 ∷ []) not_opened (open_record 1) (lone ∷ []) close_record → ⊥)
    × (Assembled (0x62 ∷ []) not_opened (open_record 1) (lone ∷ []) close_record → ⊥)
unfolding run EachCall head_of step_answer image_after marks_after fault_of formed off_grid too_small shorter_than_at_open all_held same_bytes le_field over
assembled_rejects = (
  λ a. never _ a.accepted.1.0,
  λ a. let h = a.reported in omega arith,
  λ a. apart 0x61 0x62 refl (ap (λ (w : Memory). get_or w.image 0 0) a.left),
)

-- ---- runs of records of which some are refused: a close and an open out of turn, no record, another byte for the piece that is held

taken_are :
    taken_of not_opened
    (close_record ∷ open_record 1 ∷ open_record 1 ∷ [] ∷ lone ∷ other_lone ∷ lone ∷ close_record ∷ close_record ∷ [])
    ≡ open_record 1 ∷ lone ∷ lone ∷ close_record ∷ []
unfolding taken_of head_of step_answer image_after marks_after fault_of formed off_grid too_small shorter_than_at_open all_held same_bytes le_field over
taken_are = refl

accepted_hold : AllAccepted not_opened (open_record 1 ∷ lone ∷ lone ∷ close_record ∷ [])
unfolding EachCall head_of step_answer image_after marks_after fault_of formed off_grid too_small shorter_than_at_open all_held same_bytes le_field over
accepted_hold = (refl, (refl, (refl, (refl, tt))))

accepted_rejects : AllAccepted not_opened (open_record 1 ∷ lone ∷ other_lone ∷ []) → ⊥
unfolding EachCall head_of step_answer image_after marks_after fault_of formed off_grid too_small shorter_than_at_open all_held same_bytes le_field over
accepted_rejects a = never _ a.1.1.0

stays_holds : StaysOpen opened_for_one (lone ∷ other_lone ∷ open_record 1 ∷ [] ∷ [])
unfolding EachCall head_of step_answer image_after marks_after fault_of formed off_grid too_small shorter_than_at_open all_held same_bytes le_field over
stays_holds = (refl, (refl, (refl, (refl, tt))))

stays_rejects : StaysOpen opened_for_one (lone ∷ close_record ∷ open_record 1 ∷ []) → ⊥
unfolding EachCall head_of step_answer image_after marks_after fault_of formed off_grid too_small shorter_than_at_open all_held same_bytes le_field over
stays_rejects s = false≢true s.1.0

-- ---- a piece that comes again

repeat_holds : Repeated open_for_both second (other ∷ open_record 5 ∷ [] ∷ []) second
unfolding room_for_both EachCall head_of step_answer image_after marks_after fault_of formed off_grid too_small shorter_than_at_open all_held same_bytes le_field over
repeat_holds =
    record {
      taken = refl;
      kind = refl;
      stays_open = (refl, (refl, (refl, tt)));
      form_again = refl;
      kind_again = refl;
      same_start = refl;
      same_bytes_holds = refl;
    }

-- rejected: the piece was not taken, what was taken is a close, the transfer was closed; what comes again has no form, another start, other bytes
repeat_rejects :
    (Repeated not_opened lone [] lone → ⊥) × (Repeated with_lone close_record [] lone → ⊥) × (Repeated opened_for_one lone (close_record ∷ []) lone → ⊥)
    × (Repeated opened_for_one lone [] (head_of 10 2 ++ (le_bytes 8 0 ++ 0x61 ∷ [])) → ⊥)
    × (Repeated opened_for_one lone [] (piece_record 1 (0x61 ∷ [])) → ⊥) × (Repeated opened_for_one lone [] other_lone → ⊥)
unfolding EachCall head_of step_answer image_after marks_after fault_of formed off_grid too_small shorter_than_at_open all_held same_bytes le_field over
repeat_rejects = (
  λ r. never _ r.taken,
  λ r. let h = r.kind in omega arith,
  λ r. false≢true r.stays_open.0,
  λ r. false≢true r.form_again,
  λ r. let h = r.same_start in omega arith,
  λ r. apart 0x61 0x62 refl (sym (ap (λ (l : List ℕ). get_or l 0 0) r.same_bytes_holds)),
)

-- ---- any records between an open and a close

-- no record, an open out of turn, a piece that is none of the image's, and its one piece twice
between_holds : AnyBetween (0x61 ∷ []) not_opened (open_record 1) ([] ∷ open_record 1 ∷ lone ∷ piece_record 1 (0x63 ∷ []) ∷ lone ∷ []) close_record
unfolding run EachCall All head_of step_answer image_after marks_after fault_of formed off_grid too_small shorter_than_at_open all_held same_bytes le_field over
between_holds =
    record {
      opens = record { form = refl; kind = refl; announced = refl };
      open_accepted = refl;
      agree = (
        λ p. absurd (false≢true p.form),
        (λ p. let h = p.kind in absurd (omega arith), (λ p. lone_of, (λ p. let h = p.inside in absurd (omega arith), (λ p. lone_of, tt)))),
      );
      stays_open = (refl, (refl, (refl, (refl, (refl, tt)))));
      closes = made_close;
      close_accepted = refl;
    }
  where
    lone_of : PieceOf (0x61 ∷ []) lone
    lone_of = record { form = refl; kind = refl; inside = lit< tt; on_grid = refl; bytes_are = refl }

-- rejected: an open for another length, one that is refused, a piece that disagrees, a close among the records, a last record that is no close, and
-- a close that is refused
between_rejects :
    (AnyBetween (0x61 ∷ []) not_opened (open_record 2) (lone ∷ []) close_record → ⊥)
    × (AnyBetween (0x61 ∷ []) opened_for_one (open_record 1) (lone ∷ []) close_record → ⊥)
    × (AnyBetween (0x61 ∷ []) not_opened (open_record 1) (other_lone ∷ []) close_record → ⊥)
    × (AnyBetween (0x61 ∷ []) not_opened (open_record 1) (lone ∷ close_record ∷ open_record 1 ∷ lone ∷ []) close_record → ⊥)
    × (AnyBetween (0x61 ∷ []) not_opened (open_record 1) (lone ∷ []) lone → ⊥)
    × (AnyBetween (0x61 ∷ []) not_opened (open_record 1) [] close_record → ⊥)
unfolding run EachCall All head_of step_answer image_after marks_after fault_of formed off_grid too_small shorter_than_at_open all_held same_bytes le_field over
between_rejects = (
  λ b. let h = b.opens.announced in omega arith,
  λ b. never _ b.open_accepted,
  λ b. apart 0x61 0x62 refl (sym (ap (λ (l : List ℕ). get_or l 0 0) (b.agree.0 other_lone_fits).bytes_are)),
  λ b. false≢true b.stays_open.1.0,
  λ b. let h = b.closes.kind in omega arith,
  λ b. never _ b.close_accepted,
)
  where
    other_lone_fits : PieceFor 1 other_lone
    other_lone_fits = record { form = refl; kind = refl; inside = lit< tt; on_grid = refl; bytes_are = refl }

-- ---- a piece missing

not_second : OtherPiece 1 first
unfolding first le_field head_of
not_second k e = apart 0 1 refl e

without_holds : WithoutPiece 1 before_both (open_record 4097) (first ∷ open_record 4097 ∷ first ∷ []) close_record
unfolding room_for_both All head_of step_answer fault_of formed too_small le_field
without_holds =
    record {
      open_kind_holds = refl;
      open_accepted = refl;
      of_image = lit< tt;
      not_sent = (not_second, (λ k e. apart 1 2 refl k, (not_second, tt)));
      closes = made_close;
    }

-- rejected: a first record that is no open, one that is refused, a place past the pieces, the piece brought after all, a last record that is no close
without_rejects :
    (WithoutPiece 0 opened_for_one lone [] close_record → ⊥) × (WithoutPiece 1 open_for_both (open_record 4097) (first ∷ []) close_record → ⊥)
    × (WithoutPiece 2 before_both (open_record 4097) (first ∷ []) close_record → ⊥)
    × (WithoutPiece 1 before_both (open_record 4097) (first ∷ second ∷ []) close_record → ⊥)
    × (WithoutPiece 1 before_both (open_record 4097) (first ∷ []) second → ⊥)
unfolding room_for_both All head_of step_answer fault_of formed too_small le_field
without_rejects = (
  λ w. let h = w.open_kind_holds in omega arith,
  λ w. never _ w.open_accepted,
  λ w. let h = w.of_image in omega arith,
  λ w. w.not_sent.1.0 refl refl,
  λ w. let h = w.closes.kind in omega arith,
)

-- ---- lengths of the image's buffer and of the marks, beside a state that is open for 4,097 bytes

enough_holds : LongEnough (open_state 4097 4098 3) 4098 3
enough_holds = record { image_room = lit≤ tt; mark_room = lit≤ tt; image_kept = lit≤ tt; marks_kept = lit≤ tt }

-- rejected: no room for the last byte, nor for the last mark; a byte less than at open, a mark less than at open
enough_rejects :
    (LongEnough (open_state 4097 4096 3) 4096 3 → ⊥) × (LongEnough (open_state 4097 4098 1) 4098 1 → ⊥)
    × (LongEnough (open_state 4097 4098 3) 4097 3 → ⊥) × (LongEnough (open_state 4097 4098 3) 4098 2 → ⊥)
enough_rejects = (
  λ l. let h = l.image_room in omega arith,
  λ l. let h = l.mark_room in omega arith,
  λ l. let h = l.image_kept in omega arith,
  λ l. let h = l.marks_kept in omega arith,
)

-- ---- what lies outside the pieces taken: bytes, and marks. A piece that is refused takes none

outside_holds :
    OutsideAll 4095 open_for_both (second ∷ other ∷ []) × OutsideAll 4097 open_for_both (second ∷ other ∷ []) × OutsideAll 0 not_opened (lone ∷ [])
unfolding room_for_both EachCall head_of step_answer image_after marks_after fault_of formed off_grid too_small shorter_than_at_open all_held same_bytes le_field over
outside_holds =
    ((λ a k. inl (lit< tt), (λ a k. inl (lit< tt), tt)), (λ a k. inr (lit≤ tt), (λ a k. inr (lit≤ tt), tt)), (λ a k. never _ a, tt))

outside_rejects : OutsideAll 4096 open_for_both (open_record 5 ∷ second ∷ []) → ⊥
unfolding room_for_both EachCall head_of step_answer image_after marks_after fault_of formed off_grid too_small shorter_than_at_open all_held same_bytes le_field over
outside_rejects o = ⊎_elim (λ (h : 4096 < 4096). omega arith) (λ (h : 4097 ≤ 4096). omega arith) (o.1.0 refl refl)

marks_hold : OtherMark 2 (open_record 4097) × OtherMark 0 second × OtherMark 1 close_record
unfolding le_field head_of
marks_hold = (
  (λ k. lit≤ tt, λ k e. apart 1 2 refl k),
  (λ k. absurd (apart 1 2 refl (sym k)), λ k e. apart 0 1 refl (sym e)),
  (λ k. absurd (apart 1 3 refl (sym k)), λ k e. apart 2 3 refl (sym k)),
)

marks_reject : (OtherMark 1 (open_record 4097) → ⊥) × (OtherMark 1 second → ⊥)
unfolding le_field head_of
marks_reject = (λ m. let h = m.0 refl in omega arith, λ m. m.1 refl refl)

-- ---- a record that is longer than any piece

long_holds : LongRecord (piece_record 0 (replicate 4097 0x61))
unfolding le_field head_of
long_holds = record { longer = lit< tt; whole = refl }

-- rejected: the longest piece, and one whose head says less than follows
long_rejects : (LongRecord first → ⊥) × (LongRecord (first ++ 0 ∷ []) → ⊥)
unfolding first le_field head_of
long_rejects = (λ l. let h = l.longer in omega arith, λ l. let h = l.whole in omega arith)
