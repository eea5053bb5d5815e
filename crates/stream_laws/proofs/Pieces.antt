-- Copying in pieces gives what copying at once gives: for any buffers, one call after the other, each from where the last one ended.
-- Assumes nothing.
use Prim.Native.Nat.{ℕ, ◌+◌, ◌≤◌}
use mathlib.Core.Path.{◌≡◌, refl, sym, ap, ap₂, ◌∙◌}
use mathlib.Core.List.{List, [], ◌∷◌, ◌++◌, append-nil}
use mathlib.Core.Logic.{⊎_elim}
use native.Mathlib.Omega.{arith}
use borrow.Author.Tests.{le-ltb}
use lib.ListN.{length, take, drop, length-take, length-drop, drop_of_length-le}
use lib.Seq.{take_all, take-nil, take-add, drop-drop, take-append_seam, length-take-le}
use Rattle.octets.specs.Lists.{All}
use Rattle.octets.proofs.Over.{over_parts}
use Rattle.eif.specs.Reading.{verdict_of}
use Rattle.eif.specs.Stream.{stream_of, stream_part, copy_verdict, copy_answer, copy_output}
use Rattle.eif.specs.declared.Stream.{Stream}
use Rattle.eif.specs.declared.Verdict.TheVariants.{Accepted}
use Rattle.octets.proofs.Logic.{le_or_lt}
use Rattle.stream_laws.specs.Pieces.{copied, verdicts, room}

-- ---- two parts of a list

take_on : (m n : ℕ) (l : List ℕ) → take m l ++ take n (drop (length (take m l)) l) ≡ take (m + n) l
take_on m n l =
    ⊎_elim
    (λ h. ap (λ (k : ℕ). take m l ++ take n (drop k l)) (length-take-le m l h) ∙ sym (take-add m n l))
    (λ h.
    let e = take_all m l (omega arith) in
    ap₂ (λ (a b : List ℕ). a ++ take n b) e (drop_of_length-le l {i = length (take m l)} (omega (arith, ap length e))) ∙ ap (λ (a : List ℕ). l ++ a) (take-nil n)
    ∙ append-nil l ∙ sym (take_all (m + n) l (omega arith)))
    (le_or_lt m (length l))

module _ (s : List ℕ) (stream : Stream) where
  -- two copies, the second from where the first one ended, for every byte string
  pub parts_join : (from m n : ℕ) → stream_part s stream from m ++ stream_part s stream (from + length (stream_part s stream from m)) n ≡ stream_part s stream from (m + n)
  parts_join from m n =
      ap (λ (l : List ℕ). stream_part s stream from m ++ take n l) (sym (drop-drop (length (stream_part s stream from m)) from (stream_of s stream)))
      ∙ take_on m n (drop from (stream_of s stream))

  -- ---- one call, of an accepted image and from a position within its stream

  module _ (ok : verdict_of s ≡ Accepted) where
    module _ (from : ℕ) (within : from ≤ length (stream_of s stream)) where
      accepted : copy_verdict s stream from ≡ Accepted
      unfolding copy_verdict
      accepted = simp (ok, le-ltb _ _ within)

      module _ (d : List ℕ) where
        abbrev part : List ℕ
        part = stream_part s stream from (length d)

        count_is : (copy_answer s stream from (length d)).count ≡ length part
        unfolding copy_answer
        count_is = simp accepted

        verdict_is : (copy_answer s stream from (length d)).verdict ≡ Accepted
        unfolding copy_answer
        verdict_is = simp accepted

        fits : length part ≤ length d
        fits = simp length-take (omega arith)

        written : take (length part) (copy_output s stream from d) ≡ part
        unfolding copy_output
        written =
            simp accepted
            (ap (take (length part)) (over_parts d 0 part (omega (arith, fits))) ∙ take-append_seam part (drop (0 + length part) d))

        stays : from + length part ≤ length (stream_of s stream)
        stays = simp (length-take, length-drop) (omega arith)

    -- ---- any number of calls

    -- none of them is refused
    pub all_accepted : (from : ℕ) (ds : List (List ℕ)) → from ≤ length (stream_of s stream) → All (λ v. v ≡ Accepted) (verdicts s stream from ds)
    unfolding All verdicts
    all_accepted from [] h = tt
    all_accepted from (d ∷ ds) h =
        (verdict_is from h d, all_accepted (from + (copy_answer s stream from (length d)).count) ds (rw (count_is from h d) (stays from h d)))

    -- the pieces joined are the stream's part that the buffers have room for
    pub pieces_join : (from : ℕ) (ds : List (List ℕ)) → from ≤ length (stream_of s stream) → copied s stream from ds ≡ stream_part s stream from (room ds)
    unfolding copied
    pieces_join from [] h = refl
    pieces_join from (d ∷ ds) h =
        rw (count_is from h d)
        (ap₂ (λ (a b : List ℕ). a ++ b) (written from h d) (pieces_join (from + length (part from h d)) ds (stays from h d))
        ∙ parts_join from (length d) (room ds))

    -- from the start, and with room enough, they are the whole stream
    pub pieces_whole : (ds : List (List ℕ)) → length (stream_of s stream) ≤ room ds → copied s stream 0 ds ≡ stream_of s stream
    pieces_whole ds h = pieces_join 0 ds (omega arith) ∙ take_all (room ds) (stream_of s stream) h
