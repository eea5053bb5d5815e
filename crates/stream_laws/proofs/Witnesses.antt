-- The verdicts of copies one after the other, by computation: of the worked image, whose stream has the two bytes 4b 61. So `all_accepted` is not
-- about an empty list. Numbers are written out.
use Prim.Native.Nat.{ℕ, ◌+◌}
use mathlib.Core.Path.{◌≡◌, ap, ◌∙◌}
use mathlib.Core.List.{List, [], ◌∷◌}
use lib.ListN.{length}
use Rattle.octets.specs.Bytes.{field, be_value}
use Rattle.eif.specs.Answers.{refuse, and_then}
use Rattle.eif.specs.Stream.{keeps, kept, stream_of, stream_part, past_end, copy_verdict, copied_for, copy_answer}
use Rattle.eif.specs.Worked.{worked_image}
use Rattle.eif.proofs.Worked.{worked_accepted, copy_refused}
use Rattle.eif.specs.declared.Copied.{Copied}
use Rattle.eif.specs.declared.Stream.TheVariants.{Whole}
use Rattle.eif.specs.declared.Verdict.{Verdict}
use Rattle.eif.specs.declared.Verdict.TheVariants.{Accepted}
use Rattle.stream_laws.specs.Pieces.{verdicts}

abbrev accepted : ℕ → Copied
accepted count = record { verdict = Accepted; count = count }

-- a copy by the image's verdict
abbrev copy_for : ℕ → ℕ → Verdict → Copied
copy_for from size v = copied_for (and_then v (past_end (stream_of worked_image Whole) from)) (length (stream_part worked_image Whole from size))

by_stream : (from size : ℕ) → copy_answer worked_image Whole from size ≡ copy_for from size Accepted
unfolding copy_answer copy_verdict
by_stream from size = ap (copy_for from size) worked_accepted

-- the first byte into a buffer of one, the second into another, and from the stream's end none into a buffer of three
first_copy : copy_answer worked_image Whole 0 1 ≡ accepted 1
unfolding stream_of kept keeps field be_value
first_copy = by_stream 0 1

second_copy : copy_answer worked_image Whole 1 1 ≡ accepted 1
unfolding stream_of kept keeps field be_value
second_copy = by_stream 1 1

copy_at_end : copy_answer worked_image Whole 2 3 ≡ accepted 0
unfolding stream_of kept keeps field be_value
copy_at_end = by_stream 2 3

abbrev one_byte : List ℕ
one_byte = 0 ∷ []

abbrev three_bytes : List ℕ
three_bytes = 0 ∷ 0 ∷ 0 ∷ []

verdicts_accepted : verdicts worked_image Whole 0 (one_byte ∷ one_byte ∷ three_bytes ∷ []) ≡ Accepted ∷ Accepted ∷ Accepted ∷ []
unfolding verdicts
verdicts_accepted =
    ap (λ (c : Copied). c.verdict ∷ verdicts worked_image Whole (0 + c.count) (one_byte ∷ three_bytes ∷ [])) first_copy
    ∙ ap (λ (c : Copied). Accepted ∷ c.verdict ∷ verdicts worked_image Whole (1 + c.count) (three_bytes ∷ [])) second_copy
    ∙ ap (λ (c : Copied). Accepted ∷ Accepted ∷ c.verdict ∷ []) copy_at_end

-- past its end, refused with 19
verdicts_refused : verdicts worked_image Whole 3 ((0 ∷ 0 ∷ three_bytes) ∷ []) ≡ refuse 19 0 ∷ []
unfolding verdicts
verdicts_refused = ap (λ (c : Copied). c.verdict ∷ []) copy_refused
