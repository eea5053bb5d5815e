-- What the law `same-or-21` of proofs/Strict.antt states.
-- Assumes nothing.
use Rattle.std.specs.Prelude.{ℕ, ◌<◌, ◌≡◌, List}
use Rattle.json_grammar.specs.Verdict.{IsText}
use Rattle.eif.specs.Numbers.{metadata}
use Rattle.eif.specs.Layout.{count_of, kind_at}
use Rattle.eif.specs.Reading.{verdict_of, section_at, data_of}
use Rattle.eif.specs.declared.Verdict.TheVariants.{Accepted}
use Rattle.strict_reader.specs.Strict.{refuse_metadata, strict_verdict}

-- the ordinary reading accepts, and a metadata section whose data is no text is refused with 21
pub record Refused21 (s : List ℕ) : Type 0 where
  pub ordinary : verdict_of s ≡ Accepted
  pub index : ℕ
  pub is_section : index < count_of s
  pub is_metadata : kind_at s index ≡ metadata
  pub no_text : IsText (data_of s (section_at s index)) → ⊥
  pub strict : strict_verdict s ≡ refuse_metadata (section_at s index) index
