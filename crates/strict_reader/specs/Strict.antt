-- The stricter reading (FORMAT.md, Stricter reading): the ordinary one, and then 21 for a metadata section whose data is not one JSON
-- text. What is a text is said by the grammar of the crate json_grammar; that the test here says the same: `strict_laws/Strict.strict_exactly_when`.
-- Assumes nothing.
use Rattle.std.specs.Prelude.{ℕ, ◌<◌, ◌≡◌, Bool, is_err, List, [], ◌∷◌, ◌++◌, ◌⊎◌, eqb}
use Rattle.eif.specs.Table.{join_from}
use Rattle.json_grammar.specs.Verdict.{IsText}
use Rattle.json_machine.specs.Machine.{json_verdict}
use Rattle.eif.specs.Numbers.{metadata, metadata_not_json}
use Rattle.octets.specs.Logic.{both, choose}
use Rattle.eif.specs.Answers.{refuse_at, and_then}
use Rattle.eif.specs.Layout.{view_of, count_of, kind_at}
use Rattle.eif.specs.Reading.{verdict_of, section_at, data_of, reading_of, blank_reading, read_image}
use Rattle.eif.specs.Order.{Rule, rule, image_rules}
use Rattle.eif.specs.declared.Reading.{Reading}
use Rattle.eif.specs.declared.Section.{Section}
use Rattle.eif.specs.declared.Verdict.{Verdict}
use Rattle.eif.specs.declared.Verdict.TheVariants.{Accepted}
use Rattle.eif.specs.Rules.{first_refusal}

-- ---- what the stricter reading asks, with no order and no test

-- the data of each metadata section is one JSON text within the depth limit
abbrev pub MetadataIsJson : List ℕ → Type 0
MetadataIsJson s = (i : ℕ) → i < count_of s → kind_at s i ≡ metadata → IsText (data_of s (section_at s i))

-- ---- the rule

-- the test of 21
unfoldable pub not_json : List ℕ → Section → Bool
not_json s x = both (eqb x.kind metadata) (is_err (json_verdict (data_of s x)))

-- 21 at a section, with its index and where its data stands
abbrev pub refuse_metadata : Section → ℕ → Verdict
refuse_metadata x i = refuse_at metadata_not_json i x.position.0

-- at one section, which is the i-th
unfoldable pub text_verdict : List ℕ → Section → ℕ → Verdict
text_verdict s x i = choose (not_json s x) (refuse_metadata x i) Accepted

-- at the n sections from place i on, given by place, up to the first that fails
abbrev pub metadata_verdict : List ℕ → (ℕ → Section) → ℕ → ℕ → Verdict
metadata_verdict s sections n i = first_refusal (λ j. text_verdict s (sections j) j) n i

-- ---- the reading

unfoldable pub strict_verdict : List ℕ → Verdict
strict_verdict s = and_then (verdict_of s) (metadata_verdict s (section_at s) (count_of s) 0)

-- beside a refusal everything is zero
unfoldable pub read_strict : List ℕ → Reading
read_strict s = reading_of (view_of s) (strict_verdict s)

-- ---- the same, said of the grammar: no test and no machine

-- section i is the first metadata section whose data is not one JSON text
pub record FirstNotText (s : List ℕ) (i : ℕ) : Type 0 where
  pub is_section : i < count_of s
  pub is_metadata : kind_at s i ≡ metadata
  pub no_text : IsText (data_of s (section_at s i)) → ⊥
  pub texts_before : (j : ℕ) → j < i → kind_at s j ≡ metadata → IsText (data_of s (section_at s j))

-- the ordinary reading: the image is refused, or its metadata is JSON
pub record ReadAsOrdinary (s : List ℕ) (r : Reading) : Type 0 where
  pub metadata_json : verdict_of s ≡ Accepted → MetadataIsJson s
  pub reading : r ≡ read_image s

-- 21 and zeros: the image is accepted, and its first metadata section that is not JSON is refused
pub record ReadAs21 (s : List ℕ) (r : Reading) : Type 0 where
  pub ordinary : verdict_of s ≡ Accepted
  pub index : ℕ
  pub first : FirstNotText s index
  pub reading : r ≡ blank_reading (refuse_metadata (section_at s index) index)

-- r is the stricter reading of s
abbrev pub StrictlyRead : List ℕ → Reading → Type 0
StrictlyRead s r = ReadAsOrdinary s r ⊎ ReadAs21 s r

-- ---- the order, as Order.antt of eif has it for the other calls: the image's own rules, then 21 section by section

abbrev pub metadata_rules : List ℕ → ℕ → List Rule
metadata_rules s i = rule (not_json s (section_at s i)) metadata_not_json i (section_at s i).position.0 ∷ []

unfoldable pub strict_rules : List ℕ → List Rule
strict_rules s = image_rules s ++ join_from (metadata_rules s) (count_of s) 0
