-- How the three streams are made up: Boot and App hold Whole's sections, each once, and the lengths add up.
-- And a refused reading has no sections in any stream.
-- Assumes nothing.
use Prim.Native.Nat.{ℕ, ◌+◌}
use mathlib.Core.Path.{◌≡◌, sym, ap, ap₂, ◌∙◌, refl}
use mathlib.Core.List.{List}
use lib.ListN.{length, replicate}
use Rattle.eif.specs.declared.Verdict.{Verdict}
use Rattle.eif.specs.declared.Refusal.{Refusal}
use Rattle.eif.specs.Layout.{view_of}
use Rattle.eif.specs.Table.{in_table}
use Rattle.eif.specs.Numbers.{place_count}
use Rattle.eif.specs.Reading.{data_of, sections_of, verdict_of, blank_section, reading_of, read_view, read_image}
use Rattle.eif.specs.Roll.{measured_in}
use Rattle.eif.specs.Stream.{stream_sections, stream_of, sections_answer, kept, keeps}
use Rattle.eif.specs.declared.Section.{Section}
use Rattle.eif.specs.declared.Stream.{Stream}
use Rattle.eif.specs.declared.Stream.TheVariants.{Whole, Boot, App}
use Rattle.eif.specs.declared.Verdict.TheVariants.{Accepted, Refused}
use Rattle.eif_lemmas.proofs.Accept.{Inside, sections_inside}
use Rattle.eif_lemmas.proofs.Types.{whole_kept}
use Rattle.stream_laws.specs.Sums.{length_of}
use Rattle.stream_laws.proofs.Sections.{all_stream, length_joined, sums_add}
use Rattle.octets.specs.Lists.{sum_by}
use Rattle.octets.proofs.Lists.{joined_length}

-- for every byte string
module _ (s : List ℕ) where
  -- whatever number is counted of each section: those of Boot and those of App add up to those of Whole
  pub each_once : (f : Section → ℕ)
      → sum_by f (stream_sections Boot (sections_of s)) + sum_by f (stream_sections App (sections_of s)) ≡ sum_by f (stream_sections Whole (sections_of s))
  each_once f = sums_add f 0 (sections_of s)

  abbrev bytes : Section → ℕ
  bytes x = length (data_of s x)

  stream_length : (stream : Stream) → length (stream_of s stream) ≡ sum_by bytes (stream_sections stream (sections_of s))
  unfolding stream_of
  stream_length stream = joined_length (data_of s) (stream_sections stream (sections_of s))

  pub lengths_add : length (stream_of s Boot) + length (stream_of s App) ≡ length (stream_of s Whole)
  lengths_add = ap₂ (λ (a b : ℕ). a + b) (stream_length Boot) (stream_length App) ∙ each_once bytes ∙ sym (stream_length Whole)

  -- for every accepted image: Whole is as long as its kernel, command line and ramdisks together
  module _ (e : verdict_of s ≡ Accepted) where
    pub whole_length : length (stream_of s Whole) ≡ sum_by length_of (measured_in (sections_of s))
    unfolding stream_of
    whole_length =
        let l = sections_of s in
        length_joined s (stream_sections Whole l) (all_stream (Inside s) Whole l (sections_inside s e)) ∙ ap (sum_by length_of) (whole_kept 0 l)

-- no section of blank places is in a stream
none_listed : (stream : Stream) → sections_answer stream (replicate place_count blank_section) ≡ record { count = 0; sections = replicate place_count blank_section }
unfolding sections_answer in_table kept keeps
none_listed Whole = refl
none_listed Boot = refl
none_listed App = refl

-- a refused reading has no sections in any stream
pub refused_none : (s : List ℕ) (r : Refusal) → verdict_of s ≡ Refused r → (stream : Stream)
    → sections_answer stream (read_image s).sections ≡ record { count = 0; sections = replicate place_count blank_section }
unfolding read_view
refused_none s r e stream = ap (λ (v : Verdict). sections_answer stream (reading_of (view_of s) v).sections) e ∙ none_listed stream
