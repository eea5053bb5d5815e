-- What a staged view says to a caller.
-- Assumes nothing.
use Prim.Native.Nat.{ℕ}
use mathlib.Core.Path.{◌≡◌, sym, ap, ◌∙◌}
use mathlib.Core.List.{List}
use lib.ListN.{length}
use Rattle.eif.specs.Reading.{read_image}
use Rattle.staged.specs.Staged.{staged_verdict}
use Rattle.eif.specs.declared.Verdict.{Verdict}
use Rattle.eif.specs.declared.Verdict.TheVariants.{Accepted}
use Rattle.staged.specs.declared.Staged.{Staged}
use Rattle.staged.specs.View.{staged_sections, staged_for, staged_view}

module _ (s : List ℕ) (size k j : ℕ) (x : Staged) (e : x ≡ staged_view s size k j) where
  pub view_verdict_holds : x.verdict ≡ staged_verdict s size k j
  unfolding staged_view
  view_verdict_holds = ap (λ (y : Staged). y.verdict) e

  pub view_sections : x.verdict ≡ Accepted → x.sections ≡ staged_sections (read_image s).sections k (length s) size
  unfolding staged_view
  view_sections ok =
      let v : staged_verdict s size k j ≡ Accepted = sym view_verdict_holds ∙ ok in
      ap (λ (y : Staged). y.sections) e ∙ ap (λ (w : Verdict). (staged_for w (read_image s).flags (staged_sections (read_image s).sections k (length s) size)).sections) v

  pub view_flags : x.verdict ≡ Accepted → x.flags ≡ (read_image s).flags
  unfolding staged_view
  view_flags ok =
      let v : staged_verdict s size k j ≡ Accepted = sym view_verdict_holds ∙ ok in
      ap (λ (y : Staged). y.flags) e
      ∙ ap (λ (w : Verdict). (staged_for w (read_image s).flags (staged_sections (read_image s).sections k (length s) size)).flags) v
