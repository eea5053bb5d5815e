-- Beginning to write a staged view: the answer by the view's verdict, and that the base's own reading gives the base's answer.
use Prim.Native.Nat.{ℕ, ◌-◌, ◌<◌, ◌≤◌}
use mathlib.Core.Path.{◌≡◌, refl, ap, ◌∙◌}
use mathlib.Core.List.{List, []}
use borrow.Author.Tests.{eq-eqb, ne_eqb, le-leb, lt-leb}
use lib.ListN.{length, take, drop}
use Rattle.eif.specs.Numbers.{place_count, size_limit}
use Rattle.eif.specs.Answers.{and_then, beside}
use Rattle.eif.specs.Layout.{offset_at, section_header_size}
use Rattle.eif.specs.Output.{written_for}
use Rattle.eif.specs.Reading.{read_image}
use Rattle.eif.specs.Plan.{planned_size, data_before, plain_size, plan_of, plan_verdict, plan_length}
use Rattle.eif.specs.declared.Place.{Place}
use Rattle.eif.specs.declared.Plan.{Plan}
use Rattle.eif.specs.declared.Reading.{Reading}
use Rattle.eif.specs.declared.Refusal.{Refusal}
use Rattle.eif.specs.declared.Verdict.{Verdict}
use Rattle.eif.specs.declared.Verdict.TheVariants.{Accepted, Refused}
use Rattle.plain_laws.proofs.PlanRules.{→planned}
use Rattle.staged.specs.Staged.{with_place, staged_plan, staged_verdict}
use Rattle.staged.specs.Listed.{listed_verdict}
use Rattle.staged.proofs.Accept.{staged→}
use Rattle.staged.proofs.Afresh.{changed_plan, plan_is, changed_planned}
use Rattle.staged.proofs.Listed.{verdict_agrees}
use Rattle.writing.specs.Writing.{start_writing, writing_begun}
use Rattle.writing.specs.declared.Begun.{Begun}
use Rattle.staged_writing.specs.StagedWriting.{begun_with, refused_begun, staged_begun, listed_begun, base_data, whole_data}
use Rattle.staged_writing.specs.declared.StagedWriting.{StagedWriting}
use Rattle.staged_writing.specs.declared.StagedBegun.{StagedBegun}

-- ---- from a reading

module _ (x : Reading) (size k field : ℕ) where
  pub begun_refused : (r : Refusal) → listed_verdict x size k k ≡ Refused r → refused_begun (Refused r) ≡ listed_begun x size k field
  unfolding listed_begun
  begun_refused r e = simp e

  pub plan_refused : (r : Refusal) → listed_verdict x size k k ≡ Accepted → (writing_begun (with_place (plan_of x) k size) field).written.verdict ≡ Refused r
      → refused_begun (Refused r) ≡ listed_begun x size k field
  unfolding listed_begun
  plan_refused r e f = simp (e, f)

  pub begun_listed : listed_verdict x size k k ≡ Accepted → (writing_begun (with_place (plan_of x) k size) field).written.verdict ≡ Accepted
      → begun_with (writing_begun (with_place (plan_of x) k size) field).state k (writing_begun (with_place (plan_of x) k size) field).written ≡ listed_begun x size k field
  unfolding listed_begun
  begun_listed e f = simp (e, f)

-- ---- the data of the section begun last

module _ (s : List ℕ) (l : List Place) (i : ℕ) where
  pub base_none : place_count ≤ i → [] ≡ base_data s l i
  unfolding base_data
  base_none h = simp (le-leb place_count i h)

  pub base_some : i < place_count → take (planned_size l i) (drop section_header_size (drop (offset_at s i) s)) ≡ base_data s l i
  unfolding base_data
  base_some h = simp (lt-leb place_count i h)

module _ (a : StagedWriting) (s r : List ℕ) where
  pub whole_replaced : a.writing.sections_begun - 1 ≡ a.replaced → r ≡ whole_data a s r
  unfolding whole_data
  whole_replaced e = simp (eq-eqb (a.writing.sections_begun - 1) a.replaced e)

  pub whole_kept : (a.writing.sections_begun - 1 ≡ a.replaced → ⊥) → base_data s a.writing.places (a.writing.sections_begun - 1) ≡ whole_data a s r
  unfolding whole_data
  whole_kept n = simp (ne_eqb (a.writing.sections_begun - 1) a.replaced n)

-- ---- from the base

module _ (s r : List ℕ) (k field : ℕ) where
  abbrev fresh_plan : Plan
  fresh_plan = staged_plan s k (length r)

  -- the plan of the image written afresh is accepted
  pub plan_accepted : staged_verdict s (length r) k k ≡ Accepted → plan_verdict fresh_plan (data_before fresh_plan.places fresh_plan.count) ≡ Accepted
  plan_accepted e =
      let a = staged→ s (length r) k k e in
      let is = plan_is s r k a.accepted (length r) in
      let small : plain_size (changed_plan s r k a.accepted (length r)) ≤ size_limit = rw is at a.small in
      let p = changed_planned s r k a.accepted a.replaced small in
      let q = changed_plan s r k a.accepted (length r) in
      rw is (→planned q (data_before q.places q.count) (record { fields = p.fields; types = p.types; small = p.small; sized = refl }))

  begun_plan : staged_verdict s (length r) k k ≡ Accepted → writing_begun fresh_plan field ≡ record { state = start_writing fresh_plan field; written = written_for Accepted (plain_size fresh_plan) }
  unfolding writing_begun plan_length
  begun_plan e = rw (plan_accepted e) refl

  -- the answer by the view's verdict and the plan's
  abbrev answer : Verdict → Verdict → StagedBegun
  answer v w = beside (and_then v w) (begun_with (writing_begun fresh_plan field).state k (writing_begun fresh_plan field).written) (refused_begun (and_then v w))

  by_verdict : (v : Verdict) → staged_verdict s (length r) k k ≡ v
      → answer v (writing_begun fresh_plan field).written.verdict
      ≡ beside v (begun_with (start_writing fresh_plan field) k (written_for v (plain_size fresh_plan))) (refused_begun v)
  by_verdict (Refused f) e = refl
  by_verdict Accepted e =
      ap (answer Accepted) (ap (λ (b : Begun). b.written.verdict) (begun_plan e)) ∙ ap (λ (b : Begun). begun_with b.state k b.written) (begun_plan e)

  -- the form over a reading agrees with the form over a base, for every base
  pub begun_agrees : listed_begun (read_image s) (length r) k field ≡ staged_begun s r k field
  unfolding listed_begun staged_begun staged_plan
  begun_agrees =
      ap (λ (v : Verdict). answer v (writing_begun fresh_plan field).written.verdict) (verdict_agrees s (length r) k k)
      ∙ by_verdict (staged_verdict s (length r) k k) refl
