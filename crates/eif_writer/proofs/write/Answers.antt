use Prim.Native.Nat.{ℕ, ◌≤◌}
use mathlib.Core.Path.{◌≡◌, sym, ap, ap₂, ◌∙◌}
use mathlib.Core.List.{List}
use native.Mathlib.Omega.{arith}
use lib.ListN.{length}
use Rattle.eif.specs.Plan.{plain_size, plan_verdict, plain_image, write_verdict, write_answer, write_output}
use Rattle.eif.specs.declared.Plan.{Plan}
use Rattle.eif.specs.declared.Verdict.{Verdict}
use Rattle.eif.specs.declared.Verdict.TheVariants.{Accepted}
use Rattle.eif_lemmas.proofs.Room.{wrote_refused, wrote_short, wrote_fine}
use Rattle.plain_laws.proofs.PlanRules.{Planned, planned→}
use Rattle.plan_judge.proofs.Size.{limited_in, image_limited}
use Rattle.eif_checksum.specs.Put.{with_checksum}
use Rattle.eif_writer.proofs.Image.{with_checksum_plain}
use Rattle.eif_writer.proofs.write.Goals as goal
use Rattle.eif_writer.proofs.write.Goals.{After-image_size-total, After-judge-verdict, After-put, After-put_header, After-put_sections}

-- `eif_writer::write` meets its contract: the plan's own refusal comes first, then 14, both before a byte is written;
-- else header, sections and checksum make the plain image. Assumes nothing.
module _ (c : After-judge-verdict) where
  abbrev plan : Plan
  plan = c.args.plan

  abbrev lent : List ℕ
  lent = c.args.lent.now

  abbrev out : List ℕ
  out = c.args.out.now

  abbrev verdict : Verdict
  verdict = plan_verdict plan (length lent)

  abbrev image : List ℕ
  image = plain_image plan lent

-- past the judging
module _ (c : After-image_size-total) where
  abbrev j : After-judge-verdict
  j = (goal.at.After-image_size-total c).After-judge-verdict

  ok : plan_verdict (plan j) (length (lent j)) ≡ Accepted
  ok = sym j.judge-verdict.ensures ∙ c.in-Accepted.is

  planned : Planned (plan j) (length (lent j))
  planned = planned→ (plan j) (length (lent j)) ok

  size_is : c.image_size-total.result ≡ plain_size (plan j)
  size_is = c.image_size-total.ensures ∙ sym (limited_in (plain_size (plan j)) planned.small ∙ image_limited (plan j) planned.fields.few)

pub returns-in_default : goal.returns-in_default
unfolding write_answer write_output write_verdict
returns-in_default c = let w = (goal.at.returns-in_default c).After-judge-verdict in
    let t = c.in_default in
    let r = wrote_refused (verdict w) (plain_size (plan w)) (image w) (out w) t.field-0 (sym w.judge-verdict.ensures ∙ t.is) in
    record { value = ap (λ (v : Verdict). record { verdict = v; length = 0 }) t.is ∙ r.0; out_after = r.1 }

pub returns-then-out-total : goal.returns-then-out-total
unfolding write_answer write_output write_verdict
returns-then-out-total c = let s = (goal.at.returns-then-out-total c).After-image_size-total in
    let n = size_is s in
    let r = wrote_short (verdict (j s)) (plain_size (plan (j s))) (image (j s)) (out (j s)) (ok s) (omega arith) in
    record { value = ap (λ (v : Verdict). record { verdict = v; length = 0 }) c.refuse.ensures ∙ r.0; out_after = r.1 }

pub returns : goal.returns
unfolding write_answer write_output write_verdict
returns c = let z = (goal.at.returns c).After-put in
    let y = (goal.at.After-put z).After-put_sections in
    let x = (goal.at.After-put_sections y).After-put_header in
    let s = (goal.at.After-put_header x).After-image_size-total in
    let n = size_is s in
    let room : plain_size (plan (j s)) ≤ length (out (j s)) = omega arith in
    let r = wrote_fine (verdict (j s)) (plain_size (plan (j s))) (image (j s)) (out (j s)) (ok s) room in record {
      value = ap₂ (λ (v : Verdict) (m : ℕ). record { verdict = v; length = m }) s.in-Accepted.is n ∙ r.0;
      out_after = z.put.ensures ∙ ap (λ (m : ℕ). with_checksum y.put_sections.new.out m) n
          ∙ with_checksum_plain (plan (j s)) (lent (j s)) (out (j s)) x.put_header.new.out y.put_sections.new.out (planned s).sized room x.put_header.ensures y.put_sections.ensures
          ∙ r.1;
    }

pub put_header-requires : goal.put_header-requires
put_header-requires c = let p = planned (goal.at.put_header-requires c).After-image_size-total in (p.fields.few, p.small)

pub put_sections-requires : goal.put_sections-requires
put_sections-requires c = let p = planned (goal.at.put_sections-requires c).After-image_size-total in record { count_le_place_count = (p.fields.few, p.small); lent_len = p.sized }
