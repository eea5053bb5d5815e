use Prim.Native.Nat.{ℕ, ◌<◌}
use mathlib.Core.Path.{sym, ◌∙◌}
use mathlib.Core.List.{List}
use native.Mathlib.Omega.{arith}
use lib.ListN.{length}
use Rattle.eif.specs.Numbers.{place_count}
use Rattle.eif.specs.declared.Reading.{Reading}
use Rattle.staged.proofs.Listed.{listed_in, shows_refused, shows_replaced, shows_kept}
use Rattle.staged_view.proofs.section_listed.Goals as goal
use Rattle.staged_view.proofs.section_listed.Goals.{After-verdict_listed-verdict, Else-replaced-shown}

-- `staged_view::section_listed` meets its contract: the base's empty start, the replacement, or what the reading says of the base.
-- the verdict is known
module _ (c : After-verdict_listed-verdict) where
  abbrev base : List ℕ
  base = c.args.base.now

  abbrev given : List ℕ
  given = c.args.replacement.now

  abbrev got : Reading
  got = c.args.reading

  abbrev k : ℕ
  k = c.args.replaced

  abbrev j : ℕ
  j = c.args.shown

  abbrev base-start : ℕ × ℕ
  base-start = c.args.base.ref_ptr

  abbrev given-start : ℕ × ℕ
  given-start = c.args.replacement.ref_ptr

pub returns-in_default : goal.returns-in_default
returns-in_default c = let v = (goal.at.returns-in_default c).After-verdict_listed-verdict in
    let t = c.in_default in
    let p = shows_refused (base v) (given v) (got v) (k v) (j v) (base-start v) (given-start v) t.field-0 (sym v.verdict_listed-verdict.ensures ∙ t.is) in
    record { result_value = p.0; ref_ptr_value = p.1 }

pub returns-then-replaced-shown : goal.returns-then-replaced-shown
returns-then-replaced-shown c = let v = (goal.at.returns-then-replaced-shown c).After-verdict_listed-verdict in
    let p = shows_replaced (base v) (given v) (got v) (k v) (j v) (base-start v) (given-start v) (sym v.verdict_listed-verdict.ensures ∙ c.in-Accepted.is) (sym c.if-replaced-shown.true) in
    record { result_value = p.0; ref_ptr_value = p.1 }

in-places : (c : Else-replaced-shown) → c.args.shown < place_count
in-places c =
    let v = (goal.at.Else-replaced-shown c).After-verdict_listed-verdict in
    (listed_in (got v) (length (given v)) (k v) (j v) (sym v.verdict_listed-verdict.ensures ∙ c.in-Accepted.is)).1

pub offset_bounds-sections-at : goal.offset_bounds-sections-at
offset_bounds-sections-at c = let h = in-places (goal.at.offset_bounds-sections-at c).Else-replaced-shown in omega arith

pub returns : goal.returns
returns c = let e = (goal.at.returns c).Else-replaced-shown in
    let v = (goal.at.Else-replaced-shown e).After-verdict_listed-verdict in
    let p = shows_kept (base v) (given v) (got v) (k v) (j v) (base-start v) (given-start v) (sym v.verdict_listed-verdict.ensures ∙ e.in-Accepted.is) (λ q. e.if-replaced-shown.false (sym q)) in
    record { result_value = c.section_data.ensures.result_value ∙ p.0; ref_ptr_value = c.section_data.ensures.ref_ptr_value ∙ p.1 }

pub bounds-sections-at : goal.bounds-sections-at
bounds-sections-at c = in-places (goal.at.bounds-sections-at c).Else-replaced-shown
