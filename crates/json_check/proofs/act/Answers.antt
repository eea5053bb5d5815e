use Prim.Native.Nat.{ℕ, ◌<◌}
use mathlib.Core.List.{List}
use Rattle.json_machine.specs.Machine.{class_count, entry_of, after_of}
use mathlib.Core.Path.{◌≡◌, refl, ◌∙◌, ap}
use native.Mathlib.Omega.{arith}
use lib.ListN.{get_or}
use Rattle.json_machine.specs.Table.{classes}
use Rattle.json_machine.proofs.Classes.{class_below}
use Rattle.json_check.proofs.Laws.{entry_is, act_first, act_again}
use Rattle.json_check.proofs.act.Goals as goal
use Rattle.json_check.proofs.act.Goals.{After-after-m, After-wide-c, After-wide-first}

-- `json_check::act` meets its contract: the class of the byte, and the entry of the mode and the class. Assumes nothing.
module _ (c : After-wide-c) where
  class-is : c.wide-c.result ≡ get_or classes c.wide.result 0
  class-is = c.wide-c.ensures ∙ ap (λ (l : List ℕ). get_or l c.wide.result 0) c.requires.0

  class-small : c.wide-c.result < class_count
  class-small = omega (arith, class-is, class_below c.wide.result)

module _ (c : After-wide-first) where
  first-is : c.wide-first.result ≡ entry_of c.args.mode c.args.b
  first-is =
      let w = (goal.at.After-wide-first c).After-wide-c in
      c.wide-first.ensures
      ∙ entry_is w.args.mode w.args.b w.args.next.now w.args.class.now w.args.mode w.wide-c.result w.wide.result
      w.requires.1 w.requires.0 refl w.wide.ensures w.wide-c.ensures w.requires.2 (class-small w)

pub overflow_mul-c : goal.overflow_mul-c
overflow_mul-c c = omega (arith, class-small c)

pub overflow_add-c : goal.overflow_add-c
overflow_add-c c = omega (arith, class-small c)

pub bounds-next-c : goal.bounds-next-c
bounds-next-c c = omega (arith, class-small (goal.at.bounds-next-c c).After-wide-c)

pub overflow_mul-c-then-first-eq-AGAIN : goal.overflow_mul-c-then-first-eq-AGAIN
overflow_mul-c-then-first-eq-AGAIN c = omega (arith, class-small (goal.at.overflow_mul-c-then-first-eq-AGAIN c).After-wide-c)

pub overflow_add-c-then-first-eq-AGAIN : goal.overflow_add-c-then-first-eq-AGAIN
overflow_add-c-then-first-eq-AGAIN c = omega (arith, class-small (goal.at.overflow_add-c-then-first-eq-AGAIN c).After-wide-c)

pub bounds-next-c-then-first-eq-AGAIN : goal.bounds-next-c-then-first-eq-AGAIN
bounds-next-c-then-first-eq-AGAIN c = omega (arith, class-small (goal.at.bounds-next-c-then-first-eq-AGAIN c).After-wide-c)

pub returns-then-first-eq-AGAIN : goal.returns-then-first-eq-AGAIN
returns-then-first-eq-AGAIN c = let a = (goal.at.returns-then-first-eq-AGAIN c).After-after-m in
    let t = (goal.at.After-after-m a).After-wide-first in
    let w = (goal.at.After-wide-first t).After-wide-c in
    act_again w.args.mode w.args.stack w.args.b _ (first-is t) a.if-first-eq-AGAIN.true _
    (c.wide-then-first-eq-AGAIN.ensures
    ∙ entry_is (after_of w.args.stack) w.args.b w.args.next.now w.args.class.now a.after-m.result w.wide-c.result w.wide.result
    w.requires.1 w.requires.0 a.after-m.ensures.0 w.wide.ensures w.wide-c.ensures a.after-m.ensures.1 (class-small w))

pub returns : goal.returns
returns c = let t = (goal.at.returns c).After-wide-first in
    act_first c.args.mode c.args.stack c.args.b _ (first-is t) c.if-first-eq-AGAIN.false
