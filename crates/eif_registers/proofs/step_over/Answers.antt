use Prim.Native.Nat.{ℕ, ◌≤◌}
use mathlib.Core.Path.{◌≡◌, ap, ◌∙◌}
use mathlib.Core.List.{List}
use native.Mathlib.Omega.{arith}
use borrow.Author.Rules.{rules}
use lib.ListN.{length, take}
use lib.Seq.{slice}
use Rattle.eif.specs.Numbers.{place_count}
use Rattle.eif.specs.Stream.{sections_answer}
use Rattle.eif.specs.declared.Section.{Section}
use Rattle.eif.specs.declared.Stream.{Stream}
use Rattle.eif.specs.declared.Stream.TheVariants.{Whole, Boot, App}
use Rattle.eif.specs.declared.StreamSections.{StreamSections}
use Rattle.sha384.specs.State.{initial_state, digest_from}
use Rattle.sha384.specs.declared.State.{State}
use Rattle.staged.specs.View.{held_by}
use Rattle.eif_registers.specs.Registers.{register_from, hashed, step_register, step_registers}
use Rattle.eif_registers.proofs.Answers.{one_by_one}
use Rattle.eif_registers.proofs.Hashed.{listed_few}
use Rattle.stream_reader.proofs.Answers.{listed_are}
use Rattle.eif_registers.proofs.step_over.Goals as goal
use Rattle.eif_registers.proofs.step_over.Goals.{After-sections-app, After-sections-whole, Start}

-- `eif_registers::step_over` meets its contract: each state is that of its stream's sections. Assumes nothing.
sized : (c : Start) → length c.args.all ≡ place_count
sized c = search rules

-- a list that is a stream's has no more places than the table, and its state is the stream's
module _ (s : Section → List ℕ) (l : List Section) (size : length l ≡ place_count) (stream : Stream) (list : StreamSections) (is : list ≡ sections_answer stream l) where
  few : list.count ≤ place_count
  few = rw is (listed_few stream l size)

  state : (x : State) → x ≡ hashed s initial_state (take list.count list.sections) → register_from (digest_from x) ≡ step_register s l stream
  unfolding step_register
  state x e =
      ap (λ (y : State). register_from (digest_from y))
      (e ∙ ap (λ (a : StreamSections). hashed s initial_state (take a.count a.sections)) is ∙ ap (hashed s initial_state) (listed_are stream l))

pub hash_both-both-requires : goal.hash_both-both-requires
hash_both-both-requires c = let w = (goal.at.hash_both-both-requires c).After-sections-whole in
    let start = (goal.at.After-sections-whole w).Start in
    let a = start.args in
    let n = sized start in
    let l = a.all in
    let s = held_by a.base.now a.replacement.now in
    (few s l n Whole w.sections-whole.result w.sections-whole.ensures, few s l n Boot c.sections-boot.result c.sections-boot.ensures)

pub take_sections-app_end-requires : goal.take_sections-app_end-requires
take_sections-app_end-requires c = let t = (goal.at.take_sections-app_end-requires c).After-sections-app in
    let start = (goal.at.After-sections-app t).Start in
    (omega arith, few (held_by start.args.base.now start.args.replacement.now) start.args.all (sized start) App t.sections-app.result t.sections-app.ensures)

pub returns : goal.returns
unfolding step_registers
returns c = let start = (goal.at.returns c).Start in
    let s = held_by start.args.base.now start.args.replacement.now in
    let l = start.args.all in
    let n = sized start in
    let both = c.hash_both-both in
    let whole = c.sections-whole in
    let boot = c.sections-boot in
    let app = c.sections-app in
    let a = c.take_sections-app_end.ensures ∙ ap (λ (x : State). hashed s x (slice 0 app.result.count app.result.sections)) c.new.ensures in
    one_by_one
    (c.register-zeroth.ensures ∙ state s l n Whole whole.result whole.ensures both.result.whole both.ensures.whole_value)
    (c.register-first.ensures ∙ state s l n Boot boot.result boot.ensures both.result.boot both.ensures.boot_value)
    (c.register-second.ensures ∙ state s l n App app.result app.ensures c.take_sections-app_end.result a)
