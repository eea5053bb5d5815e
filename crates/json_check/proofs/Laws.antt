-- The machine in numbers: a law for each way through the code.
-- Assumes nothing.
use Prim.Native.Nat.{ℕ, suc, ◌+◌, ◌*◌, ◌/◌, ◌%◌, ◌<◌, ◌≤◌}
use mathlib.Core.Path.{◌≡◌, refl, sym, ap, ap₂, ◌∙◌, subst}
use mathlib.Core.Bool.{Bool, true, false}
use mathlib.Core.List.{List, [], ◌∷◌}
use native.Mathlib.Numerals.{add-one}
use native.Mathlib.Omega.{arith}
use borrow.Author.Tests.{lt-ltb, le-ltb, eq-eqb, ne_eqb}
use lib.ListN.{get_or, length, drop, drop_of_length-le}
use lib.Seq.{drop-cons}
use Rattle.octets.specs.Lists.{joined}
use Rattle.octets.proofs.Lists.{each_below}
use Rattle.json_check.specs.Columns.{columns}
use Rattle.json_grammar.specs.Verdict.{IsVerdict, JsonVerdict, Text, Fault}
use Rattle.json_machine.specs.Table.{classes, rows}
use Rattle.json_machine.specs.Machine.{value_mode, first_item_mode, after_text_mode, after_item_mode, after_member_mode, fault_entry, stop_entry, again_entry, open_array_entry, open_object_entry, close_entry, class_count, nothing_open, stack_limit, after_of, entry_of, act_of, Kind, goes, stops, closes, opens, kind_of, bit, turn_mode, turn_stack, ends_of, walk_from, json_verdict}
use Rattle.json_laws.proofs.Coded.{bit_small}
use Rattle.json_laws.proofs.Laws.{right_verdict}

-- ---- after a value

module _ (stack : ℕ) where
  pub after_text : stack ≡ nothing_open → after_text_mode ≡ after_of stack
  unfolding after_of
  after_text e = simp (eq-eqb _ _ e)

  pub after_item : (stack ≡ nothing_open → ⊥) → stack % 2 ≡ 0 → after_item_mode ≡ after_of stack
  unfolding after_of
  after_item n e = simp (ne_eqb _ _ n, eq-eqb _ _ e)

  pub after_member : (stack ≡ nothing_open → ⊥) → (stack % 2 ≡ 0 → ⊥) → after_member_mode ≡ after_of stack
  unfolding after_of
  after_member n e = simp (ne_eqb _ _ n, ne_eqb _ _ e)

-- ---- what the tables say

-- the code's table, by class and then by mode, has the entries of the rows
column : (i : ℕ) → i < 2040 → get_or columns i 0 ≡ get_or (joined rows) (i % 51 * class_count + i / 51) 0
unfolding columns rows
column = each_below 0 (λ (i : ℕ). get_or columns i 0) (λ (i : ℕ). get_or (joined rows) (i % 51 * class_count + i / 51) 0) 2040 refl

column_at : (m c : ℕ) → m < fault_entry → c < class_count → get_or columns (c * 51 + m) 0 ≡ get_or (joined rows) (m * class_count + c) 0
column_at m c h k =
    let i : ℕ = c * 51 + m in
    let p : i % 51 ≡ m = omega arith in
    let q : i / 51 ≡ c = omega arith in
    column i (omega arith) ∙ ap₂ (λ (x y : ℕ). get_or (joined rows) (x * class_count + y) 0) p q

pub entry_is : (mode b : ℕ) (n cl : List ℕ) (m c w : ℕ) → n ≡ columns → cl ≡ classes → m ≡ mode → w ≡ b → c ≡ get_or cl w 0 → m < fault_entry → c < class_count
    → get_or n (c * 51 + m) 0 ≡ entry_of mode b
unfolding entry_of
entry_is mode b n cl m c w p q r s t h k = let e = column_at m c h k in cc

module _ (mode stack b : ℕ) (x : ℕ) (e : x ≡ entry_of mode b) where
  pub act_first : (x ≡ again_entry → ⊥) → x ≡ act_of mode stack b
  unfolding act_of
  act_first h = let k : entry_of mode b ≡ again_entry → ⊥ = λ z. h (e ∙ z) in rw (ne_eqb _ _ k) e

  pub act_again : x ≡ again_entry → (y : ℕ) → y ≡ entry_of (after_of stack) b → y ≡ act_of mode stack b
  unfolding act_of
  act_again h y i = let k : entry_of mode b ≡ again_entry = sym e ∙ h in rw (eq-eqb _ _ k) i

-- ---- a turn

module _ (act : ℕ) where
  pub opens_array : act ≡ open_array_entry → kind_of act ≡ opens false
  unfolding kind_of
  opens_array e = rw e refl

  pub opens_object : act ≡ open_object_entry → kind_of act ≡ opens true
  unfolding kind_of
  opens_object e = rw e refl

module _ (act stack : ℕ) where
  abbrev pub TurnIs : ℕ → ℕ → Type 0
  TurnIs mode next = (mode ≡ turn_mode (kind_of act) act stack) × (next ≡ turn_stack (kind_of act) stack) × (mode < fault_entry)

  of_kind : (k : Kind) (mode next : ℕ) → kind_of act ≡ k → mode ≡ turn_mode k act stack → next ≡ turn_stack k stack → mode < fault_entry → TurnIs mode next
  of_kind k mode next e p q l = rw e (p, q, l)

  pub turn_goes : act < fault_entry → TurnIs act stack
  unfolding kind_of
  turn_goes h = of_kind goes act stack (simp (lt-ltb _ _ h)) refl refl h

  pub turn_stops : act ≡ stop_entry → (mode : ℕ) → mode ≡ after_of stack → mode < fault_entry → TurnIs mode stack
  unfolding kind_of
  turn_stops e mode i l = of_kind stops mode stack (rw e refl) i refl l

  module _ (object : Bool) (e : kind_of act ≡ opens object) where
    pub turn_opens : stack < stack_limit → (next : ℕ) → next ≡ stack * 2 + bit object → TurnIs (first_item_mode + bit object) next
    turn_opens room next i =
        of_kind (opens object) (first_item_mode + bit object) next e (simp (lt-ltb _ _ room)) (i ∙ simp (lt-ltb _ _ room)) (omega (arith, bit_small object))

    pub turn_deep : stack_limit ≤ stack → turn_mode (kind_of act) act stack ≡ fault_entry
    turn_deep full = simp (e, le-ltb _ _ full)

  pub turn_closes : act ≡ close_entry → (mode : ℕ) → mode ≡ after_of (stack / 2) → mode < fault_entry → TurnIs mode (stack / 2)
  unfolding kind_of
  turn_closes e mode i l = of_kind closes mode (stack / 2) (rw e refl) i refl l

  pub turn_faults : fault_entry ≤ act → (act ≡ stop_entry → ⊥) → (act ≡ open_array_entry → ⊥) → (act ≡ open_object_entry → ⊥) → (act ≡ close_entry → ⊥)
      → turn_mode (kind_of act) act stack ≡ fault_entry
  unfolding kind_of
  turn_faults h p q r s = simp (le-ltb _ _ h, ne_eqb _ _ p, ne_eqb _ _ q, ne_eqb _ _ r, ne_eqb _ _ s)

-- ---- the walk: the rest from here gives the verdict of the whole

pub walk_start : (s : List ℕ) → walk_from value_mode nothing_open 0 (drop 0 s) ≡ json_verdict s
unfolding json_verdict
walk_start s = refl

module _ (mode stack i b : ℕ) (bs : List ℕ) (act mode' stack' : ℕ) (a : act ≡ act_of mode stack b)
    (m : mode' ≡ turn_mode (kind_of act) act stack) (k : stack' ≡ turn_stack (kind_of act) stack) where
  mode_is : mode' ≡ turn_mode (kind_of (act_of mode stack b)) (act_of mode stack b) stack
  mode_is = m ∙ ap (λ (x : ℕ). turn_mode (kind_of x) x stack) a

  stack_is : stack' ≡ turn_stack (kind_of (act_of mode stack b)) stack
  stack_is = k ∙ ap (λ (x : ℕ). turn_stack (kind_of x) stack) a

  pub byte_fault : mode' ≡ fault_entry → Fault i ≡ walk_from mode stack i (b ∷ bs)
  unfolding walk_from
  byte_fault e = let z = sym mode_is ∙ e in rw (eq-eqb _ fault_entry z) refl

  pub byte_on : (mode' ≡ fault_entry → ⊥) → walk_from mode stack i (b ∷ bs) ≡ walk_from mode' stack' (suc i) bs
  unfolding walk_from
  byte_on n =
      let z : turn_mode (kind_of (act_of mode stack b)) (act_of mode stack b) stack ≡ fault_entry → ⊥ = λ e. n (mode_is ∙ e) in
      rw (ne_eqb _ fault_entry z) (ap₂ (λ (x y : ℕ). walk_from x y (suc i) bs) (sym mode_is) (sym stack_is))

module _ (s : List ℕ) (v : JsonVerdict) (mode stack i : ℕ) (rest : walk_from mode stack i (drop i s) ≡ v) where
  module _ (inside : i < length s) (act mode' stack' : ℕ) (a : act ≡ act_of mode stack (get_or s i 0))
      (m : mode' ≡ turn_mode (kind_of act) act stack) (k : stack' ≡ turn_stack (kind_of act) stack) where
    here : walk_from mode stack i (get_or s i 0 ∷ drop (suc i) s) ≡ v
    here = ap (walk_from mode stack i) (sym (drop-cons s i 0 inside)) ∙ rest

    pub walk_fault : mode' ≡ fault_entry → Fault i ≡ v
    walk_fault e = byte_fault mode stack i (get_or s i 0) (drop (suc i) s) act mode' stack' a m k e ∙ here

    pub walk_on : (mode' ≡ fault_entry → ⊥) → walk_from mode' stack' (i + 1) (drop (i + 1) s) ≡ v
    walk_on n = rw add-one (sym (byte_on mode stack i (get_or s i 0) (drop (suc i) s) act mode' stack' a m k n) ∙ here)

  module _ (outside : length s ≤ i) where
    at_end : walk_from mode stack i [] ≡ v
    at_end = ap (walk_from mode stack i) (sym (drop_of_length-le s outside)) ∙ rest

    pub walk_text : ends_of mode stack ≡ true → Text ≡ v
    unfolding walk_from
    walk_text e = rw e at at_end

    pub walk_short : ends_of mode stack ≡ false → Fault i ≡ v
    unfolding walk_from
    walk_short e = rw e at at_end

-- ---- the answer

pub answer_right : (s : List ℕ) (v : JsonVerdict) → v ≡ json_verdict s → (v ≡ json_verdict s) × IsVerdict s v
answer_right s v e = (e, subst (λ (x : JsonVerdict). IsVerdict s x) (sym e) (right_verdict s))
