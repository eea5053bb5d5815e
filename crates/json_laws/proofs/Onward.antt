-- A turn of the machine in numbers.
-- Assumes nothing.
use Prim.Native.Nat.{ℕ, zero, suc, ◌+◌, ◌*◌}
use mathlib.Core.Path.{◌≡◌, refl, ap, ap₂, sym, ◌∙◌, subst}
use mathlib.Core.Bool.{Bool, true, false}
use mathlib.Core.List.{List, [], ◌∷◌}
use native.Mathlib.Omega.{arith}
use lib.Dec.{eqb}
use lib.ListN.{length, get_or}
use borrow.Author.Tests.{lt-ltb, le-ltb, ne_eqb}
use Rattle.octets.proofs.Lists.{each_below}
use Rattle.octets.proofs.Logic.{both_none}
use Rattle.json_grammar.specs.Verdict.{depth_limit}
use Rattle.json_machine.specs.Table.{classes}
use Rattle.json_machine.specs.Machine.{first_item_mode, first_member_mode, key_mode, colon_mode, after_item_mode, after_member_mode, nothing_open, class_count, fault_entry, after_of, act_of, Kind, goes, stops, closes, faults, opens, kind_of, bit, turn_mode, turn_stack, ends_of}
use Rattle.json_machine.proofs.Derive.{can_end}
use Rattle.json_machine.proofs.Modes.{Mode, m-value, m-after, m-firstItem, m-firstMember, m-key, m-colon, m_token, m_string, m_name, token_number, string_number, name_number, each_token, each_string}
use Rattle.json_machine.proofs.Step.{Next, refused, at, next_on, next_at, still, mode_number, frames, after_number}
use Rattle.json_machine.proofs.Classes.{class_below}
use Rattle.json_laws.proofs.Coded.{stack_of, stack_pos, stack_after, stack_up, stack_full, stack_room, entry_cell, after_below, number_below, Spot, stopped, impossible, spot, spot_of, turn_spot, does, turn_on, coded_same}

abbrev pub CodedSpot : Spot → ℕ → ℕ → Type 0
CodedSpot stopped mo st = mo ≡ fault_entry
CodedSpot impossible mo st = ⊥
CodedSpot (spot n d fs) mo st = (mo ≡ n) × (st ≡ stack_of fs) × (d + length fs ≡ depth_limit)

-- the mode and the stack of a state; the fault where there is none
abbrev pub Coded : Next → ℕ → ℕ → Type 0
Coded n mo st = CodedSpot (spot_of n) mo st

never_impossible : (n : Next) → spot_of n ≡ impossible → ⊥
never_impossible refused e = let z : ◌≡◌ {A = ℕ} 0 1 = cc in omega arith
never_impossible (at m d fs) e = let z : ◌≡◌ {A = ℕ} 0 1 = cc in omega arith

module _ (n : Next) (a : ℕ) where
  abbrev TurnCoded : Kind → ℕ → List Bool → Type 0
  TurnCoded k d fs = CodedSpot (turn_spot k a d fs) (turn_mode k a (stack_of fs)) (turn_stack k (stack_of fs))

  turn_coded : (k : Kind) (d : ℕ) (fs : List Bool) → d + length fs ≡ depth_limit → spot_of n ≡ turn_spot k a d fs → TurnCoded k d fs
  turn_coded goes d fs h e = (refl, refl, h)
  turn_coded stops d fs h e = (stack_after fs, refl, h)
  turn_coded closes d [] h e = absurd (never_impossible n e)
  turn_coded closes d (f ∷ fs) h e = (ap after_of (stack_up f fs) ∙ stack_after fs, stack_up f fs, omega arith)
  turn_coded faults d fs h e = refl
  turn_coded (opens f) zero fs h e = let l = stack_full fs h in simp (le-ltb _ _ l)
  turn_coded (opens f) (suc d) fs h e =
      let l = stack_room d fs h in
      simp (lt-ltb _ _ l) (refl, unfold stack_of in refl, omega arith)

act_does : (m : Mode) (fs : List Bool) (b : ℕ) → act_of (mode_number m fs) (stack_of (frames m fs)) b ≡ does (mode_number m fs) (frames m fs) (get_or classes b 0)
unfolding act_of
act_does m fs b =
    rw (stack_after (frames m fs), entry_cell (mode_number m fs) b (number_below m fs), entry_cell (after_number (frames m fs)) b (after_below (frames m fs)))

abbrev pub Onward : Next → ℕ → ℕ → Type 0
Onward n a st = Coded n (turn_mode (kind_of a) a st) (turn_stack (kind_of a) st)

pub onward : (m : Mode) (d : ℕ) (fs : List Bool) (b mo st : ℕ) → Coded (at m d fs) mo st → Onward (next_at m d fs b) (act_of mo st b) st
onward m d fs b mo st (p, q, h) =
    let e = each_below impossible (λ c. spot_of (next_on m d fs c)) (turn_on m d fs) class_count (coded_same m d fs) (get_or classes b 0) (class_below b) in
    let a = does (mode_number m fs) (frames m fs) (get_or classes b 0) in
    let t = turn_coded (next_at m d fs b) a (kind_of a) d (frames m fs) h e in
    let S = stack_of (frames m fs) in
    let u = subst (λ (x : Spot). CodedSpot x (turn_mode (kind_of a) a S) (turn_stack (kind_of a) S)) (sym e) t in
    let i : act_of mo st b ≡ a = ap₂ (λ (x y : ℕ). act_of x y b) p q ∙ act_does m fs b in
    let v = subst (λ (x : ℕ). Onward (next_at m d fs b) x S) (sym i) u in
    subst (λ (x : ℕ). Onward (next_at m d fs b) (act_of mo st b) x) (sym q) v

-- ---- the end

ends_open : (n : ℕ) (f : Bool) (fs : List Bool) → ends_of n (stack_of (f ∷ fs)) ≡ false
unfolding ends_of stack_of
ends_open n f fs =
    let p = stack_pos fs in
    let z : stack_of fs * 2 + bit f ≡ nothing_open → ⊥ = λ e. omega arith in
    rw (ne_eqb _ _ z) refl

abbrev ends_coded : List Bool → Mode → Bool
ends_coded fs m = ends_of (mode_number m fs) (stack_of (frames m fs))

abbrev ends_plain : ℕ → List Bool → Mode → Bool
ends_plain d fs m = can_end (still m d fs)

pub coded_end : (m : Mode) (d : ℕ) (fs : List Bool) → ends_of (mode_number m fs) (stack_of (frames m fs)) ≡ can_end (still m d fs)
unfolding ends_of stack_of
coded_end m-value zero fs = both_none (eqb (stack_of fs) nothing_open)
coded_end m-value (suc d) fs = both_none (eqb (stack_of fs) nothing_open)
coded_end m-after d [] = refl
coded_end m-after d (false ∷ fs) = ends_open after_item_mode false fs
coded_end m-after d (true ∷ fs) = ends_open after_member_mode true fs
coded_end m-firstItem zero fs = ends_open first_item_mode false fs
coded_end m-firstItem (suc d) fs = ends_open first_item_mode false fs
coded_end m-firstMember d fs = ends_open first_member_mode true fs
coded_end m-key d fs = ends_open key_mode true fs
coded_end m-colon d fs = ends_open colon_mode true fs
coded_end (m_token t) d [] = each_token (ends_coded []) (ends_plain d []) refl t
coded_end (m_token t) d (false ∷ fs) = ends_open (token_number t) false fs ∙ each_token (λ m. false) (ends_plain d (false ∷ fs)) refl t
coded_end (m_token t) d (true ∷ fs) = ends_open (token_number t) true fs ∙ each_token (λ m. false) (ends_plain d (true ∷ fs)) refl t
coded_end (m_string s) d [] = each_string (ends_coded []) (ends_plain d []) m_string refl s
coded_end (m_string s) d (f ∷ fs) = ends_open (string_number s) f fs ∙ each_string (λ m. false) (ends_plain d (f ∷ fs)) m_string refl s
coded_end (m_name s) d fs = ends_open (name_number s) true fs ∙ each_string (λ m. false) (ends_plain d fs) m_name refl s
