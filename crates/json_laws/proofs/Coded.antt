-- The machine in numbers does what the machine of modes and lists does.
-- Assumes nothing.
use Prim.Native.Nat.{ℕ, zero, suc, ◌+◌, ◌*◌, ◌/◌, ◌%◌, ◌<◌, ◌≤◌}
use mathlib.Core.Path.{◌≡◌, refl, ap, sym, ◌∙◌, subst}
use mathlib.Core.Bool.{Bool, true, false}
use mathlib.Core.List.{List, [], ◌∷◌}
use native.Mathlib.Omega.{arith}
use native.Mathlib.Nat.{not-suc-le-zero, le_of_suc-le-suc, zero-add, suc-add, add-suc}
use lib.Dec.{eqb, ltb}
use lib.ListN.{length, get_or, get_or-append}
use lib.Seq.{get_or-append-add}
use borrow.Author.Tests.{eq-eqb, ne_eqb, ltb-true, eqb-true}
use Rattle.octets.specs.Lists.{joined}
use Rattle.json_grammar.specs.Verdict.{depth_limit}
use Rattle.json_machine.specs.Table.{classes, rows}
use Rattle.octets.specs.Logic.{both, choose}
use Rattle.json_machine.specs.Machine.{first_item_mode, fault_entry, again_entry, class_count, nothing_open, stack_limit, after_of, entry_of, Kind, goes, stops, closes, faults, opens, kind_of, bit}
use Rattle.octets.proofs.Lists.{values_below}
use Rattle.octets.proofs.Logic.{both_true}
use Rattle.json_machine.proofs.Modes.{Mode, m-value, m-after, m-firstItem, m-firstMember, m-key, m-colon, m_token, m_string, m_name, each_token, each_string}
use Rattle.json_machine.proofs.Classes.{class_below}
use Rattle.json_machine.proofs.Step.{cell, act_at, Next, refused, at, next_on, mode_number, frames, after_number}

-- ---- a stack of bits

unfoldable pub stack_of : List Bool → ℕ
stack_of [] = nothing_open
stack_of (f ∷ fs) = stack_of fs * 2 + bit f

pub bit_small : (f : Bool) → bit f < 2
bit_small false = omega arith
bit_small true = omega arith

pub stack_pos : (fs : List Bool) → 0 < stack_of fs
unfolding stack_of
stack_pos [] = omega arith
stack_pos (f ∷ fs) = omega (arith, stack_pos fs)

pub stack_after : (fs : List Bool) → after_of (stack_of fs) ≡ after_number fs
unfolding stack_of after_of
stack_after [] = refl
stack_after (false ∷ fs) =
    let p = stack_pos fs in
    let n : stack_of fs * 2 + 0 ≡ nothing_open → ⊥ = λ e. omega arith in
    let z : (stack_of fs * 2 + 0) % 2 ≡ 0 = omega arith in
    simp (ne_eqb _ _ n, eq-eqb _ _ z)
stack_after (true ∷ fs) =
    let p = stack_pos fs in
    let n : stack_of fs * 2 + 1 ≡ nothing_open → ⊥ = λ e. omega arith in
    let z : (stack_of fs * 2 + 1) % 2 ≡ 0 → ⊥ = λ e. omega arith in
    simp (ne_eqb _ _ n, ne_eqb _ _ z)

pub stack_up : (f : Bool) (fs : List Bool) → stack_of (f ∷ fs) / 2 ≡ stack_of fs
unfolding stack_of
stack_up f fs = omega (arith, bit_small f)

-- so many open: from 2 ^ n up to its double
power : ℕ → ℕ
power zero = 1
power (suc n) = power n * 2

stack_size : (fs : List Bool) → (power (length fs) ≤ stack_of fs) × (stack_of fs < power (length fs) * 2)
unfolding stack_of power
stack_size [] = omega arith
stack_size (f ∷ fs) = let h = stack_size fs in let b = bit_small f in omega arith

power_le : (d n : ℕ) → power n ≤ power (d + n)
unfolding power
power_le zero n = rw zero-add (omega arith)
power_le (suc d) n = rw suc-add (omega (arith, power_le d n))

power_limit : power depth_limit ≡ stack_limit
unfolding power
power_limit = refl

pub stack_full : (fs : List Bool) → zero + length fs ≡ depth_limit → stack_limit ≤ stack_of fs
stack_full fs e =
    let l : length fs ≡ depth_limit = omega arith in
    let q : power (length fs) ≡ stack_limit = ap power l ∙ power_limit in
    let h = stack_size fs in
    omega arith

pub stack_room : (d : ℕ) (fs : List Bool) → suc d + length fs ≡ depth_limit → stack_of fs < stack_limit
stack_room d fs e =
    let q : power (d + suc (length fs)) ≡ stack_limit = ap power (rw (add-suc, ← suc-add) e) ∙ power_limit in
    let p = power_le d (suc (length fs)) in
    let h = stack_size fs in
    let s : power (suc (length fs)) ≡ power (length fs) * 2 = unfold power in refl in
    omega arith

-- ---- the table, row by row

abbrev sized : List (List ℕ) → Bool
sized [] = true
sized (r ∷ rs) = both (eqb (length r) class_count) (sized rs)

in_row : (rs : List (List ℕ)) (n c : ℕ) → sized rs ≡ true → n < length rs → c < class_count → get_or (joined rs) (n * class_count + c) 0 ≡ get_or (get_or rs n []) c 0
in_row [] n c e h l = absurd (not-suc-le-zero h)
in_row (r ∷ rs) zero c e h l =
    let p : length r ≡ class_count = eqb-true _ _ (both_true (eqb (length r) class_count) (sized rs) e).0 in
    let q : c < length r = omega arith in
    let z : zero * class_count + c ≡ c = omega arith in
    rw z (get_or-append r (joined rs) 0 c q)
in_row (r ∷ rs) (suc n) c e h l =
    let p : length r ≡ class_count = eqb-true _ _ (both_true (eqb (length r) class_count) (sized rs) e).0 in
    let z : suc n * class_count + c ≡ length r + (n * class_count + c) = omega arith in
    rw z (get_or-append-add r (joined rs) (n * class_count + c) 0 ∙ in_row rs n c (both_true (eqb (length r) class_count) (sized rs) e).1 (le_of_suc-le-suc h) l)

rows_sized : sized rows ≡ true
unfolding rows
rows_sized = refl

rows_length : length rows ≡ fault_entry
unfolding rows
rows_length = refl

pub entry_cell : (n b : ℕ) → n < fault_entry → entry_of n b ≡ cell n (get_or classes b 0)
unfolding entry_of cell
entry_cell n b h = in_row rows n (get_or classes b 0) rows_sized (subst (λ (k : ℕ). n < k) (sym rows_length) h) (class_below b)

pub after_below : (fs : List Bool) → after_number fs < fault_entry
after_below [] = omega arith
after_below (false ∷ fs) = omega arith
after_below (true ∷ fs) = omega arith

pub number_below : (m : Mode) (fs : List Bool) → mode_number m fs < fault_entry
number_below m-value fs = omega arith
number_below m-after fs = after_below fs
number_below m-firstItem fs = omega arith
number_below m-firstMember fs = omega arith
number_below m-key fs = omega arith
number_below m-colon fs = omega arith
number_below (m_token t) fs = ltb-true _ _ (each_token (λ m. ltb (mode_number m fs) fault_entry) (λ m. true) refl t)
number_below (m_string s) fs = ltb-true _ _ (each_string (λ m. ltb (mode_number m fs) fault_entry) (λ m. true) m_string refl s)
number_below (m_name s) fs = ltb-true _ _ (each_string (λ m. ltb (mode_number m fs) fault_entry) (λ m. true) m_name refl s)

-- ---- a turn, with the open ones as a list, at a byte of the class c

pub data Spot : Type 0 where
  stopped impossible : Spot
  spot : ℕ → ℕ → List Bool → Spot

abbrev pub spot_of : Next → Spot
spot_of refused = stopped
spot_of (at m d fs) = spot (mode_number m fs) d (frames m fs)

abbrev pub turn_spot : Kind → ℕ → ℕ → List Bool → Spot
turn_spot goes a d fs = spot a d fs
turn_spot stops a d fs = spot (after_number fs) d fs
turn_spot closes a d [] = impossible
turn_spot closes a d (f ∷ fs) = spot (after_number fs) (suc d) fs
turn_spot faults a d fs = stopped
turn_spot (opens f) a zero fs = stopped
turn_spot (opens f) a (suc d) fs = spot (first_item_mode + bit f) d (f ∷ fs)

abbrev pub does : ℕ → List Bool → ℕ → ℕ
does n fs c = choose (eqb (cell n c) again_entry) (cell (after_number fs) c) (cell n c)

abbrev pub turn_on : Mode → ℕ → List Bool → ℕ → Spot
turn_on m d fs c = turn_spot (kind_of (does (mode_number m fs) (frames m fs) c)) (does (mode_number m fs) (frames m fs) c) d (frames m fs)

abbrev pub by_modes : ℕ → List Bool → Mode → List Spot
by_modes d fs m = values_below class_count (λ c. spot_of (next_on m d fs c))

abbrev pub by_numbers : ℕ → List Bool → Mode → List Spot
by_numbers d fs m = values_below class_count (turn_on m d fs)

pub coded_same : (m : Mode) (d : ℕ) (fs : List Bool) → by_modes d fs m ≡ by_numbers d fs m
unfolding act_at cell kind_of
coded_same m-value zero fs = refl
coded_same m-value (suc d) fs = refl
coded_same m-after d [] = refl
coded_same m-after d (false ∷ fs) = refl
coded_same m-after d (true ∷ fs) = refl
coded_same m-firstItem zero fs = refl
coded_same m-firstItem (suc d) fs = refl
coded_same m-firstMember d fs = refl
coded_same m-key d fs = refl
coded_same m-colon d fs = refl
coded_same (m_token t) d [] = each_token (by_modes d []) (by_numbers d []) refl t
coded_same (m_token t) d (false ∷ fs) = each_token (by_modes d (false ∷ fs)) (by_numbers d (false ∷ fs)) refl t
coded_same (m_token t) d (true ∷ fs) = each_token (by_modes d (true ∷ fs)) (by_numbers d (true ∷ fs)) refl t
coded_same (m_string s) d fs = each_string (by_modes d fs) (by_numbers d fs) m_string refl s
coded_same (m_name s) d fs = each_string (by_modes d fs) (by_numbers d fs) m_name refl s
