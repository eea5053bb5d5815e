-- Characters beyond ASCII in a string: after each the mode is the one before it.
--
use Prim.Native.Nat.{ℕ, ◌+◌, ◌-◌, ◌<◌, ◌≤◌}
use mathlib.Core.Path.{◌≡◌, refl, sym, ap, ◌∙◌}
use mathlib.Core.List.{List}
use mathlib.Core.Logic.{⊎_elim}
use native.Mathlib.Omega.{arith}
use native.Mathlib.Nat.{add-zero}
use lib.ListN.{get_or, length, drop}
use Rattle.octets.proofs.Logic.{le_or_lt}
use Rattle.octets.proofs.Lists.{each_below}
use Rattle.json_grammar.specs.Verdict.{JsonVerdict}
use Rattle.json_machine.specs.Table.{classes, rows}
use Rattle.json_machine.specs.Machine.{fault_entry, entry_of, walk_from}
use Rattle.json_check.specs.Bare.{BareRun, char_mode, name_char_mode, Skipped}
use Rattle.json_check.proofs.Laws.{act_first, turn_goes, walk_on}
use Rattle.json_check.proofs.Bare.{char_stays, name_char_stays, run_on}

-- ---- the entries of the tables

-- the n byte values from lo on lead from a mode to the next
abbrev Leads : ℕ → ℕ → ℕ → ℕ → Type 0
Leads mode lo n next = (b : ℕ) → lo ≤ b → b < lo + n → entry_of mode b ≡ next

leads : (mode lo n next : ℕ) → ((k : ℕ) → k < n → entry_of mode (lo + k) ≡ next) → Leads mode lo n next
leads mode lo n next f b h k = let e : lo + (b - lo) ≡ b = omega arith in sym (ap (entry_of mode) e) ∙ f (b - lo) (omega arith)

-- the modes inside a string: m before a character; m + 6, m + 7 and m + 8 with one, two and three continuation bytes left; m + 9, m + 10 and
-- m + 11 after E0, ED and F0, whose second byte RFC 3629 restricts
record Chars (m : ℕ) : Type 0 where
  pub small : m + 12 < fault_entry
  pub two : Leads m 194 30 (m + 6)
  pub low3 : Leads m 224 1 (m + 9)
  pub three : Leads m 225 12 (m + 7)
  pub cut3 : Leads m 237 1 (m + 10)
  pub last3 : Leads m 238 2 (m + 7)
  pub low4 : Leads m 240 1 (m + 11)
  pub four : Leads m 241 3 (m + 8)
  pub left1 : Leads (m + 6) 128 64 m
  pub left2 : Leads (m + 7) 128 64 (m + 6)
  pub left3 : Leads (m + 8) 128 64 (m + 7)
  pub low3_on : Leads (m + 9) 160 32 (m + 6)
  pub cut3_on : Leads (m + 10) 128 32 (m + 6)
  pub low4_on : Leads (m + 11) 144 48 (m + 7)

in_value : Chars char_mode
unfolding entry_of classes rows
in_value =
    record {
      small = omega arith;
      two = leads 25 194 30 31 (each_below 0 (λ (k : ℕ). entry_of 25 (194 + k)) (λ (k : ℕ). 31) 30 refl);
      low3 = leads 25 224 1 34 (each_below 0 (λ (k : ℕ). entry_of 25 (224 + k)) (λ (k : ℕ). 34) 1 refl);
      three = leads 25 225 12 32 (each_below 0 (λ (k : ℕ). entry_of 25 (225 + k)) (λ (k : ℕ). 32) 12 refl);
      cut3 = leads 25 237 1 35 (each_below 0 (λ (k : ℕ). entry_of 25 (237 + k)) (λ (k : ℕ). 35) 1 refl);
      last3 = leads 25 238 2 32 (each_below 0 (λ (k : ℕ). entry_of 25 (238 + k)) (λ (k : ℕ). 32) 2 refl);
      low4 = leads 25 240 1 36 (each_below 0 (λ (k : ℕ). entry_of 25 (240 + k)) (λ (k : ℕ). 36) 1 refl);
      four = leads 25 241 3 33 (each_below 0 (λ (k : ℕ). entry_of 25 (241 + k)) (λ (k : ℕ). 33) 3 refl);
      left1 = leads 31 128 64 25 (each_below 0 (λ (k : ℕ). entry_of 31 (128 + k)) (λ (k : ℕ). 25) 64 refl);
      left2 = leads 32 128 64 31 (each_below 0 (λ (k : ℕ). entry_of 32 (128 + k)) (λ (k : ℕ). 31) 64 refl);
      left3 = leads 33 128 64 32 (each_below 0 (λ (k : ℕ). entry_of 33 (128 + k)) (λ (k : ℕ). 32) 64 refl);
      low3_on = leads 34 160 32 31 (each_below 0 (λ (k : ℕ). entry_of 34 (160 + k)) (λ (k : ℕ). 31) 32 refl);
      cut3_on = leads 35 128 32 31 (each_below 0 (λ (k : ℕ). entry_of 35 (128 + k)) (λ (k : ℕ). 31) 32 refl);
      low4_on = leads 36 144 48 32 (each_below 0 (λ (k : ℕ). entry_of 36 (144 + k)) (λ (k : ℕ). 32) 48 refl);
    }

in_name : Chars name_char_mode
unfolding entry_of classes rows
in_name =
    record {
      small = omega arith;
      two = leads 38 194 30 44 (each_below 0 (λ (k : ℕ). entry_of 38 (194 + k)) (λ (k : ℕ). 44) 30 refl);
      low3 = leads 38 224 1 47 (each_below 0 (λ (k : ℕ). entry_of 38 (224 + k)) (λ (k : ℕ). 47) 1 refl);
      three = leads 38 225 12 45 (each_below 0 (λ (k : ℕ). entry_of 38 (225 + k)) (λ (k : ℕ). 45) 12 refl);
      cut3 = leads 38 237 1 48 (each_below 0 (λ (k : ℕ). entry_of 38 (237 + k)) (λ (k : ℕ). 48) 1 refl);
      last3 = leads 38 238 2 45 (each_below 0 (λ (k : ℕ). entry_of 38 (238 + k)) (λ (k : ℕ). 45) 2 refl);
      low4 = leads 38 240 1 49 (each_below 0 (λ (k : ℕ). entry_of 38 (240 + k)) (λ (k : ℕ). 49) 1 refl);
      four = leads 38 241 3 46 (each_below 0 (λ (k : ℕ). entry_of 38 (241 + k)) (λ (k : ℕ). 46) 3 refl);
      left1 = leads 44 128 64 38 (each_below 0 (λ (k : ℕ). entry_of 44 (128 + k)) (λ (k : ℕ). 38) 64 refl);
      left2 = leads 45 128 64 44 (each_below 0 (λ (k : ℕ). entry_of 45 (128 + k)) (λ (k : ℕ). 44) 64 refl);
      left3 = leads 46 128 64 45 (each_below 0 (λ (k : ℕ). entry_of 46 (128 + k)) (λ (k : ℕ). 45) 64 refl);
      low3_on = leads 47 160 32 44 (each_below 0 (λ (k : ℕ). entry_of 47 (160 + k)) (λ (k : ℕ). 44) 32 refl);
      cut3_on = leads 48 128 32 44 (each_below 0 (λ (k : ℕ). entry_of 48 (128 + k)) (λ (k : ℕ). 44) 32 refl);
      low4_on = leads 49 144 48 45 (each_below 0 (λ (k : ℕ). entry_of 49 (144 + k)) (λ (k : ℕ). 45) 48 refl);
    }

-- ---- one character

pub above_other : (x y : ℕ) → y ≤ x → (x ≡ y → ⊥) → y < x
above_other x y h n = ⊎_elim (λ (k : x ≤ y). absurd (n (omega arith))) (λ (k : y < x). k) (le_or_lt x y)

below_other : (x y : ℕ) → (x ≡ y → ⊥) → x < y + 1 → x < y
below_other x y n h = ⊎_elim (λ (k : y ≤ x). absurd (n (omega arith))) (λ (k : x < y). k) (le_or_lt y x)

abbrev Later : ℕ → Type 0
Later b = (128 ≤ b) × (b < 192)

module _ (s : List ℕ) (stack : ℕ) where
  abbrev From : ℕ → ℕ → JsonVerdict
  From mode i = walk_from mode stack i (drop i s)

  on : (mode next i u : ℕ) → u ≡ i + 1 → i < length s → next < fault_entry → entry_of mode (get_or s i 0) ≡ next → From next u ≡ From mode i
  on mode next i u z h small e =
      let t = turn_goes next stack small in
      ap (From next) z
      ∙ walk_on s (From mode i) mode stack i refl h next next stack (act_first mode stack (get_or s i 0) next (sym e) (λ y. omega arith)) t.0 t.1 (λ y. omega arith)

  module _ (m : ℕ) (c : Chars m) (i : ℕ) where
    rest1 : (j k : ℕ) → k ≡ j + 1 → j < length s → Later (get_or s j 0) → From m k ≡ From (m + 6) j
    rest1 j k z h t = let q = c.small in on (m + 6) m j k z h (omega arith) (c.left1 _ t.0 t.1)

    rest2 : i + 3 ≤ length s → Later (get_or s (i + 1) 0) → Later (get_or s (i + 2) 0) → From m (i + 3) ≡ From (m + 7) (i + 1)
    rest2 h t u =
        let q = c.small in
        rest1 (i + 2) (i + 3) (omega arith) (omega arith) u ∙ on (m + 7) (m + 6) (i + 1) (i + 2) (omega arith) (omega arith) (omega arith) (c.left2 _ t.0 t.1)

    -- the last two bytes of four
    rest3 : i + 4 ≤ length s → Later (get_or s (i + 2) 0) → Later (get_or s (i + 3) 0) → From m (i + 4) ≡ From (m + 7) (i + 2)
    rest3 h t u =
        let q = c.small in
        rest1 (i + 3) (i + 4) (omega arith) (omega arith) u ∙ on (m + 7) (m + 6) (i + 2) (i + 3) (omega arith) (omega arith) (omega arith) (c.left2 _ t.0 t.1)

    -- the first byte
    first : (next : ℕ) → next < fault_entry → i < length s → entry_of m (get_or s i 0) ≡ next → From next (i + 1) ≡ From m i
    first next small h e = on m next i (i + 1) refl h small e

    two_on : i + 2 ≤ length s → 194 ≤ get_or s i 0 → get_or s i 0 < 224 → Later (get_or s (i + 1) 0) → From m (i + 2) ≡ From m i
    two_on h p q t =
        let r = c.small in
        rest1 (i + 1) (i + 2) (omega arith) (omega arith) t ∙ first (m + 6) (omega arith) (omega arith) (c.two _ p (omega arith))

    three_on : i + 3 ≤ length s → 225 ≤ get_or s i 0 → get_or s i 0 < 240 → (get_or s i 0 ≡ 237 → ⊥) → Later (get_or s (i + 1) 0) → Later (get_or s (i + 2) 0) → From m (i + 3) ≡ From m i
    three_on h p q n t u =
        let r = c.small in
        rest2 h t u
        ∙ first (m + 7) (omega arith) (omega arith)
        (⊎_elim (λ (k : 238 ≤ get_or s i 0). c.last3 _ k (omega arith)) (λ (k : get_or s i 0 < 238). c.three _ p (below_other (get_or s i 0) 237 n k)) (le_or_lt 238 (get_or s i 0)))

    low3_ok : i + 3 ≤ length s → get_or s i 0 ≡ 224 → 160 ≤ get_or s (i + 1) 0 → Later (get_or s (i + 1) 0) → Later (get_or s (i + 2) 0) → From m (i + 3) ≡ From m i
    low3_ok h p l t u =
        let r = c.small in
        let x = t.1 in
        rest1 (i + 2) (i + 3) (omega arith) (omega arith) u
        ∙ on (m + 9) (m + 6) (i + 1) (i + 2) (omega arith) (omega arith) (omega arith) (c.low3_on _ l (omega arith))
        ∙ first (m + 9) (omega arith) (omega arith) (c.low3 _ (omega arith) (omega arith))

    cut3_ok : i + 3 ≤ length s → get_or s i 0 ≡ 237 → get_or s (i + 1) 0 < 160 → Later (get_or s (i + 1) 0) → Later (get_or s (i + 2) 0) → From m (i + 3) ≡ From m i
    cut3_ok h p l t u =
        let r = c.small in
        rest1 (i + 2) (i + 3) (omega arith) (omega arith) u
        ∙ on (m + 10) (m + 6) (i + 1) (i + 2) (omega arith) (omega arith) (omega arith) (c.cut3_on _ t.0 (omega arith))
        ∙ first (m + 10) (omega arith) (omega arith) (c.cut3 _ (omega arith) (omega arith))

    low4_ok : i + 4 ≤ length s → get_or s i 0 ≡ 240 → 144 ≤ get_or s (i + 1) 0 → Later (get_or s (i + 1) 0) → Later (get_or s (i + 2) 0) → Later (get_or s (i + 3) 0) → From m (i + 4) ≡ From m i
    low4_ok h p l t u v =
        let r = c.small in
        let x = t.1 in
        rest3 h u v
        ∙ on (m + 11) (m + 7) (i + 1) (i + 2) (omega arith) (omega arith) (omega arith) (c.low4_on _ l (omega arith))
        ∙ first (m + 11) (omega arith) (omega arith) (c.low4 _ (omega arith) (omega arith))

    four_on : i + 4 ≤ length s → 241 ≤ get_or s i 0 → get_or s i 0 < 244 → Later (get_or s (i + 1) 0) → Later (get_or s (i + 2) 0) → Later (get_or s (i + 3) 0) → From m (i + 4) ≡ From m i
    four_on h p q t u v =
        let r = c.small in
        rest3 h u v
        ∙ on (m + 8) (m + 7) (i + 1) (i + 2) (omega arith) (omega arith) (omega arith) (c.left3 _ t.0 t.1)
        ∙ first (m + 8) (omega arith) (omega arith) (c.four _ p (omega arith))

-- ---- in both modes

module _ (s : List ℕ) where
  in_both : (i j : ℕ) → ((stack m : ℕ) → Chars m → walk_from m stack j (drop j s) ≡ walk_from m stack i (drop i s)) → Skipped s i j
  unfolding Skipped
  in_both i j f stack = (f stack char_mode in_value, f stack name_char_mode in_name)

  pub passed_none : (i : ℕ) → Skipped s i (i + 0)
  passed_none i = in_both i (i + 0) (λ stack m c. ap (λ (j : ℕ). walk_from m stack j (drop j s)) (add-zero i))

  pub passed_join : (i j k : ℕ) → Skipped s i j → Skipped s j k → Skipped s i k
  unfolding Skipped
  passed_join i j k f g stack = ((g stack).0 ∙ (f stack).0, (g stack).1 ∙ (f stack).1)

  pub passed_run : (i j : ℕ) → i ≤ j → j ≤ length s → BareRun s i j → Skipped s i j
  unfolding Skipped
  passed_run i j h k f stack = (run_on s char_mode stack (omega arith) char_stays i j h k f, run_on s name_char_mode stack (omega arith) name_char_stays i j h k f)

  module _ (i : ℕ) where
    pub passed_two : i + 2 ≤ length s → 194 ≤ get_or s i 0 → get_or s i 0 < 224 → Later (get_or s (i + 1) 0) → Skipped s i (i + 2)
    passed_two h p q t = in_both i (i + 2) (λ stack m c. two_on s stack m c i h p q t)

    pub passed_three : i + 3 ≤ length s → 224 ≤ get_or s i 0 → get_or s i 0 < 240 → (get_or s i 0 ≡ 224 → ⊥) → (get_or s i 0 ≡ 237 → ⊥) → Later (get_or s (i + 1) 0) → Later (get_or s (i + 2) 0) → Skipped s i (i + 3)
    passed_three h p q k n t u = in_both i (i + 3) (λ stack m c. three_on s stack m c i h (above_other _ _ p k) q n t u)

    pub passed_low3 : i + 3 ≤ length s → get_or s i 0 ≡ 224 → 160 ≤ get_or s (i + 1) 0 → Later (get_or s (i + 1) 0) → Later (get_or s (i + 2) 0) → Skipped s i (i + 3)
    passed_low3 h p l t u = in_both i (i + 3) (λ stack m c. low3_ok s stack m c i h p l t u)

    pub passed_cut3 : i + 3 ≤ length s → get_or s i 0 ≡ 237 → get_or s (i + 1) 0 < 160 → Later (get_or s (i + 1) 0) → Later (get_or s (i + 2) 0) → Skipped s i (i + 3)
    passed_cut3 h p l t u = in_both i (i + 3) (λ stack m c. cut3_ok s stack m c i h p l t u)

    pub passed_low4 : i + 4 ≤ length s → get_or s i 0 ≡ 240 → 144 ≤ get_or s (i + 1) 0 → Later (get_or s (i + 1) 0) → Later (get_or s (i + 2) 0) → Later (get_or s (i + 3) 0) → Skipped s i (i + 4)
    passed_low4 h p l t u v = in_both i (i + 4) (λ stack m c. low4_ok s stack m c i h p l t u v)

    pub passed_four : i + 4 ≤ length s → 240 ≤ get_or s i 0 → (get_or s i 0 ≡ 240 → ⊥) → get_or s i 0 < 244 → Later (get_or s (i + 1) 0) → Later (get_or s (i + 2) 0) → Later (get_or s (i + 3) 0) → Skipped s i (i + 4)
    passed_four h p k q t u v = in_both i (i + 4) (λ stack m c. four_on s stack m c i h (above_other _ _ p k) q t u v)

  -- in either mode
  module _ (mode i j : ℕ) (f : Skipped s i j) where
    pub passed_in_value : mode ≡ char_mode → (stack : ℕ) → walk_from mode stack j (drop j s) ≡ walk_from mode stack i (drop i s)
    unfolding Skipped
    passed_in_value e stack = rw e (f stack).0

    pub passed_in_name : mode ≡ name_char_mode → (stack : ℕ) → walk_from mode stack j (drop j s) ≡ walk_from mode stack i (drop i s)
    unfolding Skipped
    passed_in_name e stack = rw e (f stack).1
