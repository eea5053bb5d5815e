-- The walk over the bytes gives the right verdict, from wherever the machine stands.
-- Assumes nothing.
use Prim.Native.Nat.{ℕ, suc, ◌<◌}
use mathlib.Core.Path.{◌≡◌, refl, ap, ap₂, sym, ◌∙◌, subst}
use mathlib.Core.Bool.{Bool, true, false, false≢true}
use mathlib.Core.List.{List, [], ◌∷◌, ◌++◌, append-nil, append_assoc}
use native.Mathlib.Omega.{arith}
use borrow.Author.Tests.{eqb-true, eqb-false}
use lib.Dec.{eqb}
use lib.ListN.{length, take, drop, take-append-drop, length-append}
use lib.Seq.{take_at}
use Rattle.json_grammar.specs.Verdict.{IsText, CanBegin, FaultsFirstAt, IsVerdict, JsonVerdict, Text, Fault}
use Rattle.octets.specs.Logic.{choose}
use Rattle.octets.proofs.Lists.{taken_append}
use Rattle.json_machine.specs.Machine.{fault_entry, act_of, kind_of, turn_mode, turn_stack, ends_of, walk_from}
use Rattle.json_machine.proofs.Step.{Next, refused, at}
use Rattle.json_machine.proofs.Law.{run_over, begin, may_end, accepted, accepting, can_begin, cannot_begin}
use Rattle.json_laws.proofs.Coded.{number_below}
use Rattle.json_laws.proofs.Onward.{Coded, Onward, onward, coded_end}

-- ---- lists

over_next : (n : Next) (b : ℕ) (t : List ℕ) → run_over n (b ∷ t) ≡ run_over (run_over n (b ∷ [])) t
over_next refused b [] = refl
over_next refused b (c ∷ t) = refl
over_next (at m d fs) b t = refl

over_append : (n : Next) (p t : List ℕ) → run_over n (p ++ t) ≡ run_over (run_over n p) t
over_append n p t = taken_append run_over (λ m. refl) over_next n p t

-- a text begins with each of its beginnings
pub text_begins : (n : ℕ) (s : List ℕ) → IsText s → CanBegin (take n s)
unfolding CanBegin
text_begins n s t = (drop n s, subst (λ (l : List ℕ). IsText l) (sym (take-append-drop n s)) t)

-- ---- what the numbers say of where the machine stands

coded_below : (n : Next) (mo st : ℕ) → Coded n mo st → (mo ≡ fault_entry → ⊥) → mo < fault_entry
coded_below refused mo st c h = absurd (h c)
coded_below (at m d fs) mo st c h = let l = number_below m fs in let e = c.0 in omega arith

coded_refused : (n : Next) (mo st : ℕ) → Coded n mo st → mo ≡ fault_entry → n ≡ refused
coded_refused refused mo st c h = refl
coded_refused (at m d fs) mo st c h = let l = number_below m fs in let e = c.0 in absurd (omega arith)

coded_turn : (n : Next) (mo st b : ℕ) → mo < fault_entry → Coded n mo st → Onward (run_over n (b ∷ [])) (act_of mo st b) st
coded_turn refused mo st b h c = absurd (omega arith)
coded_turn (at m d fs) mo st b h c = onward m d fs b mo st c

coded_begins : (p : List ℕ) (n : Next) → run_over begin p ≡ n → (mo st : ℕ) → mo < fault_entry → Coded n mo st → CanBegin p
coded_begins p refused e mo st l c = absurd (omega arith)
coded_begins p (at m d fs) e mo st l c = can_begin p m d fs e

coded_ends : (n : Next) (mo st : ℕ) → mo < fault_entry → Coded n mo st → ends_of mo st ≡ may_end n
coded_ends refused mo st l c = absurd (omega arith)
coded_ends (at m d fs) mo st l c = ap₂ ends_of c.0 c.1 ∙ coded_end m d fs

-- ---- the walk, after the bytes p

module _ (p : List ℕ) (mo st : ℕ) (small : mo < fault_entry) (coded : Coded (run_over begin p) mo st) where
  begins : CanBegin p
  begins = coded_begins p (run_over begin p) refl mo st small coded

  -- no byte is left
  right_end : (e : Bool) → ends_of mo st ≡ e → IsVerdict p (choose e Text (Fault (length p)))
  right_end true e = accepted p (sym (coded_ends (run_over begin p) mo st small coded) ∙ e)
  right_end false e =
      record {
        no_text = λ t. false≢true (sym e ∙ coded_ends (run_over begin p) mo st small coded ∙ accepting p t);
        within = omega arith;
        before = subst (λ (l : List ℕ). CanBegin l) (sym whole) begins;
        there = λ l. absurd (omega arith);
      }
    where
      whole : take (length p) p ≡ p
      whole = ap (take (length p)) (sym (append-nil p)) ∙ take_at p [] (length p) refl

  -- at the byte b, which t follows
  module _ (b : ℕ) (t : List ℕ) where
    abbrev more : List ℕ
    more = p ++ (b ∷ [])

    joined_is : more ++ t ≡ p ++ (b ∷ t)
    joined_is = append_assoc p (b ∷ []) t

    one_more : length more ≡ suc (length p)
    one_more = simp length-append (omega arith)

    coded_more : Onward (run_over begin more) (act_of mo st b) st
    coded_more =
        subst (λ (n : Next). Onward n (act_of mo st b) st) (sym (over_append begin p (b ∷ []))) (coded_turn (run_over begin p) mo st b small coded)

    right_fault : turn_mode (kind_of (act_of mo st b)) (act_of mo st b) st ≡ fault_entry → FaultsFirstAt (p ++ (b ∷ t)) (length p)
    right_fault e =
        let no : CanBegin more → ⊥ = cannot_begin more (coded_refused (run_over begin more) _ _ coded_more e) in
        let cut : take (suc (length p)) (p ++ (b ∷ t)) ≡ more =
        ap (take (suc (length p))) (sym joined_is) ∙ take_at more t (suc (length p)) one_more in
        let not-begin : CanBegin (take (suc (length p)) (p ++ (b ∷ t))) → ⊥ = λ v. no (subst (λ (l : List ℕ). CanBegin l) cut v) in
        record {
          no_text = λ i. not-begin (text_begins (suc (length p)) (p ++ (b ∷ t)) i);
          within = simp length-append (omega arith);
          before = subst (λ (l : List ℕ). CanBegin l) (sym (take_at p (b ∷ t) (length p) refl)) begins;
          there = λ l. not-begin;
        }

by_test : (s : List ℕ) (e : Bool) (v w : JsonVerdict) → (e ≡ true → IsVerdict s v) → (e ≡ false → IsVerdict s w) → IsVerdict s (choose e v w)
by_test s true v w f g = f refl
by_test s false v w f g = g refl

pub right_from : (t p : List ℕ) (mo st : ℕ) → mo < fault_entry → Coded (run_over begin p) mo st → IsVerdict (p ++ t) (walk_from mo st (length p) t)
unfolding walk_from
right_from [] p mo st small coded =
    subst (λ (l : List ℕ). IsVerdict l (choose (ends_of mo st) Text (Fault (length p)))) (sym (append-nil p))
    (right_end p mo st small coded (ends_of mo st) refl)
right_from (b ∷ t) p mo st small coded =
    let mo' : ℕ = turn_mode (kind_of (act_of mo st b)) (act_of mo st b) st in
    let st' : ℕ = turn_stack (kind_of (act_of mo st b)) st in
    let more : List ℕ = p ++ (b ∷ []) in
    let c : Coded (run_over begin more) mo' st' = coded_more p mo st small coded b t in
    by_test (p ++ (b ∷ t)) (eqb mo' fault_entry) (Fault (length p)) (walk_from mo' st' (suc (length p)) t)
    (λ e. right_fault p mo st small coded b t (eqb-true mo' fault_entry e))
    (λ e.
    let r = right_from t more mo' st' (coded_below (run_over begin more) mo' st' c (eqb-false mo' fault_entry e)) c in
    subst (λ (l : List ℕ). IsVerdict l (walk_from mo' st' (suc (length p)) t)) (append_assoc p (b ∷ []) t)
    (subst (λ (k : ℕ). IsVerdict (more ++ t) (walk_from mo' st' k t)) (one_more p mo st small coded b t) r))
