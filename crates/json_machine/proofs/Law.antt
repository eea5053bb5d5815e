-- The machine stops exactly at the first byte that no text can have there, and accepts exactly the texts.
-- Assumes nothing.
use Prim.Native.Nat.{ℕ}
use mathlib.Core.Path.{◌≡◌, sym, subst}
use mathlib.Core.Bool.{Bool, true, false, false≢true}
use mathlib.Core.List.{List, [], ◌∷◌, ◌++◌, append-nil}
use Rattle.json_grammar.specs.Abnf.{Abnf, ◌·◌}
use Rattle.json_grammar.specs.Grammar.{json_text}
use Rattle.json_grammar.specs.Verdict.{depth_limit, IsText, CanBegin}
use Rattle.json_machine.proofs.Derive.{Texts, stop, seq, OneOf, here, there, rests_sound, rests_complete, texts_is, is_texts, can_end, texts_end, end_texts, texts_productive, none_left}
use Rattle.json_machine.proofs.Spaces.{to_value, from_value}
use Rattle.json_machine.proofs.Modes.{Mode, m-value}
use Rattle.json_machine.proofs.Step.{Next, refused, at, still, next_at, stills}
use Rattle.json_machine.proofs.Within.{productive_still, rests_are}

abbrev pub run_over : Next → List ℕ → Next
run_over n [] = n
run_over refused (b ∷ s) = refused
run_over (at m d fs) (b ∷ s) = run_over (next_at m d fs b) s

abbrev pub may_end : Next → Bool
may_end refused = false
may_end (at m d fs) = can_end (still m d fs)

-- ---- what may still come, from the start and after the bytes p

module _ (m : Mode) (d : ℕ) (fs : List Bool) (b : ℕ) (t : List ℕ) where
  forth_one : Texts (still m d fs) (b ∷ t) → OneOf (stills (next_at m d fs b)) t
  forth_one r = subst (λ (k : List (List Abnf)). OneOf k t) (rests_are m d fs b) (rests_complete b t r)

  back_one : OneOf (stills (next_at m d fs b)) t → Texts (still m d fs) (b ∷ t)
  back_one r = rests_sound b t (still m d fs) (subst (λ (k : List (List Abnf)). OneOf k t) (sym (rests_are m d fs b)) r)

only : {k : List Abnf} {s : List ℕ} → OneOf (k ∷ []) s → Texts k s
only (here r) = r
only (there r) = elim r [ ]

flat_text : {x y z : Abnf} {s : List ℕ} → Texts (x · y · z ∷ []) s → Texts (x ∷ y ∷ z ∷ []) s
flat_text (seq (seq r)) = r

pub forth : (p : List ℕ) (n : Next) (t : List ℕ) → OneOf (stills n) (p ++ t) → OneOf (stills (run_over n p)) t
forth [] n t r = r
forth (b ∷ p) refused t r = absurd (none_left r)
forth (b ∷ p) (at m d fs) t r = forth p (next_at m d fs b) t (forth_one m d fs b (p ++ t) (only r))

pub back : (p : List ℕ) (n : Next) (t : List ℕ) → OneOf (stills (run_over n p)) t → OneOf (stills n) (p ++ t)
back [] n t r = r
back (b ∷ p) refused t r = absurd (none_left r)
back (b ∷ p) (at m d fs) t r = here (back_one m d fs b (p ++ t) (back p (next_at m d fs b) t r))

-- ---- at the end

pub end_accepted : (n : Next) → OneOf (stills n) [] → may_end n ≡ true
end_accepted refused r = absurd (none_left r)
end_accepted (at m d fs) r = end_texts (only r)

pub accepted_end : (n : Next) → may_end n ≡ true → OneOf (stills n) []
accepted_end refused e = absurd (false≢true e)
accepted_end (at m d fs) e = here (texts_end (still m d fs) e)

-- ---- the laws

abbrev pub begin : Next
begin = at m-value depth_limit []

-- a text, with the plain grammar's white space, may come at the start, and nothing else
text_may_come : (s : List ℕ) → IsText s → OneOf (stills begin) s
unfolding IsText
text_may_come s i =
    here (to_value depth_limit [] s (flat_text (subst (λ (l : List ℕ). Texts (json_text depth_limit ∷ []) l) (append-nil s) (texts_is i stop))))

only_text_comes : (s : List ℕ) → OneOf (stills begin) s → IsText s
unfolding IsText
only_text_comes s r = is_texts (seq (seq (from_value depth_limit [] s (only r))))

module _ (s : List ℕ) where
  pub accepted : may_end (run_over begin s) ≡ true → IsText s
  accepted e = only_text_comes s (subst (λ (l : List ℕ). OneOf (stills begin) l) (append-nil s) (back s begin [] (accepted_end (run_over begin s) e)))

  pub accepting : IsText s → may_end (run_over begin s) ≡ true
  accepting i = end_accepted (run_over begin s) (forth s begin [] (subst (λ (l : List ℕ). OneOf (stills begin) l) (sym (append-nil s)) (text_may_come s i)))

  pub can_begin : (m : Mode) (d : ℕ) (fs : List Bool) → run_over begin s ≡ at m d fs → CanBegin s
  unfolding CanBegin
  can_begin m d fs e =
      let q = texts_productive (still m d fs) (productive_still m d fs) in
      (q.0, only_text_comes (s ++ q.0) (back s begin q.0 (subst (λ (n : Next). OneOf (stills n) q.0) (sym e) (here q.1))))

  pub cannot_begin : run_over begin s ≡ refused → CanBegin s → ⊥
  unfolding CanBegin
  cannot_begin e v = none_left (subst (λ (n : Next). OneOf (stills n) v.0) e (forth s begin v.0 (text_may_come (s ++ v.0) v.1)))
