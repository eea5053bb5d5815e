-- The RFC's white space and that of the plain grammar make the same texts.
-- Assumes nothing.
use Prim.Native.Nat.{ℕ, zero, suc}
use mathlib.Core.Path.{◌≡◌, sym, subst}
use mathlib.Core.List.{List, [], ◌∷◌, ◌++◌, append_assoc, append-nil}
use mathlib.Core.Logic.{◌⊎◌, inl, inr, ⊎_elim}
use Rattle.json_grammar.specs.Abnf.{Abnf, ◌·◌, ◌or◌, many, Is, is_none, is_more, byte, opt}
use Rattle.json_grammar.specs.Grammar.{ws, string, array, member, object, value}
use Rattle.json_machine.proofs.Derive.{Texts, stop, seq, left, right, skip, done, more, texts_is, Parts, last, part, parts, regroup}
use Rattle.json_machine.proofs.Plain.{items, array_rest, plain_array, plain_member, members, object_rest, plain_object, plain_value}

-- the RFC's structural characters, and its arrays and objects as lists between two of them
abbrev structural : ℕ → Abnf
structural b = ws · byte b · ws

abbrev bracketed : ℕ → ℕ → Abnf → Abnf
bracketed o c x = structural o · opt (x · many (structural 0x2C · x)) · structural c

-- ---- in a row of rules, any may be changed for one with more texts

abbrev Sub : List Abnf → List Abnf → Type 0
Sub k l = (s : List ℕ) → Texts k s → Texts l s

run_parts : {k : List Abnf} {s : List ℕ} → Parts k s → Texts k s
run_parts last = stop
run_parts (part i p) = texts_is i (run_parts p)

data Cut (x : Abnf) (k : List Abnf) : List ℕ → Type 0 where
  cut : {u v : List ℕ} → Is x u → Texts k v → Cut x k (u ++ v)

cut_of : {x : Abnf} {k : List Abnf} {s : List ℕ} → Parts (x ∷ k) s → Cut x k s
cut_of (part i p) = cut i (run_parts p)

uncut : {x : Abnf} {k : List Abnf} {s : List ℕ} → Cut x k s → Texts (x ∷ k) s
uncut (cut i r) = texts_is i r

under : {k l : List Abnf} (x : Abnf) → Sub k l → Sub (x ∷ k) (x ∷ l)
under {k} {l} x f s r = go (cut_of (parts r))
  where
    go : {s : List ℕ} → Cut x k s → Texts (x ∷ l) s
    go (cut {v = v} i r) = texts_is i (f v r)

split : {a b : Abnf} {k : List Abnf} {s : List ℕ} → Texts (a · b ∷ k) s → Texts (a ∷ b ∷ k) s
split (seq e) = e

-- spaces twice are spaces
again : {x : Abnf} {k : List Abnf} {u v : List ℕ} → Is (many x) u → Texts (many x ∷ k) v → Texts (many x ∷ k) (u ++ v)
again is_none r = r
again {v} (is_more {s = a} {t = b} i j) r = more (regroup a b v (texts_is i (again j r)))

merge : (k : List Abnf) → Sub (ws ∷ ws ∷ k) (ws ∷ k)
merge k s r = go (cut_of (parts r))
  where
    go : {s : List ℕ} → Cut ws (ws ∷ k) s → Texts (ws ∷ k) s
    go (cut i r) = again i r

twice : (k : List Abnf) → Sub (ws ∷ k) (ws ∷ ws ∷ k)
twice k s r = texts_is is_none r

-- ---- lists

-- a list of x in the RFC, and of y with its spaces in it, each later one z
module _ (o c : ℕ) (x y z R : Abnf)
    (to : (k : List Abnf) → Sub (ws ∷ x ∷ ws ∷ k) (ws ∷ y ∷ k))
    (pack : (k : List Abnf) → Sub (byte 0x2C ∷ ws ∷ y ∷ k) (z ∷ k))
    (without : (k : List Abnf) → Sub (byte c ∷ k) (R ∷ k))
    (with_first : (k : List Abnf) → Sub (y ∷ many z ∷ byte c ∷ k) (R ∷ k)) where
  closing : (k : List Abnf) → Sub (structural c ∷ ws ∷ k) (ws ∷ byte c ∷ ws ∷ k)
  closing k s (seq (seq r)) = under ws (under (byte c) (merge k)) s r

  one : (k : List Abnf) → Sub (structural 0x2C · x ∷ ws ∷ many z ∷ k) (ws ∷ many z ∷ k)
  one k s (seq (seq (seq q))) =
      under ws (λ s e. more (pack (many z ∷ k) s e)) s (under ws (under (byte 0x2C) (to (many z ∷ k))) s q)

  next : {k : List Abnf} {u v : List ℕ} → Is (many (structural 0x2C · x)) u → Texts (structural c ∷ ws ∷ k) v → Texts (ws ∷ many z ∷ byte c ∷ ws ∷ k) (u ++ v)
  next {k} {v} is_none r = under ws (λ s e. done e) v (closing k v r)
  next {k} {v} (is_more {s = a} {t = b} i j) r = regroup a b v (one (byte c ∷ ws ∷ k) (a ++ (b ++ v)) (texts_is i (next j r)))

  nexts : {k : List Abnf} {s : List ℕ} → Cut (many (structural 0x2C · x)) (structural c ∷ ws ∷ k) s → Texts (ws ∷ many z ∷ byte c ∷ ws ∷ k) s
  nexts (cut i r) = next i r

  inner : {k : List Abnf} {s : List ℕ} → Cut ws (opt (x · many (structural 0x2C · x)) ∷ structural c ∷ ws ∷ k) s → Texts (ws ∷ R ∷ ws ∷ k) s
  inner {k} (cut {u = u} {v = v} i (right (skip e))) = under ws (without (ws ∷ k)) (u ++ v) (merge (byte c ∷ ws ∷ k) (u ++ v) (texts_is i (closing k v e)))
  inner {k} (cut {u = u} {v = v} i (left (seq e))) =
      under ws (with_first (ws ∷ k)) (u ++ v)
      (to (many z ∷ byte c ∷ ws ∷ k) (u ++ v) (texts_is i (under x (λ s r. nexts (cut_of (parts r))) v e)))

  outer : {k : List Abnf} {s : List ℕ} → Cut ws (bracketed o c x ∷ ws ∷ k) s → Texts (ws ∷ (byte o · ws · R) ∷ ws ∷ k) s
  outer {k} (cut {u = u} {v = v} i (seq (seq (seq (seq e))))) =
      under ws (λ s r. seq (seq (under (byte o) (λ s r. inner (cut_of (parts r))) s r))) (u ++ v)
      (merge (byte o ∷ ws ∷ opt (x · many (structural 0x2C · x)) ∷ structural c ∷ ws ∷ k) (u ++ v) (texts_is i e))

-- ---- values

module _ (v w : Abnf) (to : (k : List Abnf) → Sub (ws ∷ v ∷ ws ∷ k) (ws ∷ w ∷ ws ∷ k)) where
  to_array : {k : List Abnf} {s : List ℕ} → Cut ws (array v ∷ ws ∷ k) s → Texts (ws ∷ plain_array w ∷ ws ∷ k) s
  to_array r =
      outer 0x5B 0x5D v (w · ws) (byte 0x2C · ws · w · ws) (array_rest w)
      (λ k s r. under ws (λ s e. seq e) s (to k s r))
      (λ k s r. seq (seq (seq (under (byte 0x2C) (under ws (λ s e. split e)) s r))))
      (λ k s r. left r)
      (λ k s r. right (seq (seq (seq (split r)))))
      r

  to_member : (k : List Abnf) → Sub (ws ∷ member v ∷ ws ∷ k) (ws ∷ plain_member w ∷ k)
  to_member k = under ws inside
    where
      mid : Sub (structural 0x3A ∷ v ∷ ws ∷ k) (ws ∷ byte 0x3A ∷ ws ∷ w ∷ ws ∷ k)
      mid s (seq (seq r)) = under ws (under (byte 0x3A) (to k)) s r

      inside : Sub (member v ∷ ws ∷ k) (plain_member w ∷ k)
      inside s (seq (seq r)) = seq (seq (seq (seq (seq (under string mid s r)))))

  to_object : {k : List Abnf} {s : List ℕ} → Cut ws (object v ∷ ws ∷ k) s → Texts (ws ∷ plain_object w ∷ ws ∷ k) s
  to_object r =
      outer 0x7B 0x7D (member v) (plain_member w) (byte 0x2C · ws · plain_member w) (object_rest w)
      to_member
      (λ k s r. seq (seq r))
      (λ k s r. left r)
      (λ k s r. right (seq (seq r)))
      r

abbrev Of : Abnf → Abnf → List Abnf → Type 0
Of x y k = (s : List ℕ) → Cut ws (x ∷ ws ∷ k) s → Texts (ws ∷ y ∷ ws ∷ k) s

-- a choice of which the second and the third are changed
cases : {a b c x y d e : Abnf} {k : List Abnf} {s : List ℕ} → Of b d k → Of c e k
    → Cut ws ((a or b or c or x or y) ∷ ws ∷ k) s → Texts (ws ∷ (a or d or e or x or y) ∷ ws ∷ k) s
cases f g (cut i (right r)) = texts_is i (right r)
cases f g (cut i (left (right r))) = texts_is i (left (right r))
cases f g (cut {u = u} {v = v} i (left (left (right r)))) = under ws (λ s e. left (left (right e))) (u ++ v) (g (u ++ v) (cut i r))
cases f g (cut {u = u} {v = v} i (left (left (left (right r))))) = under ws (λ s e. left (left (left (right e)))) (u ++ v) (f (u ++ v) (cut i r))
cases f g (cut i (left (left (left (left r))))) = texts_is i (left (left (left (left r))))

pub to_value : (d : ℕ) (k : List Abnf) → Sub (ws ∷ value d ∷ ws ∷ k) (ws ∷ plain_value d ∷ ws ∷ k)
to_value zero k s r = r
to_value (suc d) k s r =
    cases
    (λ s e. to_object (value d) (plain_value d) (to_value d) e)
    (λ s e. to_array (value d) (plain_value d) (to_value d) e)
    (cut_of (parts r))

-- ---- and back

module _ (o c : ℕ) (x y z R : Abnf)
    (from : (k : List Abnf) → Sub (ws ∷ y ∷ k) (ws ∷ x ∷ ws ∷ k))
    (unpack : (k : List Abnf) → Sub (z ∷ k) (byte 0x2C ∷ ws ∷ y ∷ k))
    (either : (k : List Abnf) (s : List ℕ) → Texts (R ∷ k) s → Texts (byte c ∷ k) s ⊎ Texts (y ∷ many z ∷ byte c ∷ k) s) where
  shut : (k : List Abnf) → Sub (ws ∷ byte c ∷ ws ∷ k) (structural c ∷ ws ∷ k)
  shut k s r = seq (seq (under ws (under (byte c) (twice k)) s r))

  put_before : {k : List Abnf} {a t w : List ℕ} → Parts (byte 0x2C ∷ ws ∷ x ∷ ws ∷ []) a → ((w₂ : List ℕ) → Is ws w₂ → Texts (many (structural 0x2C · x) ∷ k) (w₂ ++ t))
      → Is ws w → Texts (many (structural 0x2C · x) ∷ k) (w ++ (a ++ t))
  put_before {k} {t} {w} (part {u = c₁} ic (part {u = w₁} i₁ (part {u = x₁} ix (part {u = w₂} i₂ last)))) f iw =
      let e : (c₁ ++ (w₁ ++ (x₁ ++ (w₂ ++ [])))) ++ t ≡ c₁ ++ (w₁ ++ (x₁ ++ (w₂ ++ t))) = simp (append_assoc, append-nil) in
      subst (λ (l : List ℕ). Texts (many (structural 0x2C · x) ∷ k) (w ++ l)) (sym e)
      (more (seq (seq (seq (texts_is iw (texts_is ic (texts_is i₁ (texts_is ix (f w₂ i₂)))))))))

  pieces : {a : List ℕ} → Is z a → Parts (byte 0x2C ∷ ws ∷ x ∷ ws ∷ []) a
  pieces {a} i =
      let r = subst (λ (l : List ℕ). Texts (z ∷ []) l) (append-nil a) (texts_is i stop) in
      parts (under (byte 0x2C) (from []) a (unpack [] a r))

  back : {k : List Abnf} {w u v : List ℕ} → Is ws w → Is (many z) u → Texts (byte c ∷ ws ∷ k) v → Texts (many (structural 0x2C · x) ∷ structural c ∷ ws ∷ k) (w ++ (u ++ v))
  back {k} {w} {v} iw is_none r = done (shut k (w ++ v) (texts_is iw r))
  back {k} {w} {v} iw (is_more {s = a} {t = b} i j) r =
      subst (λ (l : List ℕ). Texts (many (structural 0x2C · x) ∷ structural c ∷ ws ∷ k) (w ++ l)) (sym (append_assoc a b v))
      (put_before (pieces i) (λ w₂ i₂. back i₂ j r) iw)

  backs : {k : List Abnf} {s : List ℕ} → Parts (ws ∷ many z ∷ byte c ∷ ws ∷ k) s → Texts (many (structural 0x2C · x) ∷ structural c ∷ ws ∷ k) s
  backs (part iw (part i p)) = back iw i (run_parts p)

  from_inner : {k : List Abnf} {s : List ℕ} → Cut ws (R ∷ ws ∷ k) s → Texts (ws ∷ opt (x · many (structural 0x2C · x)) ∷ structural c ∷ ws ∷ k) s
  from_inner {k} (cut {u = u} {v = v} i r) =
      ⊎_elim
      (λ e. texts_is i (right (skip (shut k v (done e)))))
      (λ e. under ws (λ s q. left (seq q)) (u ++ v)
      (under ws (under x (λ s q. backs (parts q))) (u ++ v) (from (many z ∷ byte c ∷ ws ∷ k) (u ++ v) (texts_is i e))))
      (either (ws ∷ k) v r)

  from_outer : (k : List Abnf) → Sub (ws ∷ (byte o · ws · R) ∷ ws ∷ k) (ws ∷ bracketed o c x ∷ ws ∷ k)
  from_outer k =
      under ws (λ s r. seq (seq (seq (seq (done (under (byte o) (λ s q. from_inner (cut_of (parts q))) s (split (split r))))))))

array_either : {w : Abnf} (k : List Abnf) (s : List ℕ) → Texts (array_rest w ∷ k) s → Texts (byte 0x5D ∷ k) s ⊎ Texts (w · ws ∷ items w ∷ byte 0x5D ∷ k) s
array_either k s (left r) = inl r
array_either k s (right (seq (seq (seq r)))) = inr (seq r)

object_either : {w : Abnf} (k : List Abnf) (s : List ℕ) → Texts (object_rest w ∷ k) s → Texts (byte 0x7D ∷ k) s ⊎ Texts (plain_member w ∷ members w ∷ byte 0x7D ∷ k) s
object_either k s (left r) = inl r
object_either k s (right (seq (seq r))) = inr r

module _ (v w : Abnf) (from : (k : List Abnf) → Sub (ws ∷ w ∷ ws ∷ k) (ws ∷ v ∷ ws ∷ k)) where
  from_array : (k : List Abnf) → Sub (ws ∷ plain_array w ∷ ws ∷ k) (ws ∷ array v ∷ ws ∷ k)
  from_array =
      from_outer 0x5B 0x5D v (w · ws) (byte 0x2C · ws · w · ws) (array_rest w)
      (λ k s r. from k s (under ws (λ s e. split e) s r))
      (λ k s r. under (byte 0x2C) (under ws (λ s e. seq e)) s (split (split (split r))))
      array_either

  mid : (k : List Abnf) → Sub (ws ∷ byte 0x3A ∷ ws ∷ w ∷ ws ∷ k) (structural 0x3A ∷ v ∷ ws ∷ k)
  mid k s r = seq (seq (under ws (under (byte 0x3A) (from k)) s r))

  from_member : (k : List Abnf) → Sub (ws ∷ plain_member w ∷ k) (ws ∷ member v ∷ ws ∷ k)
  from_member k = under ws (λ s r. seq (seq (under string (mid k) s (split (split (split (split (split r))))))))

  from_object : (k : List Abnf) → Sub (ws ∷ plain_object w ∷ ws ∷ k) (ws ∷ object v ∷ ws ∷ k)
  from_object =
      from_outer 0x7B 0x7D (member v) (plain_member w) (byte 0x2C · ws · plain_member w) (object_rest w)
      from_member
      (λ k s r. split (split r))
      object_either

pub from_value : (d : ℕ) (k : List Abnf) → Sub (ws ∷ plain_value d ∷ ws ∷ k) (ws ∷ value d ∷ ws ∷ k)
from_value zero k s r = r
from_value (suc d) k s r =
    cases
    (λ s e. from_object (value d) (plain_value d) (from_value d) k s (uncut e))
    (λ s e. from_array (value d) (plain_value d) (from_value d) k s (uncut e))
    (cut_of (parts r))
