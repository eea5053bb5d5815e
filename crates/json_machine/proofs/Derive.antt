-- Rules one after the other, without `++`: what is left of them after a byte, and what they need to end.
-- Assumes nothing.
use Prim.Native.Nat.{ℕ, ◌≤◌}
use mathlib.Core.Path.{◌≡◌, refl}
use mathlib.Core.Bool.{Bool, true, false, false≢true}
use mathlib.Core.List.{List, [], ◌∷◌, ◌++◌, append_assoc, append-nil}
use mathlib.Core.Logic.{◌⊎◌, inl, inr, ⊎_elim}
use lib.Dec.{leb}
use native.Mathlib.Nat.{le_refl}
use borrow.Author.Tests.{le-leb, leb-true}
use Rattle.octets.proofs.Logic.{both_true}
use Rattle.octets.specs.Logic.{both, either}
use Rattle.json_grammar.specs.Abnf.{Abnf, range, ◌·◌, ◌or◌, empty, many, Is, is_range, is_both, is_left, is_right, is_empty, is_none, is_more}

-- `Texts k s`: s is texts of the rules k, one after the other
pub data Texts : List Abnf → List ℕ → Type 0 where
  stop : Texts [] []
  one : {lo hi b : ℕ} {k : List Abnf} {s : List ℕ} → lo ≤ b → b ≤ hi → Texts k s → Texts (range lo hi ∷ k) (b ∷ s)
  seq : {x y : Abnf} {k : List Abnf} {s : List ℕ} → Texts (x ∷ y ∷ k) s → Texts (x · y ∷ k) s
  left : {x y : Abnf} {k : List Abnf} {s : List ℕ} → Texts (x ∷ k) s → Texts ((x or y) ∷ k) s
  right : {x y : Abnf} {k : List Abnf} {s : List ℕ} → Texts (y ∷ k) s → Texts ((x or y) ∷ k) s
  skip : {k : List Abnf} {s : List ℕ} → Texts k s → Texts (empty ∷ k) s
  done : {x : Abnf} {k : List Abnf} {s : List ℕ} → Texts k s → Texts (many x ∷ k) s
  more : {x : Abnf} {k : List Abnf} {s : List ℕ} → Texts (x ∷ many x ∷ k) s → Texts (many x ∷ k) s

-- ---- `Is` and `Texts` say the same

pub regroup : {k : List Abnf} (u v t : List ℕ) → Texts k (u ++ (v ++ t)) → Texts k ((u ++ v) ++ t)
regroup u v t r = rw append_assoc r

pub texts_is : {x : Abnf} {s t : List ℕ} {k : List Abnf} → Is x s → Texts k t → Texts (x ∷ k) (s ++ t)
texts_is (is_range a b) r = one a b r
texts_is {t} (is_both {s = u} {t = v} i j) r = seq (regroup u v t (texts_is i (texts_is j r)))
texts_is (is_left i) r = left (texts_is i r)
texts_is (is_right i) r = right (texts_is i r)
texts_is is_empty r = skip r
texts_is is_none r = done r
texts_is {t} (is_more {s = u} {t = v} i j) r = more (regroup u v t (texts_is i (texts_is j r)))

pub data Parts : List Abnf → List ℕ → Type 0 where
  last : Parts [] []
  part : {x : Abnf} {k : List Abnf} {u v : List ℕ} → Is x u → Parts k v → Parts (x ∷ k) (u ++ v)

split : {k : List Abnf} (u v t : List ℕ) → Parts k ((u ++ v) ++ t) → Parts k (u ++ (v ++ t))
split u v t r = rw append_assoc at r

join : {x y z : Abnf} {k : List Abnf} {s : List ℕ} → ((u v : List ℕ) → Is x u → Is y v → Is z (u ++ v)) → Parts (x ∷ y ∷ k) s → Parts (z ∷ k) s
join f (part {u = u} i (part {u = v} {v = t} j p)) = split u v t (part (f u v i j) p)

change : {x z : Abnf} {k : List Abnf} {s : List ℕ} → ((u : List ℕ) → Is x u → Is z u) → Parts (x ∷ k) s → Parts (z ∷ k) s
change f (part {u = u} i p) = part (f u i) p

pub parts : {k : List Abnf} {s : List ℕ} → Texts k s → Parts k s
parts stop = last
parts (one h l r) = part (is_range h l) (parts r)
parts (seq r) = join (λ u v. is_both) (parts r)
parts (left r) = change (λ u. is_left) (parts r)
parts (right r) = change (λ u. is_right) (parts r)
parts (skip r) = part is_empty (parts r)
parts (done r) = part is_none (parts r)
parts (more r) = join (λ u v. is_more) (parts r)

pub is_texts : {x : Abnf} {s : List ℕ} → Texts (x ∷ []) s → Is x s
is_texts r = go (parts r)
  where
    go : {x : Abnf} {s : List ℕ} → Parts (x ∷ []) s → Is x s
    go (part {u = u} i last) = rw append-nil i

-- ---- after a byte

abbrev pub pick : Bool → List (List Abnf) → List (List Abnf)
pick true l = l
pick false l = []

-- what may be left of x and then k after the byte b; r is what may be left of k
abbrev pub derive : ℕ → Abnf → List Abnf → List (List Abnf) → List (List Abnf)
derive b (range lo hi) k r = pick (both (leb lo b) (leb b hi)) (k ∷ [])
derive b (x · y) k r = derive b x (y ∷ k) (derive b y k r)
derive b (x or y) k r = derive b x k r ++ derive b y k r
derive b empty k r = r
derive b (many x) k r = derive b x (many x ∷ k) [] ++ r

abbrev pub rests : ℕ → List Abnf → List (List Abnf)
rests b [] = []
rests b (x ∷ k) = derive b x k (rests b k)

-- s is a text of one of them
pub data OneOf : List (List Abnf) → List ℕ → Type 0 where
  here : {k : List Abnf} {l : List (List Abnf)} {s : List ℕ} → Texts k s → OneOf (k ∷ l) s
  there : {k : List Abnf} {l : List (List Abnf)} {s : List ℕ} → OneOf l s → OneOf (k ∷ l) s

one_of_left : {s : List ℕ} {l : List (List Abnf)} (m : List (List Abnf)) → OneOf l s → OneOf (l ++ m) s
one_of_left m (here r) = here r
one_of_left m (there r) = there (one_of_left m r)

one_of_right : {s : List ℕ} (l : List (List Abnf)) {m : List (List Abnf)} → OneOf m s → OneOf (l ++ m) s
one_of_right [] r = r
one_of_right (k ∷ l) r = there (one_of_right l r)

one_of_cases : {s : List ℕ} (l : List (List Abnf)) {m : List (List Abnf)} → OneOf (l ++ m) s → OneOf l s ⊎ OneOf m s
one_of_cases [] r = inr r
one_of_cases (k ∷ l) (here r) = inl (here r)
one_of_cases (k ∷ l) (there r) = ⊎_elim (λ a. inl (there a)) (λ b. inr b) (one_of_cases l r)

or_true : (a b : Bool) → either a b ≡ true → (a ≡ true) ⊎ (b ≡ true)
or_true true b e = inl refl
or_true false b e = inr e

and_assoc : (a b c : Bool) → both a (both b c) ≡ true → both (both a b) c ≡ true
and_assoc true b c e = e
and_assoc false b c e = e

or_left : (a b c : Bool) → both a c ≡ true → both (either a b) c ≡ true
or_left true b c e = e
or_left false b c e = absurd (false≢true e)

or_right : (a b c : Bool) → both b c ≡ true → both (either a b) c ≡ true
or_right true b c e = (both_true b c e).1
or_right false b c e = e

pub none_left : {s : List ℕ} → OneOf [] s → ⊥
none_left = elim [ ]

-- the byte b, and then t
module _ (b : ℕ) (t : List ℕ) where
  picked : {k : List Abnf} (c : Bool) → OneOf (pick c (k ∷ [])) t → (c ≡ true) × Texts k t
  picked false x' = elim x' [ ]
  picked true (here r) = (refl, r)
  picked true (there r) = elim r [ ]

  pub derive_sound : (x : Abnf) (k : List Abnf) (r : List (List Abnf)) → (OneOf r t → Texts k (b ∷ t)) → OneOf (derive b x k r) t → Texts (x ∷ k) (b ∷ t)
  derive_sound (range lo hi) k r f h =
      let p = picked (both (leb lo b) (leb b hi)) h in
      let q = both_true (leb lo b) (leb b hi) p.0 in
      one (leb-true lo b q.0) (leb-true b hi q.1) p.1
  derive_sound (x · y) k r f h = seq (derive_sound x (y ∷ k) (derive b y k r) (derive_sound y k r f) h)
  derive_sound (x or y) k r f h = ⊎_elim (λ a. left (derive_sound x k r f a)) (λ a. right (derive_sound y k r f a)) (one_of_cases (derive b x k r) h)
  derive_sound empty k r f h = skip (f h)
  derive_sound (many x) k r f h =
      ⊎_elim (λ a. more (derive_sound x (many x ∷ k) [] (λ z. absurd (none_left z)) a)) (λ a. done (f a)) (one_of_cases (derive b x (many x ∷ k) []) h)

  pub rests_sound : (k : List Abnf) → OneOf (rests b k) t → Texts k (b ∷ t)
  rests_sound [] h = elim h [ ]
  rests_sound (x ∷ k) h = derive_sound x k (rests b k) (rests_sound k) h

  mono : (x : Abnf) (k : List Abnf) (r q : List (List Abnf)) → (OneOf r t → OneOf q t) → OneOf (derive b x k r) t → OneOf (derive b x k q) t
  mono (range lo hi) k r q f h = h
  mono (x · y) k r q f h = mono x (y ∷ k) (derive b y k r) (derive b y k q) (mono y k r q f) h
  mono (x or y) k r q f h =
      ⊎_elim (λ a. one_of_left _ (mono x k r q f a)) (λ a. one_of_right (derive b x k q) (mono y k r q f a)) (one_of_cases (derive b x k r) h)
  mono empty k r q f h = f h
  mono (many x) k r q f h =
      ⊎_elim (λ a. one_of_left _ a) (λ a. one_of_right (derive b x (many x ∷ k) []) (f a)) (one_of_cases (derive b x (many x ∷ k) []) h)

  -- what may be left is left of x, or x was nothing
  abbrev Through : Abnf → List Abnf → List (List Abnf) → Type 0
  Through x k r = OneOf (derive b x k []) t ⊎ (OneOf r t × ((q : List (List Abnf)) → OneOf q t → OneOf (derive b x k q) t))

  through : (x : Abnf) (k : List Abnf) (r : List (List Abnf)) → OneOf (derive b x k r) t → Through x k r
  through (range lo hi) k r h = inl h
  through (x · y) k r h =
      ⊎_elim
      (λ a. inl (mono x (y ∷ k) [] (derive b y k []) (λ z. absurd (none_left z)) a))
      (λ a. ⊎_elim
      (λ c. inl (a.1 (derive b y k []) c))
      (λ c. inr (c.0, λ q z. a.1 (derive b y k q) (c.1 q z)))
      (through y k r a.0))
      (through x (y ∷ k) (derive b y k r) h)
  through (x or y) k r h =
      ⊎_elim
      (λ a. ⊎_elim (λ c. inl (one_of_left _ c)) (λ c. inr (c.0, λ q z. one_of_left _ (c.1 q z))) (through x k r a))
      (λ a. ⊎_elim (λ c. inl (one_of_right (derive b x k []) c)) (λ c. inr (c.0, λ q z. one_of_right (derive b x k q) (c.1 q z))) (through y k r a))
      (one_of_cases (derive b x k r) h)
  through empty k r h = inr (h, λ q z. z)
  through (many x) k r h =
      ⊎_elim
      (λ a. inl (one_of_left [] a))
      (λ a. inr (a, λ q z. one_of_right (derive b x (many x ∷ k) []) z))
      (one_of_cases (derive b x (many x ∷ k) []) h)

  pub rests_complete : {k : List Abnf} → Texts k (b ∷ t) → OneOf (rests b k) t
  rests_complete (one {lo = lo} {hi = hi} {k = k} h l r) = rw (le-leb lo b h, le-leb b hi l) (here r)
  rests_complete (seq r) = rests_complete r
  rests_complete (left r) = one_of_left _ (rests_complete r)
  rests_complete (right {x = x} {k = k} r) = one_of_right (derive b x k (rests b k)) (rests_complete r)
  rests_complete (skip r) = rests_complete r
  rests_complete (done {x = x} {k = k} r) = one_of_right (derive b x (many x ∷ k) []) (rests_complete r)
  rests_complete (more {x = x} {k = k} r) =
      ⊎_elim (λ a. one_of_left _ a) (λ a. a.0) (through x (many x ∷ k) (rests b (many x ∷ k)) (rests_complete r))

-- ---- at the end

abbrev pub can_be_empty : Abnf → Bool
can_be_empty (range lo hi) = false
can_be_empty (x · y) = both (can_be_empty x) (can_be_empty y)
can_be_empty (x or y) = either (can_be_empty x) (can_be_empty y)
can_be_empty empty = true
can_be_empty (many x) = true

abbrev pub can_end : List Abnf → Bool
can_end [] = true
can_end (x ∷ k) = both (can_be_empty x) (can_end k)

run_ends : (x : Abnf) (k : List Abnf) → can_be_empty x ≡ true → Texts k [] → Texts (x ∷ k) []
run_ends (range lo hi) k e r = absurd (false≢true e)
run_ends (x · y) k e r =
    let p = both_true (can_be_empty x) (can_be_empty y) e in
    seq (run_ends x (y ∷ k) p.0 (run_ends y k p.1 r))
run_ends (x or y) k e r = ⊎_elim (λ p. left (run_ends x k p r)) (λ p. right (run_ends y k p r)) (or_true (can_be_empty x) (can_be_empty y) e)
run_ends empty k e r = skip r
run_ends (many x) k e r = done r

pub texts_end : (k : List Abnf) → can_end k ≡ true → Texts k []
texts_end [] e = stop
texts_end (x ∷ k) e =
    let p = both_true (can_be_empty x) (can_end k) e in
    run_ends x k p.0 (texts_end k p.1)

pub end_texts : {k : List Abnf} → Texts k [] → can_end k ≡ true
end_texts stop = refl
end_texts (seq {x = x} {y = y} {k = k} r) = and_assoc (can_be_empty x) (can_be_empty y) (can_end k) (end_texts r)
end_texts (left {x = x} {y = y} {k = k} r) = or_left (can_be_empty x) (can_be_empty y) (can_end k) (end_texts r)
end_texts (right {x = x} {y = y} {k = k} r) = or_right (can_be_empty x) (can_be_empty y) (can_end k) (end_texts r)
end_texts (skip r) = end_texts r
end_texts (done r) = end_texts r
end_texts (more {x = x} {k = k} r) = (both_true (can_be_empty x) (can_end k) (end_texts r)).1

-- ---- every rule whose ranges are not empty has a text; of a choice the first is taken

abbrev pub is_productive : Abnf → Bool
is_productive (range lo hi) = leb lo hi
is_productive (x · y) = both (is_productive x) (is_productive y)
is_productive (x or y) = is_productive x
is_productive empty = true
is_productive (many x) = true

abbrev pub productive : List Abnf → Bool
productive [] = true
productive (x ∷ k) = both (is_productive x) (productive k)

run_is_productive : (x : Abnf) (k : List Abnf) → is_productive x ≡ true → (s : List ℕ) × Texts k s → (s : List ℕ) × Texts (x ∷ k) s
run_is_productive (range lo hi) k e (s, r) = (lo ∷ s, one {b = lo} (le_refl lo) (leb-true lo hi e) r)
run_is_productive (x · y) k e r =
    let p = both_true (is_productive x) (is_productive y) e in
    let q = run_is_productive x (y ∷ k) p.0 (run_is_productive y k p.1 r) in
    (q.0, seq q.1)
run_is_productive (x or y) k e r = let q = run_is_productive x k e r in (q.0, left q.1)
run_is_productive empty k e (s, r) = (s, skip r)
run_is_productive (many x) k e (s, r) = (s, done r)

pub texts_productive : (k : List Abnf) → productive k ≡ true → (s : List ℕ) × Texts k s
texts_productive [] e = ([], stop)
texts_productive (x ∷ k) e =
    let p = both_true (is_productive x) (productive k) e in
    run_is_productive x k p.0 (texts_productive k p.1)
