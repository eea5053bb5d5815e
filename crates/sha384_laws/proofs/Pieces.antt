-- The laws of pieces: whatever their sizes, the state after them is the one for the bytes joined, and a piece is refused exactly where the total
-- would pass the limit, with the state as it was.
-- Assumes nothing.
use Prim.Native.Nat.{ℕ, ◌+◌, ◌<◌, ◌≤◌}
use mathlib.Core.Path.{◌≡◌, refl, sym, ap, ◌∙◌}
use mathlib.Core.List.{List, [], ◌∷◌, ◌++◌}
use mathlib.Core.Logic.{⊎_elim}
use native.Mathlib.Omega.{arith}
use borrow.Author.Tests.{lt-ltb, le-ltb}
use lib.ListN.{length, length-append}
use Rattle.octets.specs.Lists.{joined}
use Rattle.octets.proofs.Logic.{le_or_lt}
use Rattle.eif.specs.Numbers.{message_too_long}
use Rattle.eif.specs.Answers.{refuse, number_of}
use Rattle.eif.specs.declared.Verdict.TheVariants.{Accepted}
use Rattle.sha384_block.specs.Fips.{sha384}
use Rattle.sha384.specs.State.{initial_state, absorbed, digest_from, state_after, updated, more_hashed, total_limit, after_all}
use Rattle.sha384.specs.declared.State.{State}
use Rattle.sha384.specs.declared.Updated.{Updated}
use Rattle.sha384_laws.specs.Pieces.{bytes_taken}
use Rattle.sha384_laws.proofs.Fed.{total_fed, total_state_of, fed_append, fed_nothing, fresh_fed, fresh_finished}

-- ---- one piece

module _ (st : State) (s : List ℕ) where
  pub past_limit : total_limit < st.total + length s → updated st s ≡ record { verdict = refuse message_too_long 0; state = st }
  unfolding updated
  past_limit h = simp (lt-ltb _ _ h)

  pub within_limit : st.total + length s ≤ total_limit → updated st s ≡ record { verdict = Accepted; state = absorbed st s }
  unfolding updated
  within_limit h = simp (le-ltb _ _ h)

  -- refused exactly where the total would pass the limit
  pub refused_past : number_of (updated st s).verdict ≡ message_too_long → total_limit < st.total + length s
  refused_past e =
      ⊎_elim
      (λ h. let z = ap (λ (u : Updated). number_of u.verdict) (within_limit h) in absurd (omega (arith, z, e)))
      (λ h. h)
      (le_or_lt (st.total + length s) total_limit)

  -- and then the state is as it was
  pub refused_same : total_limit < st.total + length s → (updated st s).state ≡ st
  refused_same h = ap (λ (u : Updated). u.state) (past_limit h)

-- a piece within the limit takes the state of some bytes to the state of those bytes and the piece
pub after_more : (x p : List ℕ) → length (x ++ p) ≤ total_limit → more_hashed (state_after x) p ≡ state_after (x ++ p)
after_more x p h =
    ap (λ (u : Updated). u.state) (within_limit (state_after x) p (omega (arith, total_state_of x, length-append x p)))
    ∙ ap (λ (st : State). absorbed st p) (sym (fresh_fed x)) ∙ fed_append initial_state x p ∙ fresh_fed (x ++ p)

-- ---- all pieces

pub after_is : (st : State) (ps : List (List ℕ)) → after_all st ps ≡ absorbed st (bytes_taken st.total ps)
unfolding after_all bytes_taken
after_is st [] = sym (fed_nothing st)
after_is st (p ∷ ps) =
    ⊎_elim
    (λ h.
    ap (λ (u : Updated). after_all u.state ps) (within_limit st p h) ∙ after_is (absorbed st p) ps ∙ ap (λ (k : ℕ). absorbed (absorbed st p) (bytes_taken k ps)) (total_fed st p)
    ∙ fed_append st p (bytes_taken (st.total + length p) ps) ∙ sym (simp (le-ltb _ _ h)))
    (λ h.
    ap (λ (u : Updated). after_all u.state ps) (past_limit st p h) ∙ after_is st ps ∙ sym (simp (lt-ltb _ _ h)))
    (le_or_lt (st.total + length p) total_limit)

-- from the fresh state, after any pieces: the state and the digest of the bytes that were taken
pub pieces_state : (ps : List (List ℕ)) → after_all initial_state ps ≡ state_after (bytes_taken 0 ps)
unfolding initial_state
pieces_state ps = after_is initial_state ps ∙ fresh_fed (bytes_taken 0 ps)

pub pieces_digest : (ps : List (List ℕ)) → digest_from (after_all initial_state ps) ≡ sha384 (bytes_taken 0 ps)
pieces_digest ps = ap digest_from (pieces_state ps) ∙ fresh_finished (bytes_taken 0 ps)

-- and where all of them are within the limit, that is all of them
pub all_taken : (total : ℕ) (ps : List (List ℕ)) → total + length (joined ps) ≤ total_limit → bytes_taken total ps ≡ joined ps
unfolding bytes_taken
all_taken total [] h = refl
all_taken total (p ∷ ps) h =
    let n = length-append p (joined ps) in
    let g : total + length p ≤ total_limit = omega arith in
    simp (le-ltb _ _ g) (ap (λ (l : List ℕ). p ++ l) (all_taken (total + length p) ps (omega arith)))

pub joined_state : (ps : List (List ℕ)) → length (joined ps) ≤ total_limit → after_all initial_state ps ≡ state_after (joined ps)
joined_state ps h = pieces_state ps ∙ ap state_after (all_taken 0 ps (omega arith))

pub joined_digest : (ps : List (List ℕ)) → length (joined ps) ≤ total_limit → digest_from (after_all initial_state ps) ≡ sha384 (joined ps)
joined_digest ps h = pieces_digest ps ∙ ap sha384 (all_taken 0 ps (omega arith))

-- ---- one piece more, after any pieces from the fresh state

-- what was taken keeps the limit
taken_short : (total : ℕ) (ps : List (List ℕ)) → total ≤ total_limit → total + length (bytes_taken total ps) ≤ total_limit
unfolding bytes_taken
taken_short total [] h = omega arith
taken_short total (p ∷ ps) h =
    ⊎_elim
    (λ (g : total + length p ≤ total_limit).
    simp (le-ltb _ _ g) (omega (arith, taken_short (total + length p) ps g, length-append p (bytes_taken (total + length p) ps))))
    (λ (g : total_limit < total + length p). simp (lt-ltb _ _ g) (taken_short total ps h))
    (le_or_lt (total + length p) total_limit)

total_after : (ps : List (List ℕ)) → (after_all initial_state ps).total ≡ length (bytes_taken 0 ps)
total_after ps = ap (λ (st : State). st.total) (pieces_state ps) ∙ total_state_of (bytes_taken 0 ps)

module _ (ps : List (List ℕ)) (p : List ℕ) where
  -- within the limit it is taken, and the state is the one for the bytes before it and its own
  pub next_taken : length (bytes_taken 0 ps) + length p ≤ total_limit
      → updated (after_all initial_state ps) p ≡ record { verdict = Accepted; state = state_after (bytes_taken 0 ps ++ p) }
  next_taken h =
      let t = total_after ps in
      within_limit (after_all initial_state ps) p (omega arith)
      ∙ ap (λ (st : State). with st) (ap (λ (st : State). absorbed st p) (pieces_state ps ∙ sym (fresh_fed (bytes_taken 0 ps))) ∙ fed_append initial_state (bytes_taken 0 ps) p ∙ fresh_fed (bytes_taken 0 ps ++ p))
    where
      with : State → Updated
      with st = record { verdict = Accepted; state = st }

  -- past it, it is refused, and the state is as it was
  pub next_refused : total_limit < length (bytes_taken 0 ps) + length p
      → updated (after_all initial_state ps) p ≡ record { verdict = refuse message_too_long 0; state = after_all initial_state ps }
  next_refused h = let t = total_after ps in past_limit (after_all initial_state ps) p (omega arith)

-- a piece of no bytes is never refused, and changes nothing
pub empty_taken : (ps : List (List ℕ)) → updated (after_all initial_state ps) [] ≡ record { verdict = Accepted; state = after_all initial_state ps }
empty_taken ps =
    let t = total_after ps in
    let h = taken_short 0 ps (omega arith) in
    within_limit (after_all initial_state ps) [] (omega arith) ∙ ap (λ (st : State). with st) (fed_nothing (after_all initial_state ps))
  where
    with : State → Updated
    with st = record { verdict = Accepted; state = st }
