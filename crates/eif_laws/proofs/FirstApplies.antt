-- Demand 1 (PROMISES.md): a refusal carries the number, the index and the position of the first rule that applies, in the order
-- that FORMAT.md gives for the call.
-- Assumes nothing.
use Prim.Native.Nat.{ℕ, zero, suc, ◌+◌}
use mathlib.Core.Path.{◌≡◌, refl, sym, ap, ap₂, ◌∙◌}
use mathlib.Core.Bool.{Bool, true, false, not}
use mathlib.Core.List.{List, [], ◌∷◌, ◌++◌}
use borrow.Author.Tests.{eq-eqb}
use lib.Dec.{ltb, leb, eqb}
use lib.ListN.{length}
use Rattle.eif.specs.Table.{join_from}
use Rattle.eif.specs.Numbers.{size_limit, place_count, kernel, ramdisk, section_missing, checksum_differs, not_packed, output_too_short, past_stream_end, image_too_long, image_too_short, wrong_magic, wrong_version, wrong_count, starts_early, ends_late, sizes_differ, type_not_allowed, ramdisk_before_kernel, type_repeated, data_length_differs, record_cut, record_type_wrong, bytes_after_end}
use Rattle.octets.specs.Logic.{both, either, choose}
use Rattle.eif.specs.Answers.{refuse, refuse_at, verdict_at, and_then, whole_at, whole_verdict}
use Rattle.eif.specs.Rules.{version_known, count_known, allowed_in, seen, order_fault, type_fault, boot_missing, missing, first_fault, first_refusal, field_fault, missing_fault, types_verdict, order_of}
use Rattle.eif.specs.Layout.{magic_number, header_size, offsets_at, version_at, count_at, checksum_at, View, view_of, magic, version, count, offset_entry, entry_at, offset, table_size, checksum, end, start}
use Rattle.eif.specs.Reading.{header_fault, entry_fault, section_fault, has_tail, tail_fault, checksum_fault, position_in, located, judged, early, verdict_in, checksum_of, verdict_of}
use Rattle.eif.specs.Plan.{planned_kind, plain_size, data_before, size_fault, plan_verdict, write_verdict, plan_length}
use Rattle.eif.specs.Stream.{stream_of, copy_verdict, copy_listed_answer, length_answer}
use Rattle.eif.specs.Roll.{record_head_size, flags_record_size, flags_fault, roll_flags, rest_of, record_at, record_start, record_size, record_kind, is_end, size_as_image, roll_bytes, roll_verdict, roll_length, Ending, ended, stopped, stop_verdict, end_verdict, head_fault, body_fault, roll_fault, end_from, refused_roll, roll_answer_for, read_rest, read_roll, flags_head_wrong}
use Rattle.eif.specs.Order.{Rule, rule, first_that_applies, order_rules, type_rules, header_rules, section_rules, view_rules, image_rules, plan_rules, write_rules, copy_rules, copy_listed_rules, roll_write_rules, flags_rules, head_rules, body_rules, end_rules, roll_rules_from, roll_rules}
use Rattle.eif.specs.declared.Plan.{Plan}
use Rattle.eif.specs.declared.RollReading.{RollReading}
use Rattle.eif.specs.declared.Stream.{Stream}
use Rattle.eif.specs.declared.StreamSections.{StreamSections}
use Rattle.eif.specs.declared.Verdict.{Verdict}
use Rattle.eif.specs.declared.Verdict.TheVariants.{Accepted, Refused}
use Rattle.eif_lemmas.proofs.Verdicts.{then_assoc, then_choose, at_choose, then_none}
use Rattle.octets.proofs.Logic.{choose_ap}

-- ---- lists of rules, one after the other

pub first_append : (a b : List Rule) → first_that_applies (a ++ b) ≡ and_then (first_that_applies a) (first_that_applies b)
unfolding first_that_applies
first_append [] b = refl
first_append (r ∷ rs) b =
    ap (choose r.applies (refuse_at r.number r.index r.position)) (first_append rs b)
    ∙ sym (then_choose r.applies _ (first_that_applies rs) (first_that_applies b))

-- one verdict after another, each by its own list
pub then_first : {v w : Verdict} (a b : List Rule) → v ≡ first_that_applies a → w ≡ first_that_applies b → and_then v w ≡ first_that_applies (a ++ b)
then_first a b e f = ap₂ and_then e f ∙ sym (first_append a b)

-- rules at each place answer as the walk over the places does, as it is or with the positions
pub walk_first : (f : Verdict → Verdict) → f Accepted ≡ Accepted → ((v w : Verdict) → f (and_then v w) ≡ and_then (f v) (f w))
    → (rules : ℕ → List Rule) (verdict : ℕ → Verdict) → ((i : ℕ) → first_that_applies (rules i) ≡ f (verdict i))
    → (n i : ℕ) → first_that_applies (join_from rules n i) ≡ f (first_refusal verdict n i)
unfolding join_from first_refusal first_that_applies
walk_first f none split rules verdict h zero i = sym none
walk_first f none split rules verdict h (suc n) i =
    first_append (rules i) (join_from rules n (suc i))
    ∙ ap₂ and_then (h i) (walk_first f none split rules verdict h n (suc i))
    ∙ sym (split (verdict i) (first_refusal verdict n (suc i)))

-- ---- the rules on types

order_by : (r k t : Bool) (i p : ℕ)
    → choose (both r (not k)) (refuse_at ramdisk_before_kernel i p) (choose (both (not r) t) (refuse_at type_repeated i p) Accepted) ≡ verdict_at (order_of r k t) i p
order_by true true t i p = refl
order_by true false t i p = refl
order_by false k true i p = refl
order_by false k false i p = refl

order_first : (kinds : ℕ → ℕ) (i index p : ℕ) → first_that_applies (order_rules kinds i index p) ≡ verdict_at (order_fault kinds (kinds i) i) index p
unfolding first_that_applies order_rules order_fault
order_first kinds i index p = order_by (eqb (kinds i) ramdisk) (seen kinds kernel i) (seen kinds (kinds i) i) index p

type_first : (version : ℕ) (kinds : ℕ → ℕ) (i p : ℕ) → first_that_applies (type_rules version kinds i p) ≡ verdict_at (type_fault version kinds i) i p
unfolding first_that_applies type_rules type_fault
type_first version kinds i p =
    ap (choose (not (allowed_in version (kinds i))) (refuse_at type_not_allowed i p)) (order_first kinds i i p)
    ∙ at_choose (not (allowed_in version (kinds i))) type_not_allowed (order_fault kinds (kinds i) i) i p refl

-- ---- reading an image

module _ (h : ℕ → ℕ → ℕ) where
  located_then : (v w : Verdict) → located h (and_then v w) ≡ and_then (located h v) (located h w)
  located_then Accepted w = refl
  located_then (Refused r) w = refl

  five : (a b c d e : Bool)
      → choose a (refuse_at image_too_long 0 0) (choose b (refuse_at image_too_short 0 0) (choose c (refuse_at wrong_magic 0 0) (choose d (refuse_at wrong_version 0 version_at) (choose e (refuse_at wrong_count 0 count_at) Accepted))))
      ≡ located h (whole_verdict (choose a image_too_long (choose b image_too_short (choose c wrong_magic (choose d wrong_version (choose e wrong_count 0))))))
  unfolding position_in
  five true b c d e = refl
  five false true c d e = refl
  five false false true d e = refl
  five false false false true e = refl
  five false false false false true = refl
  five false false false false false = refl

  -- the rules 10 and 11 give the section's own header
  order_own : (r k t : Bool) (i : ℕ) → verdict_at (order_of r k t) i (offset_entry h i) ≡ located h (verdict_at (order_of r k t) i 0)
  unfolding position_in
  order_own true true t i = refl
  order_own true false t i = refl
  order_own false k true i = refl
  order_own false k false i = refl

  -- 6, 20, 7, 8 and 9
  abbrev entry : Bool → Bool → Bool → Bool → Bool → ℕ
  entry a p b c d = choose a starts_early (choose p not_packed (choose b ends_late (choose c sizes_differ (choose d type_not_allowed 0))))

  entry_by : (a p b c d : Bool) (fault i : ℕ) → verdict_at fault i (offset_entry h i) ≡ located h (verdict_at fault i 0)
      → choose a (refuse_at starts_early i (entry_at offsets_at i)) (choose p (refuse_at not_packed i (entry_at offsets_at i)) (choose b (refuse_at ends_late i (entry_at offsets_at i)) (choose c (refuse_at sizes_differ i (offset_entry h i)) (verdict_at (choose d type_not_allowed fault) i (offset_entry h i)))))
      ≡ located h (verdict_at (choose (eqb (entry a p b c d) 0) fault (entry a p b c d)) i 0)
  unfolding position_in
  entry_by true p b c d fault i e = refl
  entry_by false true b c d fault i e = refl
  entry_by false false true c d fault i e = refl
  entry_by false false false true d fault i e = refl
  entry_by false false false false true fault i e = refl
  entry_by false false false false false fault i e = e

  last_by : (a t b : Bool) (past : ℕ)
      → choose a (refuse_at section_missing 0 count_at) (choose t (refuse_at not_packed 0 past) (choose b (refuse_at checksum_differs 0 checksum_at) Accepted))
      ≡ and_then (located h (whole_verdict (choose a section_missing 0))) (and_then (whole_at (choose t not_packed 0) past) (whole_at (choose b checksum_differs 0) checksum_at))
  unfolding position_in
  last_by true t b past = refl
  last_by false true b past = refl
  last_by false false true past = refl
  last_by false false false past = refl

header_first : (v : View) → first_that_applies (header_rules v) ≡ located v.header (whole_verdict (header_fault v))
unfolding first_that_applies header_rules header_fault field_fault
header_first v =
    five v.header (ltb size_limit v.size) (ltb v.size header_size) (not (eqb (magic v) magic_number)) (not (version_known (version v))) (not (count_known (count v)))

section_first : (v : View) (i : ℕ) → first_that_applies (section_rules v i) ≡ located v.header (verdict_at (section_fault v i) i 0)
unfolding first_that_applies section_rules section_fault entry_fault type_fault order_fault
section_first v i =
    let a : Bool = ltb (offset v i) (start v i) in
    let p : Bool = not (eqb (offset v i) (start v i)) in
    let b : Bool = ltb v.size (end v i) in
    let c : Bool = not (eqb (v.own_size i) (table_size v i)) in
    let d : Bool = not (allowed_in (version v) (v.kind i)) in
    let own = order_own v.header (eqb (v.kind i) ramdisk) (seen v.kind kernel i) (seen v.kind (v.kind i) i) i in
    let entry : ℕ = entry_at offsets_at i in
    ap (λ (x : Verdict). choose a (refuse_at starts_early i entry) (choose p (refuse_at not_packed i entry) (choose b (refuse_at ends_late i entry) (choose c (refuse_at sizes_differ i (offset v i)) x)))) (type_first (version v) v.kind i (offset v i))
    ∙ entry_by v.header a p b c d (order_fault v.kind (v.kind i) i) i own

then_then : (a b c d : Verdict) → and_then a (and_then b (and_then c d)) ≡ and_then (and_then a (and_then b c)) d
then_then a b c d = ap (and_then a) (then_assoc b c d) ∙ then_assoc a (and_then b c) d

-- the verdict on a view, and so on an image, is that of the first rule that applies
pub view_first : (v : View) (computed : ℕ) → verdict_in v computed ≡ first_that_applies (view_rules v computed)
unfolding view_rules verdict_in early judged missing_fault tail_fault checksum_fault first_that_applies
view_first v computed =
    let m : Bool = missing v.kind (version v) (count v) in
    let c : Bool = not (eqb (checksum v) computed) in
    let t : Bool = has_tail v in
    let past : ℕ = start v (count v) in
    let last : List Rule = rule m section_missing 0 count_at ∷ rule t not_packed 0 past ∷ rule c checksum_differs 0 checksum_at ∷ [] in
    let sections : List Rule = join_from (section_rules v) (count v) 0 in
    let head : Verdict = whole_verdict (header_fault v) in
    let walk : Verdict = first_fault (section_fault v) (count v) 0 in
    let lack : Verdict = whole_verdict (choose m section_missing 0) in
    let tail : Verdict = whole_at (choose t not_packed 0) past in
    let sum : Verdict = whole_at (choose c checksum_differs 0) checksum_at in
    let f : Verdict → Verdict = located v.header in
    let split = located_then v.header in
    sym
    (first_append (header_rules v) (sections ++ last)
    ∙ ap₂ and_then (header_first v)
    (first_append sections last
    ∙ ap₂ and_then (walk_first f refl split (section_rules v) (λ j. verdict_at (section_fault v j) j 0) (section_first v) (count v) 0) (last_by v.header m t c past))
    ∙ then_then (f head) (f walk) (f lack) (and_then tail sum)
    ∙ ap (λ (x : Verdict). and_then x (and_then tail sum)) (sym (split head (and_then walk lack) ∙ ap (and_then (f head)) (split walk lack)))
    ∙ then_assoc (f (and_then head (and_then walk lack))) tail sum)

pub read_first : (s : List ℕ) → verdict_of s ≡ first_that_applies (image_rules s)
read_first s = view_first (view_of s) (checksum_of s)

-- ---- copying from a stream and writing a roll

-- a last rule after the image's own
after_image : (s : List ℕ) (b : Bool) (n : ℕ)
    → and_then (verdict_of s) (choose b (refuse n 0) Accepted) ≡ first_that_applies (image_rules s ++ (rule b n 0 0 ∷ []))
unfolding first_that_applies
after_image s b n = then_first (image_rules s) (rule b n 0 0 ∷ []) (read_first s) refl

pub copy_first : (s : List ℕ) (stream : Stream) (from : ℕ) → copy_verdict s stream from ≡ first_that_applies (copy_rules s stream from)
unfolding copy_verdict copy_rules
copy_first s stream from = after_image s (ltb (length (stream_of s stream)) from) past_stream_end

pub roll_write_first : (s : List ℕ) (room : ℕ) → roll_verdict s room ≡ first_that_applies (roll_write_rules s room)
unfolding roll_verdict roll_write_rules
roll_write_first s room = after_image s (ltb room (length (roll_bytes s))) output_too_short

pub copy_listed_first : (s : List ℕ) (list : StreamSections) (from room : ℕ) → (copy_listed_answer s list from room).verdict ≡ first_that_applies (copy_listed_rules s list from)
unfolding copy_listed_answer copy_listed_rules first_that_applies
copy_listed_first s list from room = refl

-- the length of a stream, and of a roll: the image's own rules
pub length_first : (s : List ℕ) (stream : Stream) → (length_answer s stream).verdict ≡ first_that_applies (image_rules s)
unfolding length_answer
length_first s stream = read_first s

pub roll_length_first : (s : List ℕ) → (roll_length s).verdict ≡ first_that_applies (image_rules s)
unfolding roll_length
roll_length_first s = read_first s

-- ---- writing an image

fields_by : (a b : Bool) (w : Verdict) → choose a (refuse wrong_version 0) (choose b (refuse wrong_count 0) w) ≡ and_then (whole_verdict (choose a wrong_version (choose b wrong_count 0))) w
fields_by true b w = refl
fields_by false true w = refl
fields_by false false w = refl

-- 12, then 1 and 15, or 12 and 1 and then 15
plan_by : (a b c : Bool) → and_then (whole_verdict (choose a section_missing 0)) (whole_verdict (choose b image_too_long (choose c data_length_differs 0))) ≡ and_then (choose a (refuse section_missing 0) (choose b (refuse image_too_long 0) Accepted)) (choose c (refuse data_length_differs 0) Accepted)
plan_by true b c = refl
plan_by false true c = refl
plan_by false false true = refl
plan_by false false false = refl

then_room : (a : Verdict) (c : Bool) (w : Verdict) → and_then (and_then a (choose c (refuse data_length_differs 0) Accepted)) w ≡ and_then a (choose c (refuse data_length_differs 0) w)
then_room a c w = sym (then_assoc a (choose c (refuse data_length_differs 0) Accepted) w) ∙ ap (and_then a) (then_choose c _ Accepted w)

module _ (p : Plan) where
  -- the data has another length than the plan says
  abbrev data_differs : ℕ → Bool
  data_differs given = not (eqb given (data_before p.places p.count))

  plan_then : (given : ℕ) → plan_verdict p given ≡ and_then (first_that_applies (plan_rules p)) (choose (data_differs given) (refuse data_length_differs 0) Accepted)
  unfolding plan_verdict types_verdict missing_fault field_fault size_fault plan_rules first_that_applies
  plan_then given =
      let kinds : ℕ → ℕ = planned_kind p.places in
      let m : Bool = missing kinds p.version p.count in
      let l : Bool = ltb size_limit (plain_size p) in
      let last : List Rule = rule m section_missing 0 0 ∷ rule l image_too_long 0 0 ∷ [] in
      let types : ℕ → List Rule = λ i. type_rules p.version kinds i 0 in
      let sections : List Rule = join_from types p.count 0 in
      let walk : Verdict = first_fault (type_fault p.version kinds) p.count 0 in
      let v : Bool = not (version_known p.version) in
      let n : Bool = not (count_known p.count) in
      let fields : Verdict = whole_verdict (choose v wrong_version (choose n wrong_count 0)) in
      ap (and_then fields) (sym (then_assoc walk _ _) ∙ ap (and_then walk) (plan_by m l (data_differs given)))
      ∙ then_then fields walk (first_that_applies last) (choose (data_differs given) (refuse data_length_differs 0) Accepted)
      ∙ ap (λ (x : Verdict). and_then x (choose (data_differs given) (refuse data_length_differs 0) Accepted))
      (sym
      (ap (λ (x : Verdict). choose v (refuse wrong_version 0) (choose n (refuse wrong_count 0) x))
      (first_append sections last ∙ ap (λ (x : Verdict). and_then x (first_that_applies last)) (walk_first (λ v. v) refl (λ v w. refl) types (λ j. verdict_at (type_fault p.version kinds j) j 0) (λ i. type_first p.version kinds i 0) p.count 0))
      ∙ fields_by v n (and_then walk (first_that_applies last))))

  pub write_first : (given room : ℕ) → write_verdict p given room ≡ first_that_applies (write_rules p given room)
  unfolding write_verdict write_rules first_that_applies
  write_first given room =
      let o : Bool = ltb room (plain_size p) in
      ap (λ (x : Verdict). and_then x (choose o (refuse output_too_short 0) Accepted)) (plan_then given)
      ∙ then_room (first_that_applies (plan_rules p)) (data_differs given) (choose o (refuse output_too_short 0) Accepted)
      ∙ sym (first_append (plan_rules p) (rule (data_differs given) data_length_differs 0 0 ∷ rule o output_too_short 0 0 ∷ []))

  -- the length of a plan's image
  pub plan_length_first : (plan_length p).verdict ≡ first_that_applies (plan_rules p)
  unfolding plan_length
  plan_length_first =
      plan_then (data_before p.places p.count)
      ∙ ap (λ (b : Bool). and_then (first_that_applies (plan_rules p)) (choose (not b) (refuse data_length_differs 0) Accepted)) (eq-eqb (data_before p.places p.count) _ refl)
      ∙ then_none (first_that_applies (plan_rules p))

-- ---- reading a roll

module _ (s : List ℕ) where
  -- what the records' ending says of the roll
  abbrev ending_verdict : Ending → Verdict
  ending_verdict (stopped number i) = stop_verdict s number i
  ending_verdict (ended n) = choose (eqb (roll_fault s n) 0) Accepted (end_verdict s (roll_fault s n) n)

  -- the rules on a head, and what follows it
  head_by : (a b c : Bool) (i : ℕ) (x : Ending) (w : Verdict) → w ≡ ending_verdict x
      → and_then (choose a (refuse_at record_cut (suc i) (record_start s i)) (choose (either b c) (refuse_at record_type_wrong (suc i) (record_start s i)) Accepted)) w
      ≡ ending_verdict (choose (eqb (choose a record_cut (choose b record_type_wrong (choose c record_type_wrong 0))) 0) x (stopped (choose a record_cut (choose b record_type_wrong (choose c record_type_wrong 0))) i))
  head_by true b c i x w e = refl
  head_by false true c i x w e = refl
  head_by false false true i x w e = refl
  head_by false false false i x w e = e

  -- the rules on the rest of a record, and what follows it
  body_by : (a b r k t : Bool) (i : ℕ) (x : Ending) (w : Verdict) → w ≡ ending_verdict x
      → and_then (choose a (refuse_at wrong_count 0 (record_start s i)) (choose b (refuse_at record_cut (suc i) (record_start s i)) (verdict_at (order_of r k t) (suc i) (record_start s i)))) w
      ≡ ending_verdict (choose (eqb (choose a wrong_count (choose b record_cut (order_of r k t))) 0) x (stopped (choose a wrong_count (choose b record_cut (order_of r k t))) i))
  body_by true b r k t i x w e = refl
  body_by false true r k t i x w e = refl
  body_by false false true true t i x w e = e
  body_by false false true false t i x w e = refl
  body_by false false false k true i x w e = refl
  body_by false false false k false i x w e = e

  end_by : (n : ℕ) (a b c : Bool)
      → choose a (refuse_at bytes_after_end 0 (record_start s n + record_head_size)) (choose b (refuse section_missing 0) (choose c (refuse image_too_long 0) Accepted))
      ≡ choose (eqb (choose a bytes_after_end (choose b section_missing (choose c image_too_long 0))) 0) Accepted (end_verdict s (choose a bytes_after_end (choose b section_missing (choose c image_too_long 0))) n)
  end_by n true b c = refl
  end_by n false true c = refl
  end_by n false false true = refl
  end_by n false false false = refl

  end_first : (n : ℕ) → first_that_applies (end_rules s n) ≡ ending_verdict (ended n)
  unfolding first_that_applies end_rules roll_fault
  end_first n = end_by n (ltb (record_at s n + record_head_size) (length s)) (boot_missing (record_kind s) n) (ltb size_limit (size_as_image s n))

  either_way : (e : Bool) (x y : List Rule) (p q : Ending) → first_that_applies x ≡ ending_verdict p → first_that_applies y ≡ ending_verdict q
      → first_that_applies (choose e x y) ≡ ending_verdict (choose e p q)
  either_way true x y p q f g = f
  either_way false x y p q f g = g

  body_first : (i : ℕ) (rest : List Rule) (x : Ending) → first_that_applies rest ≡ ending_verdict x
      → first_that_applies (body_rules s i ++ rest) ≡ ending_verdict (choose (eqb (body_fault s i) 0) x (stopped (body_fault s i) i))
  unfolding first_that_applies body_rules body_fault order_fault
  body_first i rest x e =
      let a : Bool = leb place_count i in
      let b : Bool = ltb (length s) (record_at s (suc i)) in
      let r : Bool = eqb (record_kind s i) ramdisk in
      let k : Bool = seen (record_kind s) kernel i in
      let t : Bool = seen (record_kind s) (record_kind s i) i in
      first_append (body_rules s i) rest
      ∙ ap (λ (o : Verdict). and_then (choose a (refuse_at wrong_count 0 (record_start s i)) (choose b (refuse_at record_cut (suc i) (record_start s i)) o)) (first_that_applies rest)) (order_first (record_kind s) i (suc i) (record_start s i))
      ∙ body_by a b r k t i x (first_that_applies rest) e

  records_first : (n i : ℕ) → first_that_applies (roll_rules_from s n i) ≡ ending_verdict (end_from s n i)
  unfolding roll_rules_from end_from first_that_applies head_rules head_fault
  records_first zero i = refl
  records_first (suc n) i =
      let rest : List Rule = body_rules s i ++ roll_rules_from s n (suc i) in
      let next : List Rule = choose (is_end s i) (end_rules s i) rest in
      let judged : Ending = choose (eqb (body_fault s i) 0) (end_from s n (suc i)) (stopped (body_fault s i) i) in
      let after : first_that_applies next ≡ ending_verdict (choose (is_end s i) (ended i) judged) =
      either_way (is_end s i) (end_rules s i) rest (ended i) judged (end_first i) (body_first i (roll_rules_from s n (suc i)) (end_from s n (suc i)) (records_first n (suc i))) in
      first_append (head_rules s i) next
      ∙ head_by (ltb (length s) (record_at s i + record_head_size)) (ltb ramdisk (record_kind s i)) (both (is_end s i) (not (eqb (record_size s i) 0))) i
      (choose (is_end s i) (ended i) judged) (first_that_applies next) after

  answer_verdict : (flags : ℕ) (e : Ending) → (roll_answer_for flags s e).verdict ≡ ending_verdict e
  answer_verdict flags (stopped number i) = refl
  answer_verdict flags (ended n) = choose_ap (λ (r : RollReading). r.verdict) (eqb (roll_fault s n) 0) _ _

  rest_first : (flags : ℕ) → (read_rest flags s).verdict ≡ first_that_applies (roll_rules_from s (suc place_count) 0)
  unfolding read_rest
  rest_first flags = answer_verdict flags (end_from s (suc place_count) 0) ∙ sym (records_first (suc place_count) 0)

-- the rules on the flags record, and what follows it
flags_by : (a b c : Bool) (x : RollReading) (w : Verdict) → x.verdict ≡ w
    → (choose (eqb (choose a record_cut (choose b record_type_wrong (choose c record_cut 0))) 0) x (refused_roll (refuse (choose a record_cut (choose b record_type_wrong (choose c record_cut 0))) 0))).verdict
    ≡ and_then (choose a (refuse record_cut 0) (choose b (refuse record_type_wrong 0) (choose c (refuse record_cut 0) Accepted))) w
flags_by true b c x w e = refl
flags_by false true c x w e = refl
flags_by false false true x w e = refl
flags_by false false false x w e = e

pub roll_read_first : (s : List ℕ) → (read_roll s).verdict ≡ first_that_applies (roll_rules s)
unfolding read_roll flags_fault flags_rules first_that_applies
roll_read_first s =
    let rest : List Rule = roll_rules_from (rest_of s) (suc place_count) 0 in
    flags_by (ltb (length s) record_head_size) (flags_head_wrong s) (ltb (length s) flags_record_size)
    (read_rest (roll_flags s) (rest_of s)) (first_that_applies rest) (rest_first (rest_of s) (roll_flags s))
    ∙ sym (first_append (flags_rules s) rest)
