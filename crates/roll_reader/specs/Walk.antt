-- The rules on one record together, and what the walk over a roll's records hands to the rules on the whole roll: the walk and these rules
-- are functions of their own, where `Roll.read_rest` is one definition. The laws `read_` of proofs/Ending.antt join the two.
-- Assumes nothing.
use Rattle.std.specs.Prelude.{ℕ, suc, List, eqb, replicate}
use Rattle.eif.specs.Numbers.{place_count}
use Rattle.octets.specs.Logic.{choose}
use Rattle.eif.specs.Table.{filled}
use Rattle.eif.specs.Roll.{Ending, stopped, ended, record_at, record_kind, listed_at, blank_record, is_end, head_fault, body_fault, end_from, stop_at}
use Rattle.eif.specs.declared.Verdict.TheVariants.{Accepted}
use Rattle.roll_reader.specs.declared.Walked.{Walked}
use Rattle.eif.specs.declared.Verdict.{Verdict}

-- all rules on record i; 0: none applies, or it is the end record
unfoldable pub record_fault : List ℕ → ℕ → ℕ
record_fault s i =
    choose (eqb (head_fault s i) 0) (choose (is_end s i) 0 (body_fault s i)) (head_fault s i)

-- a refusal, beside which all is zero
unfoldable pub stopped_with : Verdict → Walked
stopped_with verdict =
    record {
      verdict = verdict;
      count = 0;
      end = 0;
      kinds = replicate place_count 0;
      records = replicate place_count blank_record;
    }

-- the same at record i of the rest
abbrev pub stopped_at : ℕ → ℕ → ℕ → Walked
stopped_at number i at = stopped_with (stop_at number i at)

-- record n is the end record
unfoldable pub ended_at : List ℕ → ℕ → Walked
ended_at s n =
    record {
      verdict = Accepted;
      count = n;
      end = record_at s n;
      kinds = filled (record_kind s) 0 place_count n;
      records = filled (listed_at s) blank_record place_count n;
    }

-- what the walk hands on, by where it ends
abbrev pub walk_for : List ℕ → Ending → Walked
walk_for s (stopped number i) = stopped_at number i (record_at s i)
walk_for s (ended n) = ended_at s n

unfoldable pub walk_of : List ℕ → Walked
walk_of s = walk_for s (end_from s (suc place_count) 0)
