-- Records that are longer than any piece, whole by their own length.
-- Assumes nothing.
use Rattle.std.specs.Prelude.{ℕ, ◌+◌, ◌-◌, ◌<◌, ◌≡◌, not, List, eqb, length}
use Rattle.eif.specs.Numbers.{piece_record_wrong, piece_out_of_turn}
use Rattle.octets.specs.Logic.{both, choose}
use Rattle.eif.specs.Roll.{record_head_size}
use Rattle.assembler.specs.Records.{data_at, piece_size, piece_kind, size_in}
use Rattle.assembler.specs.Rules.{is_opened}
use Rattle.assembler.specs.declared.State.{State}

pub record LongRecord (r : List ℕ) : Type 0 where
  pub longer : data_at + piece_size < length r
  pub whole : size_in r ≡ length r - record_head_size

-- what is answered depends on the kind and the turn alone
abbrev pub long_fault : State → ℕ → ℕ
long_fault st kind = choose (both (eqb kind piece_kind) (not (is_opened st))) piece_out_of_turn piece_record_wrong
