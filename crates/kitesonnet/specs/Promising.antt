-- What is promised, summed from the board's words, and the bound under which it is summed.
-- Assumes nothing.
use Rattle.std.specs.Prelude.{List, ℕ, zero, suc, take, drop, Option, None, Some, Result}
use Rattle.trie.specs.declared.Damage.{Damage}
use Rattle.trie.specs.declared.Worker.{Worker}
use Rattle.trie.specs.Refusing.{damaged}
use Rattle.trie.specs.Record.{owed_phase, together}
use Rattle.kitesonnet.specs.Reading.{record_of}
use Rattle.kitesonnet.specs.Seats.{record_words}

-- what one worker's update may still make
abbrev pub owed_in : ℕ → Option Worker → Result ℕ Damage
owed_in share None = damaged
owed_in share (Some r) = owed_phase share r.phase

unfoldable pub promised_in : ℕ → ℕ → List ℕ → Result ℕ Damage
promised_in share zero words = Result.Ok 0
promised_in share (suc w) words = together (owed_in share (record_of (take record_words words))) (promised_in share w (drop record_words words))

-- the versions of one update, for any number whatever that is taken for N
abbrev pub most_share : ℕ
most_share = 65
