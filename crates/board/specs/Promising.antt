-- What is promised, reckoned from a count of the updates, and the bound under which it is reckoned.
-- Assumes nothing.
use Rattle.std.specs.Prelude.{true, ◌&&◌, List, ℕ, zero, suc, ◌+◌, ◌*◌, ◌-◌, ◌%◌, leb, get_or, Result}
use Rattle.trie.specs.declared.Phase.{Phase}
use Rattle.trie.specs.declared.Damage.{Damage}
use Rattle.trie.specs.declared.Worker.{Worker}
use Rattle.trie.specs.Choice.{pick}
use Rattle.trie.specs.Refusing.{damaged}
use Rattle.trie.specs.Record.{idle}
use Rattle.records.specs.Phases.{updating}
use Rattle.board.specs.declared.promising.Tally.{Tally}

-- no word has more zero bits than it has bits
abbrev pub most_share : ℕ
most_share = 65

-- the versions that the update has made; one before its climb has made none
abbrev pub made_of : Phase → ℕ
made_of Phase.Idle = 0
made_of (Phase.Read u) = 0
made_of (Phase.Swap u v) = 0
made_of (Phase.Refresh c held) = c.made
made_of (Phase.Ask q) = 0
made_of (Phase.Find k s) = 0
made_of (Phase.Rank k s count energy) = 0
made_of (Phase.Select j s x passed) = 0

-- no worker counted
abbrev pub none : Tally
none = record { updates = 0; made = 0; within = true }

-- one worker more
abbrev pub counted : ℕ → Tally → Phase → Tally
counted share t p = record { updates = t.updates + pick (updating p) 1 0; made = t.made + made_of p % 128; within = t.within && leb (made_of p) share }

-- the first i workers of the board
abbrev pub tally_of : ℕ → ℕ → List Worker → Tally
tally_of share zero board = none
tally_of share (suc i) board = counted share (tally_of share i board) (get_or board i idle).phase

-- what the updates counted may still make
abbrev pub still_due : ℕ → Tally → Result ℕ Damage
still_due share t = pick t.within (Result.Ok (t.updates * share - t.made)) damaged
