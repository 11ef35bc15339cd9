-- What a record is at: an update, or not.
-- Assumes nothing.
use Rattle.std.specs.Prelude.{Bool, true, false}
use Rattle.trie.specs.declared.Phase.{Phase}

-- an update is under way
abbrev pub updating : Phase → Bool
updating Phase.Idle = false
updating (Phase.Read u) = true
updating (Phase.Swap u v) = true
updating (Phase.Refresh c held) = true
updating (Phase.Ask q) = false
updating (Phase.Find k s) = false
updating (Phase.Rank k s count energy) = false
updating (Phase.Select j s x passed) = false
