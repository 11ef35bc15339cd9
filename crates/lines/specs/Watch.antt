-- What a listing keeps from line to line: N, W and V of the history under way, the tables and the board.
-- Document 01, "The listing program". Assumes nothing.
use Rattle.std.specs.Prelude.{Bool, ◌&&◌, List, ◌++◌, ℕ, ◌*◌, ◌-◌, leb, take, drop}
use Rattle.trie.specs.declared.Worker.{Worker}
use Rattle.trie.specs.Size.{allowed, most_workers}
use Rattle.trie.specs.Tables.{width}
use Rattle.trie.specs.Calls.{State, state}
use Rattle.lines.specs.declared.History.{History}
use Rattle.lines.specs.declared.Watch.{Watch}

abbrev pub watch : History → List ℕ → List ℕ → List Worker → Watch
watch h nodes versions board = record { history = h; nodes = nodes; versions = versions; board = board }

abbrev pub history : ℕ → ℕ → ℕ → History
history n w v = record { cells = n; workers = w; versions = v }

-- here N is at most 16, and V at most 1,000
abbrev pub most_cells : ℕ
most_cells = 16

abbrev pub most_versions : ℕ
most_versions = 1000

-- a history is under way: its N, W and V are such as open accepts here; before the first accepted open they are zeros
unfoldable pub opened : History → Bool
opened h =
    (allowed h.cells && leb h.cells most_cells)
    && ((leb 1 h.workers && leb h.workers most_workers) && (leb (2 * h.cells - 1) h.versions && leb h.versions most_versions))

-- what is lent to a call: of the version table exactly the words of V versions
abbrev pub lent : ℕ → Watch → State
lent v s = state s.nodes (take (width * v) s.versions) s.board

-- what was lent comes back, and the words of the version table behind it are as they were
abbrev pub returned : ℕ → State → Watch → Watch
returned v t s = watch s.history t.nodes (t.versions ++ drop (width * v) s.versions) t.board
