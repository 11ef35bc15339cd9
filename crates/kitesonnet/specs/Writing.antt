-- The twelve words of a record, phase by phase: the table of docs/WORDS.md. Each word that has no meaning is 0.
-- Assumes nothing.
use Rattle.std.specs.Prelude.{Bool, true, false, List, [], ◌∷◌, ℕ}
use Rattle.trie.specs.declared.Update.{Update}
use Rattle.trie.specs.declared.Query.{Query}
use Rattle.trie.specs.declared.Held.{Held}
use Rattle.trie.specs.declared.Climb.{Climb}
use Rattle.trie.specs.declared.Standing.{Standing}
use Rattle.trie.specs.declared.Phase.{Phase}
use Rattle.trie.specs.declared.Worker.{Worker}
use Rattle.trie.specs.Record.{cell_of, loudness_of}
use Rattle.kitesonnet.specs.Operations.{insert_kind, delete_kind, find_kind, select_kind, rank_kind, total_kind}

-- 1 for yes, 0 for no
abbrev pub bit_of : Bool → ℕ
bit_of true = 1
bit_of false = 0

-- ---- an operation: its kind, and its numbers

abbrev pub kind_of : Update → ℕ
kind_of (Update.Insert k l) = insert_kind
kind_of (Update.Delete k) = delete_kind

abbrev pub asked_of : Query → ℕ
asked_of (Query.Find k) = find_kind
asked_of (Query.Select j) = select_kind
asked_of (Query.Rank k) = rank_kind
asked_of Query.Total = total_kind

abbrev pub number_of : Query → ℕ
number_of (Query.Find k) = k
number_of (Query.Select j) = j
number_of (Query.Rank k) = k
number_of Query.Total = 0

-- ---- what a refresh has read: how many versions, and which

abbrev pub read_of : Held → ℕ
read_of Held.Nothing = 0
read_of (Held.Node v) = 1
read_of (Held.Left v l) = 2
read_of (Held.Both v l r) = 3

abbrev pub node_read_of : Held → ℕ
node_read_of Held.Nothing = 0
node_read_of (Held.Node v) = v.0
node_read_of (Held.Left v l) = v.0
node_read_of (Held.Both v l r) = v.0

abbrev pub left_read_of : Held → ℕ
left_read_of Held.Nothing = 0
left_read_of (Held.Node v) = 0
left_read_of (Held.Left v l) = l.0
left_read_of (Held.Both v l r) = l.0

abbrev pub right_read_of : Held → ℕ
right_read_of Held.Nothing = 0
right_read_of (Held.Node v) = 0
right_read_of (Held.Left v l) = 0
right_read_of (Held.Both v l r) = r.0

-- ---- a record

-- the phases of a worker, the first word of its record
abbrev pub idle_phase : ℕ
idle_phase = 0

abbrev pub read_phase : ℕ
read_phase = 1

abbrev pub swap_phase : ℕ
swap_phase = 2

abbrev pub climb_phase : ℕ
climb_phase = 3

abbrev pub ask_phase : ℕ
ask_phase = 4

abbrev pub find_phase : ℕ
find_phase = 5

abbrev pub rank_phase : ℕ
rank_phase = 6

abbrev pub select_phase : ℕ
select_phase = 7

abbrev pub update_words : ℕ → Update → ℕ → List ℕ
update_words phase u version = phase ∷ kind_of u ∷ cell_of u ∷ loudness_of u ∷ version ∷ 0 ∷ 0 ∷ 0 ∷ 0 ∷ 0 ∷ 0 ∷ 0 ∷ []

abbrev pub climb_words : Climb → Held → List ℕ
climb_words c h =
    climb_phase ∷ kind_of c.update ∷ cell_of c.update ∷ loudness_of c.update ∷ bit_of c.yes ∷ c.node.0 ∷ bit_of c.second ∷ c.made ∷ read_of h ∷ node_read_of h ∷ left_read_of h ∷ right_read_of h ∷ []

abbrev pub query_words : ℕ → ℕ → Standing → ℕ → ℕ → List ℕ
query_words phase k s fourth fifth = phase ∷ k ∷ s.depth ∷ s.version.0 ∷ fourth ∷ fifth ∷ 0 ∷ 0 ∷ 0 ∷ 0 ∷ 0 ∷ 0 ∷ []

abbrev pub phase_words : Phase → List ℕ
phase_words Phase.Idle = idle_phase ∷ 0 ∷ 0 ∷ 0 ∷ 0 ∷ 0 ∷ 0 ∷ 0 ∷ 0 ∷ 0 ∷ 0 ∷ 0 ∷ []
phase_words (Phase.Read u) = update_words read_phase u 0
phase_words (Phase.Swap u v) = update_words swap_phase u v.0
phase_words (Phase.Refresh c h) = climb_words c h
phase_words (Phase.Ask q) = ask_phase ∷ asked_of q ∷ number_of q ∷ 0 ∷ 0 ∷ 0 ∷ 0 ∷ 0 ∷ 0 ∷ 0 ∷ 0 ∷ 0 ∷ []
phase_words (Phase.Find k s) = query_words find_phase k s 0 0
phase_words (Phase.Rank k s c e) = query_words rank_phase k s c e.0
phase_words (Phase.Select j s x c) = query_words select_phase j s x.0 c

unfoldable pub words_of : Worker → List ℕ
words_of w = phase_words w.phase
