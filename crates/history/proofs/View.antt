-- How the lent tables and records show the machine: version numbers as they are, nodes by their numbers, phases without
-- what is only remembered. Assumes nothing.
use Rattle.std.specs.Prelude.{◌≡◌, List, ℕ, ◌≤◌, length, get_or}
use Rattle.trie.specs.declared.Climb.{Climb}
use Rattle.trie.specs.declared.Held.{Held}
use Rattle.trie.specs.declared.Phase.{Phase}
use Rattle.trie.specs.Tables.{used_of, version_at}
use Rattle.history.proofs.Nodes.{Node}
use Rattle.history.proofs.Numbers.{number}
use Rattle.history.proofs.Machine.{Shared, Stage, nothing, at_node, at_left, at_both, Worker, idle, reading, swapping, climbing, answered, at}

pub record View (h : ℕ) (G : Shared) (nodes versions : List ℕ) : Type 0 where
  pub used : used_of nodes ≡ G.used
  pub ver : (v : ℕ) → version_at versions (record { 0 = v }) ≡ G.ver v
  pub current : (x : Node) → length x ≤ h → get_or nodes (number x) 0 ≡ (at G x).current

abbrev pub held_of : Stage → Held
held_of nothing = Held.Nothing
held_of (at_node v) = Held.Node (record { 0 = v })
held_of (at_left v l s) = Held.Left (record { 0 = v }) (record { 0 = l })
held_of (at_both v l s r t) = Held.Both (record { 0 = v }) (record { 0 = l }) (record { 0 = r })

abbrev pub climb_of : Rattle.history.proofs.Machine.Climb → Climb
climb_of c = record { update = c.op.update; yes = c.res; node = record { 0 = number c.node }; second = c.again; made = c.made }

-- no update under way: idle, or a query
pub data Resting : Phase → Type 0 where
  rests : Resting Phase.Idle
  asks : {q : _} → Resting (Phase.Ask q)
  finds : {k : ℕ} {s : _} → Resting (Phase.Find k s)
  ranks : {k : ℕ} {s : _} {c : ℕ} {e : _} → Resting (Phase.Rank k s c e)
  selects : {j : ℕ} {s : _} {x : _} {c : ℕ} → Resting (Phase.Select j s x c)

abbrev pub Shown : Worker → Phase → Type 0
Shown idle p = Resting p
Shown (reading o) p = p ≡ Phase.Read o.update
Shown (swapping o v) p = p ≡ Phase.Swap o.update (record { 0 = v })
Shown (climbing c st) p = p ≡ Phase.Refresh (climb_of c) (held_of st)
Shown (answered o r) p = p ≡ Phase.Idle
