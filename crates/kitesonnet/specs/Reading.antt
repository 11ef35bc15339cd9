-- The record that twelve words say, or that they say none: each that has no meaning in its phase has to be 0.
-- Assumes nothing.
use Rattle.std.specs.Prelude.{Bool, ◌&&◌, List, ℕ, eqb, leb, get_or, drop, Option, None, Some, option_and_then}
use Rattle.std.specs.List.{list_all}
use Rattle.trie.specs.declared.Update.{Update}
use Rattle.trie.specs.declared.Held.{Held}
use Rattle.trie.specs.declared.Standing.{Standing}
use Rattle.trie.specs.declared.Phase.{Phase}
use Rattle.trie.specs.declared.Worker.{Worker}
use Rattle.trie.specs.declared.Query.{Query}
use Rattle.trie.specs.Choice.{pick}
use Rattle.kitesonnet.specs.Operations.{update_of, query_of}
use Rattle.kitesonnet.specs.Writing.{idle_phase, read_phase, swap_phase, climb_phase, ask_phase, find_phase, rank_phase, select_phase}

-- the second reading goes on from what the first gives, and gives nothing where that gives nothing
infixl 10 ◌>>=◌
abbrev pub ◌>>=◌ : {A B : Type 0} → Option A → (A → Option B) → Option B
o >>= f = option_and_then f o

unfoldable pub all_zero : List ℕ → Bool
all_zero words = list_all (λ (word : ℕ). eqb word 0) words

-- all words from the one at k on are 0
abbrev pub bare : List ℕ → ℕ → Bool
bare f k = all_zero (drop k f)

abbrev pub in_phase : Phase → Option Worker
in_phase p = Some (record { phase = p })

abbrev pub standing_of : ℕ → ℕ → Standing
standing_of depth version = record { depth = depth; version = record { 0 = version } }

-- those of the three versions that are not read are 0
unfoldable pub refresh_of : ℕ → ℕ → ℕ → ℕ → Option Held
refresh_of read v l r =
    pick (eqb read 3) (Some (Held.Both (record { 0 = v }) (record { 0 = l }) (record { 0 = r })))
    (pick (eqb read 2 && eqb r 0) (Some (Held.Left (record { 0 = v }) (record { 0 = l })))
    (pick (eqb read 1 && (eqb l 0 && eqb r 0)) (Some (Held.Node (record { 0 = v })))
    (pick (eqb read 0 && (eqb v 0 && (eqb l 0 && eqb r 0))) (Some Held.Nothing) None)))

-- 0 and 1 are no and yes
unfoldable pub flag_of : ℕ → Option Bool
flag_of word = pick (leb word 1) (Some (eqb word 1)) None

unfoldable pub climb_of : Update → List ℕ → Option Worker
climb_of u f = do
  result ← flag_of (get_or f 4 0)
  second ← flag_of (get_or f 6 0)
  held ← refresh_of (get_or f 8 0) (get_or f 9 0) (get_or f 10 0) (get_or f 11 0)
  in_phase (Phase.Refresh (record { update = u; yes = result; node = record { 0 = get_or f 5 0 }; second = second; made = get_or f 7 0 }) held)

unfoldable pub update_in : Update → List ℕ → Option Worker
update_in u f =
    pick (eqb (get_or f 0 0) climb_phase) (climb_of u f)
    (pick (eqb (get_or f 0 0) swap_phase && bare f 5) (in_phase (Phase.Swap u (record { 0 = get_or f 4 0 })))
    (pick (eqb (get_or f 0 0) read_phase && bare f 4) (in_phase (Phase.Read u)) None))

unfoldable pub ask_in : Query → List ℕ → Option Worker
ask_in q f = pick (bare f 3) (in_phase (Phase.Ask q)) None

unfoldable pub query_in : List ℕ → Option Worker
query_in f =
    pick (eqb (get_or f 0 0) find_phase && bare f 4) (in_phase (Phase.Find (get_or f 1 0) (standing_of (get_or f 2 0) (get_or f 3 0))))
    (pick (eqb (get_or f 0 0) rank_phase && bare f 6) (in_phase (Phase.Rank (get_or f 1 0) (standing_of (get_or f 2 0) (get_or f 3 0)) (get_or f 4 0) (record { 0 = get_or f 5 0 })))
    (pick (eqb (get_or f 0 0) select_phase && bare f 6) (in_phase (Phase.Select (get_or f 1 0) (standing_of (get_or f 2 0) (get_or f 3 0)) (record { 0 = get_or f 4 0 }) (get_or f 5 0))) None))

unfoldable pub record_of : List ℕ → Option Worker
record_of f =
    pick (eqb (get_or f 0 0) idle_phase) (pick (bare f 1) (in_phase Phase.Idle) None)
    (pick (leb (get_or f 0 0) climb_phase) (update_of (get_or f 1 0) (get_or f 2 0) (get_or f 3 0) >>= λ (u : Update). update_in u f)
    (pick (eqb (get_or f 0 0) ask_phase) (query_of (get_or f 1 0) (get_or f 2 0) >>= λ (q : Query). ask_in q f) (query_in f)))
