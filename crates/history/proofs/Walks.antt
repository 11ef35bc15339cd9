-- A query under way: where it stands, what it has passed, and what is still to be walked; others' steps leave that as it is.
-- Assumes nothing.
use Rattle.std.specs.Prelude.{◌≡◌, ℕ, suc, ◌+◌, ◌*◌, ◌/◌, ◌^◌, ◌≤◌, ◌<◌, Result}
use Rattle.decibel.specs.Energy.{energy_of}
use Rattle.decibel.specs.declared.Energy.{Energy}
use Rattle.trie.specs.declared.NodeNumber.{NodeNumber}
use Rattle.trie.specs.declared.Version.{Version}
use Rattle.trie.specs.declared.Query.{Query}
use Rattle.trie.specs.declared.Operation.{Operation}
use Rattle.trie.specs.declared.Standing.{Standing}
use Rattle.trie.specs.declared.Phase.{Phase}
use Rattle.trie.specs.declared.Answer.{Answer}
use Rattle.trie.specs.declared.Plan.{Plan}
use Rattle.trie.specs.declared.Damage.{Damage}
use Rattle.trie.specs.declared.Next.{Next}
use Rattle.trie.specs.Sound.{cell_energy}
use Rattle.trie.specs.Values.{value_of}
use Rattle.trie.specs.Leaf.{goes_on, keep}
use Rattle.history.specs.Book.{Book, sum, ones, weights, answer}
use Rattle.history.proofs.Depicting.{Same}
use Rattle.history.proofs.Whole.{Whole, whole_top, whole_grow}
use Rattle.history.proofs.Shows.{Shows, shows_grow}

module _ (ver : ℕ → Version) (u : ℕ) (B : Book) (h : ℕ) where
  -- the query stands suc e levels above the leaves, and s is the first cell below
  pub record Stands (e s : ℕ) (st : Standing) : Type 0 where
    pub deep : st.depth + suc e ≡ h
    pub whole : Whole energy_of ver u (suc e) st.version.0
    pub shows : Shows ver B (suc e) s st.version.0

  -- what has been passed on the left, and what lies below, are within the bounds together
  pub record Running (s : ℕ) (r : Version) (count energy : ℕ) : Type 0 where
    pub count_is : count ≡ sum ones s B
    pub energy_is : energy ≡ sum (weights energy_of) s B
    pub count_fits : count + r.count ≤ 2 ^ h
    pub energy_fits : energy + r.energy.0 ≤ 2 ^ h * cell_energy

  -- e steps more are to be done after the next
  pub data Under : ℕ → Query → Phase → Type 0 where
    finding : {e k : ℕ} {st : Standing} → k < 2 ^ h → Stands e (k / 2 ^ suc e * 2 ^ suc e) st → Under e (Query.Find k) (Phase.Find k st)
    ranking : {e k : ℕ} {st : Standing} {count : ℕ} {energy : Energy} → k < 2 ^ h → Stands e (k / 2 ^ suc e * 2 ^ suc e) st
        → Running (k / 2 ^ suc e * 2 ^ suc e) (ver st.version.0) count energy.0 → Under e (Query.Rank k) (Phase.Rank k st count energy)
    selecting : {e j : ℕ} {st : Standing} {x : NodeNumber} {passed : ℕ} (p : ℕ) → Stands e (p * 2 ^ suc e) st
        → x.0 ≡ 2 ^ st.depth + p → p < 2 ^ st.depth → passed ≡ sum ones (p * 2 ^ suc e) B → passed < j → j ≤ passed + (ver st.version.0).count
        → passed + (ver st.version.0).count ≤ 2 ^ h → Under e (Query.Select j) (Phase.Select j st x passed)

  -- a step of the query q, with e steps to be done after it: it goes on, or answers from the book where none is left
  pub data Walks : ℕ → Query → Result Plan Damage → Type 0 where
    ends : {q : Query} {a : Answer} → value_of a ≡ answer (2 ^ h) (Operation.Query q) B → Walks 0 q (keep (Next.Done a))
    goes : {e : ℕ} {q : Query} {p : Phase} → Under e q p → Walks (suc e) q (keep (goes_on p))

-- ---- others' steps leave it as it is

module _ {ver ver' : ℕ → Version} {u u' : ℕ} {B : Book} {h : ℕ} (more : u ≤ u') (same : Same u ver ver') where
  stands_grow : {e s : ℕ} {st : Standing} → Stands ver u B h e s st → Stands ver' u' B h e s st
  stands_grow p = record { deep = p.deep; whole = whole_grow energy_of more same p.whole; shows = shows_grow energy_of same p.whole p.shows }

  running_grow : {s : ℕ} {r r' : Version} {count energy : ℕ} → r' ≡ r → Running ver u B h s r count energy → Running ver' u' B h s r' count energy
  running_grow e p = record { count_is = p.count_is; energy_is = p.energy_is; count_fits = rw e p.count_fits; energy_fits = rw e p.energy_fits }

  pub under_grow : {e : ℕ} {q : Query} {p : Phase} → Under ver u B h e q p → Under ver' u' B h e q p
  under_grow (finding l p) = finding l (stands_grow p)
  under_grow (ranking {st = st} l p r) = ranking l (stands_grow p) (running_grow (same st.version.0 (whole_top energy_of p.whole)) r)
  under_grow (selecting {st = st} n p x l c j k m) =
      selecting n (stands_grow p) x l c j (rw (same st.version.0 (whole_top energy_of p.whole)) k) (rw (same st.version.0 (whole_top energy_of p.whole)) m)
