-- The steps of a query: each goes through without damage, and the last one answers as the book did at its reading of the root.
-- Assumes nothing.
use Rattle.std.specs.Prelude.{◌≡◌, refl, Bool, false, List, ℕ, zero, suc, ◌+◌, ◌*◌, ◌-◌, ◌/◌, ◌%◌, ◌^◌, ◌≤◌, ◌<◌, eqb, leb, ltb, get_or, Result}
use Rattle.std.proofs.Common.{sym, ap₂, ◌∙◌, subst, pow-suc, add-one, shr-shr}
use Rattle.std.proofs.Math.Path.{ap}
use Rattle.std.proofs.Math.Bool.{true}
use Rattle.std.proofs.Math.Option.{Option}
use native.Mathlib.Omega.{arith}
use borrow.Author.Tests.{le-leb, lt-leb, leb-true, leb-false, lt-ltb, ltb-true, ltb-false, eq-eqb, ne_eqb, eqb-true, eqb-false}
use Rattle.std.proofs.Math.Dec.{eqb-suc-zero}
use Rattle.std.proofs.Math.Pow.{high}
use Rattle.decibel.specs.Energy.{energy_of}
use Rattle.decibel.proofs.Laws.{energy_at_most}
use Rattle.decibel.specs.declared.Energy.{Energy}
use Rattle.trie.specs.declared.Bounds.{Bounds}
use Rattle.trie.specs.declared.VersionNumber.{VersionNumber}
use Rattle.trie.specs.declared.NodeNumber.{NodeNumber}
use Rattle.trie.specs.declared.Version.{Version}
use Rattle.trie.specs.declared.Query.{Query}
use Rattle.trie.specs.declared.Standing.{Standing}
use Rattle.trie.specs.declared.Fork.{Fork}
use Rattle.trie.specs.declared.Phase.{Phase}
use Rattle.trie.specs.declared.Answer.{Answer}
use Rattle.trie.specs.declared.Plan.{Plan}
use Rattle.trie.specs.declared.Damage.{Damage}
use Rattle.trie.specs.Choice.{pick}
use Rattle.trie.proofs.SizeLaws.{and_both}
use Rattle.trie.specs.Tables.{current_of, version_at}
use Rattle.trie.specs.Sound.{cell_energy}
use Rattle.trie.specs.Record.{query_fits}
use Rattle.trie.specs.Values.{Value, value_of}
use Rattle.trie.specs.Leaf.{sure, goes_on, marked, keep}
use Rattle.trie.specs.Asking.{standing, answers, first_of, ask_of, last_at, fork_of, seen, look_of, turns_right, towards, level_of, find_of, passed_of, reached_of, within, rank_next, rank_of, select_next, at_depth, select_of}
use Rattle.trie.specs.Stepping.{plan_phase}
use Rattle.history.specs.Book.{Book, sum, ones, weights, select, level_in, mark, level_if}
use Rattle.history.proofs.Whole.{version_of, Whole, whole_left, whole_right, whole_count, whole_energy}
use Rattle.history.proofs.Judged.{Gauge, place_sound, inner_sound_lem}
use Rattle.history.proofs.Shows.{Shows, shows_at, shows_left, shows_right, shows_cell, Adds, adds_count, adds_energy, shows_sum}
use Rattle.history.proofs.Walks.{Stands, Running, Under, finding, ranking, selecting, Walks, ends, goes}

-- ---- numbers

-- one digit more of k
digit : (k e : ℕ) → k / 2 ^ e / 2 ≡ k / 2 ^ suc e
digit k e = shr-shr k e 1 ∙ ap (λ (m : ℕ). k / 2 ^ m) (add-one e)

pub first_right : (q a p pp : ℕ) → pp ≡ 2 * p → a ≡ 2 * q + 1 → a * p ≡ q * pp + p
first_right q a p pp e f = rw (e, f) (omega arith)

pub first_left : (q a p pp : ℕ) → pp ≡ 2 * p → a ≡ 2 * q → a * p ≡ q * pp
first_left q a p pp e f = rw (e, f) (omega arith)

pub twice : (e : ℕ) → 2 ^ suc e ≡ 2 * 2 ^ e
twice e = omega (arith, pow-suc 2 e)

-- the first cell below, after the turn towards k
turn_is : (k e : ℕ) (right : Bool) → eqb (k / 2 ^ e % 2) 1 ≡ right → k / 2 ^ e * 2 ^ e ≡ pick right (k / 2 ^ suc e * 2 ^ suc e + 2 ^ e) (k / 2 ^ suc e * 2 ^ suc e)
turn_is k e true t = first_right (k / 2 ^ suc e) (k / 2 ^ e) (2 ^ e) (2 ^ suc e) (twice e) (omega (arith, digit k e, eqb-true (k / 2 ^ e % 2) 1 t))
turn_is k e false t = first_left (k / 2 ^ suc e) (k / 2 ^ e) (2 ^ e) (2 ^ suc e) (twice e) (let n = eqb-false (k / 2 ^ e % 2) 1 t in omega (arith, digit k e))

-- ---- what a book answers

sum_more : (f : Option ℕ → ℕ) (B : Book) (a d : ℕ) → sum f a B ≤ sum f (a + d) B
sum_more f B a zero = let e : a + 0 ≡ a = omega arith in rw e (omega arith)
sum_more f B a (suc d) = let e : a + suc d ≡ suc (a + d) = omega arith in rw e (omega (arith, sum_more f B a d))

select_none : (B : Book) (j n : ℕ) → sum ones n B < j → select n j B ≡ Value.none
select_none B j zero l = refl
select_none B j (suc n) l = rw (lt-leb j (sum ones n B) (omega arith), lt-leb j (sum ones (suc n) B) l)

select_cell : (B : Book) (j p d : ℕ) → sum ones p B < j → j ≤ sum ones (suc p) B → select (suc p + d) j B ≡ Value.cell p
select_cell B j p zero l m = let e : suc p + 0 ≡ suc p = omega arith in rw e (rw (lt-leb j (sum ones p B) l, le-leb j (sum ones (suc p) B) m))
select_cell B j p (suc d) l m =
    let e : suc p + suc d ≡ suc (suc p + d) = omega arith in
    let t : j ≤ sum ones (suc p + d) B = omega (arith, sum_more ones B (suc p) d) in
    rw (e, le-leb j (sum ones (suc p + d) B) t) (select_cell B j p d l m)

level_is : (r : Version) → value_of (level_of r) ≡ level_in (mark r)
level_is r = by (marked r)
  where
    by : (t : Bool) → value_of (pick t (Answer.Level r.level) Answer.None) ≡ level_in (level_if t r.level.0)
    by true = refl
    by false = refl

-- ---- a further step

module _ {h u most : ℕ} {b : Bounds} (g : Gauge h u most b) (versions : List ℕ) (B : Book) where
  last_is : (d e : ℕ) → d + suc e ≡ h → eqb e 0 ≡ last_at b d
  last_is d zero p = sym (eq-eqb (d + 1) b.height (omega (arith, g.height)))
  last_is d (suc e) p = eqb-suc-zero e ∙ sym (ne_eqb (d + 1) b.height (λ q. omega (arith, g.height)))

  abbrev fork : Standing → Fork
  fork st = fork_of b st versions (version_at versions st.version)

  module _ {e s : ℕ} {st : Standing} (p : Stands (version_of versions) u B h e s st) where
    look_is : look_of b st versions ≡ Result.Ok (fork st)
    unfolding look_of
    look_is =
        ap (λ (t : Bool). seen t (fork st))
        (and_both _ _ (lt-ltb st.depth b.height (omega (arith, p.deep, g.height)))
        (and_both _ _ (inner_sound_lem g energy_of energy_at_most versions (omega (arith, p.deep)) p.whole)
        (and_both _ _
        (place_sound g energy_of energy_at_most versions e (last_at b st.depth) (omega (arith, p.deep)) (last_is st.depth e p.deep) (whole_left energy_of p.whole))
        (place_sound g energy_of energy_at_most versions e (last_at b st.depth) (omega (arith, p.deep)) (last_is st.depth e p.deep) (whole_right energy_of p.whole)))))

    child_deep : (right : Bool) → (towards right (fork st)).standing.depth + e ≡ h
    child_deep true = omega (arith, p.deep)
    child_deep false = omega (arith, p.deep)

    child_whole : (right : Bool) → Whole energy_of (version_of versions) u e (towards right (fork st)).standing.version.0
    child_whole true = whole_right energy_of p.whole
    child_whole false = whole_left energy_of p.whole

    child_shows : (right : Bool) → Shows (version_of versions) B e (pick right (s + 2 ^ e) s) (towards right (fork st)).standing.version.0
    child_shows true = shows_right p.shows
    child_shows false = shows_left p.shows

    child_version : (right : Bool) → (towards right (fork st)).version ≡ version_of versions (towards right (fork st)).standing.version.0
    child_version true = refl
    child_version false = refl

    turns_is : (k : ℕ) → eqb (k / 2 ^ e % 2) 1 ≡ turns_right b k st.depth
    turns_is k = let m : e ≡ b.height - (st.depth + 1) = omega (arith, p.deep, g.height) in ap (λ (x : ℕ). eqb (k / 2 ^ x % 2) 1) m

    -- what is passed on the left
    module _ {word : Version → ℕ} {f : Option ℕ → ℕ} (a : Adds energy_of word f) (run : ℕ) where
      passed_is : run ≡ sum f s B → (right : Bool) → passed_of right (word (fork st).left.version) run ≡ sum f (pick right (s + 2 ^ e) s) B
      passed_is r true = omega (arith, shows_sum energy_of a (whole_left energy_of p.whole) (shows_left p.shows))
      passed_is r false = r

      passed_fits : (m : ℕ) → run + word (version_of versions st.version.0) ≤ m → (right : Bool) → passed_of right (word (fork st).left.version) run + word (towards right (fork st)).version ≤ m
      passed_fits m l true = omega (arith, a.above p.whole)
      passed_fits m l false = omega (arith, a.above p.whole)

  within_is : (count energy : ℕ) → count ≤ 2 ^ h → energy ≤ 2 ^ h * cell_energy → within b count energy ≡ true
  within_is count energy p q = and_both _ _ (le-leb count b.cells (omega (arith, g.cells))) (le-leb energy b.energy (omega (arith, g.energy)))

  -- ---- Find

  find_seen_lem : (k : ℕ) (st : Standing) → k < 2 ^ h → (e : ℕ) (right last : Bool) → Stands (version_of versions) u B h e (k / 2 ^ suc e * 2 ^ suc e) st
      → eqb (k / 2 ^ e % 2) 1 ≡ right → eqb e 0 ≡ last
      → Walks (version_of versions) u B h e (Query.Find k) (pick last (answers (level_of (towards right (fork st)).version)) (keep (goes_on (Phase.Find k (towards right (fork st)).standing))))
  find_seen_lem k st l zero right true p t z =
      let at : pick right (k / 2 ^ 1 * 2 ^ 1 + 2 ^ 0) (k / 2 ^ 1 * 2 ^ 1) ≡ k = sym (turn_is k 0 right t) ∙ omega arith in
      ends (level_is (towards right (fork st)).version ∙ ap (λ (r : Version). level_in (mark r)) (child_version p right) ∙ ap level_in (shows_cell (child_shows p right) ∙ ap B at))
  find_seen_lem k st l zero right false p t z = absurd (let c : ◌≡◌ {A = ℕ} 0 1 = cc in omega arith)
  find_seen_lem k st l (suc e) right true p t z = absurd (omega (arith, eqb-true (suc e) 0 z))
  find_seen_lem k st l (suc e) right false p t z =
      goes (finding {e = e} {st = (towards right (fork st)).standing} l (record { deep = child_deep p right; whole = child_whole p right; shows = shows_at (sym (turn_is k (suc e) right t)) refl (child_shows p right) }))

  find_step : {e k : ℕ} {st : Standing} → k < 2 ^ h → Stands (version_of versions) u B h e (k / 2 ^ suc e * 2 ^ suc e) st
      → Walks (version_of versions) u B h e (Query.Find k) (find_of b k st versions)
  unfolding find_of
  find_step {e} {k} {st} l p = rw (lt-ltb k b.cells (omega (arith, g.cells)), look_is p) (find_seen_lem k st l e (turns_right b k st.depth) (last_at b st.depth) p (turns_is p k) (last_is st.depth e p.deep))

  -- ---- Rank

  abbrev rank_count : Bool → Bool → Standing → ℕ → ℕ
  rank_count last right st count = reached_of last (towards right (fork st)).version.count (passed_of right (fork st).left.version.count count)

  abbrev rank_energy : Bool → Bool → Standing → ℕ → ℕ
  rank_energy last right st energy = reached_of last (towards right (fork st)).version.energy.0 (passed_of right (fork st).left.version.energy.0 energy)

  -- at the leaf of cell k: what is passed, and the leaf
  reached_is : {word : Version → ℕ} {f : Option ℕ → ℕ} (a : Adds energy_of word f) (k run : ℕ) (right : Bool) {st : Standing}
      → Stands (version_of versions) u B h 0 (k / 2 ^ 1 * 2 ^ 1) st → eqb (k / 2 ^ 0 % 2) 1 ≡ right → run ≡ sum f (k / 2 ^ 1 * 2 ^ 1) B
      → passed_of right (word (fork st).left.version) run + word (towards right (fork st)).version ≡ sum f (suc k) B
  reached_is {word} {f} a k run right {st} p t r =
      let s = pick right (k / 2 ^ 1 * 2 ^ 1 + 2 ^ 0) (k / 2 ^ 1 * 2 ^ 1) in
      let at : s ≡ k = sym (turn_is k 0 right t) ∙ omega arith in
      let end : s + 2 ^ 0 ≡ suc k = omega (arith, at) in
      ap₂ ◌+◌ (passed_is p a run r right) (ap word (child_version p right)) ∙ sym (shows_sum energy_of a (child_whole p right) (child_shows p right)) ∙ ap (λ (m : ℕ). sum f m B) end

  rank_seen_lem : (k : ℕ) (st : Standing) (count : ℕ) (energy : Energy) → k < 2 ^ h → (e : ℕ) (right last : Bool) → Stands (version_of versions) u B h e (k / 2 ^ suc e * 2 ^ suc e) st
      → Running (version_of versions) u B h (k / 2 ^ suc e * 2 ^ suc e) (version_of versions st.version.0) count energy.0
      → eqb (k / 2 ^ e % 2) 1 ≡ right → eqb e 0 ≡ last
      → Walks (version_of versions) u B h e (Query.Rank k)
      (sure (within b (rank_count last right st count) (rank_energy last right st energy.0))
      (rank_next k (towards right (fork st)).standing last (rank_count last right st count) (rank_energy last right st energy.0)))
  rank_seen_lem k st count energy l zero right true p r t z =
      rw (within_is _ _ (passed_fits p (adds_count energy_of) count (2 ^ h) r.count_fits right) (passed_fits p (adds_energy energy_of) energy.0 (2 ^ h * cell_energy) r.energy_fits right))
      (ends (ap₂ Value.sums (reached_is (adds_count energy_of) k count right p t r.count_is) (reached_is (adds_energy energy_of) k energy.0 right p t r.energy_is)))
  rank_seen_lem k st count energy l zero right false p r t z = absurd (let c : ◌≡◌ {A = ℕ} 0 1 = cc in omega arith)
  rank_seen_lem k st count energy l (suc e) right true p r t z = absurd (omega (arith, eqb-true (suc e) 0 z))
  rank_seen_lem k st count energy l (suc e) right false p r t z =
      let c = passed_fits p (adds_count energy_of) count (2 ^ h) r.count_fits right in
      let d = passed_fits p (adds_energy energy_of) energy.0 (2 ^ h * cell_energy) r.energy_fits right in
      let at = sym (turn_is k (suc e) right t) in
      rw (within_is (passed_of right (fork st).left.version.count count) (passed_of right (fork st).left.version.energy.0 energy.0) (omega (arith, c)) (omega (arith, d)))
      (goes (ranking {e = e} {st = (towards right (fork st)).standing} l
      (record { deep = child_deep p right; whole = child_whole p right; shows = shows_at at refl (child_shows p right) })
      (record {
        count_is = passed_is p (adds_count energy_of) count r.count_is right ∙ ap (λ (m : ℕ). sum ones m B) at;
        energy_is = passed_is p (adds_energy energy_of) energy.0 r.energy_is right ∙ ap (λ (m : ℕ). sum (weights energy_of) m B) at;
        count_fits = subst (λ (v : Version). passed_of right (fork st).left.version.count count + v.count ≤ 2 ^ h) (child_version p right) c;
        energy_fits = subst (λ (v : Version). passed_of right (fork st).left.version.energy.0 energy.0 + v.energy.0 ≤ 2 ^ h * cell_energy) (child_version p right) d;
      })))

  rank_step : {e k : ℕ} {st : Standing} {count : ℕ} {energy : Energy} → k < 2 ^ h → Stands (version_of versions) u B h e (k / 2 ^ suc e * 2 ^ suc e) st
      → Running (version_of versions) u B h (k / 2 ^ suc e * 2 ^ suc e) (version_of versions st.version.0) count energy.0
      → Walks (version_of versions) u B h e (Query.Rank k) (rank_of b k st count energy versions)
  unfolding rank_of
  rank_step {e} {k} {st} {count} {energy} l p r =
      rw (lt-ltb k b.cells (omega (arith, g.cells)), within_is count energy.0 (omega (arith, r.count_fits)) (omega (arith, r.energy_fits)), look_is p)
      (rank_seen_lem k st count energy l e (turns_right b k st.depth) (last_at b st.depth) p r (turns_is p k) (last_is st.depth e p.deep))

  -- ---- Select

  -- the j-th marked cell is below v, which is version of the node x
  select_next_lem : (j x p passed : ℕ) (next : Standing) (e : ℕ) (last : Bool) → next.depth + e ≡ h → eqb e 0 ≡ last
      → Whole energy_of (version_of versions) u e next.version.0 → Shows (version_of versions) B e (p * 2 ^ e) next.version.0
      → x ≡ 2 ^ next.depth + p → p < 2 ^ next.depth → passed ≡ sum ones (p * 2 ^ e) B → passed < j → j ≤ passed + (version_of versions next.version.0).count
      → passed + (version_of versions next.version.0).count ≤ 2 ^ h → Walks (version_of versions) u B h e (Query.Select j) (select_next b j next x passed last)
  select_next_lem j x p passed next zero true deep z w s xe pl pe lo hi fits =
      let level : next.depth ≡ h = omega (arith, deep) in
      let top : 2 ^ next.depth ≡ 2 ^ h = ap (λ (m : ℕ). 2 ^ m) level in
      let here : p * 2 ^ 0 ≡ p = omega arith in
      let after : p * 2 ^ 0 + 2 ^ 0 ≡ suc p = omega arith in
      let count = sym (ap (λ (m : ℕ). sum ones m B) after) ∙ shows_sum energy_of (adds_count energy_of) w s in
      let at : sum ones (p * 2 ^ 0) B ≡ sum ones p B = ap (λ (m : ℕ). sum ones m B) here in
      let left : 2 ^ h ≡ suc p + (2 ^ h - suc p) = omega (arith, top) in
      let cell : x - b.cells ≡ p = omega (arith, top, g.cells) in
      ends (ap Value.cell cell ∙ sym (ap (λ (m : ℕ). select m j B) left ∙ select_cell B j p (2 ^ h - suc p) (omega (arith, at)) (omega (arith, count, at))))
  select_next_lem j x p passed next zero false deep z w s xe pl pe lo hi fits = absurd (let c : ◌≡◌ {A = ℕ} 0 1 = cc in omega arith)
  select_next_lem j x p passed next (suc e) true deep z w s xe pl pe lo hi fits = absurd (omega (arith, eqb-true (suc e) 0 z))
  select_next_lem j x p passed next (suc e) false deep z w s xe pl pe lo hi fits =
      goes (selecting {e = e} {j = j} {st = next} {x = record { 0 = x }} {passed = passed} p (record { deep = deep; whole = w; shows = s }) xe pl pe lo hi fits)

  select_seen_lem : (j : ℕ) (st : Standing) (x p passed e : ℕ) (t : Bool) → Stands (version_of versions) u B h e (p * 2 ^ suc e) st
      → x ≡ 2 ^ st.depth + p → p < 2 ^ st.depth → passed ≡ sum ones (p * 2 ^ suc e) B → passed < j → j ≤ passed + (version_of versions st.version.0).count
      → passed + (version_of versions st.version.0).count ≤ 2 ^ h → leb (j - passed) (fork st).left.version.count ≡ t
      → Walks (version_of versions) u B h e (Query.Select j)
      (pick t (select_next b j (fork st).left.standing (2 * x) passed (last_at b st.depth))
      (sure (leb (passed + (fork st).left.version.count) b.cells)
      (select_next b j (fork st).right.standing (2 * x + 1) (passed + (fork st).left.version.count) (last_at b st.depth))))
  select_seen_lem j st x p passed e true w xe pl pe lo hi fits t =
      let here : p * 2 ^ suc e ≡ 2 * p * 2 ^ e = sym (first_left p (2 * p) (2 ^ e) (2 ^ suc e) (twice e) refl) in
      let deeper : 2 ^ (st.depth + 1) ≡ 2 * 2 ^ st.depth = ap (λ (m : ℕ). 2 ^ m) (add-one st.depth) ∙ twice st.depth in
      let l = leb-true (j - passed) (fork st).left.version.count t in
      select_next_lem j (2 * x) (2 * p) passed (fork st).left.standing e (last_at b st.depth) (child_deep w false) (last_is st.depth e w.deep) (whole_left energy_of w.whole)
      (shows_at here refl (shows_left w.shows)) (omega arith) (omega arith) (pe ∙ ap (λ (m : ℕ). sum ones m B) here) lo (omega arith) (omega (arith, (adds_count energy_of).above w.whole))
  select_seen_lem j st x p passed e false w xe pl pe lo hi fits t =
      let here : p * 2 ^ suc e + 2 ^ e ≡ (2 * p + 1) * 2 ^ e = sym (first_right p (2 * p + 1) (2 ^ e) (2 ^ suc e) (twice e) refl) in
      let deeper : 2 ^ (st.depth + 1) ≡ 2 * 2 ^ st.depth = ap (λ (m : ℕ). 2 ^ m) (add-one st.depth) ∙ twice st.depth in
      let l = leb-false (j - passed) (fork st).left.version.count t in
      let over = (adds_count energy_of).above w.whole in
      let left = shows_sum energy_of (adds_count energy_of) (whole_left energy_of w.whole) (shows_left w.shows) in
      rw (le-leb (passed + (fork st).left.version.count) b.cells (omega (arith, g.cells)))
      (select_next_lem j (2 * x + 1) (2 * p + 1) (passed + (fork st).left.version.count) (fork st).right.standing e (last_at b st.depth) (child_deep w true) (last_is st.depth e w.deep) (whole_right energy_of w.whole)
      (shows_at here refl (shows_right w.shows)) (omega arith) (omega arith) (ap (λ (m : ℕ). m + (fork st).left.version.count) pe ∙ sym left ∙ ap (λ (m : ℕ). sum ones m B) here) (omega arith) (omega arith) (omega arith))

  select_step : {e j : ℕ} {st : Standing} {x : NodeNumber} {passed : ℕ} (p : ℕ) → Stands (version_of versions) u B h e (p * 2 ^ suc e) st
      → x.0 ≡ 2 ^ st.depth + p → p < 2 ^ st.depth → passed ≡ sum ones (p * 2 ^ suc e) B → passed < j → j ≤ passed + (version_of versions st.version.0).count
      → passed + (version_of versions st.version.0).count ≤ 2 ^ h → Walks (version_of versions) u B h e (Query.Select j) (select_of b j st x passed versions)
  unfolding select_of
  select_step {e} {j} {st} {x} {passed} p w xe pl pe lo hi fits =
      let here : x.0 ≡ 1 * 2 ^ st.depth + p = omega arith in
      let deep : at_depth st.depth x.0 ≡ true = eq-eqb (x.0 / 2 ^ st.depth) 1 (ap (λ (m : ℕ). m / 2 ^ st.depth) here ∙ high 1 st.depth pl) in
      rw (lt-ltb passed j lo, le-leb passed b.cells (omega (arith, g.cells)), deep, look_is w)
      (select_seen_lem j st x.0 p passed e (leb (j - passed) (fork st).left.version.count) w xe pl pe lo hi fits refl)

  -- ---- the reading of the root

  -- the first cell below the root, on the way to any cell
  first_cell : (k : ℕ) → k < 2 ^ h → k / 2 ^ h * 2 ^ h ≡ 0
  first_cell k l =
      let here : k ≡ 0 * 2 ^ h + k = omega arith in
      let none : k / 2 ^ h ≡ 0 = ap (λ (m : ℕ). m / 2 ^ h) here ∙ high 0 h l in
      ap (λ (m : ℕ). m * 2 ^ h) none ∙ omega arith

  -- what the root's version counts, and adds up, is all
  root_sum : {word : Version → ℕ} {f : Option ℕ → ℕ} (a : Adds energy_of word f) {v : ℕ} → Whole energy_of (version_of versions) u h v → Shows (version_of versions) B h 0 v
      → word (version_of versions v) ≡ sum f (2 ^ h) B
  root_sum {word} {f} a w s = let all : 0 + 2 ^ h ≡ 2 ^ h = omega arith in omega (arith, shows_sum energy_of a w s, ap (λ (m : ℕ). sum f m B) all)

  -- a query's first step: it answers at once, or goes on with h steps more
  pub data First : Query → Result Plan Damage → Type 0 where
    at_once : {q : Query} {p : Result Plan Damage} → Walks (version_of versions) u B h 0 q p → First q p
    on_way : {q : Query} {p : Result Plan Damage} → Walks (version_of versions) u B h h q p → First q p

  module _ (e : ℕ) (tall : h ≡ suc e) (v : VersionNumber) (w : Whole energy_of (version_of versions) u h v.0) (s : Shows (version_of versions) B h 0 v.0) where
    root_stands : (c : ℕ) → c ≡ 0 → Stands (version_of versions) u B h e c (standing 0 v)
    root_stands c z =
        record {
          deep = omega arith;
          whole = subst (λ (d : ℕ). Whole energy_of (version_of versions) u d v.0) tall w;
          shows = shows_at (sym z) refl (subst (λ (d : ℕ). Shows (version_of versions) B d 0 v.0) tall s);
        }

    on : {q : Query} {p : Phase} → Under (version_of versions) u B h e q p → First q (keep (goes_on p))
    on {q} {p} n = on_way (subst (λ (d : ℕ). Walks (version_of versions) u B h d q (keep (goes_on p))) (sym tall) (goes n))

    first_at : (k : ℕ) → k < 2 ^ h → k / 2 ^ suc e * 2 ^ suc e ≡ 0
    first_at k l = subst (λ (d : ℕ). k / 2 ^ d * 2 ^ d ≡ 0) tall (first_cell k l)

    first_step : (q : Query) → query_fits b.cells q ≡ true → First q (first_of q v (version_at versions v))
    first_step (Query.Find k) f = let l : k < 2 ^ h = omega (arith, ltb-true k b.cells f, g.cells) in on (finding l (root_stands _ (first_at k l)))
    first_step (Query.Rank k) f =
        let l : k < 2 ^ h = omega (arith, ltb-true k b.cells f, g.cells) in
        on (ranking {count = 0} {energy = record { 0 = 0 }} l (root_stands _ (first_at k l))
        (record {
          count_is = sym (ap (λ (m : ℕ). sum ones m B) (first_at k l));
          energy_is = sym (ap (λ (m : ℕ). sum (weights energy_of) m B) (first_at k l));
          count_fits = omega (arith, whole_count energy_of w);
          energy_fits = omega (arith, whole_energy energy_of energy_at_most w);
        }))
    first_step (Query.Select j) f = by (ltb (version_at versions v).count j) refl
      where
        by : (t : Bool) → ltb (version_at versions v).count j ≡ t
            → First (Query.Select j) (pick t (answers Answer.None) (keep (goes_on (Phase.Select j (standing 0 v) (record { 0 = 1 }) 0))))
        by true t = at_once (ends (sym (select_none B j (2 ^ h) (omega (arith, ltb-true (version_at versions v).count j t, root_sum (adds_count energy_of) w s)))))
        by false t =
            let z : 0 * 2 ^ suc e ≡ 0 = omega arith in
            on (selecting {x = record { 0 = 1 }} {passed = 0} 0 (root_stands _ z) refl (omega arith) (sym (ap (λ (m : ℕ). sum ones m B) z))
            (omega (arith, leb-true 1 j f)) (omega (arith, ltb-false (version_at versions v).count j t)) (omega (arith, whole_count energy_of w)))
    first_step Query.Total f = at_once (ends (ap₂ Value.sums (root_sum (adds_count energy_of) w s) (root_sum (adds_energy energy_of) w s)))

  tall_is : (d : ℕ) → 1 ≤ d → d ≡ suc (d - 1)
  tall_is d l = omega arith

  pub ask_step : (nodes : List ℕ) (q : Query) → 1 ≤ h → query_fits b.cells q ≡ true → Whole energy_of (version_of versions) u h (get_or nodes 1 0) → Shows (version_of versions) B h 0 (get_or nodes 1 0)
      → First q (ask_of b q nodes versions)
  unfolding ask_of
  ask_step nodes q l f w s =
      rw (f, inner_sound_lem g energy_of energy_at_most versions (omega (arith, tall_is h l)) (subst (λ (d : ℕ). Whole energy_of (version_of versions) u d (get_or nodes 1 0)) (tall_is h l) w))
      (first_step (h - 1) (tall_is h l) (current_of nodes 1) w s q f)

  -- a further step, whatever the query
  pub walk_step : (nodes : List ℕ) {e : ℕ} {q : Query} {p : Phase} → Under (version_of versions) u B h e q p → Walks (version_of versions) u B h e q (plan_phase b p nodes versions)
  walk_step nodes (finding l p) = find_step l p
  walk_step nodes (ranking l p r) = rank_step l p r
  walk_step nodes (selecting p w xe pl pe lo hi fits) = select_step p w xe pl pe lo hi fits
