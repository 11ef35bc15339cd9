-- Twelve words that say a record are that record's own words: a word that has no meaning is 0, and nothing is said in two ways.
-- Each test that a reading makes leaves one number for the word that it tests. Assumes nothing.
use Rattle.std.proofs.Math.Path.{◌≡◌, refl, sym}
use Rattle.std.proofs.Common.{ap, ◌∙◌, arith, eqb-true, leb-true, drop_of_length-le, drop-cons}
use Rattle.std.specs.Prelude.{Bool, true, false, ◌&&◌, List, [], ◌∷◌, ℕ, ◌≤◌, eqb, leb, length, get_or, replicate, Option, None, Some}
use Rattle.std.proofs.lemmas.Bool.{eqb-false}
use Rattle.std.proofs.lemmas.Option.{none-some, same_Some}
use Rattle.trie.specs.declared.Climb.{Climb}
use Rattle.trie.specs.declared.Held.{Held}
use Rattle.trie.specs.declared.Phase.{Phase}
use Rattle.trie.specs.declared.Query.{Query}
use Rattle.trie.specs.declared.Update.{Update}
use Rattle.trie.specs.declared.Worker.{Worker}
use Rattle.trie.specs.Choice.{pick}
use Rattle.trie.proofs.SizeLaws.{and_first, and_second}
use Rattle.trie.specs.Record.{worker, cell_of, loudness_of}
use Rattle.kitesonnet.specs.Operations.{insert_kind, delete_kind, find_kind, select_kind, rank_kind, total_kind, update_of, query_of}
use Rattle.kitesonnet.specs.Writing.{bit_of, kind_of, asked_of, number_of, read_of, node_read_of, left_read_of, right_read_of, climb_words, phase_words, words_of, idle_phase, read_phase, swap_phase, climb_phase, ask_phase, find_phase, rank_phase, select_phase}
use Rattle.kitesonnet.specs.Seats.{record_words}
use Rattle.kitesonnet.specs.Reading.{all_zero, bare, in_phase, standing_of, ◌>>=◌, flag_of, refresh_of, climb_of, update_in, ask_in, query_in, record_of}

-- ---- tests that hold

zeros : (xs : List ℕ) → all_zero xs ≡ true → xs ≡ replicate (length xs) 0
unfolding all_zero
zeros [] e = refl
zeros (x ∷ xs) e = ap (λ (y : ℕ). y ∷ xs) (eqb-true x 0 (and_first (eqb x 0) (all_zero xs) e)) ∙ ap (λ (ys : List ℕ). 0 ∷ ys) (zeros xs (and_second (eqb x 0) (all_zero xs) e))

flag_only : (x : ℕ) (b : Bool) → flag_of x ≡ Some b → bit_of b ≡ x
unfolding flag_of
flag_only x b e = flag_by (leb x 1) refl e
  where
    one_by : (c : Bool) → eqb x 1 ≡ c → x ≤ 1 → bit_of c ≡ x
    one_by true e l = sym (eqb-true x 1 e)
    one_by false e l = omega (arith, eqb-false x 1 e, l)

    flag_by : (c : Bool) → leb x 1 ≡ c → pick c (Some (eqb x 1)) None ≡ Some b → bit_of b ≡ x
    flag_by true l e = one_by b (same_Some (eqb x 1) b e) (leb-true x 1 l)
    flag_by false l e = absurd (none-some b e)

-- ---- an operation

pub record SaysUpdate (kind cell level : ℕ) (u : Update) : Type 0 where
  pub kind_is : kind_of u ≡ kind
  pub cell_is : cell_of u ≡ cell
  pub level_is : loudness_of u ≡ level

module _ (kind cell level : ℕ) (u : Update) where
  delete_by : (b : Bool) → eqb kind delete_kind && eqb level 0 ≡ b → pick b (Some (Update.Delete cell)) None ≡ Some u → SaysUpdate kind cell level u
  delete_by true t e =
      let z : Update.Delete cell ≡ u = cc in
      record {
        kind_is = sym (ap kind_of z) ∙ sym (eqb-true kind delete_kind (and_first (eqb kind delete_kind) (eqb level 0) t));
        cell_is = sym (ap cell_of z);
        level_is = sym (ap loudness_of z) ∙ sym (eqb-true level 0 (and_second (eqb kind delete_kind) (eqb level 0) t));
      }
  delete_by false t e = absurd (none-some _ e)

  insert_by : (b : Bool) → eqb kind insert_kind ≡ b
      → pick b (Some (Update.Insert cell (record { 0 = level }))) (pick (eqb kind delete_kind && eqb level 0) (Some (Update.Delete cell)) None) ≡ Some u → SaysUpdate kind cell level u
  insert_by true t e =
      let z : Update.Insert cell (record { 0 = level }) ≡ u = cc in
      record { kind_is = sym (ap kind_of z) ∙ sym (eqb-true kind insert_kind t); cell_is = sym (ap cell_of z); level_is = sym (ap loudness_of z) }
  insert_by false t e = delete_by (eqb kind delete_kind && eqb level 0) refl e

  update_only : update_of kind cell level ≡ Some u → SaysUpdate kind cell level u
  unfolding update_of
  update_only e = insert_by (eqb kind insert_kind) refl e

pub record SaysQuery (kind number : ℕ) (q : Query) : Type 0 where
  pub kind_is : asked_of q ≡ kind
  pub number_is : number_of q ≡ number

module _ (kind number : ℕ) (q : Query) where
  asks : (x : Query) (k : ℕ) → x ≡ q → kind ≡ k → asked_of x ≡ k → number_of x ≡ number → SaysQuery kind number q
  asks x k z t a b = record { kind_is = sym (ap asked_of z) ∙ a ∙ sym t; number_is = sym (ap number_of z) ∙ b }

  total_by : (b : Bool) → eqb kind total_kind && eqb number 0 ≡ b → pick b (Some Query.Total) None ≡ Some q → SaysQuery kind number q
  total_by true t e =
      asks Query.Total total_kind (cc) (eqb-true kind total_kind (and_first (eqb kind total_kind) (eqb number 0) t)) refl (sym (eqb-true number 0 (and_second (eqb kind total_kind) (eqb number 0) t)))
  total_by false t e = absurd (none-some _ e)

  rank_by : (b : Bool) → eqb kind rank_kind ≡ b → pick b (Some (Query.Rank number)) (pick (eqb kind total_kind && eqb number 0) (Some Query.Total) None) ≡ Some q → SaysQuery kind number q
  rank_by true t e = asks (Query.Rank number) rank_kind (cc) (eqb-true kind rank_kind t) refl refl
  rank_by false t e = total_by (eqb kind total_kind && eqb number 0) refl e

  select_by : (b : Bool) → eqb kind select_kind ≡ b
      → pick b (Some (Query.Select number)) (pick (eqb kind rank_kind) (Some (Query.Rank number)) (pick (eqb kind total_kind && eqb number 0) (Some Query.Total) None)) ≡ Some q
      → SaysQuery kind number q
  select_by true t e = asks (Query.Select number) select_kind (cc) (eqb-true kind select_kind t) refl refl
  select_by false t e = rank_by (eqb kind rank_kind) refl e

  find_by : (b : Bool) → eqb kind find_kind ≡ b
      → pick b (Some (Query.Find number)) (pick (eqb kind select_kind) (Some (Query.Select number))
      (pick (eqb kind rank_kind) (Some (Query.Rank number)) (pick (eqb kind total_kind && eqb number 0) (Some Query.Total) None))) ≡ Some q
      → SaysQuery kind number q
  find_by true t e = asks (Query.Find number) find_kind (cc) (eqb-true kind find_kind t) refl refl
  find_by false t e = select_by (eqb kind select_kind) refl e

  query_only : query_of kind number ≡ Some q → SaysQuery kind number q
  unfolding query_of
  query_only e = find_by (eqb kind find_kind) refl e

-- ---- what a refresh has read

pub record SaysHeld (read v l r : ℕ) (h : Held) : Type 0 where
  pub read_is : read_of h ≡ read
  pub node_is : node_read_of h ≡ v
  pub left_is : left_read_of h ≡ l
  pub right_is : right_read_of h ≡ r

module _ (read v l r : ℕ) (h : Held) where
  holds : (x : Held) → x ≡ h → read_of x ≡ read → node_read_of x ≡ v → left_read_of x ≡ l → right_read_of x ≡ r → SaysHeld read v l r h
  holds x z a b c d = record { read_is = sym (ap read_of z) ∙ a; node_is = sym (ap node_read_of z) ∙ b; left_is = sym (ap left_read_of z) ∙ c; right_is = sym (ap right_read_of z) ∙ d }

  abbrev none_read : Bool
  none_read = eqb read 0 && (eqb v 0 && (eqb l 0 && eqb r 0))

  nothing_by : (b : Bool) → none_read ≡ b → pick b (Some Held.Nothing) None ≡ Some h → SaysHeld read v l r h
  nothing_by true t e =
      let a = and_second (eqb read 0) (eqb v 0 && (eqb l 0 && eqb r 0)) t in
      let b = and_second (eqb v 0) (eqb l 0 && eqb r 0) a in
      holds Held.Nothing (cc) (sym (eqb-true read 0 (and_first (eqb read 0) (eqb v 0 && (eqb l 0 && eqb r 0)) t))) (sym (eqb-true v 0 (and_first (eqb v 0) (eqb l 0 && eqb r 0) a)))
      (sym (eqb-true l 0 (and_first (eqb l 0) (eqb r 0) b))) (sym (eqb-true r 0 (and_second (eqb l 0) (eqb r 0) b)))
  nothing_by false t e = absurd (none-some _ e)

  node_by : (b : Bool) → eqb read 1 && (eqb l 0 && eqb r 0) ≡ b → pick b (Some (Held.Node (record { 0 = v }))) (pick none_read (Some Held.Nothing) None) ≡ Some h → SaysHeld read v l r h
  node_by true t e =
      let a = and_second (eqb read 1) (eqb l 0 && eqb r 0) t in
      holds (Held.Node (record { 0 = v })) (cc) (sym (eqb-true read 1 (and_first (eqb read 1) (eqb l 0 && eqb r 0) t))) refl
      (sym (eqb-true l 0 (and_first (eqb l 0) (eqb r 0) a))) (sym (eqb-true r 0 (and_second (eqb l 0) (eqb r 0) a)))
  node_by false t e = nothing_by none_read refl e

  left_by : (b : Bool) → eqb read 2 && eqb r 0 ≡ b
      → pick b (Some (Held.Left (record { 0 = v }) (record { 0 = l }))) (pick (eqb read 1 && (eqb l 0 && eqb r 0)) (Some (Held.Node (record { 0 = v }))) (pick none_read (Some Held.Nothing) None)) ≡ Some h
      → SaysHeld read v l r h
  left_by true t e =
      holds (Held.Left (record { 0 = v }) (record { 0 = l })) (cc) (sym (eqb-true read 2 (and_first (eqb read 2) (eqb r 0) t))) refl refl (sym (eqb-true r 0 (and_second (eqb read 2) (eqb r 0) t)))
  left_by false t e = node_by (eqb read 1 && (eqb l 0 && eqb r 0)) refl e

  both_by : (b : Bool) → eqb read 3 ≡ b
      → pick b (Some (Held.Both (record { 0 = v }) (record { 0 = l }) (record { 0 = r }))) (pick (eqb read 2 && eqb r 0) (Some (Held.Left (record { 0 = v }) (record { 0 = l })))
      (pick (eqb read 1 && (eqb l 0 && eqb r 0)) (Some (Held.Node (record { 0 = v }))) (pick none_read (Some Held.Nothing) None))) ≡ Some h
      → SaysHeld read v l r h
  both_by true t e = holds (Held.Both (record { 0 = v }) (record { 0 = l }) (record { 0 = r })) (cc) (sym (eqb-true read 3 t)) refl refl refl
  both_by false t e = left_by (eqb read 2 && eqb r 0) refl e

  refresh_only : refresh_of read v l r ≡ Some h → SaysHeld read v l r h
  unfolding refresh_of
  refresh_only e = both_by (eqb read 3) refl e

-- ---- twelve words

module _ (a0 a1 a2 a3 a4 a5 a6 a7 a8 a9 a10 a11 : ℕ) where
  abbrev f : List ℕ
  f = a0 ∷ a1 ∷ a2 ∷ a3 ∷ a4 ∷ a5 ∷ a6 ∷ a7 ∷ a8 ∷ a9 ∷ a10 ∷ a11 ∷ []

  module _ (w : Worker) where
    -- the record that is said has this phase, and the phase's words are these
    spelled : (p : Phase) → in_phase p ≡ Some w → phase_words p ≡ f → words_of w ≡ f
    unfolding words_of
    spelled p e g =
        let z : worker p ≡ w = cc in
        sym (ap (λ (x : Worker). phase_words x.phase) z) ∙ g

    idle_by : (b : Bool) → bare f 1 ≡ b → eqb a0 idle_phase ≡ true → pick b (in_phase Phase.Idle) None ≡ Some w → words_of w ≡ f
    idle_by true t s e = spelled Phase.Idle e (let z = eqb-true a0 idle_phase s in let y = zeros _ t in cc)
    idle_by false t s e = absurd (none-some _ e)

    select_at : (b : Bool) → eqb a0 select_phase && bare f 6 ≡ b → pick b (in_phase (Phase.Select a1 (standing_of a2 a3) (record { 0 = a4 }) a5)) None ≡ Some w → words_of w ≡ f
    select_at true t e =
        spelled (Phase.Select a1 (standing_of a2 a3) (record { 0 = a4 }) a5) e
        (let z = eqb-true a0 select_phase (and_first (eqb a0 select_phase) (bare f 6) t) in let y = zeros _ (and_second (eqb a0 select_phase) (bare f 6) t) in cc)
    select_at false t e = absurd (none-some _ e)

    abbrev selects : Option Worker
    selects = pick (eqb a0 select_phase && bare f 6) (in_phase (Phase.Select a1 (standing_of a2 a3) (record { 0 = a4 }) a5)) None

    rank_at : (b : Bool) → eqb a0 rank_phase && bare f 6 ≡ b → pick b (in_phase (Phase.Rank a1 (standing_of a2 a3) a4 (record { 0 = a5 }))) selects ≡ Some w → words_of w ≡ f
    rank_at true t e =
        spelled (Phase.Rank a1 (standing_of a2 a3) a4 (record { 0 = a5 })) e
        (let z = eqb-true a0 rank_phase (and_first (eqb a0 rank_phase) (bare f 6) t) in let y = zeros _ (and_second (eqb a0 rank_phase) (bare f 6) t) in cc)
    rank_at false t e = select_at (eqb a0 select_phase && bare f 6) refl e

    abbrev ranks : Option Worker
    ranks = pick (eqb a0 rank_phase && bare f 6) (in_phase (Phase.Rank a1 (standing_of a2 a3) a4 (record { 0 = a5 }))) selects

    find_at : (b : Bool) → eqb a0 find_phase && bare f 4 ≡ b → pick b (in_phase (Phase.Find a1 (standing_of a2 a3))) ranks ≡ Some w → words_of w ≡ f
    find_at true t e =
        spelled (Phase.Find a1 (standing_of a2 a3)) e
        (let z = eqb-true a0 find_phase (and_first (eqb a0 find_phase) (bare f 4) t) in let y = zeros _ (and_second (eqb a0 find_phase) (bare f 4) t) in cc)
    find_at false t e = rank_at (eqb a0 rank_phase && bare f 6) refl e

    query_at : query_in f ≡ Some w → words_of w ≡ f
    unfolding query_in
    query_at e = find_at (eqb a0 find_phase && bare f 4) refl e

    ask_bare : (q : Query) (b : Bool) → bare f 3 ≡ b → eqb a0 ask_phase ≡ true → query_of a1 a2 ≡ Some q → pick b (in_phase (Phase.Ask q)) None ≡ Some w → words_of w ≡ f
    ask_bare q true t s g e =
        let o = query_only a1 a2 q g in
        spelled (Phase.Ask q) e (let z = eqb-true a0 ask_phase s in let y = zeros _ t in let k = o.kind_is in let m = o.number_is in cc)
    ask_bare q false t s g e = absurd (none-some _ e)

    ask_at : (x : Option Query) → query_of a1 a2 ≡ x → eqb a0 ask_phase ≡ true → x >>= (λ (q : Query). ask_in q f) ≡ Some w → words_of w ≡ f
    unfolding ask_in
    ask_at None g s e = absurd (none-some w e)
    ask_at (Some q) g s e = ask_bare q (bare f 3) refl s g e

    abbrev climb : Update → Bool → Bool → Climb
    climb u marked second = record { update = u; yes = marked; node = record { 0 = a5 }; second = second; made = a7 }

    climbs : (u : Update) (marked second : Bool) (h : Held) → eqb a0 climb_phase ≡ true → SaysUpdate a1 a2 a3 u → SaysHeld a8 a9 a10 a11 h → bit_of marked ≡ a4 → bit_of second ≡ a6 → climb_words (climb u marked second) h ≡ f
    climbs u marked second h s o g y n =
        let z = eqb-true a0 climb_phase s in
        let k = o.kind_is in let c = o.cell_is in let l = o.level_is in
        let r = g.read_is in let v = g.node_is in let a = g.left_is in let b = g.right_is in
        cc

    -- each of the three that a climb asks for is there
    climb_by : (u : Update) (x y : Option Bool) (h : Option Held) → flag_of a4 ≡ x → flag_of a6 ≡ y → refresh_of a8 a9 a10 a11 ≡ h → eqb a0 climb_phase ≡ true → SaysUpdate a1 a2 a3 u
        → x >>= (λ (marked : Bool). y >>= (λ (second : Bool). h >>= (λ (held : Held). in_phase (Phase.Refresh (climb u marked second) held)))) ≡ Some w → words_of w ≡ f
    climb_by u None y h p q g s o e = absurd (none-some w e)
    climb_by u (Some marked) None h p q g s o e = absurd (none-some w e)
    climb_by u (Some marked) (Some second) None p q g s o e = absurd (none-some w e)
    climb_by u (Some marked) (Some second) (Some held) p q g s o e =
        spelled (Phase.Refresh (climb u marked second) held) e (climbs u marked second held s o (refresh_only a8 a9 a10 a11 held g) (flag_only a4 marked p) (flag_only a6 second q))

    climb_at : (u : Update) → eqb a0 climb_phase ≡ true → SaysUpdate a1 a2 a3 u → climb_of u f ≡ Some w → words_of w ≡ f
    unfolding climb_of
    climb_at u s o e = climb_by u (flag_of a4) (flag_of a6) (refresh_of a8 a9 a10 a11) refl refl refl s o e

    module _ (u : Update) (o : SaysUpdate a1 a2 a3 u) where
      abbrev reads : Option Worker
      reads = pick (eqb a0 read_phase && bare f 4) (in_phase (Phase.Read u)) None

      read_at : (b : Bool) → eqb a0 read_phase && bare f 4 ≡ b → pick b (in_phase (Phase.Read u)) None ≡ Some w → words_of w ≡ f
      read_at true t e =
          spelled (Phase.Read u) e
          (let z = eqb-true a0 read_phase (and_first (eqb a0 read_phase) (bare f 4) t) in let y = zeros _ (and_second (eqb a0 read_phase) (bare f 4) t) in
          let k = o.kind_is in let c = o.cell_is in let l = o.level_is in cc)
      read_at false t e = absurd (none-some _ e)

      swap_at : (b : Bool) → eqb a0 swap_phase && bare f 5 ≡ b → pick b (in_phase (Phase.Swap u (record { 0 = a4 }))) reads ≡ Some w → words_of w ≡ f
      swap_at true t e =
          spelled (Phase.Swap u (record { 0 = a4 })) e
          (let z = eqb-true a0 swap_phase (and_first (eqb a0 swap_phase) (bare f 5) t) in let y = zeros _ (and_second (eqb a0 swap_phase) (bare f 5) t) in
          let k = o.kind_is in let c = o.cell_is in let l = o.level_is in cc)
      swap_at false t e = read_at (eqb a0 read_phase && bare f 4) refl e

      change_at : (b : Bool) → eqb a0 climb_phase ≡ b → pick b (climb_of u f) (pick (eqb a0 swap_phase && bare f 5) (in_phase (Phase.Swap u (record { 0 = a4 }))) reads) ≡ Some w → words_of w ≡ f
      change_at true t e = climb_at u t o e
      change_at false t e = swap_at (eqb a0 swap_phase && bare f 5) refl e

    update_at : (x : Option Update) → update_of a1 a2 a3 ≡ x → x >>= (λ (u : Update). update_in u f) ≡ Some w → words_of w ≡ f
    unfolding update_in
    update_at None g e = absurd (none-some w e)
    update_at (Some u) g e = change_at u (update_only a1 a2 a3 u g) (eqb a0 climb_phase) refl e

    ask_by : (b : Bool) → eqb a0 ask_phase ≡ b → pick b (query_of a1 a2 >>= λ (q : Query). ask_in q f) (query_in f) ≡ Some w → words_of w ≡ f
    ask_by true t e = ask_at (query_of a1 a2) refl t e
    ask_by false t e = query_at e

    update_by : (b : Bool) → leb a0 climb_phase ≡ b → pick b (update_of a1 a2 a3 >>= λ (u : Update). update_in u f) (pick (eqb a0 ask_phase) (query_of a1 a2 >>= λ (q : Query). ask_in q f) (query_in f)) ≡ Some w → words_of w ≡ f
    update_by true t e = update_at (update_of a1 a2 a3) refl e
    update_by false t e = ask_by (eqb a0 ask_phase) refl e

    phase_by : (b : Bool) → eqb a0 idle_phase ≡ b
        → pick b (pick (bare f 1) (in_phase Phase.Idle) None) (pick (leb a0 climb_phase) (update_of a1 a2 a3 >>= λ (u : Update). update_in u f) (pick (eqb a0 ask_phase) (query_of a1 a2 >>= λ (q : Query). ask_in q f) (query_in f))) ≡ Some w → words_of w ≡ f
    phase_by true t e = idle_by (bare f 1) refl t e
    phase_by false t e = update_by (leb a0 climb_phase) refl e

    twelve_only : record_of f ≡ Some w → words_of w ≡ f
    unfolding record_of
    twelve_only e = phase_by (eqb a0 idle_phase) refl e

-- a row of twelve words, word by word
twelve : (f : List ℕ) → length f ≡ record_words → f ≡ get_or f 0 0 ∷ get_or f 1 0 ∷ get_or f 2 0 ∷ get_or f 3 0 ∷ get_or f 4 0 ∷ get_or f 5 0 ∷ get_or f 6 0 ∷ get_or f 7 0 ∷ get_or f 8 0 ∷ get_or f 9 0 ∷ get_or f 10 0 ∷ get_or f 11 0 ∷ []
twelve f l =
    let d0 = drop-cons f 0 0 (omega (arith, l)) in
    let d1 = drop-cons f 1 0 (omega (arith, l)) in
    let d2 = drop-cons f 2 0 (omega (arith, l)) in
    let d3 = drop-cons f 3 0 (omega (arith, l)) in
    let d4 = drop-cons f 4 0 (omega (arith, l)) in
    let d5 = drop-cons f 5 0 (omega (arith, l)) in
    let d6 = drop-cons f 6 0 (omega (arith, l)) in
    let d7 = drop-cons f 7 0 (omega (arith, l)) in
    let d8 = drop-cons f 8 0 (omega (arith, l)) in
    let d9 = drop-cons f 9 0 (omega (arith, l)) in
    let d10 = drop-cons f 10 0 (omega (arith, l)) in
    let d11 = drop-cons f 11 0 (omega (arith, l)) in
    let end = drop_of_length-le f {i = 12} (omega (arith, l)) in
    cc

-- words that say a record are the record's own
pub words_only : (f : List ℕ) (w : Worker) → length f ≡ record_words → record_of f ≡ Some w → words_of w ≡ f
words_only f w l e = twelve_only (get_or f 0 0) (get_or f 1 0) (get_or f 2 0) (get_or f 3 0) (get_or f 4 0) (get_or f 5 0) (get_or f 6 0) (get_or f 7 0) (get_or f 8 0) (get_or f 9 0) (get_or f 10 0) (get_or f 11 0) w (sym (ap record_of (twelve f l)) ∙ e) ∙ sym (twelve f l)
