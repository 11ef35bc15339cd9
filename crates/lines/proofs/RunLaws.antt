-- The places and the runs of a chunk: how far its lines are served, none yet and one line more, and what is kept behind them.
-- Assumes nothing.
use mathlib.Core.Path.{◌≡◌, refl, sym, subst, ap, ◌∙◌}
use mathlib.Core.Bool.{Bool, true, false}
use mathlib.Core.List.{List, [], ◌++◌}
use Prim.Native.Nat.{ℕ, ◌+◌, ◌*◌, ◌≤◌, ◌<◌}
use native.Mathlib.Omega.{arith}
use borrow.Author.Tests.{ne_eqb}
use lib.ListN.{length, take, drop}
use Rattle.std.specs.Prelude.{Some, None, Option, Result, ⊤}
use Rattle.grammar.specs.declared.Command.{Command}
use Rattle.trie.specs.declared.Progress.{Progress}
use Rattle.trie.specs.declared.Refusal.{Refusal}
use Rattle.trie.specs.declared.Worker.{Worker}
use Rattle.trie.specs.Choice.{pick}
use Rattle.trie.specs.Values.{accepted_of, progress_of}
use Rattle.trie.specs.Calls.{state, after, step_of}
use Rattle.lines.specs.declared.Begun.{Begun}
use Rattle.lines.specs.declared.History.{History}
use Rattle.lines.specs.declared.Place.{Place}
use Rattle.lines.specs.declared.Run.{Run}
use Rattle.lines.specs.declared.Step.{Step}
use Rattle.grammar.specs.Text.{accepted_text, course_text}
use Rattle.lines.specs.declared.Watch.{Watch}
use Rattle.lines.specs.Watch.{watch, opened}
use Rattle.lines.specs.Turns.{answered, line_turn}
use Rattle.lines.specs.Calling.{words_of}
use Rattle.lines.specs.Chunks.{Part, upto, line_at, listing, served_of, part_of}
use Rattle.lines.specs.Replies.{widest}
use Rattle.lines.specs.Feeding.{grown, between, Ends, before}
use Rattle.lines.specs.Places.{Found, Placed, Goes, Runs, step_of_line, run_of, Passes, Steady, Ran}
use Rattle.lines.proofs.Feeds.{line_whole, line_answered, put_drop}
use Rattle.lines.proofs.Taken.{step_taken}

-- behind a newline nothing of a line is begun
before_later : (begun : Begun) (from : ℕ) → 0 < from → before begun from ≡ upto []
before_later begun from h = ap (λ (t : Bool). pick t (part_of begun) (upto [])) (ne_eqb from 0 (λ z. omega (arith, h, z)))

-- the run that a line begins
by_open : (t : Bool) (o : Bool) (s u : Step) → o ≡ t → pick t (Some s) None ≡ Some u → (o ≡ true) × (s ≡ u)
by_open true o s u q e = (q, cc)
by_open false o s u q e = absurd cc

pub steps_opened : (l : Option Command) (end : ℕ) (h : History) (s : Step) → step_of_line l end h ≡ Some s → (opened h ≡ true) × (s.end ≡ end) × (l ≡ Some (Command.Step s.worker))
steps_opened (Some (Command.Step i)) end h s e =
    let o = by_open (opened h) (opened h) (record { worker = i; end = end }) s refl e in
    (o.0, ap (λ (x : Step). x.end) (sym o.1), ap (λ (x : Step). Some (Command.Step x.worker)) o.1)
steps_opened (Some (Command.Start i o)) end h s e = absurd cc
steps_opened (Some (Command.Open n w v)) end h s e = absurd cc
steps_opened None end h s e = absurd cc

-- a run goes on behind a step
pub steady_on : (chunk out out' : List ℕ) (progress : Result Progress Refusal) (r q : Run) (s : Step) → Steady chunk r → r.step ≡ Some s → Passes progress s r.filled chunk out out' q → Steady chunk q
steady_on chunk out out' progress r q s steady is g =
    let z = g.begins in
    let a = steady.ahead s is in
    record {
      within = omega (arith, z, a.1);
      room = omega (arith, z, a.0, steady.room, g.most);
      ahead = λ t e. let f : Found chunk q.from (Some t) = subst (Found chunk q.from) e g.step in (f.0.onward, f.1);
    }

module _ (begun : Begun) (chunk : List ℕ) where
  module _ (s₀ : Watch) (out₀ : List ℕ) where
    -- a turn, its answer written, and the next place
    pub one_more : (p r : Place) (turn : Result ⊤ Refusal) (s s' : Watch) (out out' : List ℕ) → Runs begun chunk s₀ out₀ p s out → p.end < length chunk → widest * length chunk ≤ length out
        → answered (accepted_text (accepted_of turn)) s' ≡ line_turn p.line s → Goes turn p chunk out out' r → Runs begun chunk s₀ out₀ r s' out'
    one_more p r turn s s' out out' q l k a g =
        let e = p.end in
        let f : p.filled ≤ length out = omega (arith, q.room, q.ends.onward) in
        let z = g.placed.begins in
        let b : upto [] ≡ before begun r.from = sym (before_later begun r.from (omega (arith, z))) in
        let goes = line_answered chunk p.from e q.ends l (before begun p.from) s (answered (accepted_text (accepted_of turn)) s') out out' p.filled r.filled f
        (a ∙ ap (λ (x : Option Command). line_turn x s) q.line) g.put in
        record {
          ends = subst (λ (i : ℕ). Ends chunk i r.end) (sym z) g.placed.ends;
          line =
              g.placed.line ∙ sym (line_whole (between chunk (e + 1) r.end))
              ∙ (λ t. line_at (grown (b t) (between chunk (sym z t) r.end)));
          room = omega (arith, q.room, q.ends.onward, g.most, z);
          same = (λ t. served_of (listing (sym b t) s' (take r.filled out')) (drop (z t) chunk)) ∙ goes ∙ q.same;
          behind = put_drop _ out out' out₀ p.filled r.filled f g.put q.behind;
        }

    -- the line at a place begins a run
    pub run_begins : (p : Place) (s : Watch) (out : List ℕ) → Runs begun chunk s₀ out₀ p s out → Ran begun chunk s₀ out₀ (run_of p s.history) s out
    run_begins p s out q =
        record {
          step = λ t e.
              let o = steps_opened p.line p.end s.history t e in (
                subst (Ends chunk p.from) (sym o.1) q.ends,
                ap (λ (k : ℕ). line_at (grown (before begun p.from) (between chunk p.from k))) o.1 ∙ sym q.line ∙ o.2,
              );
          same = q.same;
          behind = q.behind;
        }

    -- a step of a run, its answer written, and the run behind it
    pub step_more : (h : History) (r q : Run) (t : Step) (progress : Result Progress Refusal) (nodes versions nodes' part out out' : List ℕ) (board board' : List Worker)
        → opened h ≡ true → r.step ≡ Some t → Steady chunk r → widest * length chunk ≤ length out
        → after (progress_of progress) (state nodes' part board') ≡ step_of h.cells h.workers t.worker (state nodes (take (words_of h.versions) versions) board)
        → Passes progress t r.filled chunk out out' q → Ran begun chunk s₀ out₀ r (watch h nodes versions board) out
        → Ran begun chunk s₀ out₀ q (watch h nodes' (part ++ drop (words_of h.versions) versions) board') out'
    step_more h r q t progress nodes versions nodes' part out out' board board' under is steady k a g ran =
        let e = t.end in
        let s = watch h nodes versions board in
        let s' = watch h nodes' (part ++ drop (words_of h.versions) versions) board' in
        let at = ran.step t is in
        let f : r.filled ≤ length out = omega (arith, steady.room, steady.within, k) in
        let z = g.begins in
        let b : upto [] ≡ before begun q.from = sym (before_later begun q.from (omega (arith, z))) in
        let goes = line_answered chunk r.from e at.0 (steady.ahead t is).1 (before begun r.from) s (answered (course_text (progress_of progress)) s') out out' r.filled q.filled f
        (step_taken h nodes versions board t.worker progress nodes' part board' under a ∙ ap (λ (x : Option Command). line_turn x s) (sym at.1)) g.put in
        record {
          step = λ u more.
              let found : Found chunk q.from (Some u) = subst (Found chunk q.from) more g.step in
              (found.0, ap (λ (x : Part). line_at (grown x (between chunk q.from u.end))) (sym b) ∙ line_whole (between chunk q.from u.end) ∙ found.2);
          same = (λ t. served_of (listing (sym b t) s' (take q.filled out')) (drop (z t) chunk)) ∙ goes ∙ ran.same;
          behind = put_drop _ out out' out₀ r.filled q.filled f g.put ran.behind;
        }

    -- the place behind a run
    pub runs_behind : (r : Run) (p : Place) (s : Watch) (out : List ℕ) → Ran begun chunk s₀ out₀ r s out → Steady chunk r → 0 < r.from → Placed chunk r.from r.filled p → Runs begun chunk s₀ out₀ p s out
    runs_behind r p s out ran steady later at =
        let z = at.begins in
        let b : upto [] ≡ before begun r.from = sym (before_later begun r.from later) in
        record {
          ends = subst (λ (i : ℕ). Ends chunk i p.end) (sym z) at.ends;
          line =
              at.line ∙ sym (line_whole (between chunk r.from p.end))
              ∙ (λ t. line_at (grown (b t) (between chunk r.from p.end))) ∙ (λ t. line_at (grown (before begun (sym z t)) (between chunk (sym z t) p.end)));
          room = omega (arith, steady.room, at.filled, z);
          same = (λ t. served_of (listing (before begun (z t)) s (take (at.filled t) out)) (drop (z t) chunk)) ∙ ran.same;
          behind = (λ t. drop (at.filled t) out) ∙ ran.behind ∙ (λ t. drop (sym at.filled t) out₀);
        }
