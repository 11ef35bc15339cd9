-- A step of the run is the board's step on the words of V versions; its answer is written, and the run goes on behind its line.
-- Assumes nothing.
use Rattle.std.proofs.Common.{◌≡◌, ◌∙◌, ◌++◌, ℕ, Some, sym, ap, subst, arith, take, drop}
use Rattle.trie.specs.Calls.{state, step_of}
use Rattle.lines.specs.Watch.{watch}
use Rattle.lines.specs.Places.{Ran}
use Rattle.lines.proofs.RunLaws.{steady_on, step_more}
use Rattle.lines.proofs.runs.serve_steps.Goals as goal

pub loop-run-preserved : goal.loop-run-preserved
loop-run-preserved c =
    let kept = c.loop-run.invariant in
    let r = c.loop-run.run in
    let next = c.pass_step-run.result in
    let versions = c.loop-run.versions in
    let step = c.in-Some.step in
    let is : r.step ≡ Some step = c.in-Some.is in
    let ahead = kept.0.ahead step is in
    let begins = c.pass_step-run.ensures.begins in (
      steady_on c.args.chunk.now _ _ _ r next step kept.0 is c.pass_step-run.ensures,
      omega (arith, kept.1, ahead.0, begins),
      (λ _ _. omega (arith, kept.1, ahead.0, begins)),
      (λ begun s₀ out₀ ran.
          subst (λ (k : ℕ). Ran begun c.args.chunk.now s₀ out₀ next (watch c.args.h c.step-progress.new.nodes (c.step-progress.new.versions ++ drop k versions) c.step-progress.new.board) c.pass_step-run.new.out)
          (sym c.words-lent.ensures)
          (step_more begun c.args.chunk.now s₀ out₀ c.args.h r next step c.step-progress.result c.loop-run.nodes versions c.step-progress.new.nodes c.step-progress.new.versions c.loop-run.out c.pass_step-run.new.out
          c.loop-run.board c.step-progress.new.board c.requires.1 is kept.0 (omega (arith, c.requires.0, kept.4))
          (c.step-progress.ensures ∙ ap (λ (k : ℕ). step_of c.args.h.cells c.args.h.workers step.worker (state c.loop-run.nodes (take k versions) c.loop-run.board)) c.words-lent.ensures)
          c.pass_step-run.ensures (kept.3 begun s₀ out₀ ran))),
      omega (arith, kept.4, c.pass_step-run.auto.out),
    )
