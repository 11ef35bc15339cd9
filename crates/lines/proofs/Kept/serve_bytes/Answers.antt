-- A turn of the loop serves a run of steps, or one line that is no step of the history under way; the place behind it is the next.
-- When the lines that end in the chunk are served, the line behind them is kept.
-- Assumes nothing.
use Rattle.std.proofs.Common.{sym, subst, arith, rules}
use Rattle.lines.specs.declared.Run.{Run}
use Rattle.lines.specs.Watch.{watch}
use Rattle.lines.specs.Places.{Ran}
use Rattle.lines.proofs.Outcomes.{closes_all}
use Rattle.lines.proofs.RunLaws.{one_more, run_begins, runs_behind}
use Rattle.lines.proofs.Kept.serve_bytes.Goals as goal

pub loop-p-preserved-then-is_some : goal.loop-p-preserved-then-is_some
loop-p-preserved-then-is_some c =
    let kept = c.loop-p.invariant in
    let p = c.loop-p.p in
    let chunk = c.args.chunk.now in
    let start = c.args.self.now.watch in
    let out = c.args.out.now in
    let served = c.serve_steps-last.ensures in
    let after = c.serve_steps-last.new in
    let begins = run_begins c.args.self.now.begun chunk start out p c.loop-p.watch c.loop-p.out kept.0 in
    let ran = subst (λ (r : Run). Ran c.args.self.now.begun chunk start out r c.loop-p.watch c.loop-p.out) (sym c.first_run-run.ensures) begins in (
      runs_behind c.args.self.now.begun chunk start out c.serve_steps-last.result c.whole_line-p.result (watch c.loop-p.watch.history after.nodes after.versions after.board) after.out
          (served.3 c.args.self.now.begun start out ran) served.0 (omega (arith, served.2 (search rules))) c.whole_line-p.ensures,
      omega (arith, kept.1, c.serve_steps-last.auto.out),
    )

pub loop-p-preserved : goal.loop-p-preserved
loop-p-preserved c =
    let kept = c.loop-p.invariant in (
      one_more c.args.self.now.begun c.args.chunk.now c.args.self.now.watch c.args.out.now c.loop-p.p c.go_on-p.result c.take_turn-turn.result c.loop-p.watch c.take_turn-turn.new.watch c.loop-p.out c.go_on-p.new.out
          kept.0 (omega arith) (omega (arith, c.requires, kept.1)) c.take_turn-turn.ensures c.go_on-p.ensures,
      omega (arith, kept.1, c.go_on-p.auto.out),
    )

pub returns : goal.returns
returns c =
    let kept = c.loop-p.invariant in
    closes_all c.args.self.now.begun c.args.self.now.watch c.args.out.now c.args.chunk.now c.loop-p.p c.loop-p.watch c.loop-p.out c.close-self.result
    kept.0 (omega arith) (omega (arith, c.requires, kept.1)) c.close-self.ensures
