-- What the loop of `serve_steps` keeps: the run stands where a run may stand, it has not gone back, and it has gone on where the first had a step and it has none;
-- what was served before it is served still; and the buffer is as long as it was. Each step goes on behind its line, so the loop ends.
use Rattle.std.proofs.Common.{◌≡◌, ◌-◌, ◌≤◌, ◌<◌, List, ℕ, None, IsSome, length}
use Rattle.lines.specs.declared.Begun.{Begun}
use Rattle.lines.specs.declared.Watch.{Watch}
use Rattle.lines.specs.Watch.{watch}
use Rattle.lines.specs.Places.{Steady, Ran}
use Rattle.lines.proofs.runs.serve_steps.Given as goal

abbrev pub invariant-loop-run : goal.invariant-loop-run
invariant-loop-run l = Steady l.chunk l.run × (l.fn.first.from ≤ l.run.from) × (IsSome l.fn.first.step → l.run.step ≡ None → l.fn.first.from < l.run.from)
    × ((begun : Begun) (s₀ : Watch) (out₀ : List ℕ)
    → Ran begun l.chunk s₀ out₀ l.fn.first (watch l.fn.h l.initial.nodes l.initial.versions l.initial.board) l.initial.out
    → Ran begun l.chunk s₀ out₀ l.run (watch l.fn.h l.nodes l.versions l.board) l.out)
    × (length l.out ≡ length l.initial.out)

abbrev pub decreases-loop-run : goal.decreases-loop-run
decreases-loop-run l = length l.chunk - l.run.from
