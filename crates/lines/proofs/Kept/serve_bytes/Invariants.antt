-- What the loop of `serve_bytes` keeps: the lines before the place are served, and the buffer is as long as it was.
-- Each turn goes on behind a line, so the loop ends.
use Rattle.std.proofs.Common.{◌≡◌, ◌-◌, length}
use Rattle.lines.specs.Places.{Runs}
use Rattle.lines.proofs.Kept.serve_bytes.Given as goal

abbrev pub invariant-loop-p : goal.invariant-loop-p
invariant-loop-p l = Runs l.fn.self.begun l.chunk l.initial.watch l.initial.out l.p l.watch l.out × (length l.out ≡ length l.initial.out)

abbrev pub decreases-loop-p : goal.decreases-loop-p
decreases-loop-p l = length l.chunk - l.p.from
