-- What the loop of `fill` keeps: the words below i are filled.
-- Assumes nothing.
use Rattle.std.proofs.Common.{◌≡◌, ◌<◌, ℕ}
use Rattle.trie.specs.Opening.{filled}
use Rattle.steps.proofs.opening.fill.Given as goal

abbrev pub invariant-loop-i : goal.invariant-loop-i
invariant-loop-i g l =
    (f : ℕ → ℕ) → ((i x : ℕ) → i < l.end → goal.F-post g l.first i x → x ≡ f i) → l.table ≡ filled f l.i l.fn.table
