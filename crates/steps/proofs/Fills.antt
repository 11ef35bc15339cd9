-- One more word filled: the loop of `fill` sets word i when those below it are set.
-- Assumes nothing.
use Rattle.std.specs.Prelude.{◌≡◌, List, ℕ, ◌+◌, set}
use Rattle.std.proofs.Common.{sym, ap, ◌∙◌, add-one}
use Rattle.trie.specs.Opening.{filled}

pub filled_next : (f : ℕ → ℕ) (i x : ℕ) (row all : List ℕ) → all ≡ filled f i row → x ≡ f i → set all i x ≡ filled f (i + 1) row
unfolding filled
filled_next f i x row all e q = (λ t. set (e t) i (q t)) ∙ ap (λ (k : ℕ). filled f k row) (sym (add-one i))
