-- What is promised may be added up in any grouping, and nothing adds nothing; damage in any part is damage of all.
-- Assumes nothing.
use Rattle.std.specs.Prelude.{◌≡◌, refl, ℕ, Result}
use Rattle.std.proofs.Common.{ap, arith}
use Rattle.trie.specs.declared.Damage.{Damage}
use Rattle.trie.specs.Record.{together}

pub together_nothing : (x : Result ℕ Damage) → together x (Result.Ok 0) ≡ x
together_nothing (Result.Err d) = refl
together_nothing (Result.Ok a) = ap Result.Ok (omega arith)

pub nothing_together : (x : Result ℕ Damage) → together (Result.Ok 0) x ≡ x
nothing_together (Result.Err d) = refl
nothing_together (Result.Ok a) = ap Result.Ok (omega arith)

pub together_both : (x y z : Result ℕ Damage) → together (together x y) z ≡ together x (together y z)
together_both (Result.Err d) y z = refl
together_both (Result.Ok a) (Result.Err d) z = refl
together_both (Result.Ok a) (Result.Ok b) (Result.Err d) = refl
together_both (Result.Ok a) (Result.Ok b) (Result.Ok c) = ap Result.Ok (omega arith)
