-- What `?` leaves a call with: the error goes out as the refusal that it is turned into.
-- Assumes nothing.
use Rattle.std.specs.Prelude.{◌≡◌, Result}
use Rattle.std.specs.Result.{IsErrAnd}
use Rattle.std.proofs.Common.{ap, ◌∙◌}
use Rattle.std.proofs.lemmas.Result.{err_from_is_err_and}
use Rattle.trie.specs.declared.Refusal.{Refusal}

pub goes_out : {A : Type 0} (refusal : Refusal) (r : Result A Refusal) → IsErrAnd r (λ e. e ≡ refusal) → r ≡ Result.Err refusal
goes_out refusal r h = let e = err_from_is_err_and r h in e.1 ∙ ap Result.Err e.2
