-- What a call tells, in document 01's own terms: a refusal's number and nothing else, or the values of its answer.
-- Each answer that is an enum has a definition into this type, and the contracts speak through it. Assumes nothing.
use Rattle.std.specs.Prelude.{ℕ}

pub data Told (A : Type 0) : Type 0 where
  refused : ℕ → Told A
  gives : A → Told A
