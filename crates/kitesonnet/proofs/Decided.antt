-- Each call leaves one number, and one state of every row that is lent.
-- Assumes nothing.
use Rattle.std.specs.Prelude.{◌≡◌, List, ℕ}
use Rattle.std.proofs.Common.{sym, ap, ◌∙◌}
use Rattle.kitesonnet.specs.Calls.{lent, Back, Answered, Converted}

module _ (nodes nodes' versions versions' board board' : List ℕ) (number number' : ℕ) where
  -- `kite_open` and `kite_start`: x is `kite_open_of n w s` or `kite_start_of n w i kind first second s`
  pub back_one : (x : Back) → ◌≡◌ {A = Back} (record { number = number; lent = lent nodes versions board }) x → ◌≡◌ {A = Back} (record { number = number'; lent = lent nodes' versions' board' }) x
      → (number ≡ number') × (nodes ≡ nodes') × (versions ≡ versions') × (board ≡ board')
  back_one x p q =
      (ap (λ (b : Back). b.number) (p ∙ sym q), ap (λ (b : Back). b.lent.nodes) (p ∙ sym q), ap (λ (b : Back). b.lent.versions) (p ∙ sym q), ap (λ (b : Back). b.lent.board) (p ∙ sym q))

  -- `kite_step`: x is `kite_step_of n w i s answer`
  pub answered_one : (answer answer' : List ℕ) (x : Answered) → ◌≡◌ {A = Answered} (record { number = number; lent = lent nodes versions board; answer = answer }) x
      → ◌≡◌ {A = Answered} (record { number = number'; lent = lent nodes' versions' board'; answer = answer' }) x
      → (number ≡ number') × (nodes ≡ nodes') × (versions ≡ versions') × (board ≡ board') × (answer ≡ answer')
  answered_one answer answer' x p q = (
    ap (λ (b : Answered). b.number) (p ∙ sym q),
    ap (λ (b : Answered). b.lent.nodes) (p ∙ sym q),
    ap (λ (b : Answered). b.lent.versions) (p ∙ sym q),
    ap (λ (b : Answered). b.lent.board) (p ∙ sym q),
    ap (λ (b : Answered). b.answer) (p ∙ sym q),
  )

-- `kite_energy`: x is `kite_energy_of level answer`
pub converted_one : (number number' : ℕ) (answer answer' : List ℕ) (x : Converted) → ◌≡◌ {A = Converted} (record { number = number; answer = answer }) x
    → ◌≡◌ {A = Converted} (record { number = number'; answer = answer' }) x → (number ≡ number') × (answer ≡ answer')
converted_one number number' answer answer' x p q = (ap (λ (c : Converted). c.number) (p ∙ sym q), ap (λ (c : Converted). c.answer) (p ∙ sym q))
