-- A level that fits is converted: the conversion answers its energy and no refusal.
-- Assumes nothing.
use Rattle.std.specs.Prelude.{◌≡◌, true, ◌&&◌, ℕ, ltb, leb, Result, Ok, Err}
use Rattle.std.proofs.Common.{ap, ◌∙◌, subst, leb-true}
use Rattle.decibel.specs.declared.Level.{Level}
use Rattle.decibel.specs.declared.Energy.{Energy}
use Rattle.decibel.specs.declared.TooLoud.{TooLoud}
use Rattle.decibel.specs.Told.{gives}
use Rattle.decibel.specs.Energy.{energy_of}
use Rattle.decibel.specs.Conversion.{loudest, convert_of}
use Rattle.decibel.specs.Answer.{told_of}
use Rattle.decibel.proofs.Laws.{converts}
use Rattle.trie.specs.declared.Update.{Update}
use Rattle.trie.specs.Record.{update_fits}
use Rattle.trie.proofs.SizeLaws.{and_second}

same_energy : (a b : Energy) → a.0 ≡ b.0 → ◌≡◌ {A = Result Energy TooLoud} (Ok a) (Ok b)
same_energy a b e = ap (λ (x : ℕ). Ok (record { 0 = x })) e

told_gives : (answer : Result Energy TooLoud) (t : ℕ) → told_of answer ≡ gives t → answer ≡ Ok (record { 0 = t })
told_gives (Ok energy) t e = let same : energy.0 ≡ t = cc in same_energy energy (record { 0 = t }) same
told_gives (Err loud) t e = cc

pub converted : (n : ℕ) (u : Update) (k : ℕ) (level : Level) (answer : Result Energy TooLoud) → update_fits n u ≡ true → u ≡ Update.Insert k level → told_of answer ≡ convert_of level.0
    → answer ≡ Ok (record { 0 = energy_of level.0 })
converted n u k level answer fits is told =
    let f : (ltb k n && leb level.0 loudest) ≡ true = subst (λ (x : Update). update_fits n x ≡ true) is fits in
    told_gives answer (energy_of level.0) (told ∙ converts level.0 (leb-true level.0 loudest (and_second (ltb k n) (leb level.0 loudest) f)))
