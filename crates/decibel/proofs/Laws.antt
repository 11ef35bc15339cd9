-- What crates above may use of an energy: it keeps document 01's rule, nothing else does, and it is at most 10 ^ 9.
-- Assumes nothing.
use Rattle.std.specs.Prelude.{◌≡◌, refl, Bool, true, false, ℕ, zero, suc, ◌+◌, ◌^◌, ◌≤◌, ◌<◌, leb, Result, Ok, Err}
use Rattle.std.proofs.Common.{sym, ap, ◌∙◌, subst, pow-suc, lt_of_not-le, not-le_of_lt, le_trans, lt_of_le_of_lt, le_of_suc-le-suc, zero-lt-suc, le_antisymm, arith, leb-true, leb-false, le-leb, lit<}
use Rattle.std.proofs.Math.Nat.{pow-le-pow_left, pow-le-pow_right}
use Rattle.std.proofs.lemmas.Bool.{lt-leb}
use Rattle.decibel.specs.Told.{refused, gives}
use Rattle.decibel.specs.Energy.{Rule, grown, tenth_root, energy_of}
use Rattle.decibel.specs.Conversion.{loudest, convert_of}
use Rattle.decibel.specs.Answer.{told_of}
use Rattle.decibel.specs.declared.Energy.{Energy}
use Rattle.decibel.specs.declared.TooLoud.{TooLoud}

-- t is the whole part of n's tenth root
pub record Root (n t : ℕ) : Type 0 where
  pub low : t ^ 10 ≤ n
  pub high : n < (t + 1) ^ 10

root_of : (d n t : ℕ) → t ^ 10 ≤ n → n < (t + 2 ^ d) ^ 10 → Root n (tenth_root d n t)
unfolding tenth_root
root_of zero n t low high = record { low = low; high = high }
root_of (suc d) n t low high = by (leb ((t + 2 ^ d) ^ 10) n) refl (λ s. root_of d n s)
  where
    half : t + 2 ^ suc d ≡ t + 2 ^ d + 2 ^ d
    half = omega (arith, pow-suc 2 d)

    by : (test : Bool) → leb ((t + 2 ^ d) ^ 10) n ≡ test → ((s : ℕ) → s ^ 10 ≤ n → n < (s + 2 ^ d) ^ 10 → Root n (tenth_root d n s)) → Root n (tenth_root d n (grown test (t + 2 ^ d) t))
    by true e next = next (t + 2 ^ d) (leb-true _ _ e) (subst (λ (m : ℕ). n < m ^ 10) half high)
    by false e next = next t low (leb-false _ _ e)

at_most : {a b : ℕ} → a ≤ b → a ^ 10 ≤ b ^ 10
at_most {a} {b} h = pow-le-pow_left {n = a} {m = b} h 10

-- a whole number that keeps within n is at most n's tenth root
below_root : {n t : ℕ} → Root n t → (s : ℕ) → s ^ 10 ≤ n → s ≤ t
below_root {n} {t} r s h = le_of_suc-le-suc (lt_of_not-le (λ (g : suc t ≤ s). not-le_of_lt r.high (le_trans (at_most {a = t + 1} {b = s} (omega arith)) h)))

power_at_most : (level : ℕ) → level ≤ loudest → 10 ^ (level + 30) ≤ 10 ^ 90
power_at_most level h = let top : level + 30 ≤ 90 = omega arith in pow-le-pow_right (zero-lt-suc 9) top

pub energy_root : (level : ℕ) → level ≤ loudest → Root (10 ^ (level + 30)) (energy_of level)
unfolding energy_of
energy_root level h = root_of 30 (10 ^ (level + 30)) 0 (omega arith) (lt_of_le_of_lt (power_at_most level h) (lit< tt))

pub energy_rule : (level : ℕ) → level ≤ loudest → Rule level (energy_of level)
energy_rule level h = record { within = (energy_root level h).low; largest = below_root (energy_root level h) }

pub rule_only : (level t : ℕ) → level ≤ loudest → Rule level t → t ≡ energy_of level
rule_only level t h r = le_antisymm ((energy_rule level h).largest t r.within) (r.largest (energy_of level) (energy_rule level h).within)

pub root_only : (level t : ℕ) → level ≤ loudest → Root (10 ^ (level + 30)) t → t ≡ energy_of level
root_only level t h r = rule_only level t h (record { within = r.low; largest = below_root r })

pub energy_at_most : (level : ℕ) → level ≤ loudest → energy_of level ≤ 1000000000
energy_at_most level h = le_of_suc-le-suc (lt_of_not-le (λ (g : suc 1000000000 ≤ energy_of level).
    not-le_of_lt over (le_trans (at_most g) (le_trans (energy_root level h).low (power_at_most level h)))))
  where
    over : 10 ^ 90 < suc 1000000000 ^ 10
    over = lit< tt

pub converts : (level : ℕ) → level ≤ loudest → convert_of level ≡ gives (energy_of level)
unfolding convert_of
converts level h = rw (le-leb level loudest h)

pub refuses : (level : ℕ) → loudest < level → convert_of level ≡ refused 7
unfolding convert_of
refuses level h = rw (lt-leb level loudest h)

-- an answer is known by what it tells: the contract leaves one answer for each level
pub told_one : (a b : Result Energy TooLoud) → told_of a ≡ told_of b → a ≡ b
told_one (Err l) (Err m) e = refl
told_one (Err l) (Ok y) e = absurd (let z : ◌≡◌ {A = ℕ} 0 1 = cc in omega arith)
told_one (Ok x) (Err m) e = absurd (let z : ◌≡◌ {A = ℕ} 0 1 = cc in omega arith)
told_one (Ok x) (Ok y) e = let z : x.0 ≡ y.0 = cc in ap (λ (n : ℕ). Ok (record { 0 = n })) z

pub convert_decided : (level : ℕ) (a b : Result Energy TooLoud) → told_of a ≡ convert_of level → told_of b ≡ convert_of level → a ≡ b
convert_decided level a b p q = told_one a b (p ∙ sym q)
