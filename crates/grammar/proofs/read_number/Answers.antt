-- `grammar::read_number` meets its contract. The digits so far and the bytes that are left come to the same number.
-- Assumes nothing.
use Rattle.std.proofs.Common.{arith, ◌≡◌, ◌∙◌, refl, sym, ap, option_map, ℕ, ◌+◌, ◌-◌, ◌≤◌, Bool, true, false, ltb, List, length, Bor}
use Rattle.std.specs.Bool.{then_some}
use borrow.Author.Tests.{ltb-true, ltb-false}
use Rattle.grammar.proofs.Digits.{digit_small, digits_over, digits_on, digits_stop, digits_done, ten, small, within, none_read}
use Rattle.grammar.specs.Grammar.{number_of, digits, ended, most_digits}
use Rattle.grammar.proofs.read_number.Goals.{in-Some+in_default-digit, in_default}
use Rattle.grammar.proofs.read_number.Goals as goal

pub loop-byte-init : goal.loop-byte-init
unfolding number_of
loop-byte-init c =
    let none : length c.args.s.now - length c.args.s.now ≡ 0 = omega arith in
    record { within = omega arith; few = omega arith; held = simp none (omega arith); same = simp none }

pub returns-then-s-rest-eq-MOST_DIGITS : goal.returns-then-s-rest-eq-MOST_DIGITS
returns-then-s-rest-eq-MOST_DIGITS c =
    sym (digits_over (most_digits + 1) _ _ (omega arith))
    ∙ sym (digits_on _ (most_digits + 1) _ c.in-Some.byte.now _ (omega arith) _ _ c.in-Some.ensures.cases.0 (sym c.digit.ensures ∙ c.in-Some-digit.is))
    ∙ c.loop-byte.invariant.same

pub overflow_mul-value : goal.overflow_mul-value
overflow_mul-value c = omega (arith, small (length c.args.s.now - length c.loop-byte.rest.now) (omega arith))

pub overflow_add-value : goal.overflow_add-value
overflow_add-value c =
    omega (arith, small (length c.args.s.now - length c.loop-byte.rest.now) (omega arith), digit_small c.in-Some.byte.now _ (sym c.digit.ensures ∙ c.in-Some-digit.is))

pub loop-byte-preserved : goal.loop-byte-preserved
loop-byte-preserved c =
    let loop = c.loop-byte in
    let byte = c.in-Some in
    let read = sym c.digit.ensures ∙ c.in-Some-digit.is in
    let whole = length c.args.s.now in
    let next : (whole - length loop.rest.now) + 1 ≡ whole - length byte.tail.now = omega (arith, byte.ensures.cases.1) in
    record {
      within = omega (arith, byte.ensures.cases.1);
      few = omega arith;
      held = ten _ _ _ 0 _ next loop.invariant.held (digit_small c.in-Some.byte.now _ read);
      same = sym (digits_on _ _ _ byte.byte.now _ next _ _ byte.ensures.cases.0 read) ∙ loop.invariant.same;
    }

-- a number was read where some digits were
told : (s : List ℕ) (v : ℕ) (rest : Bor (List ℕ)) → length s - length rest.now ≤ most_digits
    → option_map (λ number. (number.0, number.1.now)) (then_some {T = ℕ × Bor (List ℕ)} (ltb (length rest.now) (length s)) (v, rest)) ≡ ended (length s - length rest.now) v rest.now
told s v rest few = by (ltb (length rest.now) (length s)) refl
  where
    by : (t : Bool) → ltb (length rest.now) (length s) ≡ t → option_map (λ number. (number.0, number.1.now)) (then_some {T = ℕ × Bor (List ℕ)} t (v, rest)) ≡ ended (length s - length rest.now) v rest.now
    by true e = sym (within _ v rest.now (omega (arith, ltb-true (length rest.now) (length s) e)) few)
    by false e = let none : length s - length rest.now ≡ 0 = omega (arith, ltb-false (length rest.now) (length s) e) in rw none (sym (none_read v rest.now))

pub returns : goal.returns
returns c =
    let loop = c.loop-byte in
    let whole = length c.args.s.now in
    let ends : digits (whole - length loop.rest.now) loop.value loop.rest.now ≡ ended (whole - length loop.rest.now) loop.value loop.rest.now =
    elim c.match-split_first.branch [
      | in-Some+in_default-digit w ↦ digits_stop _ _ _ _ _ w.in-Some.ensures.cases.0 (sym w.digit.ensures ∙ w.in_default-digit.is)
      | in_default w ↦ digits_done _ _ _ w.in_default.ensures.cases
    ] in
    ap (option_map (λ number. (number.0, number.1.now))) c.then_some.ensures ∙ told c.args.s.now loop.value loop.rest loop.invariant.few ∙ sym ends ∙ loop.invariant.same
