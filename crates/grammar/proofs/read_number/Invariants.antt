-- The digits so far and the bytes that are left come to the same number.
-- Assumes nothing.
use Rattle.std.proofs.Common.{length, ◌-◌, ◌≡◌, ◌≤◌, ◌<◌, ◌^◌}
use Rattle.grammar.specs.Grammar.{digits, number_of, most_digits}
use Rattle.grammar.proofs.read_number.Given as goal

abbrev pub invariant-loop-byte : goal.invariant-loop-byte
invariant-loop-byte l = record {
  within : length l.rest ≤ length l.s;
  few : length l.s - length l.rest ≤ most_digits;
  held : l.value < 10 ^ (length l.s - length l.rest);
  same : digits (length l.s - length l.rest) l.value l.rest ≡ number_of l.s;
}

abbrev pub decreases-loop-byte : goal.decreases-loop-byte
decreases-loop-byte l = length l.rest
