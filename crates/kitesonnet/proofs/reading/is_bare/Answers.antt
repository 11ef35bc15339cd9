-- `kitesonnet::reading::is_bare` meets its contract: its closure is the test that `all_zero` makes of each word.
-- Assumes nothing.
use Rattle.std.proofs.Common.{rules, tests, arith, ap, ◌∙◌, length-drop}
use Rattle.std.specs.Prelude.{ℕ, ◌-◌, eqb, take, drop}
use Rattle.std.proofs.lemmas.List.{take_all}
use Rattle.std.proofs.lemmas.Iterator.{YieldsList-from_slice}
use Rattle.std.proofs.lemmas.Iterator.Search.{all_from_yields_List}
use Rattle.kitesonnet.specs.Reading.{all_zero}
use Rattle.kitesonnet.specs.Seats.{record_words}
use Rattle.kitesonnet.proofs.reading.is_bare.Goals as goal

pub returns : goal.returns
unfolding all_zero
returns c =
    let rest = drop c.args.from c.args.words.now in
    all_from_yields_List (λ (word : ℕ). eqb word 0) _ _ _ c.all.ensures.ran (YieldsList-from_slice (take (record_words - c.args.from) rest) cc) (λ x b q k. search (rules, tests))
    ∙ ap all_zero (take_all (record_words - c.args.from) rest (omega (arith, length-drop c.args.from c.args.words.now, c.told-words)))
