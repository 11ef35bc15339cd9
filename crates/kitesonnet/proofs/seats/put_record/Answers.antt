-- `kitesonnet::seats::put_record` meets its contract. The words passed are written.
-- Assumes nothing.
use mathlib.Core.Path.{◌≡◌, sym, ap, ◌∙◌}
use Prim.Native.Nat.{◌+◌, ◌*◌}
use native.Mathlib.Numerals.{add-one}
use native.Mathlib.Omega.{arith}
use lib.ListN.{get_or, set, length-set}
use lib.Seq.{paste, paste-zero, paste-suc}
use borrow.Author.Rules.{rules}
use Rattle.kitesonnet.specs.Seats.{record_words}
use Rattle.kitesonnet.proofs.seats.put_record.Goals as goal

pub loop-k-init : goal.loop-k-init
loop-k-init c = (search rules, search rules, paste-zero c.args.board.now (record_words * c.args.i) c.words_of-words.result)

pub loop-k-preserved : goal.loop-k-preserved
loop-k-preserved c =
    let at = record_words * c.args.i in let k = c.loop-k.k in let words = c.words_of-words.result in (
      search rules,
      simp length-set c.loop-k.invariant.1,
      ap (λ t. set t (at + k) (get_or words k 0)) c.loop-k.invariant.2
          ∙ paste-suc c.args.board.now at words k 0 (omega (arith, c.requires)) (omega (arith, c.loop-k.invariant.0))
          ∙ ap (λ j. paste c.args.board.now at words j) (sym (add-one k)),
    )

pub returns : goal.returns
returns c =
    let e : c.loop-k.k ≡ record_words = omega arith in
    c.loop-k.invariant.2 ∙ ap (λ j. paste c.args.board.now (record_words * c.args.i) c.words_of-words.result j) e
    ∙ ap (λ t. paste c.args.board.now (record_words * c.args.i) t record_words) c.words_of-words.ensures
