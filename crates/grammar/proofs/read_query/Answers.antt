-- `grammar::read_query` meets its contract: each of the readings is tried where those before it give nothing.
-- Assumes nothing.
use Rattle.std.proofs.Common.{rules, ◌≡◌, Option, option_map, codes}
use Rattle.trie.specs.declared.Query.{Query}
use Rattle.grammar.specs.Grammar.{◌<|>◌, argument_of}
use Rattle.grammar.proofs.read_query.Goals as goal

pub returns : goal.returns
returns c =
    let s = c.args.s.now in
    let find : Option Query = option_map Query.Find (argument_of (codes " find ") s) in
    let select : Option Query = option_map Query.Select (argument_of (codes " select ") s) in
    let rank : Option Query = option_map Query.Rank (argument_of (codes " rank ") s) in
    let first : c.or_else.result ≡ (find <|> select) = search rules in
    let second : c.or_else-2.result ≡ (find <|> select <|> rank) = search rules in
    search rules
