-- `board::Board::cache_at` meets its contract.
use borrow.Author.Rules.{rules}
use Rattle.board.proofs.Geometry.{cache_at_flat, cache_at_lt, cache_words_small}
use Rattle.board.proofs.Board.cache_at.Goals as goal

pub returns-clause-within : goal.returns-clause-within
returns-clause-within c =
    let flat = cache_at_flat _ c.requires.0 c.args.colour c.args.offset in
    let end = cache_at_lt _ c.requires.0 _ _ c.requires.1 c.requires.2 in
    let small = cache_words_small _ c.requires.0 in search rules
