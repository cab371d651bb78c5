use Rattle.seeded_order.proofs.WordLaws.{jumped}
use Rattle.seeded_order.proofs.words.words_from.Goals as goal

pub returns : goal.returns
returns c =
    jumped c.args.seed c.args.stream c.args.i c.from.result c.from-2.result c.from-3.result c.new-words.result c.advance.new.self c.from.ensures c.from-2.ensures c.from-3.ensures c.new-words.ensures c.advance.ensures
