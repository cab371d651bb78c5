use Rattle.std.proofs.Common.{◌+◌, ap, arith, length, ◌∙◌, ◌≤◌}
use Rattle.std.proofs.lemmas.Slice.{between_to_end}
use Rattle.std.specs.List.{between}
use Rattle.annbuild_words.specs.Words.{item}
use Rattle.annbuild_words.specs.Parts.{texts, item_of}
use Rattle.annbuild_words.proofs.Items.{item_here}
use Rattle.annbuild_words.proofs.item.part_at.Goals as goal

pub returns : goal.returns
returns c =
    let n = length c.args.words.now in
    let rest = between (c.args.i + 1) n c.args.words.now in
    let whole : n ≤ n = omega arith in
    item_here c.args.words.now c.args.i c.index-words-i.result rest c.follows_bare.result (item_of c.between.result) c.requires c.index-words-i.is
    (between_to_end c.args.words.now (c.args.i + 1) n whole) c.follows_bare.ensures
    (c.between.ensures ∙ ap (λ w. item c.follows_bare.result w (texts rest)) c.as_str.ensures.value)
