use Rattle.std.proofs.Common.{◌∙◌, ap}
use Rattle.annbuild_words.specs.Words.{is_bare}
use Rattle.annbuild_words.proofs.Items.{taken_after}
use Rattle.annbuild_words.proofs.item.follows_bare.Goals as goal

pub returns : goal.returns
returns c = c.takes_next.ensures ∙ ap is_bare c.as_str.ensures.value ∙ taken_after c.args.words.now c.args.i c.index-words-i.result c.if-i-eq0.false c.requires c.index-words-i.is
