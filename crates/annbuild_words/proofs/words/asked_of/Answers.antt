use Rattle.std.proofs.Common.{◌<◌, length, arith, string_bytes}
use Rattle.std.proofs.lemmas.List.{length-map}
use Rattle.annbuild_words.specs.Asked.{kind_said}
use Rattle.annbuild_words.specs.Parts.{texts}
use Rattle.annbuild_words.specs.Words.{items}
use Rattle.annbuild_words.proofs.FewWords.{too_many}
use Rattle.annbuild_words.proofs.words.asked_of.Goals as goal

pub returns-in_default-clause-meaning : goal.returns-in_default-clause-meaning
returns-in_default-clause-meaning c =
    let many : 58 < length c.args.words.now = c.in_default.ensures in
    let long : 58 < length (texts c.args.words.now) = omega (arith, many, length-map c.args.words.now (λ w. string_bytes w)) in
    too_many c.args.verb (kind_said c.args.verb (items (texts c.args.words.now))) (texts c.args.words.now) long
