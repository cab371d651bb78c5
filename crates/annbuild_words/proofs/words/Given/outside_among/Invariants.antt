use Rattle.std.proofs.Common.{◌≡◌, drop}
use Rattle.std.specs.List.{slice_get, filter_map}
use Rattle.annbuild_words.specs.Parts.{items_of}
use Rattle.annbuild_words.specs.Rules.{outside_option}
use Rattle.annbuild_words.proofs.words.Given.outside_among.Given as goal

abbrev pub invariant-loop-option : goal.invariant-loop-option
invariant-loop-option l =
    slice_get (filter_map (outside_option l.self.verb l.self.kind (items_of l.self.parts.now)) (drop l.option-index l.options)) 0
    ≡ slice_get (filter_map (outside_option l.self.verb l.self.kind (items_of l.self.parts.now)) l.options) 0
