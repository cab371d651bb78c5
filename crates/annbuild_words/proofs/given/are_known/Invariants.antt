use Rattle.std.proofs.Common.{◌≡◌, drop}
use Rattle.std.specs.List.{list_all}
use Rattle.annbuild_words.specs.Rules.{is_known}
use Rattle.annbuild_words.specs.Parts.{items_of}
use Rattle.annbuild_words.proofs.given.are_known.Given as goal

abbrev pub invariant-loop-part : goal.invariant-loop-part
invariant-loop-part l = list_all is_known (items_of (drop l.part-index l.parts)) ≡ list_all is_known (items_of l.parts)
