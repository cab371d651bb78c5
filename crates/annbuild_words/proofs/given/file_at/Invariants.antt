use Rattle.std.proofs.Common.{◌≡◌, drop}
use Rattle.std.specs.List.{slice_get}
use Rattle.annbuild_words.specs.Words.{files_of}
use Rattle.annbuild_words.specs.Parts.{items_of}
use Rattle.annbuild_words.proofs.given.file_at.Given as goal

abbrev pub invariant-loop-part : goal.invariant-loop-part
invariant-loop-part l = slice_get (files_of (items_of (drop l.part-index l.parts))) l.left ≡ slice_get (files_of (items_of l.parts)) l.number
