use Rattle.std.proofs.Common.{◌≡◌, ◌+◌, ◌≤◌, drop, length}
use Rattle.annbuild_words.specs.Words.{files_of}
use Rattle.annbuild_words.specs.Parts.{items_of}
use Rattle.annbuild_words.proofs.given.count_files.Given as goal

abbrev pub invariant-loop-part : goal.invariant-loop-part
invariant-loop-part l = record {
  so_far : l.count + length (files_of (items_of (drop l.part-index l.parts))) ≡ length (files_of (items_of l.parts));
  bound : l.count ≤ l.part-index;
}
