use Rattle.std.proofs.Common.{◌≡◌, take}
use Rattle.arrayvec.specs.ArrayVec.{array_vec_len}
use Rattle.annbuild_words.specs.Words.{items}
use Rattle.annbuild_words.specs.Parts.{texts, items_of}
use Rattle.annbuild_words.proofs.item.cut.Given as goal

abbrev pub invariant-loop-i : goal.invariant-loop-i
invariant-loop-i l = record {
  so_far : items_of l.parts.items ≡ take l.i (items (texts l.words));
  len : array_vec_len l.parts ≡ l.i;
}
