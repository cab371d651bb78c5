use Rattle.std.proofs.Common.{◌≡◌, ◌+◌, ◌++◌, take}
use Rattle.arrayvec.specs.ArrayVec.{array_vec_len}
use Rattle.annbuild_lines.proofs.line.push_text.Given as goal

abbrev pub invariant-loop-byte : goal.invariant-loop-byte
invariant-loop-byte l = record {
  so_far : l.line.items ≡ l.fn.line.items ++ take l.byte-index l.byte-items;
  len : array_vec_len l.line ≡ array_vec_len l.fn.line + l.byte-index;
}
