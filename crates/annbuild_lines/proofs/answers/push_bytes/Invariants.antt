use Rattle.std.proofs.Common.{◌≡◌, ◌+◌, ◌++◌, take, vec_len}
use Rattle.std.specs.Vec.{vec_capacity}
use Rattle.annbuild_lines.proofs.answers.push_bytes.Given as goal

abbrev pub invariant-loop-byte : goal.invariant-loop-byte
invariant-loop-byte l = record {
  items : l.buffer.items ≡ l.fn.buffer.items ++ take l.byte-index l.bytes;
  len : vec_len l.buffer ≡ vec_len l.fn.buffer + l.byte-index;
  capacity : vec_capacity l.buffer ≡ vec_capacity l.fn.buffer;
}
