use Rattle.std.proofs.Common.{◌≡◌, ◌+◌, ◌*◌, ◌≤◌, ◌++◌, take, vec_len}
use Rattle.std.specs.List.{flat_map}
use Rattle.std.specs.Vec.{vec_capacity}
use Rattle.annbuild_lines.specs.Lines.{answer_text}
use Rattle.annbuild_lines.proofs.answers.push_answers.Given as goal

abbrev pub invariant-loop-near : goal.invariant-loop-near
invariant-loop-near l = record {
  items : l.buffer.items ≡ l.fn.buffer.items ++ flat_map answer_text (take l.near-index l.answers);
  len : vec_len l.buffer ≤ vec_len l.fn.buffer + 22 * l.near-index;
  capacity : vec_capacity l.buffer ≡ vec_capacity l.fn.buffer;
}
