use Rattle.std.proofs.Common.{◌≡◌, take, vec_len}
use Rattle.std.specs.Vec.{vec_capacity}
use Rattle.versions.proofs.answer.push_all.Given as goal

abbrev pub invariant-loop-near : goal.invariant-loop-near
invariant-loop-near l = record {
  items : l.pairs.items ≡ take l.near-index l.nears;
  len : vec_len l.pairs ≡ l.near-index;
  room : vec_capacity l.pairs ≡ vec_capacity l.fn.pairs;
}
