use Rattle.std.proofs.Common.{◌≡◌, ◌++◌, take}
use Rattle.batch_insert.specs.Proposed.{pairs_of}
use Rattle.batch_insert.proofs.propose.propose_row.Given as goal

abbrev pub invariant-loop-t : goal.invariant-loop-t
invariant-loop-t l = record {
  pairs : l.proposals.pairs ≡ l.fn.proposals.pairs ++ pairs_of l.p (take l.t-index l.row);
  grouped : l.proposals.grouped ≡ l.fn.proposals.grouped;
  room : l.proposals.room ≡ l.fn.proposals.room;
}
