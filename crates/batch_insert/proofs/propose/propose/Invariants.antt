use Rattle.std.proofs.Common.{◌≡◌, ◌≤◌, ◌*◌, take, length, false}
use Rattle.batch_insert.specs.Proposed.{proposed}
use Rattle.batch_insert.proofs.propose.propose.Given as goal

abbrev pub invariant-loop-i : goal.invariant-loop-i
invariant-loop-i g l = record {
  pairs : l.proposals.pairs ≡ proposed (g.F.Rows.row_of l.batch.fresh.now) (take l.i l.batch.ids.now);
  count : length l.proposals.pairs ≤ l.i * l.degree;
  grouped : l.proposals.grouped ≡ false;
  room : l.proposals.room ≡ length l.batch.ids.now * l.degree;
}
