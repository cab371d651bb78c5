use Rattle.std.proofs.Common.{◌≡◌, length}
use Rattle.live_session.specs.Askers.{Stands}
use Rattle.live_session.proofs.asker.Asker.ask_all.Given as goal

abbrev pub invariant-loop-place : goal.invariant-loop-place
invariant-loop-place g l = record {
  stands : Stands l.fn.self.caller.course l.asking l.self;
  at : length l.self.live.answers ≡ l.place;
  size : l.self.live.size ≡ l.fn.self.live.size;
  first : l.self.seat.first ≡ l.fn.self.seat.first;
}
