use Rattle.sha2.specs.Hashers.{Holds256}
use Rattle.std.proofs.Common.{◌≡◌, length}
use Rattle.points_digest.proofs.Fed.{fed}
use Rattle.points_digest.proofs.digest.digest_of.Given as goal

abbrev pub invariant-loop-id : goal.invariant-loop-id
invariant-loop-id l = record {
  holds : Holds256 l.hasher (fed l.fn.points.element l.fn.points.vectors l.id);
  wide : length l.room ≡ 2048;
}
