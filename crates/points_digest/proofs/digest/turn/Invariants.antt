use Rattle.std.proofs.Common.{◌≡◌, ℕ, ◌+◌, ◌%◌, ◌<◌, ◌≤◌, length, get_or}
use Rattle.points_digest.proofs.digest.turn.Given as goal

abbrev pub invariant-loop-byte : goal.invariant-loop-byte
invariant-loop-byte l = record {
  long : length l.bytes ≡ length l.fn.bytes;
  front : (k : ℕ) → k < l.byte-index → get_or l.bytes k 0 ≡ (get_or l.fn.bytes k 0 + 128) % 256;
  rest : (k : ℕ) → l.byte-index ≤ k → get_or l.bytes k 0 ≡ get_or l.fn.bytes k 0;
}
