use Rattle.std.proofs.Common.{◌≡◌, ◌+◌, ◌*◌, ◌<◌, ℕ, List, Ok, get_or, length}
use Rattle.graph_files.specs.Grammar.{word_at}
use Rattle.graph_files.specs.Reading.{AreBytesIn, Shows}
use Rattle.graph_files.proofs.window.Window.words.Given as goal

abbrev pub invariant-loop-i : goal.invariant-loop-i
invariant-loop-i l = record {
  words : (file : List ℕ) → Shows file l.self → (k : ℕ) → k < l.i → word_at file (l.at + 4 * k) ≡ Ok (get_or l.cells k 0);
  bytes : (file : List ℕ) → Shows file l.self → AreBytesIn file l.at (l.at + 4 * l.i);
  count : length l.cells ≡ length l.fn.cells;
}
