use Rattle.std.proofs.Common.{◌≡◌, ◌%◌, ◌<◌, ℕ, take, eqb, get_or, length}
use Rattle.std.specs.List.{IsDistinct}
use Rattle.graph_files.proofs.shown_row.are_apart.Given as goal

abbrev pub invariant-loop-i : goal.invariant-loop-i
invariant-loop-i l = record {
  distinct : IsDistinct eqb (take l.i l.ids);
  marked : (k : ℕ) → k < l.i → get_or l.marks (get_or l.ids k 0 % 4096) 0 ≡ l.own;
  marks : length l.marks ≡ 4096;
}
