use Rattle.std.proofs.Common.{◌≡◌, ◌-◌, ◌≤◌, ◌++◌, length, take, IfSome, Some}
use Rattle.ann_shelf.specs.Written.{OnlyWritten}
use Rattle.ann_shelf.proofs.whole.write_all.Given as goal

abbrev pub invariant-loop-written : goal.invariant-loop-written
invariant-loop-written g l = record {
  within : l.written ≤ length l.bytes;
  text : IfSome (g.O.Out.got l.fn.out).written (λ text. (g.O.Out.got l.out).written ≡ Some (text ++ take l.written l.bytes));
  only : OnlyWritten (g.O.Out.got l.fn.out) (g.O.Out.got l.out) ⊥ ⊥;
}

abbrev pub decreases-loop-written : goal.decreases-loop-written
decreases-loop-written g l = length l.bytes - l.written
