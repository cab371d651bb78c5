use Rattle.std.proofs.Common.{◌<◌, ℕ, sym, subst}
use Rattle.std.specs.List.{All}
use Rattle.part_tests.proofs.Later.{no_marks, gathered_are}
use Rattle.part_tests.proofs.settled.row_among.Goals as goal

pub gather-len-requires-clause-later : goal.gather-len-requires-clause-later
gather-len-requires-clause-later c = no_marks 40

pub prune-requires-clause-cands : goal.prune-requires-clause-cands
prune-requires-clause-cands c =
    let points = c.args.pruning.now.points.now.vectors in
    gathered_are points c.args.ids.now _ (subst (λ n. All (λ (u : ℕ). u < n) c.args.ids.now) (sym c.requires.count) c.requires.ids) c.gather-len.ensures.list
