use Rattle.std.proofs.Common.{rules, length}
use Rattle.std.proofs.lemmas.Result.{IfOk-weaker}
use Rattle.steal_pool.specs.Work.{AllServe}
use Rattle.neighbour_lists.specs.Offering.{ServesRows}
use Rattle.neighbour_lists.proofs.nearest.posts_for.Goals as goal

pub returns-clause-serve : goal.returns-clause-serve
returns-clause-serve c =
    IfOk-weaker c.posts_of.result _ (λ v. AllServe (ServesRows (length c.args.points.now.vectors) c.args.most) v.items) (λ v all k d lt. let made = all k d lt in record { count = search rules; room = search rules }) c.posts_of.ensures.serve
