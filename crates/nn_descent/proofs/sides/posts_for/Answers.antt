use Rattle.std.proofs.Common.{rules, length}
use Rattle.std.proofs.lemmas.Result.{IfOk-weaker}
use Rattle.steal_pool.specs.Work.{AllServe}
use Rattle.nn_descent.specs.Sides.{ServesSides}
use Rattle.nn_descent.proofs.sides.posts_for.Goals as goal

pub returns-clause-serve : goal.returns-clause-serve
returns-clause-serve c =
    IfOk-weaker c.posts_of.result _ (λ v. AllServe (ServesSides (length c.args.points.now.vectors)) v.items) (λ v all k d lt. let made = all k d lt in record { sources = search rules; cands = search rules; marks = search rules; up_to = search rules }) c.posts_of.ensures.serve
