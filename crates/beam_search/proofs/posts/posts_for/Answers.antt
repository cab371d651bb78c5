use Rattle.std.proofs.Common.{rules, length}
use Rattle.std.proofs.lemmas.Result.{IfOk-weaker}
use Rattle.steal_pool.specs.Work.{AllServe}
use Rattle.beam_search.specs.Serving.{Serves}
use Rattle.beam_search.proofs.posts.posts_for.Goals as goal

pub returns-clause-serve : goal.returns-clause-serve
returns-clause-serve c = IfOk-weaker c.posts_of.result _ (λ v. AllServe (Serves (length c.args.points.now.vectors) c.args.beam) v.items) (λ v all k d lt. let made = all k d lt in record { count = search rules; beam_fits = search rules }) c.posts_of.ensures.serve
