use Rattle.std.proofs.Common.{◌∙◌, ap}
use Rattle.steal_table.specs.declared.view.Size.{Size}
use Rattle.steal_pool.proofs.Progress.{serve_set}
use Rattle.steal_pool.proofs.StolenRounds.{all_wanted}
use Rattle.steal_pool.proofs.round.Round.run.Goals as goal

pub returns-clause-blocks : goal.returns-clause-blocks
returns-clause-blocks g c =
    all_wanted (g.W.Work.want c.args.work.now) c.close.result.0 c.sweep.new.own.view (c.close.ensures.count.0 ∙ ap (λ (z : Size). z.tasks) c.self.view_is ∙ c.requires.fits.0)
    c.close.ensures.blocks c.sweep.ensures.ready.wanted c.sweep.ensures.all

pub returns-clause-serve : goal.returns-clause-serve
returns-clause-serve g c = serve_set (g.W.Work.serves c.args.work.now) c.join_all.new.posts 0 _ c.sweep.ensures.serves c.join_all.ensures.serve
