use Rattle.std.proofs.Common.{◌≡◌, ◌∙◌, ap, length}
use Rattle.steal_table.specs.Passes.{PassState}
use Rattle.steal_table.specs.Rule.{entry}
use Rattle.std.proofs.Common.{refl}
use Rattle.steal_pool.proofs.Workers.{finished_ready, finished_view, grown_entry, has_entry}
use Rattle.steal_pool.proofs.worker.try_task.Goals as goal

pub returns-in-Mine-clause-ready : goal.returns-in-Mine-clause-ready
returns-in-Mine-clause-ready g c = let old : PassState = c.args.pass.now in let mid : PassState = c.claim.new.pass in
    let len : length c.run.new.out ≡ length mid.block = c.run.auto.out ∙ ap length c.block.ensures.value in
    (finished_ready c.args.board.now (g.W.Work.want c.args.work.now) old mid c.finish.new.pass c.args.task c.run.new.out c.requires.ready c.in-Mine.ensures.claimed.0 len c.run.ensures.out c.finish.ensures).0

pub returns-in-Mine-clause-number : goal.returns-in-Mine-clause-number
returns-in-Mine-clause-number g c = let old : PassState = c.args.pass.now in let mid : PassState = c.claim.new.pass in
    let len : length c.run.new.out ≡ length mid.block = c.run.auto.out ∙ ap length c.block.ensures.value in
    (finished_ready c.args.board.now (g.W.Work.want c.args.work.now) old mid c.finish.new.pass c.args.task c.run.new.out c.requires.ready c.in-Mine.ensures.claimed.0 len c.run.ensures.out c.finish.ensures).1

pub returns-in-Mine-clause-more : goal.returns-in-Mine-clause-more
returns-in-Mine-clause-more g c = let old : PassState = c.args.pass.now in let mid : PassState = c.claim.new.pass in
    let len : length c.run.new.out ≡ length mid.block = c.run.auto.out ∙ ap length c.block.ensures.value in
    grown_entry old.view c.finish.new.pass.view (entry c.args.task old.view.number c.run.new.out) (finished_view old mid c.finish.new.pass c.args.task c.run.new.out c.in-Mine.ensures.claimed.0 len c.finish.ensures)

pub returns-in-Mine-clause-got : goal.returns-in-Mine-clause-got
returns-in-Mine-clause-got g c = let old : PassState = c.args.pass.now in let mid : PassState = c.claim.new.pass in
    let len : length c.run.new.out ≡ length mid.block = c.run.auto.out ∙ ap length c.block.ensures.value in
    λ all. has_entry old.view c.finish.new.pass.view (entry c.args.task old.view.number c.run.new.out) c.args.task (finished_view old mid c.finish.new.pass c.args.task c.run.new.out c.in-Mine.ensures.claimed.0 len c.finish.ensures) refl
