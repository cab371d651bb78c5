use Rattle.std.proofs.Common.{◌≡◌, ◌≢◌, sym, subst, arith}
use mathlib.Core.Logic.{dite}
use native.Mathlib.Decide.{ℕ_discrete}
use Rattle.steal_table.specs.Steps.{AllBack, HasEntryOf}
use Rattle.steal_table.specs.Passes.{PassState}
use Rattle.steal_pool.specs.Worker.{Ready}
use Rattle.steal_pool.proofs.Workers.{all_back, still_has, done_entry}
use Rattle.steal_pool.proofs.sweep.sweep.Goals as goal

pub loop-task-preserved-in-Some : goal.loop-task-preserved-in-Some
loop-task-preserved-in-Some g c = let i = c.loop-task.invariant in let is = sym c.look.ensures.same in let done = done_entry c.loop-task.own.view c.loop-task.task c.in-Some.field-0 c.look.result c.look.ensures.answer c.in-Some.is in record {
  ready = subst (Ready c.args.board.now (g.W.Work.want c.args.work.now)) is i.ready;
  back = subst (λ (z : PassState). AllBack z.view) is i.back;
  got = λ t lt. subst (λ (z : PassState). HasEntryOf z.view t) is
      (dite (ℕ_discrete t c.loop-task.task) (λ (at : t ≡ c.loop-task.task). subst (HasEntryOf c.loop-task.own.view) (sym at) done) (λ (ne : t ≢ c.loop-task.task). i.got t (omega arith)));
  serves = i.serves;
}

pub loop-task-preserved : goal.loop-task-preserved
loop-task-preserved g c = let e = c.try_task.ensures in let i = c.loop-task.invariant in let v = c.look.new.own.view in let w = c.try_task.new.pass.view in let is = sym c.look.ensures.same in
    let back = subst (λ (z : PassState). AllBack z.view) is i.back in record {
      ready = e.ready;
      back = all_back v w e.more e.number back;
      got = λ t lt. dite (ℕ_discrete t c.loop-task.task) (λ (at : t ≡ c.loop-task.task). subst (HasEntryOf w) (sym at) (e.got back))
          (λ (ne : t ≢ c.loop-task.task). still_has v w t e.more (subst (λ (z : PassState). HasEntryOf z.view t) is (i.got t (omega arith))));
      serves = e.serves;
    }
