use Rattle.std.proofs.Common.{◌≡◌, ◌<◌, ◌∙◌, ℕ, List, [], length, get_or, drop, length-drop, sym, ap, arith, Vec, Global}
use Rattle.std.proofs.lemmas.List.{get_or-drop, with_items_is}
use Rattle.std.proofs.lemmas.List.Elements.{All-set}
use Rattle.std.specs.Vec.{with_items}
use Rattle.steal_pool.proofs.Progress.{done_more}
use Rattle.steal_pool.proofs.tasks.run_tasks.Goals as goal

pub loop-at-preserved : goal.loop-at-preserved
loop-at-preserved g c =
    let i = c.loop-at.invariant in
    let want : List (List ℕ) = g.W.Work.want c.args.work.now in
    let at : ℕ = c.loop-at.at in
    let old : Vec ℕ Global = get_or c.loop-at.blocks at c.index-blocks-at.result in
    let new : Vec ℕ Global = with_items old c.run.new.out in
    let lt : at < length c.loop-at.blocks = omega (arith, c.loop-at-test.true, c.loop-at.auto.blocks) in
    let lt' : at < length (drop c.args.from want) = omega (arith, length-drop c.args.from want, c.requires.tasks, c.loop-at.auto.blocks) in
    let len : length c.run.new.out ≡ length old.items = c.run.auto.out ∙ ap length c.as_mut_slice.ensures.value in
    let items : new.items ≡ c.run.new.out = with_items_is old c.run.new.out (len ∙ sym old.ok.0) in
    record {
      wide = All-set (λ (y : Vec ℕ Global). length y.items ≡ g.W.Work.wide c.args.work.now) c.loop-at.blocks at new (ap length items ∙ len ∙ i.wide at c.index-blocks-at.result lt) i.wide;
      done = done_more (λ y. y.items) c.loop-at.blocks (drop c.args.from want) at new lt lt' i.done (items ∙ c.run.ensures.out ∙ sym (get_or-drop c.args.from want at []));
      serves = c.run.ensures.scratch;
    }
