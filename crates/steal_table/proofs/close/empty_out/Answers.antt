use Rattle.std.proofs.Common.{◌≡◌, ◌+◌, ◌-◌, ◌/◌, ℕ, Bool, false, IsTrue, List, [], ◌∷◌, ◌++◌, length, length-append, get_or, refl, sym, ap, ◌∙◌, subst, arith}
use lib.ListN.{get_elem?}
use mathlib.Core.Option.{some}
use Rattle.steal_table.specs.Rule.{Block}
use Rattle.steal_table.specs.Opened.{AreOwners}
use Rattle.steal_table.proofs.Emptying.{take_one, set_other, gone_more, owners_more}
use Rattle.steal_table.proofs.close.empty_out.Goals as goal

-- src/round.rt:88:5
pub loop-task-preserved : goal.loop-task-preserved
loop-task-preserved c = let i = c.loop-task.invariant in let t : ℕ = c.loop-task.task in let x = c.take-block.ensures.others in let old : List Bool = c.loop-task.closed.slots.filled in record {
  words = x.3 ∙ i.words;
  items = x.0 ∙ i.items;
  len = x.2 ∙ i.len;
  gone = λ k lt. ap (λ (l : List Bool). get_or l k false) x.1 ∙ gone_more old t i.gone k lt;
  left = λ k le lt. subst IsTrue (sym (ap (λ (l : List Bool). get_or l k false) x.1 ∙ set_other old t k false false (λ e. absurd (omega arith)))) (i.left k (omega arith) lt);
  blocks = c.push_reserved.ensures.items ∙ ap (λ (l : List Block). l ++ c.take-block.result ∷ []) i.blocks
      ∙ sym (take_one c.args.closed.slots.items t c.take-block.result (ap (λ (l : List Block). get_elem? l t) (sym i.items) ∙ c.take-block.ensures.value));
  owners = subst (AreOwners c.args.closed.words.items) (sym c.push_reserved-in-loop-task.ensures.items)
      (owners_more c.args.closed.words.items c.loop-task.owners.items t c.word-word.result (c.word-word.result / 2 - 1) i.owners i.done
      (subst (λ (w : _). get_elem? w.items (t + 1) ≡ some c.word-word.result) i.words c.word-word.ensures) refl);
  done = ap length c.push_reserved-in-loop-task.ensures.items ∙ (let l = length-append c.loop-task.owners.items ((c.word-word.result / 2 - 1) ∷ []) in let d = i.done in omega arith);
  block_room = let e = c.push_reserved.ensures.capacity in let r = i.block_room in omega arith;
  owner_room = let e = c.push_reserved-in-loop-task.ensures.capacity in let r = i.owner_room in omega arith;
}
