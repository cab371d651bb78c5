use Rattle.std.proofs.Common.{◌∙◌, ◌≤◌, ap, sym, subst, arith, length, List}
use Rattle.std.specs.List.Sorted.{IsNonDecreasingBy}
use Rattle.batch_insert.specs.declared.pair.Pair.{Pair}
use Rattle.batch_insert.specs.Proposing.{targets_of}
use Rattle.batch_insert.proofs.Grouping.{ordered_targets}
use Rattle.batch_insert.proofs.proposals.Proposals.group.Goals as goal

pub list_targets-requires-clause-sorted : goal.list_targets-requires-clause-sorted
list_targets-requires-clause-sorted c = subst (IsNonDecreasingBy (λ (p : Pair). p.target)) (sym (c.as_slice.ensures.value ∙ c.sort_once.ensures.items)) (ordered_targets c.self.inside.pairs.items)

pub invariant_of-self : goal.invariant_of-self
invariant_of-self c =
    let pairs = c.sort_once.new.pairs in
    let few : length pairs.items ≤ c.self.inside.room = omega arith in
    record {
      limit = c.self.invariant.limit;
      pairs_fit = omega arith;
      targets_fit = omega arith;
      within = few;
      sorted = λ _. subst (IsNonDecreasingBy (λ (p : Pair). p.target)) (sym c.sort_once.ensures.items) (ordered_targets c.self.inside.pairs.items);
      listed = λ _. c.list_targets.ensures.items ∙ ap targets_of c.as_slice.ensures.value;
      few = λ _. let listed : length c.list_targets.new.targets.items ≤ length pairs.items = subst (λ (xs : List Pair). length c.list_targets.new.targets.items ≤ length xs) c.as_slice.ensures.value c.list_targets.ensures.few in omega arith;
    }
