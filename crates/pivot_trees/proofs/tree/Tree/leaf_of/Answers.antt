use Rattle.std.proofs.Common.{◌≡◌, ◌∙◌, ◌<◌, ℕ, List, [], length, get_or, sym, ap, subst, arith}
use Rattle.std.specs.List.{All}
use Rattle.std.proofs.lemmas.List.{get_or_default}
use Rattle.std.proofs.lemmas.List.Elements.{All-get_or}
use Rattle.pivot_trees.specs.Blocks.{lists_of}
use Rattle.pivot_trees.specs.Grown.{Grown}
use Rattle.pivot_trees.proofs.Lists.{many_lists, list_at}
use Rattle.pivot_trees.proofs.tree.Tree.leaf_of.Goals as goal

pub returns-clause-inside : goal.returns-clause-inside
returns-clause-inside c =
    let t = c.self.inside in
    let place = c.index.result.now in
    let lists = lists_of t.leaves.items in
    let count : c.args.self.now.count ≡ t.count = ap (λ (g : Grown). g.count) (sym c.self.view_is) in
    let at : c.args.id < t.count = subst (λ k. c.args.id < k) count c.requires in
    let many = many_lists t.leaves.items in
    let is : place ≡ get_or t.leaf_at.items c.args.id 0 = let all = c.self.invariant.1.many in c.index.ensures ∙ get_or_default t.leaf_at.items c.args.id place 0 (omega (arith, at, all)) in
    let within : place < length lists = let less = c.self.invariant.0.each c.args.id at in let first = c.self.invariant.1.first c.args.id at in omega (arith, less, first, is) in
    let list : c.as_slice.result.now ≡ get_or lists place [] = c.as_slice.ensures.value ∙ list_at t.leaves.items place c.index-2.result.now (omega (arith, within, many)) c.index-2.ensures in
    subst (λ k. All (λ u. u < k) c.as_slice.result.now) (sym count) (subst (All (λ u. u < t.count)) (sym list) (All-get_or (λ (ids : List ℕ). All (λ u. u < t.count) ids) lists place [] within c.self.invariant.0.inside))
