use Rattle.std.proofs.Common.{◌≡◌, ◌∙◌, ◌≤◌, ℕ, List, ap, sym, subst, length, rules}
use Rattle.std.specs.Prelude.{Vec}
use Rattle.std.specs.declared.alloc.Global.{Global}
use Rattle.std.proofs.lemmas.List.{with_items_is}
use Rattle.ann_defs.specs.declared.kinds.StartKind.{StartKind}
use Rattle.ann_defs.specs.declared.kinds.StartKind.TheVariants.{Medoid}
use Rattle.seeded_order.specs.Medoid.{medoid_of}
use Rattle.seeded_order.specs.Order.{base_order, insertion_order, to_front}
use Rattle.seeded_order.proofs.Counts.{count}
use Rattle.seeded_order.proofs.Insertions.{AreIds, base_ids, id_once, ids_all, ids_distinct, insertion_ids}
use Rattle.seeded_order.proofs.insertion.insertion_order_of.Goals as goal
use Rattle.seeded_order.proofs.insertion.insertion_order_of.Goals.{in-First, in-Medoid+in_ok-medoid-in-Medoid}

pub first_to_front-requires : goal.first_to_front-requires
first_to_front-requires c =
    let points = c.args.points.now.vectors in
    let id = c.in_ok-medoid-in-Medoid.field-0 in
    let ids = c.as_mut_slice.ensures.value ∙ c.in_ok-ids.ensures ∙ ap (λ (n : ℕ). base_order c.args.order n c.args.seed) c.count.ensures.value in
    subst (λ (xs : List ℕ). count id xs ≡ 1) (sym ids)
    (id_once (length points) id (base_order c.args.order (length points) c.args.seed) (base_ids c.args.order (length points) c.args.seed) c.in_ok-medoid-in-Medoid.ensures.bound)

are_ids : (c : goal.Joined-start) → AreIds (length c.args.points.now.vectors) c.match-start.ids.items
are_ids c =
    let points = c.args.points.now.vectors in
    let by_start = λ (start : StartKind). insertion_order points c.args.order start c.args.seed in
    let base : c.in_ok-ids.ids.items ≡ base_order c.args.order (length points) c.args.seed = c.in_ok-ids.ensures ∙ ap (λ (n : ℕ). base_order c.args.order n c.args.seed) c.count.ensures.value in
    let same : c.match-start.ids.items ≡ by_start c.args.start =
    elim c.match-start.branch [
      | in-First w ↦ ap (λ (v : Vec ℕ Global). v.items) w.ids-is ∙ base ∙ ap by_start (sym w.in-First.is)
      | in-Medoid+in_ok-medoid-in-Medoid w ↦
          let long : length w.first_to_front.new.list ≡ c.in_ok-ids.ids.len = search rules in
          let front : c.match-start.ids.items ≡ to_front w.in_ok-medoid-in-Medoid.field-0 w.as_mut_slice.result.now = ap (λ (v : Vec ℕ Global). v.items) w.ids-is ∙ with_items_is c.in_ok-ids.ids w.first_to_front.new.list long ∙ w.first_to_front.ensures in
          let ids : w.as_mut_slice.result.now ≡ base_order c.args.order (length points) c.args.seed = w.as_mut_slice.ensures.value ∙ base in
          let id : w.in_ok-medoid-in-Medoid.field-0 ≡ medoid_of points = w.in_ok-medoid-in-Medoid.ensures.value in
          let joined : to_front w.in_ok-medoid-in-Medoid.field-0 w.as_mut_slice.result.now ≡ by_start Medoid = λ i. to_front (id i) (ids i) in
          front ∙ joined ∙ ap by_start (sym w.in-Medoid.is)
    ] in
    let some = subst (λ (n : ℕ). 1 ≤ n) c.count.ensures.value c.count.ensures.some in
    subst (AreIds (length points)) (sym same) (insertion_ids points c.args.order c.args.start c.args.seed some)

pub returns-clause-count : goal.returns-clause-count
returns-clause-count c = (are_ids c).count

pub returns-clause-below : goal.returns-clause-below
returns-clause-below c = ids_all (length c.args.points.now.vectors) c.match-start.ids.items (are_ids c)

pub returns-clause-distinct : goal.returns-clause-distinct
returns-clause-distinct c = ids_distinct (length c.args.points.now.vectors) c.match-start.ids.items (are_ids c)
