use Rattle.std.proofs.Common.{◌≡◌, ◌∙◌, ◌<◌, ◌≤◌, ◌++◌, ℕ, List, length, take, drop, sym, ap, subst}
use Rattle.std.specs.List.{All}
use Rattle.std.specs.Prelude.{◌==◌, count_by}
use Rattle.std.proofs.lemmas.List.{take_at}
use Rattle.ann_defs.specs.BatchInsert.{cap_of}
use Rattle.ann_defs.proofs.Members.{all_from_has}
use Rattle.seeded_order.specs.Order.{base_order}
use Rattle.seeded_order.proofs.Insertions.{AreIds, base_ids, id_once, front_ids}
use Rattle.hnsw_build.specs.Layering.{entry_of, entry_first}
use Rattle.hnsw_build.specs.HnswBuilds.{order_of}
use Rattle.hnsw_build.proofs.EntryFacts.{entry_below}
use Rattle.hnsw_build.proofs.plan.HnswPlan.of_levels.Goals as goal

pub entry_to_front-requires-clause-some : goal.entry_to_front-requires-clause-some
entry_to_front-requires-clause-some c =
    let count : length c.as_slice.result.now ≡ length c.args.points.now.vectors = ap (λ (ls : List ℕ). length ls) c.as_slice.ensures.value ∙ c.requires.levels in
    subst (λ (m : ℕ). 1 ≤ m) (c.count.ensures.value ∙ sym count) c.count.ensures.some

pub entry_to_front-requires-clause-once : goal.entry_to_front-requires-clause-once
entry_to_front-requires-clause-once c = λ u lt.
    let n = length c.args.points.now.vectors in
    let s = c.args.settings in
    let ids = base_order s.order n s.seed in
    let count : length c.as_slice.result.now ≡ n = ap (λ (ls : List ℕ). length ls) c.as_slice.ensures.value ∙ c.requires.levels in
    let same : c.as_mut_slice.result.now ≡ ids = c.as_mut_slice.ensures.value ∙ c.in_ok-order.ensures.order in
    ap (λ (xs : List ℕ). count_by (λ x. x == u) xs) same ∙ id_once n u ids (base_ids s.order n s.seed) (subst (λ m. u < m) count lt)

pub invariant_of-result : goal.invariant_of-result
unfolding order_of
invariant_of-result c =
    let points = c.args.points.now.vectors in
    let n = length points in
    let s = c.args.settings in
    let levels = c.args.levels.items in
    let ids = base_order s.order n s.seed in
    let some = subst (λ (m : ℕ). 1 ≤ m) c.count.ensures.value c.count.ensures.some in
    let base = base_ids s.order n s.seed in
    let entry : entry_of levels ids < n =
    subst (λ m. entry_of levels ids < m) c.requires.levels (entry_below levels ids (subst (λ m. 1 ≤ m) (sym c.requires.levels) some) (subst (λ m. All (λ u. u < m) ids) (sym c.requires.levels) (all_from_has (λ u. u < n) ids base.below))) in
    let all : AreIds n (entry_first levels ids) = front_ids n (entry_of levels ids) ids base entry in
    let moved : c.entry_to_front.new.order ≡ entry_first levels ids =
    c.entry_to_front.ensures ∙ (λ i. entry_first (c.as_slice.ensures.value i) ((c.as_mut_slice.ensures.value ∙ c.in_ok-order.ensures.order) i)) in
    let long : length c.entry_to_front.new.order ≡ c.in_ok-order.order.len = c.entry_to_front.auto.order ∙ c.as_mut_slice.ensures.len in
    let is : take c.in_ok-order.order.len (c.entry_to_front.new.order ++ drop (length c.entry_to_front.new.order) c.in_ok-order.order.items) ≡ entry_first levels ids =
    take_at c.entry_to_front.new.order (drop (length c.entry_to_front.new.order) c.in_ok-order.order.items) c.in_ok-order.order.len long ∙ moved in
    record {
      count = (some, subst (λ (m : ℕ). m ≤ 4194304) c.count.ensures.value c.count.ensures.bound);
      degree = c.requires.degree;
      beam = c.requires.beam;
      bits = c.requires.bits;
      highest = c.requires.max_level;
      levelled = c.requires.levels;
      low = c.requires.low;
      ordered = is;
      whole = ap (λ (xs : List ℕ). length xs) is ∙ all.count;
      inside = subst (λ (xs : List ℕ). All (λ u. u < n) xs) (sym is) (all_from_has (λ u. u < n) (entry_first levels ids) all.below);
      capped = c.cap_for-cap.ensures.value ∙ ap (λ m. cap_of m s.cap) c.count.ensures.value;
      cap_fits = (c.cap_for-cap.ensures.some, c.cap_for-cap.ensures.bound);
    }
