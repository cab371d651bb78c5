use Rattle.std.proofs.Common.{◌∙◌, ℕ, ◌≤◌, ap, subst}
use Rattle.ann_defs.specs.BatchInsert.{cap_of}
use Rattle.vamana_build.specs.Builds.{order_of}
use Rattle.vamana_build.proofs.plan.Plan.make.Goals as goal

pub invariant_of-result : goal.invariant_of-result
unfolding order_of
invariant_of-result c = record {
  count = (subst (λ (n : ℕ). 1 ≤ n) c.count.ensures.value c.count.ensures.some, subst (λ (n : ℕ). n ≤ 4194304) c.count.ensures.value c.count.ensures.bound);
  degree = c.requires.degree;
  beam = c.requires.beam;
  passes = c.requires.passes;
  words = c.requires.words;
  ordered = c.in_ok-order.ensures.order;
  whole = c.in_ok-order.ensures.count;
  inside = c.in_ok-order.ensures.below;
  capped = c.cap_for-cap.ensures.value ∙ ap (λ n. cap_of n c.args.settings.cap) c.count.ensures.value;
  cap_fits = (c.cap_for-cap.ensures.some, c.cap_for-cap.ensures.bound);
}
