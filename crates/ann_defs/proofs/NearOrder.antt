-- The order of nearness.
use Rattle.std.proofs.Common.{ℕ, ap}
use Rattle.std.proofs.lemmas.Cmp.{on_total, then_total, nat_cmp_total}
use Rattle.std.proofs.lemmas.Map.Lookups.{exact_pairs, exact_unsigned}
use Rattle.std.specs.Ordering.{nat_cmp}
use Rattle.ann_defs.specs.Nearness.{near_cmp}
use Rattle.ann_defs.proofs.Order.{IsExactOrder}

pub near_order : IsExactOrder near_cmp
near_order = record {
  total = then_total (on_total (λ x. x.dist) nat_cmp_total) (on_total (λ x. x.id) nat_cmp_total);
  exact = λ a b h. ap (λ (p : ℕ × ℕ). record { dist = p.0; id = p.1 }) (exact_pairs nat_cmp nat_cmp exact_unsigned exact_unsigned (a.dist, a.id) (b.dist, b.id) h);
}
