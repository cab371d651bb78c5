use Rattle.std.proofs.Common.{◌≡◌, ◌≢◌, ◌<◌, ℕ, [], Result, Ok, Err, IfOk, replicate, sym, subst, arith}
use Rattle.std.specs.List.{IsDistinct}
use Rattle.std.proofs.lemmas.List.{length-replicate, get_or-replicate}
use Rattle.std.proofs.lemmas.List.Elements.{All-nil}
use Rattle.ann_defs.specs.Graph.{IsGoodRow, AreGoodRows}
use Rattle.graph_rows.specs.Flat.{Flat}
use Rattle.part_tests.proofs.counts.no_edges.Goals as goal

none_good : (n u : ℕ) → IsGoodRow n 2 u []
unfolding IsDistinct
none_good n u = record { inside = All-nil (λ v. v < n); distinct = tt; others = All-nil (λ v. v ≢ u); short = omega arith }

all_good : (n : ℕ) → AreGoodRows n 2 (replicate n [])
all_good n = record {
  count = length-replicate n [];
  good = λ u at. subst (IsGoodRow n 2 u) (sym (get_or-replicate n u [] [] at)) (none_good n u);
}

good_of : (n : ℕ) (g : Flat) → g ≡ record { width = 2; rows = replicate n [] } → AreGoodRows n 2 g.rows
good_of n g is = subst (λ (f : Flat). AreGoodRows n 2 f.rows) (sym is) (all_good n)

returns_of : {E : Type 0} (n : ℕ) (r : Result Flat E) → IfOk r (λ (g : Flat). g ≡ record { width = 2; rows = replicate n [] }) → IfOk r (λ (g : Flat). AreGoodRows n 2 g.rows)
returns_of n (Ok g) is = good_of n g is
returns_of n (Err e) is = tt

pub returns : goal.returns
returns c = returns_of c.args.count c.new.result c.new.ensures
