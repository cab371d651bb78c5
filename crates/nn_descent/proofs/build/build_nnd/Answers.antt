use Rattle.std.proofs.Common.{◌≤◌, ◌∷◌, ℕ, List, None, map, refl, sym, subst, inr, arith}
use Rattle.std.specs.List.{enumerate_from}
use Rattle.ann_defs.specs.Graph.{AreGoodRows}
use Rattle.graph_rows.specs.Layers.{Layered}
use Rattle.graph_rows.specs.WellFormed.{IsWellFormed}
use Rattle.graph_rows.proofs.FlatIndex.{flat_well_formed}
use Rattle.nn_descent.proofs.Improving.{start_below}
use Rattle.nn_descent.proofs.build.build_nnd.Goals as goal

pub returns-clause-well_formed : goal.returns-clause-well_formed
returns-clause-well_formed g c =
    let points = c.args.points.now.vectors in
    let s = c.args.settings in
    let n = c.count.result in
    let rows = c.in_ok-base.base.rows in
    let good = subst (λ (k : ℕ). AreGoodRows k s.degree rows) (sym c.count.ensures.value) c.in_ok-base.ensures.good in
    let below = start_below points s.start (subst (λ (k : ℕ). 1 ≤ k) c.count.ensures.value c.count.ensures.some) in
    let start = c.in_ok-start.ensures in
    let count = c.count.ensures.value in
    let flat = flat_well_formed 3 n c.dim.result s.degree c.in_ok-start.start rows good c.count.ensures.some c.count.ensures.bound c.dim.ensures.some c.dim.ensures.bound c.requires.degree.0 c.requires.degree.1 (omega (arith, below, start, count)) (inr refl) in
    subst (λ (ls : List Layered). IsWellFormed (record { kind = 3; count = n; dim = c.dim.result; degree = s.degree; start = c.in_ok-start.start; layers = enumerate_from 0 rows ∷ map (λ (l : Layered). l.entries) ls; stamp = None })) (sym c.new.ensures.items) flat
