use Rattle.std.proofs.Common.{◌+◌, cond, sym, ap}
use Rattle.std.proofs.lemmas.Bool.{eq-eqb, ne_eqb}
use Rattle.hnsw_build.proofs.layer_change.row_bound.Goals as goal

pub returns-then-layer-eq0-clause-value : goal.returns-then-layer-eq0-clause-value
returns-then-layer-eq0-clause-value c = let d = c.args.degree in sym (ap (λ t. cond t (d + d) d) (eq-eqb c.args.layer 0 c.if-layer-eq0.true))

pub returns-clause-value : goal.returns-clause-value
returns-clause-value c = let d = c.args.degree in sym (ap (λ t. cond t (d + d) d) (ne_eqb c.args.layer 0 c.if-layer-eq0.false))
