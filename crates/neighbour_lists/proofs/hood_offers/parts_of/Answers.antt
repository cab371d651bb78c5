use Rattle.std.proofs.Common.{◌<◌, ◌++◌, ℕ, length, sym, subst}
use Rattle.std.specs.List.{All}
use Rattle.neighbour_lists.proofs.hood_offers.parts_of.Goals as goal

pub at-requires : goal.at-requires
at-requires c = subst (λ (k : ℕ). c.args.u < k) (sym c.requires.hoods.rows.count) c.requires.u

pub at-requires-2 : goal.at-requires-2
at-requires-2 c = subst (λ (k : ℕ). c.args.u < k) (sym c.requires.hoods.others.count) c.requires.u

pub returns-clause-parts : goal.returns-clause-parts
returns-clause-parts c = λ i. c.at.ensures.row i ++ c.at-2.ensures.row i

pub returns-clause-row : goal.returns-clause-row
returns-clause-row c = subst (All (λ (w : ℕ). w < length c.args._points.now.vectors)) (sym c.at.ensures.row) (c.requires.hoods.rows.inside c.args.u c.requires.u)

pub returns-clause-back : goal.returns-clause-back
returns-clause-back c = subst (All (λ (w : ℕ). w < length c.args._points.now.vectors)) (sym c.at-2.ensures.row) (c.requires.hoods.others.inside c.args.u c.requires.u)
