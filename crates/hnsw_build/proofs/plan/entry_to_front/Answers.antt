use Rattle.std.proofs.Common.{◌<◌, ℕ, length, sym, subst}
use Rattle.hnsw_build.proofs.EntryFacts.{entry_below}
use Rattle.hnsw_build.proofs.plan.entry_to_front.Goals as goal

pub first_to_front-requires : goal.first_to_front-requires
first_to_front-requires c =
    let levels = c.args.levels.now in
    c.requires.once c.entry_point-entry.result (subst (λ (e : ℕ). e < length levels) (sym c.entry_point-entry.ensures) (entry_below levels c.args.order.now c.requires.some c.requires.inside))
