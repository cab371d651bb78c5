use Rattle.std.proofs.Common.{◌∙◌}
use Rattle.batch_insert.proofs.OnePass.{target_block_fits, target_block_row}
use Rattle.batch_insert.proofs.difference.target_row.Goals as goal

pub row_of-requires : goal.row_of-requires
row_of-requires g c =
    let b = c.args.batch.now in
    let m = b.merging.now in
    target_block_fits (g.M.Merging.count m) (g.M.Merging.most m) (g.O.Rows.held b.old.now) (g.O.Rows.row_of b.old.now) (g.F.Rows.held b.fresh.now) (g.F.Rows.row_of b.fresh.now) b.ids.now b.fits (g.M.Merging.merged m) c.args.proposals.now.pairs c.requires.pairs ((g.met.M.Merging g.world.𝓛 g.world.𝓜 g.world.𝓡 ((λ s x. x), (λ x. x), (λ x. x), λ x. x)).good m)
    c.args.j c.requires.j c.args.merged.now c.requires.merged c.get.result.now c.get.ensures

pub returns : goal.returns
returns g c =
    let b = c.args.batch.now in
    let m = b.merging.now in
    c.row_of.ensures
    ∙ target_block_row (g.M.Merging.count m) (g.M.Merging.most m) (g.O.Rows.held b.old.now) (g.O.Rows.row_of b.old.now) (g.F.Rows.held b.fresh.now) (g.F.Rows.row_of b.fresh.now) b.ids.now b.fits (g.M.Merging.merged m) c.args.proposals.now.pairs c.requires.pairs ((g.met.M.Merging g.world.𝓛 g.world.𝓜 g.world.𝓡 ((λ s x. x), (λ x. x), (λ x. x), λ x. x)).good m)
    c.args.j c.requires.j c.args.merged.now c.requires.merged c.get.result.now c.get.ensures
