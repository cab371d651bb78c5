use Rattle.std.proofs.Common.{◌∙◌, ◌+◌, ◌-◌, ap, take, drop, set, ℕ, List}
use Rattle.std.proofs.Math.Seq.{paste}
use Rattle.ann_defs.specs.declared.near.Near.{Near}
use Rattle.near_lists.proofs.Inserting.{inserted}
use Rattle.near_lists.proofs.list.insert.Goals as goal

pub returns-clause-list : goal.returns-clause-list
returns-clause-list c =
    let xs = c.args.list.now in
    let at = c.args.at in
    ap (λ (zs : List Near). take c.min-kept.result (set zs at c.args.x)) c.copy_within.ensures.after
    ∙ ap (λ (k : ℕ). take k (set (paste xs (at + 1) (drop at xs) (k - 1 - at)) at c.args.x)) c.min-kept.ensures
    ∙ inserted c.args.len c.args.limit at xs c.args.x c.requires.limit c.requires.len c.requires.at.0 c.requires.at.1
