use Rattle.std.proofs.Common.{arith, sym, subst, ◌<◌, ◌^◌}
use Rattle.graph_rows.specs.declared.stamp.Stamp.{Stamp}
use Rattle.graph_rows.specs.Stamps.{IsStamp}
use Rattle.graph_files.proofs.StampLaws.{stamp_whole, stamp_fits}
use Rattle.graph_files.proofs.read_stamp.read_front.Goals as goal

pub stamp_of-requires : goal.stamp_of-requires
stamp_of-requires c = let whole = stamp_whole c.args.kind c.args.front.now (sym c.in-None.ensures) in omega (arith, whole.0)

pub returns-clause-whole : goal.returns-clause-whole
returns-clause-whole c = let whole = stamp_whole c.args.kind c.args.front.now (sym c.in-None.ensures) in omega (arith, whole.0)

pub returns-clause-allowed : goal.returns-clause-allowed
returns-clause-allowed c =
    let is = c.stamp_of.ensures.value in
    subst (IsStamp c.args.kind) (sym is) (stamp_fits c.args.kind c.args.front.now (sym c.in-None.ensures) (returns-clause-whole c)
    (subst (λ (s : Stamp). s.seed < 2 ^ 64) is c.stamp_of.ensures.seed) (subst (λ (s : Stamp). s.floor < 2 ^ 64) is c.stamp_of.ensures.floor) c.stamp_of.ensures.are_bytes)
