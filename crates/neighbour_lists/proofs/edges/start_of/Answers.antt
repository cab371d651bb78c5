use Rattle.std.proofs.Common.{arith, rules, get_or}
use Rattle.std.specs.Prelude.{nat_lt}
use Rattle.std.proofs.lemmas.Bool.{ltb-true, ltb-false}
use Rattle.std.proofs.lemmas.List.Sorted.{IsPartitionPoint-from_clause, IsPartitionedBy-ltb}
use Rattle.neighbour_lists.specs.declared.edge.Edge.{Edge}
use Rattle.neighbour_lists.proofs.edges.start_of.Goals as goal

pub returns : goal.returns
returns c =
    let edges = c.args.edges.now in
    let t = c.args.target in
    let at = c.partition_point.result in
    let point = IsPartitionPoint-from_clause (λ (e : Edge). nat_lt e.target t) edges at c.partition_point.ensures.partitioned (IsPartitionedBy-ltb (λ (e : Edge). e.target) edges t c.requires.sorted) (λ a r q k. search rules) in
    record {
      bound = c.partition_point.ensures.bound;
      before = λ k d h. ltb-true (get_or edges k d).target t (point.0 k d (omega arith) h);
      after = λ k d h w. ltb-false (get_or edges k d).target t (point.1 k d h w);
    }
