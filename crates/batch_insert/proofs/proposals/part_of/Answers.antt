use Rattle.std.proofs.Common.{◌≡◌, ◌∙◌, ◌≤◌, ◌-◌, ap, sym, subst, rules, length, take, drop, List, true, false}
use Rattle.std.specs.Prelude.{nat_lt, nat_le}
use Rattle.std.specs.List.Sorted.{IsNonDecreasingBy, IsPartitionPoint}
use Rattle.std.proofs.lemmas.List.{take_rest}
use Rattle.std.proofs.lemmas.List.Sorted.{IsPartitionPoint-from_clause, IsPartitionedBy-leb, IsPartitionedBy-ltb, IsNonDecreasingBy-drop}
use Rattle.batch_insert.specs.declared.pair.Pair.{Pair}
use Rattle.batch_insert.proofs.Grouping.{part_is}
use Rattle.batch_insert.proofs.proposals.part_of.Goals as goal

pub returns : goal.returns
returns c =
    let pairs = c.args.pairs.now in
    let t = c.args.target in
    let from = c.partition_point-from.result in
    let count = c.partition_point-count.result in
    let rest = take (length pairs - from) (drop from pairs) in
    let whole : rest ≡ drop from pairs = take_rest pairs from in
    let first = IsPartitionPoint-from_clause (λ (p : Pair). nat_lt p.target t) pairs from c.partition_point-from.ensures.partitioned (IsPartitionedBy-ltb (λ (p : Pair). p.target) pairs t c.requires.sorted) (λ a r q k. search rules) in
    let sorted = subst (IsNonDecreasingBy (λ (p : Pair). p.target)) (sym whole) (IsNonDecreasingBy-drop (λ (p : Pair). p.target) from pairs c.requires.sorted) in
    let second = IsPartitionPoint-from_clause (λ (p : Pair). nat_le p.target t) rest count c.partition_point-count.ensures.partitioned (IsPartitionedBy-leb (λ (p : Pair). p.target) rest t sorted) (λ a r q k. search rules) in
    ap (take count) whole
    ∙ part_is pairs t from count first c.partition_point-from.ensures.bound
    (subst (λ xs. IsPartitionPoint (λ (p : Pair). nat_le p.target t ≡ true) (λ (p : Pair). nat_le p.target t ≡ false) xs count) whole second)
    (subst (λ (xs : List Pair). count ≤ length xs) whole c.partition_point-count.ensures.bound)
