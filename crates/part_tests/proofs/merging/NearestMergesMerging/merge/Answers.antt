use Rattle.std.proofs.Common.{◌≡◌, length, arith}
use Rattle.std.proofs.lemmas.List.{length-map}
use Rattle.batch_insert.specs.declared.pair.Pair.{Pair}
use Rattle.batch_insert.specs.Sources.{sources_in}
use Rattle.batch_insert.proofs.MergeFacts.{sources_few}
use Rattle.part_tests.proofs.merging.NearestMergesMerging.merge.Goals as goal

pub merged_row-requires-clause-room : goal.merged_row-requires-clause-room
merged_row-requires-clause-room c =
    let n = length c.args.self.now.pruning.points.now.vectors in
    let few = sources_few n c.args.target (sources_in c.args.sources.now) c.requires.sources in
    let same : length (sources_in c.args.sources.now) ≡ length c.args.sources.now = length-map c.args.sources.now (λ (p : Pair). p.source) in
    let short = c.requires.row.short in
    let room = c.requires.scratch in
    omega (arith, few, same, short, room)
