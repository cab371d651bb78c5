use Rattle.std.proofs.Common.{◌≡◌, length, arith}
use Rattle.std.proofs.lemmas.List.{length-map}
use Rattle.batch_insert.specs.declared.pair.Pair.{Pair}
use Rattle.batch_insert.specs.Sources.{sources_in}
use Rattle.batch_insert.proofs.MergeFacts.{sources_few}
use Rattle.hnsw_build.proofs.merges.MergesMerging.merge.Goals as goal

pub merged_row-requires-clause-room : goal.merged_row-requires-clause-room
merged_row-requires-clause-room c =
    let plan = c.args.self.now.plan.now in
    let n = length plan.points.now.vectors in
    let few = sources_few n c.args.target (sources_in c.args.sources.now) c.requires.sources in
    let same : length (sources_in c.args.sources.now) ≡ length c.args.sources.now = length-map c.args.sources.now (λ (p : Pair). p.source) in
    let short = c.requires.row.short in
    let narrow = c.args.self.now.narrow in
    let count = c.requires.scratch.count in
    let room = c.room.ensures.len in
    omega (arith, few, same, short, narrow, count, room)
