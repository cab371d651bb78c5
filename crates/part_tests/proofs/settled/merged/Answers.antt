use Rattle.std.proofs.Common.{ℕ, sym, subst, arith}
use Rattle.batch_insert.specs.Sources.{sources_in, AreSources}
use Rattle.part_tests.proofs.Later.{later_are_sources}
use Rattle.part_tests.proofs.settled.merged.Goals as goal

pub merged_row-requires-clause-sources : goal.merged_row-requires-clause-sources
merged_row-requires-clause-sources c κs =
    subst (λ (m : ℕ). AreSources m 0 (sources_in c.args.sources.now)) (sym c.requires.count)
    (subst (AreSources 40 0) (sym c.requires.sources) (later_are_sources 40 c.args.first c.requires.first.0 c.requires.first.1))

pub merged_row-requires-clause-room : goal.merged_row-requires-clause-room
merged_row-requires-clause-room c κs =
    let short = c.requires.row.short in
    let few = c.requires.few in
    let degree = c.requires.degree in
    omega (arith, short, few, degree)
