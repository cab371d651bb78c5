use Rattle.std.proofs.Common.{◌≡◌, ◌≤◌, ℕ, List, true, take, length, sym, subst, arith}
use Rattle.std.specs.Prelude.{nat_le}
use Rattle.std.proofs.lemmas.Bool.{leb-true}
use Rattle.std.proofs.lemmas.List.{length-map}
use Rattle.ann_defs.specs.BatchInsert.{Build}
use Rattle.ann_defs.proofs.Members.{and_both}
use Rattle.batch_insert.specs.declared.pair.Pair.{Pair}
use Rattle.batch_insert.specs.Sources.{sources_in}
use Rattle.batch_insert.proofs.MergeFacts.{sources_few}
use Rattle.robust_prune.specs.Apart.{are_apart}
use Rattle.vamana_build.specs.Builds.{build_by}
use Rattle.vamana_build.specs.Settled.{are_settled}
use Rattle.vamana_build.proofs.merges.MergesMerging.merge.Goals as goal

pub merged_row-requires-clause-room : goal.merged_row-requires-clause-room
merged_row-requires-clause-room c =
    let plan = c.args.self.now.rows.now.plan.now in
    let n = length plan.points.now.vectors in
    let few = sources_few n c.args.target (sources_in c.args.sources.now) c.requires.sources in
    let same : length (sources_in c.args.sources.now) ≡ length c.args.sources.now = length-map c.args.sources.now (λ (p : Pair). p.source) in
    let short = c.requires.row.short in
    let narrow = plan.degree.1 in
    let count = c.requires.scratch.count in
    let room = c.room.ensures.len in
    omega (arith, few, same, short, narrow, count, room)

-- what a batch knows of a row, of as many ids as are taken
known : (b : Build) (t : ℕ) (row : List ℕ) (laid count : ℕ) → count ≡ laid → are_settled b t row laid ≡ true → (count ≤ length row) × (are_apart b.points b.num b.den t (take count row) ≡ true)
known b t row laid count is h =
    let both = and_both (nat_le laid (length row)) (are_apart b.points b.num b.den t (take laid row)) h in
    (subst (λ (k : ℕ). k ≤ length row) (sym is) (leb-true laid (length row) both.0), subst (λ (k : ℕ). are_apart b.points b.num b.den t (take k row) ≡ true) (sym is) both.1)

pub merged_row-requires-clause-settled : goal.merged_row-requires-clause-settled
merged_row-requires-clause-settled c κs =
    let w = c.args.self.now.rows.now in
    (known (build_by w.plan.now.points.now.vectors w.plan.now.settings w.alpha) c.args.target c.args.row.now _ _ c.count_of-settled.ensures.value c.requires.known).0

pub merged_row-requires-clause-apart : goal.merged_row-requires-clause-apart
merged_row-requires-clause-apart c κs =
    let w = c.args.self.now.rows.now in
    (known (build_by w.plan.now.points.now.vectors w.plan.now.settings w.alpha) c.args.target c.args.row.now _ _ c.count_of-settled.ensures.value c.requires.known).1
