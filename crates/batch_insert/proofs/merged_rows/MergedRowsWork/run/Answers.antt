use Rattle.std.proofs.Common.{◌≡◌, true, ◌∙◌, ◌+◌, ◌-◌, ◌<◌, ap, sym, subst, ℕ, List, [], length, get_or, drop, arith, length-take, length-drop}
use Rattle.std.proofs.lemmas.List.{length-map, get_or-map}
use Rattle.std.proofs.lemmas.List.Elements.{Contains-get_or}
use Rattle.ann_defs.specs.Graph.{IsGoodRow}
use Rattle.ann_defs.specs.Ordered.{Has}
use Rattle.ann_defs.proofs.Order.{has_from_Contains}
use Rattle.batch_insert.specs.declared.pair.Pair.{Pair}
use Rattle.batch_insert.specs.Sources.{sources_in, AreSources}
use Rattle.batch_insert.specs.Proposing.{targets_of, proposed_to}
use Rattle.batch_insert.specs.Padded.{padded}
use Rattle.batch_insert.specs.Wanted.{merge_at}
use Rattle.batch_insert.proofs.Padding.{written}
use Rattle.batch_insert.proofs.merged_rows.MergedRowsWork.run.Goals as goal

-- a task's target is one of the targets
there : (targets : List ℕ) (blocks : List (List ℕ)) (j t : ℕ) → length blocks ≡ length targets → j < length blocks → t ≡ get_or targets j 0 → Has targets t
there targets blocks j t count within is =
    let at : j < length targets = subst (λ k. j < k) count within in
    subst (Has targets) (sym is) (has_from_Contains targets (get_or targets j 0) (Contains-get_or targets j 0 at))

pub row-row-requires : goal.row-row-requires
row-row-requires g c =
    let w = c.args.self.now in
    let targets = targets_of w.proposals.now.pairs in
    w.targets.held_all c.target-target.result (there targets _ c.args.task c.target-target.result (length-map targets _) c.requires.task c.target-target.ensures)

pub merge-len-requires-clause-target : goal.merge-len-requires-clause-target
merge-len-requires-clause-target g c =
    let w = c.args.self.now in
    let targets = targets_of w.proposals.now.pairs in
    w.targets.inside c.target-target.result (there targets _ c.args.task c.target-target.result (length-map targets _) c.requires.task c.target-target.ensures)

pub merge-len-requires-clause-row : goal.merge-len-requires-clause-row
merge-len-requires-clause-row g c =
    let w = c.args.self.now in
    let targets = targets_of w.proposals.now.pairs in
    subst (IsGoodRow (g.M.Merging.count w.merging.now) (g.M.Merging.most w.merging.now) c.target-target.result) (sym c.row-row.ensures)
    (w.targets.good c.target-target.result (there targets _ c.args.task c.target-target.result (length-map targets _) c.requires.task c.target-target.ensures))

pub merge-len-requires-clause-known : goal.merge-len-requires-clause-known
merge-len-requires-clause-known g c =
    let w = c.args.self.now in
    let targets = targets_of w.proposals.now.pairs in
    subst (λ (row : List ℕ). g.M.Merging.knows w.merging.now c.target-target.result row ≡ true) (sym c.row-row.ensures)
    (w.known c.target-target.result (there targets _ c.args.task c.target-target.result (length-map targets _) c.requires.task c.target-target.ensures))

pub merge-len-requires-clause-sources : goal.merge-len-requires-clause-sources
merge-len-requires-clause-sources g c =
    let w = c.args.self.now in
    let t = c.target-target.result in
    let pairs = w.proposals.now.pairs in
    let targets = targets_of pairs in
    let same : c.sources-sources.result.now ≡ proposed_to pairs t = c.sources-sources.ensures ∙ ap (proposed_to pairs) (sym c.target-target.ensures) in
    subst (λ (ps : List Pair). AreSources (g.M.Merging.count w.merging.now) t (sources_in ps)) (sym same)
    (w.targets.sources t (there targets _ c.args.task t (length-map targets _) c.requires.task c.target-target.ensures))

pub returns-clause-out : goal.returns-clause-out
returns-clause-out g c =
    let w = c.args.self.now in
    let t = c.target-target.result in
    let bound = g.M.Merging.most w.merging.now in
    let merged = g.M.Merging.merged w.merging.now in
    let row = g.V.Rows.row_of w.rows.now in
    let pairs = w.proposals.now.pairs in
    let targets = targets_of pairs in
    let within : c.args.task < length targets = subst (λ k. c.args.task < k) (length-map targets _) c.requires.task in
    let same : c.sources-sources.result.now ≡ proposed_to pairs t = c.sources-sources.ensures ∙ ap (proposed_to pairs) (sym c.target-target.ensures) in
    let behind : length c.merge-len.new.out ≡ length c.args.out.now - 1 = c.merge-len.auto.out ∙ length-take (length c.args.out.now - 1) (drop 1 c.args.out.now) ∙ simp length-drop (omega arith) in
    let laid = written c.args.out.now c.merge-len.new.out c.seal.new.out bound c.merge-len.result c.requires.out behind c.merge-len.ensures.bound c.seal.ensures in
    laid
    ∙ ap (padded (bound + 1)) (c.merge-len.ensures.row ∙ (λ i. merged t (c.row-row.ensures i) (sources_in (same i))))
    ∙ ap (λ u. padded (bound + 1) (merge_at merged row pairs u)) c.target-target.ensures
    ∙ sym (get_or-map (λ u. padded (bound + 1) (merge_at merged row pairs u)) targets c.args.task 0 [] within)
