use Rattle.std.proofs.Common.{◌≡◌, ◌≢◌, ◌&&◌, ◌<◌, Bool, true, not, eqb, get_or, length, subst, arith}
use Rattle.std.specs.List.{All}
use Rattle.std.proofs.lemmas.List.{take_all}
use Rattle.graph_rows.specs.Members.{holds}
use Rattle.graph_files.proofs.CleanRow.{inside_more, others_more}
use Rattle.graph_files.proofs.shown_row.are_others.Goals as goal

pub loop-id-preserved : goal.loop-id-preserved
loop-id-preserved c =
    let below : c.loop-id.id-index < length c.args.ids.now = omega arith in
    let id = get_or c.args.ids.now c.loop-id.id-index 0 in
    let same : (b : Bool) → (c.loop-id.clean && c.hold-clean.result) && b ≡ true → (c.loop-id.clean && holds c.args.members id) && b ≡ true = λ b. subst (λ h. (c.loop-id.clean && h) && b ≡ true) c.hold-clean.ensures in
    record {
      inside = λ e. inside_more (holds c.args.members) c.args.own c.args.ids.now c.loop-id.id-index c.loop-id.clean below c.loop-id.invariant.inside (same (not (eqb id c.args.own)) e);
      others = λ e. others_more (holds c.args.members) c.args.own c.args.ids.now c.loop-id.id-index c.loop-id.clean below c.loop-id.invariant.others (same (not (eqb id c.args.own)) e);
    }

pub returns-clause-inside : goal.returns-clause-inside
returns-clause-inside c e = subst (All (λ v. holds c.args.members v ≡ true)) (take_all c.loop-id.id-index c.args.ids.now (omega arith)) (c.loop-id.invariant.inside e)

pub returns-clause-others : goal.returns-clause-others
returns-clause-others c e = subst (All (λ v. v ≢ c.args.own)) (take_all c.loop-id.id-index c.args.ids.now (omega arith)) (c.loop-id.invariant.others e)
