use Rattle.std.proofs.Common.{◌∙◌, List, get_or, arith, sym, ap}
use Rattle.std.specs.List.{list_all}
use Rattle.ann_defs.specs.declared.near.Near.{Near}
use Rattle.ann_defs.specs.Nearness.{ids_of}
use Rattle.ann_defs.specs.RobustPrune.{stays}
use Rattle.robust_prune.proofs.Covering.{beyond_one}
use Rattle.robust_prune.proofs.Recent.{one_fails, one_passes}
use Rattle.robust_prune.proofs.robust.stays_beside_kept.Goals as goal

abbrev none : Near
none = record { dist = 0; id = 0 }

pub returns-then-not-is_beyond-clause-beside : goal.returns-then-not-is_beyond-clause-beside
returns-then-not-is_beyond-clause-beside c =
    let some = c.args.alpha.some in
    let above = c.args.alpha.ordered in
    let vectors = c.args.points.now.vectors in
    let l = c.loop-i in
    let told = beyond_one vectors c.args.alpha.num c.args.alpha.den c.most_covered-most.result c.args.candidate (get_or l.kept l.i none).id (omega (arith, some, above)) c.most_covered-most.ensures in
    sym (sym l.invariant.beside ∙ one_fails (λ c'. stays vectors c.args.alpha.num c.args.alpha.den c' c.args.candidate) l.kept l.i none (omega arith) (sym told ∙ sym c.is_beyond.ensures ∙ c.if-not-is_beyond.true))
    ∙ ap (λ (xs : List Near). list_all (λ c'. stays vectors c.args.alpha.num c.args.alpha.den c' c.args.candidate) (ids_of xs)) l.invariant.same

pub loop-i-preserved : goal.loop-i-preserved
loop-i-preserved c =
    let some = c.args.alpha.some in
    let above = c.args.alpha.ordered in
    let vectors = c.args.points.now.vectors in
    let l = c.loop-i in
    let told = beyond_one vectors c.args.alpha.num c.args.alpha.den c.most_covered-most.result c.args.candidate (get_or l.kept l.i none).id (omega (arith, some, above)) c.most_covered-most.ensures in
    record {
      same = l.invariant.same;
      beside = one_passes (λ c'. stays vectors c.args.alpha.num c.args.alpha.den c' c.args.candidate) l.kept l.i none (omega arith) (sym told ∙ sym c.is_beyond.ensures ∙ c.if-not-is_beyond.false) ∙ l.invariant.beside;
    }
