use Rattle.std.proofs.Common.{◌≡◌, ◌<◌, ◌+◌, ◌∙◌, ℕ, [], ◌∷◌, ◌++◌, take, set, length, get_or, length-set, refl, ap, sym, subst, arith}
use Rattle.std.specs.List.{fold}
use Rattle.std.proofs.lemmas.List.{take_more_set}
use Rattle.std.proofs.lemmas.List.Elements.{All-get_or}
use Rattle.ann_defs.specs.declared.near.Near.{Near}
use Rattle.ann_defs.specs.Distance.{point}
use Rattle.ann_defs.specs.Nearness.{near_of}
use Rattle.near_lists.specs.Gathered.{add_once}
use Rattle.near_lists.specs.Marks.{AreTaken}
use Rattle.near_lists.proofs.Gathering.{fold_more, fold_map_more}
use Rattle.near_lists.proofs.Taking.{taken_first, up_to_first, up_to_set, taken_there, taken_new, taken_more}
use Rattle.near_lists.proofs.gathered.gather.Goals as goal

pub loop-x-init : goal.loop-x-init
loop-x-init c = record {
  list = refl;
  bound = omega arith;
  taken = taken_first (length c.args.points.now.vectors) c.args.stamp c.args.p c.args.marks.now c.requires.some (omega arith) c.requires.later;
  up_to = up_to_set c.args.stamp c.args.p c.args.marks.now (omega arith) (up_to_first c.args.stamp c.args.marks.now c.requires.later);
}

pub loop-x-preserved-then-marks-x : goal.loop-x-preserved-then-marks-x
loop-x-preserved-then-marks-x c =
    let none : Near = record { dist = 0; id = 0 } in
    let i = c.loop-x.x-index in
    let x = get_or c.args.measured.now i none in
    let inside : x.id < length c.args.points.now.vectors = All-get_or (λ (z : Near). z.id < length c.args.points.now.vectors) c.args.measured.now i none c.loop-x-test.true c.requires.in_range in
    let there = taken_there (length c.args.points.now.vectors) c.args.stamp c.args.p (take c.loop-x.len c.loop-x.room) c.loop-x.marks x inside (omega (arith, length-set {A = ℕ})) c.loop-x.invariant.taken c.if-marks-x.true in
    record {
      list = sym there ∙ ap (λ acc. add_once c.args.p acc x) c.loop-x.invariant.list ∙ sym (fold_more (add_once c.args.p) [] c.args.measured.now i none c.loop-x-test.true);
      bound = omega arith;
      taken = c.loop-x.invariant.taken;
      up_to = c.loop-x.invariant.up_to;
    }

pub loop-x-preserved : goal.loop-x-preserved
loop-x-preserved c =
    let none : Near = record { dist = 0; id = 0 } in
    let n = length c.args.points.now.vectors in
    let i = c.loop-x.x-index in
    let x = get_or c.args.measured.now i none in
    let acc = take c.loop-x.len c.loop-x.room in
    let inside : x.id < n = All-get_or (λ (z : Near). z.id < n) c.args.measured.now i none c.loop-x-test.true c.requires.in_range in
    let new = taken_new n c.args.stamp c.args.p acc c.loop-x.marks x inside (omega (arith, length-set {A = ℕ})) c.loop-x.invariant.taken c.if-marks-x.false in
    let pushed : take (c.loop-x.len + 1) (set c.loop-x.room c.loop-x.len x) ≡ acc ++ x ∷ [] = take_more_set c.loop-x.room c.loop-x.len x (omega arith) in
    record {
      list = pushed ∙ sym new ∙ ap (λ ys. add_once c.args.p ys x) c.loop-x.invariant.list ∙ sym (fold_more (add_once c.args.p) [] c.args.measured.now i none c.loop-x-test.true);
      bound = omega arith;
      taken = subst (λ ys. AreTaken n c.args.stamp c.args.p ys (set c.loop-x.marks x.id c.args.stamp)) (sym pushed)
          (taken_more n c.args.stamp c.args.p acc c.loop-x.marks x inside (omega (arith, length-set {A = ℕ})) c.loop-x.invariant.taken);
      up_to = up_to_set c.args.stamp x.id c.loop-x.marks (omega (arith, length-set {A = ℕ})) c.loop-x.invariant.up_to;
    }

pub loop-id-preserved-then-marks-id : goal.loop-id-preserved-then-marks-id
loop-id-preserved-then-marks-id c =
    let points = c.args.points.now.vectors in
    let i = c.loop-id.id-index in
    let id = get_or c.args.extra.now i 0 in
    let x = near_of points (point points c.args.p) id in
    let inside : id < length points = All-get_or (λ u. u < length points) c.args.extra.now i 0 c.loop-id-test.true c.requires.extra in
    let there = taken_there (length points) c.args.stamp c.args.p (take c.loop-id.len c.loop-id.room) c.loop-id.marks x inside (omega (arith, length-set {A = ℕ})) c.loop-id.invariant.taken c.if-marks-id.true in
    record {
      list = sym there ∙ ap (λ acc. add_once c.args.p acc x) c.loop-id.invariant.list
          ∙ sym (fold_map_more (add_once c.args.p) (near_of points (point points c.args.p)) (fold (add_once c.args.p) [] c.args.measured.now) c.args.extra.now i 0 c.loop-id-test.true);
      bound = omega arith;
      taken = c.loop-id.invariant.taken;
      up_to = c.loop-id.invariant.up_to;
    }

pub loop-id-preserved : goal.loop-id-preserved
loop-id-preserved c =
    let points = c.args.points.now.vectors in
    let q = point points c.args.p in
    let i = c.loop-id.id-index in
    let id = get_or c.args.extra.now i 0 in
    let x = near_of points q id in
    let acc = take c.loop-id.len c.loop-id.room in
    let near : c.near_to.result ≡ x = c.near_to.ensures ∙ ap (λ v. near_of points v id) c.at.ensures.value in
    let inside : id < length points = All-get_or (λ u. u < length points) c.args.extra.now i 0 c.loop-id-test.true c.requires.extra in
    let new = taken_new (length points) c.args.stamp c.args.p acc c.loop-id.marks x inside (omega (arith, length-set {A = ℕ})) c.loop-id.invariant.taken c.if-marks-id.false in
    let pushed : take (c.loop-id.len + 1) (set c.loop-id.room c.loop-id.len c.near_to.result) ≡ acc ++ x ∷ [] =
    take_more_set c.loop-id.room c.loop-id.len c.near_to.result (omega arith) ∙ ap (λ (y : Near). acc ++ y ∷ []) near in
    record {
      list = pushed ∙ sym new ∙ ap (λ ys. add_once c.args.p ys x) c.loop-id.invariant.list
          ∙ sym (fold_map_more (add_once c.args.p) (near_of points q) (fold (add_once c.args.p) [] c.args.measured.now) c.args.extra.now i 0 c.loop-id-test.true);
      bound = omega arith;
      taken = subst (λ ys. AreTaken (length points) c.args.stamp c.args.p ys (set c.loop-id.marks id c.args.stamp)) (sym pushed)
          (taken_more (length points) c.args.stamp c.args.p acc c.loop-id.marks x inside (omega (arith, length-set {A = ℕ})) c.loop-id.invariant.taken);
      up_to = up_to_set c.args.stamp id c.loop-id.marks (omega (arith, length-set {A = ℕ})) c.loop-id.invariant.up_to;
    }
