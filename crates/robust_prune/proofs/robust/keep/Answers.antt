use Rattle.std.proofs.Common.{◌≡◌, ℕ, Bool, ◌+◌, ◌<◌, ◌≤◌, ◌∙◌, ◌++◌, take, drop, set, swap, length, get_or, sym, ap, subst, arith, refl}
use Rattle.std.specs.List.{list_all}
use Rattle.std.proofs.lemmas.Grind.{drop_more_same}
use Rattle.std.proofs.lemmas.List.{drop-set-lt}
use Rattle.std.proofs.lemmas.List.Elements.{All-take}
use Rattle.std.proofs.lemmas.List.Sorted.{All-permutation, IsPermutation-refl, IsPermutation-trans, IsPermutation-swap, length_permutation}
use Rattle.ann_defs.specs.declared.near.Near.{Near}
use Rattle.ann_defs.specs.Nearness.{ids_of}
use Rattle.ann_defs.specs.RobustPrune.{stays}
use Rattle.robust_prune.proofs.Keeping.{IsKeeping, passes, keeping_none, keeping_no, keeping_yes, keeping_all}
use Rattle.robust_prune.proofs.Recent.{same_place, turned_moved, turned_same, turned_left, swapped_left, swapped_same}
use Rattle.robust_prune.proofs.robust.keep.Goals as goal
use Rattle.robust_prune.proofs.robust.keep.Goals.{then-stays_beside_kept, else-stays_beside_kept}

abbrev none : Near
none = record { dist = 0; id = 0 }

pub loop-i-init : goal.loop-i-init
loop-i-init c = record {
  keeping = keeping_none (stays c.args.points.now.vectors c.args.alpha.num c.args.alpha.den) c.args.degree c.args.cands.now c.args.out.now;
  same = λ t. refl;
  moved = IsPermutation-refl c.args.cands.now;
  left = refl;
  few = omega arith;
  rest = refl;
}

pub stays_beside_kept-requires-clause-kept : goal.stays_beside_kept-requires-clause-kept
stays_beside_kept-requires-clause-kept c =
    let l = c.loop-i in
    All-take (λ x. x.id < length c.args.points.now.vectors) l.len l.cands (All-permutation (λ x. x.id < length c.args.points.now.vectors) _ _ l.invariant.moved c.requires.ids)

pub stays_beside_kept-requires-clause-candidate : goal.stays_beside_kept-requires-clause-candidate
stays_beside_kept-requires-clause-candidate c =
    let l = c.loop-i in
    All-permutation (λ x. x.id < length c.args.points.now.vectors) _ _ l.invariant.moved c.requires.ids l.i none (omega arith)

pub loop-i-preserved : goal.loop-i-preserved
loop-i-preserved c =
    let l = c.loop-i in
    let beside = stays c.args.points.now.vectors c.args.alpha.num c.args.alpha.den in
    let kept = c.stays_beside_kept.new.kept in
    let few : l.len ≤ length l.cands = omega (arith, l.invariant.few) in
    let moved = turned_moved l.cands kept l.len few c.stays_beside_kept.ensures.kept in
    let left = turned_left l.cands kept l.len few c.stays_beside_kept.ensures.kept in
    let same : (t : ℕ → Bool) → list_all t (ids_of (take l.len (kept ++ drop l.len l.cands))) ≡ list_all t (take l.len l.out) = λ t. turned_same l.cands kept l.len few c.stays_beside_kept.ensures.kept t ∙ l.invariant.same t in
    let x = get_or c.args.cands.now l.i none in
    let is : get_or l.cands l.i none ≡ x = same_place l.cands c.args.cands.now l.i none l.invariant.left in
    let answer : c.stays_beside_kept.result ≡ passes beside (take l.len l.out) x =
    c.stays_beside_kept.ensures.beside ∙ l.invariant.same (λ c'. beside c' (get_or l.cands l.i none)) ∙ ap (passes beside (take l.len l.out)) is in
    elim c.if-stays_beside_kept.branch [
      | then-stays_beside_kept w ↦
          let turned = kept ++ drop l.len l.cands in
          let long : l.i < length turned = omega (arith, length_permutation l.cands turned moved) in
          let order = l.invariant.few in
          let here : get_or turned l.i none ≡ get_or l.cands l.i none = same_place turned l.cands l.i none (left l.i l.invariant.few) in
          let fits : l.len < length l.out = omega arith in
          rw (w.len-is, w.out-is, w.cands-is, w.swap.ensures.after) (record {
            keeping = subst (λ (y : Near). IsKeeping beside c.args.degree c.args.cands.now (set l.out l.len y.id) (l.i + 1) (l.len + 1)) (sym is)
                (keeping_yes beside none l.invariant.keeping (omega arith) (sym answer ∙ w.if-stays_beside_kept.true) (omega arith) fits);
            same = λ t. subst (λ (y : Near). list_all t (ids_of (take (l.len + 1) (swap turned l.len l.i))) ≡ list_all t (take (l.len + 1) (set l.out l.len y.id))) here
                (swapped_same turned l.len l.i none order long t l.out fits (same t));
            moved = IsPermutation-trans _ _ _ l.invariant.moved (IsPermutation-trans _ _ _ moved (IsPermutation-swap turned (swap turned l.len l.i) l.len l.i (omega arith) long refl));
            left = swapped_left turned l.len l.i none order long ∙ left (l.i + 1) (omega arith) ∙ drop_more_same l.cands c.args.cands.now l.i l.invariant.left;
            few = omega arith;
            rest = drop-set-lt (l.len + 1) l.out l.len _ (omega arith) ∙ drop_more_same l.out c.args.out.now l.len l.invariant.rest;
          })
      | else-stays_beside_kept w ↦
          rw (w.len-is, w.out-is, w.cands-is) (record {
            keeping = keeping_no beside none l.invariant.keeping (omega arith) (sym answer ∙ w.if-stays_beside_kept.false);
            same = same;
            moved = IsPermutation-trans _ _ _ l.invariant.moved moved;
            left = left (l.i + 1) (omega (arith, l.invariant.few)) ∙ drop_more_same l.cands c.args.cands.now l.i l.invariant.left;
            few = omega (arith, l.invariant.few);
            rest = l.invariant.rest;
          })
    ]

pub returns-after-loop-i-clause-kept : goal.returns-after-loop-i-clause-kept
returns-after-loop-i-clause-kept c = keeping_all (stays c.args.points.now.vectors c.args.alpha.num c.args.alpha.den) c.loop-i.invariant.keeping (omega arith)
