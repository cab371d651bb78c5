use Rattle.std.proofs.Common.{◌≡◌, ◌+◌, ◌<◌, ◌∙◌, ◌++◌, true, false, sym, take, length, get_or, rules, arith, refl}
use Rattle.std.specs.Prelude.{nat_le}
use Rattle.std.proofs.lemmas.Bool.{leb-true, leb-false}
use Rattle.std.proofs.lemmas.Grind.{common_steps, drop_more_same}
use Rattle.std.proofs.lemmas.List.{take_more_set, drop-set-lt}
use Rattle.std.proofs.lemmas.List.Elements.{All-push, All-set}
use Rattle.ann_defs.specs.declared.near.Near.{Near}
use Rattle.ann_defs.specs.Nearness.{near_cmp, ids_of}
use Rattle.ann_defs.specs.RobustPrune.{stays, kept}
use Rattle.ann_defs.specs.Ordered.{ordered}
use Rattle.robust_prune.proofs.Keeping.{passes}
use Rattle.robust_prune.proofs.TwoLists.{among_none, settled_no, settled_yes, other_no, other_yes, among_full, among_all}
use Rattle.robust_prune.proofs.among.keep_among.Goals as goal

abbrev none : Near
none = record { dist = 0; id = 0 }

pub loop-i-init : goal.loop-i-init
loop-i-init c = record {
  among = among_none (stays c.args.points.now.vectors c.args.alpha.num c.args.alpha.den) c.args.degree c.args.settled.now c.args.others.now c.args.out.now;
  row = search rules;
  ids = c.requires.other_ids;
  rest = refl;
}

pub loop-i-preserved-then-stays_beside_those : goal.loop-i-preserved-then-stays_beside_those
loop-i-preserved-then-stays_beside_those c =
    let l = c.loop-i in
    let beside = stays c.args.points.now.vectors c.args.alpha.num c.args.alpha.den in
    let x = get_or c.args.settled.now l.i none in
    let at : l.i < length c.args.settled.now = c.is_settled_next.ensures.settled c.if-is_settled_next.true in
    let answer : c.stays_beside_those.result ≡ passes beside (ids_of (take l.fresh l.others)) x = grind (arith, common_steps) in
    let fits : l.len < length l.out = omega arith in
    record {
      among = settled_yes beside c.args.degree c.args.settled.now c.args.others.now l.others l.out l.i l.j l.fresh l.len none c.requires.settled_rise c.requires.others_rise c.requires.spread c.requires.distinct l.invariant.among at (c.is_settled_next.ensures.before none c.if-is_settled_next.true) (sym answer ∙ c.if-stays_beside_those.true) (omega arith) fits;
      row = rw (take_more_set l.out l.len x.id fits) (All-push (λ c'. c' < length c.args.points.now.vectors) _ x.id l.invariant.row (c.requires.settled_ids l.i none at));
      ids = l.invariant.ids;
      rest = drop-set-lt (l.len + 1) l.out l.len x.id (omega arith) ∙ drop_more_same l.out c.args.out.now l.len l.invariant.rest;
    }

pub loop-i-preserved-else-stays_beside_those : goal.loop-i-preserved-else-stays_beside_those
loop-i-preserved-else-stays_beside_those c =
    let l = c.loop-i in
    let beside = stays c.args.points.now.vectors c.args.alpha.num c.args.alpha.den in
    let x = get_or c.args.settled.now l.i none in
    let at : l.i < length c.args.settled.now = c.is_settled_next.ensures.settled c.if-is_settled_next.true in
    let answer : c.stays_beside_those.result ≡ passes beside (ids_of (take l.fresh l.others)) x = grind (arith, common_steps) in
    record {
      among = settled_no beside c.args.degree c.args.settled.now c.args.others.now l.others l.out l.i l.j l.fresh l.len none c.requires.settled_rise c.requires.others_rise c.requires.spread c.requires.distinct l.invariant.among at (c.is_settled_next.ensures.before none c.if-is_settled_next.true) (sym answer ∙ c.if-stays_beside_those.false);
      row = l.invariant.row;
      ids = l.invariant.ids;
      rest = l.invariant.rest;
    }

pub loop-i-preserved-then-stays_beside_all : goal.loop-i-preserved-then-stays_beside_all
loop-i-preserved-then-stays_beside_all c =
    let l = c.loop-i in
    let beside = stays c.args.points.now.vectors c.args.alpha.num c.args.alpha.den in
    let y = get_or l.others l.j none in
    let far : l.j < length l.others = c.is_settled_next.ensures.other c.if-is_settled_next.false in
    let answer : c.stays_beside_all.result ≡ passes beside (take l.len l.out) y = grind (arith, common_steps) in
    let fits : l.len < length l.out = omega arith in
    let inside = l.invariant.ids l.j none far in
    record {
      among = other_yes beside c.args.degree c.args.settled.now c.args.others.now l.others l.out l.i l.j l.fresh l.len none c.requires.settled_rise c.requires.others_rise c.requires.spread c.requires.distinct l.invariant.among far (c.is_settled_next.ensures.behind none c.if-is_settled_next.false) (sym answer ∙ c.if-stays_beside_all.true) (omega arith) fits;
      row = rw (take_more_set l.out l.len y.id fits) (All-push (λ c'. c' < length c.args.points.now.vectors) _ y.id l.invariant.row inside);
      ids = All-set (λ (x : Near). x.id < length c.args.points.now.vectors) l.others l.fresh y inside l.invariant.ids;
      rest = drop-set-lt (l.len + 1) l.out l.len y.id (omega arith) ∙ drop_more_same l.out c.args.out.now l.len l.invariant.rest;
    }

pub loop-i-preserved : goal.loop-i-preserved
loop-i-preserved c =
    let l = c.loop-i in
    let beside = stays c.args.points.now.vectors c.args.alpha.num c.args.alpha.den in
    let y = get_or l.others l.j none in
    let far : l.j < length l.others = c.is_settled_next.ensures.other c.if-is_settled_next.false in
    let answer : c.stays_beside_all.result ≡ passes beside (take l.len l.out) y = grind (arith, common_steps) in
    record {
      among = other_no beside c.args.degree c.args.settled.now c.args.others.now l.others l.out l.i l.j l.fresh l.len none c.requires.settled_rise c.requires.others_rise c.requires.spread c.requires.distinct l.invariant.among far (c.is_settled_next.ensures.behind none c.if-is_settled_next.false) (sym answer ∙ c.if-stays_beside_all.false);
      row = l.invariant.row;
      ids = l.invariant.ids;
      rest = l.invariant.rest;
    }

pub returns-after-loop-i-clause-kept : goal.returns-after-loop-i-clause-kept
returns-after-loop-i-clause-kept c =
    let l = c.loop-i in
    let beside = stays c.args.points.now.vectors c.args.alpha.num c.args.alpha.den in
    let settled = c.args.settled.now in
    let others = c.args.others.now in
    let k = l.invariant.among in
    elim (nat_le c.args.degree l.len) as (λ b. nat_le c.args.degree l.len ≡ b → take l.len l.out ≡ ids_of (kept beside c.args.degree (ordered near_cmp (settled ++ others)))) [
      | true ↦ λ e. among_full beside c.args.degree settled others l.others l.out l.i l.j l.fresh l.len none c.requires.settled_rise c.requires.others_rise c.requires.spread c.requires.distinct k (leb-true c.args.degree l.len e)
      | false ↦ λ e. let open_row = leb-false c.args.degree l.len e in among_all beside c.args.degree settled others l.others l.out l.i l.j l.fresh l.len none c.requires.settled_rise c.requires.others_rise c.requires.spread c.requires.distinct k (omega arith) (omega arith)
    ] refl
