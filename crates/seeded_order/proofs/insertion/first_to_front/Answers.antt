use Rattle.std.proofs.Common.{◌≡◌, ◌<◌, subst, arith, length, take, List, ℕ, not}
use Rattle.std.specs.Prelude.{◌==◌, count_by}
use Rattle.std.specs.List.{filter}
use Rattle.std.proofs.lemmas.List.{take_all}
use Rattle.seeded_order.proofs.Fronts.{front_more, rest_more, others_more, moved, others_lack}
use Rattle.seeded_order.proofs.insertion.first_to_front.Goals as goal

pub returns-then-here-id : goal.returns-then-here-id
returns-then-here-id c =
    moved c.args.id c.args.list.now c.loop-i.list c.loop-i.i c.loop-i.carry (omega arith) (omega arith) c.loop-i.invariant.front c.loop-i.invariant.rest c.if-here-id.true c.loop-i.invariant.others c.requires

pub loop-i-preserved : goal.loop-i-preserved
loop-i-preserved c =
    let xs = c.loop-i.list in
    let i = c.loop-i.i in
    let carry = c.loop-i.carry in
    let within : i < length xs = omega arith in
    let within' : i < length c.args.list.now = omega arith in
    record {
      front = front_more c.args.id c.args.list.now xs i carry within within' c.loop-i.invariant.front c.loop-i.invariant.rest;
      rest = rest_more c.args.id c.args.list.now xs i carry within within' c.loop-i.invariant.front c.loop-i.invariant.rest;
      others = others_more c.args.id c.args.list.now xs i carry within within' c.loop-i.invariant.front c.loop-i.invariant.rest c.if-here-id.false c.loop-i.invariant.others;
    }

pub returns : goal.returns
returns c =
    let ys = c.args.list.now in
    let i = c.loop-i.i in
    let all : take i ys ≡ ys = take_all i ys (omega arith) in
    let lacks : count_by (λ x. x == c.args.id) ys ≡ 0 = others_lack c.args.id ys (subst (λ (zs : List ℕ). filter (λ x. not (x == c.args.id)) zs ≡ zs) all c.loop-i.invariant.others) in
    absurd (omega (arith, lacks, c.requires))
