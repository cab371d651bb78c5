use Rattle.std.proofs.Common.{◌≡◌, ◌∙◌, ◌-◌, ◌<◌, ◌≤◌, ◌++◌, ℕ, Bool, true, false, List, not, length, take, drop, set, get_or, reverse, sym, ap, arith, length-set}
use Rattle.std.specs.Prelude.{nat_le}
use Rattle.std.specs.List.{filter}
use Rattle.std.proofs.lemmas.List.{take_all, take_rest, reverse-reverse}
use Rattle.ann_defs.specs.Distance.{dist_of, point}
use Rattle.pivot_trees.specs.Leaves.{is_left}
use Rattle.pivot_trees.proofs.Lists.{end_written}
use Rattle.pivot_trees.proofs.TwoEnds.{front_more, front_stays, back_more, back_stays}
use Rattle.pivot_trees.proofs.sides.write_sides.Goals as goal
use Rattle.pivot_trees.proofs.sides.write_sides.Goals.{then-goes_left, else-goes_left}

-- the test, where the pivots' vectors were read before
tested : (points : List (List ℕ)) (p q id : ℕ) (one other : List ℕ) (result : Bool) → one ≡ point points p → other ≡ point points q → result ≡ nat_le (dist_of (point points id) one) (dist_of (point points id) other) → is_left points p q id ≡ result
tested points p q id one other result first second is = sym (is ∙ (λ i. nat_le (dist_of (point points id) (first i)) (dist_of (point points id) (second i))))

pub loop-id-preserved : goal.loop-id-preserved
loop-id-preserved c =
    let near = is_left c.args.points.now.vectors c.args.first c.args.second in
    let ids = c.args.ids.now in
    let out = c.loop-id.out in
    let i = c.loop-id.id-index in
    let left = c.loop-id.left in
    let right = c.loop-id.right in
    let x = get_or ids i 0 in
    let lt : i < length ids = c.loop-id-test.true in
    let within : right ≤ length out = let size = c.loop-id.invariant.size in let low = c.loop-id.invariant.within in omega (arith, size, low) in
    let free : left < right = let places = c.loop-id.invariant.places in let low = c.loop-id.invariant.within in omega (arith, places, low, lt) in
    let is : near x ≡ c.goes_left.result = tested c.args.points.now.vectors c.args.first c.args.second x c.at-one.result.now c.at-other.result.now c.goes_left.result c.at-one.ensures.value c.at-other.ensures.value c.goes_left.ensures in
    let size = length-set (set out left x) (right - 1) x ∙ length-set out left x ∙ c.loop-id.invariant.size in
    let places = c.loop-id.invariant.places in
    let low = c.loop-id.invariant.within in
    elim c.if-goes_left.branch [
      | then-goes_left w ↦
          let yes_near : near x ≡ true = is ∙ w.if-goes_left.true in
          record {
            size = size;
            places = let l = w.left-is in let r = w.right-is in omega (arith, places, l, r);
            within = let r = w.right-is in omega (arith, low, r);
            near = ap (λ k. take k (set (set out left x) (right - 1) x)) w.left-is ∙ front_more near ids out i left right lt within free yes_near c.loop-id.invariant.near;
            far = ap (λ k. drop k (set (set out left x) (right - 1) x)) w.right-is ∙ back_stays near ids out i left right lt within free yes_near c.loop-id.invariant.far;
          }
      | else-goes_left w ↦
          let not_near : near x ≡ false = is ∙ w.if-goes_left.false in
          record {
            size = size;
            places = let l = w.left-is in let r = w.right-is in omega (arith, places, l, r, free);
            within = let r = w.right-is in omega (arith, low, r);
            near = ap (λ k. take k (set (set out left x) (right - 1) x)) w.left-is ∙ front_stays near ids out i left right lt within free not_near c.loop-id.invariant.near;
            far = ap (λ k. drop k (set (set out left x) (right - 1) x)) w.right-is ∙ back_more near ids out i left right lt within free not_near c.loop-id.invariant.far;
          }
    ]

pub returns-clause-out : goal.returns-clause-out
returns-clause-out c =
    let near = is_left c.args.points.now.vectors c.args.first c.args.second in
    let far = λ (id : ℕ). not (near id) in
    let ids = c.args.ids.now in
    let out = c.loop-id.out in
    let left = c.loop-id.left in
    let all : take c.loop-id.id-index ids ≡ ids = take_all c.loop-id.id-index ids (omega arith) in
    let met : left ≡ c.loop-id.right = omega arith in
    let within : left ≤ length out = omega arith in
    let turned : c.reverse.new.self ≡ reverse (take (length out - left) (drop left out)) = c.reverse.ensures.after in
    let rest : c.reverse.new.self ≡ filter far ids =
    turned ∙ ap (λ (xs : List ℕ). reverse xs) (take_rest out left ∙ ap (λ k. drop k out) met ∙ c.loop-id.invariant.far) ∙ reverse-reverse (filter far (take c.loop-id.id-index ids)) ∙ ap (filter far) all in
    end_written out c.reverse.new.self left within ∙ (λ i. (c.loop-id.invariant.near ∙ ap (filter near) all) i ++ rest i)
