use Rattle.std.proofs.Common.{◌≡◌, ◌∙◌, ◌+◌, ◌*◌, ◌<◌, ◌≤◌, ◌++◌, ◌∷◌, ℕ, List, [], Vec, Global, length, take, get_or, sym, ap, subst, arith}
use Rattle.std.specs.List.{All}
use Rattle.std.proofs.Math.Nat.{mul-le-mul_right}
use Rattle.std.proofs.lemmas.List.{map_more}
use Rattle.std.proofs.lemmas.List.Elements.{All-get_or, All-push, All-weaker}
use Rattle.pivot_trees.specs.Blocks.{lists_of}
use Rattle.pivot_trees.proofs.Lists.{items_of, many_lists, list_at}
use Rattle.pivot_trees.proofs.depth.round_of.Goals as goal

-- the words of a round fit a number
words_fit : (count width : ℕ) → count ≤ 4194304 → width ≤ 4194305 → count * width < 18446744073709551616
words_fit count width few narrow =
    let one : count * width ≤ 4194304 * width = mul-le-mul_right {m = count} {n = 4194304} width few in
    omega (arith, one, narrow)

-- one list more
list_more : (vectors : List (Vec ℕ Global)) (i width wider : ℕ) (v : Vec ℕ Global) → i < length vectors → v ≡ get_or vectors i v → width ≤ wider → length v.items + 1 ≤ wider → All (λ ids. length ids + 1 ≤ width) (lists_of (take i vectors)) → All (λ ids. length ids + 1 ≤ wider) (lists_of (take (i + 1) vectors))
list_more vectors i width wider v lt is more fits all =
    let lists = lists_of (take i vectors) in
    subst (All (λ ids. length ids + 1 ≤ wider)) (ap (λ (x : Vec ℕ Global). lists_of (take i vectors) ++ x.items ∷ []) is ∙ sym (map_more items_of vectors i v lt))
    (All-push (λ (ids : List ℕ). length ids + 1 ≤ wider) lists v.items (All-weaker (λ (ids : List ℕ). length ids + 1 ≤ width) (λ (ids : List ℕ). length ids + 1 ≤ wider) (λ ids h. omega (arith, h, more)) lists all) fits)

pub overflow_mul-i : goal.overflow_mul-i
overflow_mul-i c =
    let i = c.loop-i.i in
    let many = many_lists c.args.lists.now in
    let few = c.requires.few in
    let at : i < length c.args.lists.now = c.loop-i-test.true in
    let same = ap (λ (ids : List ℕ). length ids) (list_at c.args.lists.now i c.index-lists-i.result at c.index-lists-i.is) in
    let short = All-get_or (λ (ids : List ℕ). length ids ≤ 4194304) (lists_of c.args.lists.now) i [] (omega (arith, many, at)) c.requires.short in
    let narrow : c.max-wider.result ≤ 4194305 = omega (arith, c.max-wider.ensures, c.len.ensures, same, short, c.loop-i.invariant.bound) in
    let small = words_fit (i + 1) c.max-wider.result (omega (arith, at, few)) narrow in
    omega (arith, small)

pub loop-i-preserved : goal.loop-i-preserved
loop-i-preserved c =
    let i = c.loop-i.i in
    let many = many_lists c.args.lists.now in
    let at : i < length c.args.lists.now = c.loop-i-test.true in
    let same = ap (λ (ids : List ℕ). length ids) (list_at c.args.lists.now i c.index-lists-i.result at c.index-lists-i.is) in
    let short = All-get_or (λ (ids : List ℕ). length ids ≤ 4194304) (lists_of c.args.lists.now) i [] (omega (arith, many, at)) c.requires.short in
    let wider = c.max-wider.ensures in
    let len = c.len.ensures in
    let bound = c.loop-i.invariant.bound in
    let wide = c.loop-i.invariant.wide in
    record {
      wide = omega (arith, wider, len, wide);
      bound = omega (arith, wider, len, same, short, bound);
      fit = list_more c.args.lists.now i c.loop-i.width c.max-wider.result c.index-lists-i.result at c.index-lists-i.is (omega (arith, wider, len)) (omega (arith, wider, len)) c.loop-i.invariant.fit;
      words = c.if-i-wider.false;
    }
