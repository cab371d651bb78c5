use Rattle.std.proofs.Common.{◌≡◌, ◌∙◌, ◌+◌, ◌-◌, ◌≤◌, ◌∷◌, [], ◌++◌, ℕ, List, length, sym, ap, arith, length-append}
use Rattle.std.specs.List.{range_with_len}
use Rattle.std.proofs.lemmas.List.{map-append}
use Rattle.batch_insert.specs.declared.pair.Pair.{Pair}
use Rattle.batch_insert.specs.Sources.{sources_in}
use Rattle.batch_insert.proofs.Differing.{range_more}
use Rattle.part_tests.proofs.settled.later_sources.Goals as goal

more : (pairs : List Pair) (first source : ℕ) → first ≤ source → sources_in pairs ≡ range_with_len first (source - first) → sources_in (pairs ++ record { target = 0; source = source } ∷ []) ≡ range_with_len first (source + 1 - first)
more pairs first source low e =
    let count : source + 1 - first ≡ source - first + 1 = omega arith in
    let last : first + (source - first) ≡ source = omega arith in
    map-append (λ (p : Pair). p.source) pairs (record { target = 0; source = source } ∷ [])
    ∙ ap (λ (xs : List ℕ). xs ++ source ∷ []) e
    ∙ ap (λ u. range_with_len first (source - first) ++ u ∷ []) (sym last)
    ∙ sym (range_more first (source - first))
    ∙ ap (range_with_len first) (sym count)

pub loop-source-preserved : goal.loop-source-preserved
loop-source-preserved c =
    let k = c.loop-source.invariant in
    let low = k.low in
    let count = k.count in
    let longer : length c.push.new.self.items ≡ length c.loop-source.pairs.items + 1 = ap length c.in_ok-push.ensures.items ∙ length-append c.loop-source.pairs.items _ in
    record {
      sources = ap sources_in c.in_ok-push.ensures.items ∙ more c.loop-source.pairs.items c.args.first c.loop-source.source low k.sources;
      count = omega (arith, longer, count);
      low = omega (arith, low);
    }
