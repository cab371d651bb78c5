use Rattle.std.proofs.Common.{◌≡◌, ◌∙◌, ◌+◌, ◌-◌, ◌<◌, ◌++◌, ℕ, List, [], length, take, drop, get_or, sym, ap, subst, arith}
use Rattle.std.specs.List.{All}
use Rattle.std.proofs.lemmas.List.Elements.{All-get_or}
use Rattle.pivot_trees.specs.Blocks.{lists_of}
use Rattle.pivot_trees.specs.Leaves.{place_of_id}
use Rattle.pivot_trees.proofs.Lists.{many_lists, list_at, all_written, place_step}
use Rattle.pivot_trees.proofs.places.place_ids.Goals as goal

pub put_place-requires : goal.put_place-requires
put_place-requires c =
    let lists = lists_of c.args.leaves.now in
    let place = c.loop-place.place - 1 in
    let many = many_lists c.args.leaves.now in
    let there : place < length c.args.leaves.now = omega arith in
    let list : c.as_slice.result.now ≡ get_or lists place [] = c.as_slice.ensures.value ∙ list_at c.args.leaves.now place c.index-leaves-place.result there c.index-leaves-place.is in
    let count : length c.as_mut_slice.result.now ≡ c.args.count = ap (λ (xs : List ℕ). length xs) c.as_mut_slice.ensures.value ∙ c.loop-place.invariant.many in
    let below : All (λ u. u < c.args.count) (get_or lists place []) = All-get_or (λ (ids : List ℕ). All (λ u. u < c.args.count) ids) lists place [] (omega (arith, many, there)) c.requires in
    subst (λ (ids : List ℕ). All (λ u. u < length c.as_mut_slice.result.now) ids) (sym list) (subst (λ k. All (λ u. u < k) (get_or lists place [])) (sym count) below)

pub loop-place-preserved : goal.loop-place-preserved
loop-place-preserved c =
    let lists = lists_of c.args.leaves.now in
    let place = c.loop-place.place - 1 in
    let new = c.put_place.new.places in
    let old = c.loop-place.places.items in
    let many = many_lists c.args.leaves.now in
    let there : place < length c.args.leaves.now = omega arith in
    let list : c.as_slice.result.now ≡ get_or lists place [] = c.as_slice.ensures.value ∙ list_at c.args.leaves.now place c.index-leaves-place.result there c.index-leaves-place.is in
    let same : length c.as_mut_slice.result.now ≡ length old = ap (λ (xs : List ℕ). length xs) c.as_mut_slice.ensures.value in
    let count : length new ≡ length old = c.put_place.ensures.count ∙ same in
    let room : length old ≡ c.loop-place.places.len = sym same ∙ c.as_mut_slice.ensures.len in
    let written : take c.loop-place.places.len (new ++ drop (length new) old) ≡ new = all_written c.loop-place.places.len new old (count ∙ room) room in
    record {
      within = omega arith;
      many = ap (λ (xs : List ℕ). length xs) written ∙ count ∙ c.loop-place.invariant.many;
      first = λ id lt.
          let within : id < length c.as_mut_slice.result.now = let m = c.loop-place.invariant.many in omega (arith, same, m, lt) in
          let one : place + 1 ≡ c.loop-place.place = omega arith in
          let before : get_or c.as_mut_slice.result.now id 0 ≡ place + 1 + place_of_id (drop (place + 1) lists) id =
          ap (λ (xs : List ℕ). get_or xs id 0) c.as_mut_slice.ensures.value ∙ c.loop-place.invariant.first id lt ∙ ap (λ k. k + place_of_id (drop k lists) id) (sym one) in
          ap (λ (xs : List ℕ). get_or xs id 0) written
          ∙ place_step lists place id (get_or c.as_mut_slice.result.now id 0) (get_or new id 0) c.as_slice.result.now (omega (arith, many, there)) list before (c.put_place.ensures.each id within);
    }
