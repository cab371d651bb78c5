use Rattle.std.proofs.Common.{◌≡◌, ◌<◌, ◌∙◌, ◌++◌, ◌∷◌, [], ℕ, List, Vec, Global, map, take, length, get_or, sym, ap, arith, rules, append_assoc}
use Rattle.std.proofs.lemmas.List.{get_or-map, take_more, map-append, map_push, length-take-le}
use Rattle.hnsw_build.specs.Grown.{build_in, layers_in}
use Rattle.hnsw_build.specs.LayeredInsert.{LayeredBuild}
use Rattle.hnsw_build.specs.Wanted.{block_of_point, point_blocks, rows_of_point}
use Rattle.hnsw_build.proofs.PointRows.{block_front, block_room}
use Rattle.hnsw_build.proofs.blocks.keep_rows.Goals as goal

-- the block at a place is that of its id
block_at : (b : LayeredBuild) (layers : List (List (List ℕ))) (ids : List ℕ) (blocks : List (List ℕ)) (i : ℕ) → blocks ≡ point_blocks b layers ids → i < length ids → get_or blocks i [] ≡ block_of_point b layers (get_or ids i 0)
block_at b layers ids blocks i is lt = ap (λ (bs : List (List ℕ)). get_or bs i []) is ∙ get_or-map (block_of_point b layers) ids i 0 [] lt

pub slice_bounds-to_vec-end : goal.slice_bounds-to_vec-end
slice_bounds-to_vec-end c =
    let w = c.args.layers.now in
    let room = block_room (build_in w) (layers_in w) (get_or c.args.ids.now c.loop-i.i 0) in
    let long = ap (λ (x : List ℕ). length x) (c.get.ensures ∙ block_at (build_in w) (layers_in w) c.args.ids.now _ c.loop-i.i c.requires.blocks c.loop-i-test.true) in
    let len = c.rows_len-len.ensures in
    sym (length-take-le c.rows_len-len.result c.get.result.now (omega (arith, room, long, len)))

pub loop-i-preserved : goal.loop-i-preserved
loop-i-preserved c =
    let w = c.args.layers.now in
    let b = build_in w in
    let layers = layers_in w in
    let ids = c.args.ids.now in
    let i = c.loop-i.i in
    let p = get_or ids i 0 in
    let block : c.get.result.now ≡ block_of_point b layers p = c.get.ensures ∙ block_at b layers ids _ i c.requires.blocks c.loop-i-test.true in
    let items : c.in_ok-row.row.items ≡ take c.rows_len-len.result c.get.result.now = search rules in
    let row : c.in_ok-row.row.items ≡ rows_of_point b layers p = items ∙ (λ j. take (c.rows_len-len.ensures j) (block j)) ∙ block_front b layers p in
    let old : List (List ℕ) = map (λ (y : Vec ℕ Global). y.items) c.args.rows.now.items in
    ap (map (λ (y : Vec ℕ Global). y.items)) c.in_ok-push.ensures.items
    ∙ map_push (λ (y : Vec ℕ Global). y.items) c.loop-i.rows.items c.in_ok-row.row
    ∙ (λ j. c.loop-i.invariant j ++ row j ∷ [])
    ∙ append_assoc old (map (rows_of_point b layers) (take i ids)) (rows_of_point b layers p ∷ [])
    ∙ ap (λ (xs : List (List ℕ)). old ++ xs) (sym (ap (map (rows_of_point b layers)) (take_more ids i 0 c.loop-i-test.true) ∙ map-append (rows_of_point b layers) (take i ids) (p ∷ [])))
