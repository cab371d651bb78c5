use Rattle.std.proofs.Common.{◌≡◌, ◌∙◌, true, [], replicate, length, sym, ap, subst}
use Rattle.ann_defs.specs.Graph.{AreGoodRows}
use Rattle.graph_rows.specs.Flat.{Flat}
use Rattle.neighbour_lists.specs.Held.{Held}
use Rattle.neighbour_lists.proofs.Belonging.{empty_belong}
use Rattle.neighbour_lists.proofs.NearestLists.{empty_lists}
use Rattle.neighbour_lists.proofs.lists.Lists.empty.Goals as goal

pub of-requires-clause-good : goal.of-requires-clause-good
of-requires-clause-good c =
    let points = c.args.points.now.vectors in
    let rows : c.in_ok-rows.rows.rows ≡ replicate (length points) [] = ap (λ (g : Flat). g.rows) c.in_ok-rows.ensures ∙ ap (λ n. replicate n []) c.count-n.ensures.value in
    let width : c.in_ok-rows.rows.width ≡ c.args.list = ap (λ (g : Flat). g.width) c.in_ok-rows.ensures in
    subst (λ w. AreGoodRows (length points) w c.in_ok-rows.rows.rows) (sym width) (subst (AreGoodRows (length points) c.args.list) (sym rows) (empty_lists points c.args.list).good)

pub returns-clause-belong : goal.returns-clause-belong
returns-clause-belong c =
    let points = c.args.points.now.vectors in
    let rows : c.in_ok-rows.rows.rows ≡ replicate (length points) [] = ap (λ (g : Flat). g.rows) c.in_ok-rows.ensures ∙ ap (λ n. replicate n []) c.count-n.ensures.value in
    let flags : c.in_ok-active.active.items ≡ replicate (length points) true = c.in_ok-active.ensures.items_if_clones_equal (λ y e. e) ∙ ap (λ n. replicate n true) c.count-n.ensures.value in
    let seen = ap (λ (g : Flat). g.rows) c.in_ok-new.ensures ∙ ap (λ n. replicate n []) c.count-n.ensures.value in
    let seen_others = ap (λ (g : Flat). g.rows) c.in_ok-new-2.ensures ∙ ap (λ n. replicate n []) c.count-n.ensures.value in
    let lists : Held = record {
      list = c.args.list;
      rows = c.in_ok-rows.rows.rows;
      edges = c.in_ok-edges.edges;
      sorted = true;
      active = c.in_ok-active.active.items;
      seen_rows = _;
      seen_others = _;
    } in
    empty_belong points lists c.requires.list c.requires.words rows c.in_ok-edges.ensures flags seen seen_others
