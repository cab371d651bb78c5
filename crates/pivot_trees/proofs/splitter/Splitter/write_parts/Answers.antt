use Rattle.std.proofs.Common.{◌≡◌, ◌∙◌, ◌+◌, ◌/◌, ◌++◌, ℕ, List, length, sym, ap, inl, inr, arith}
use Rattle.std.proofs.lemmas.List.{length-take-le, take-append-drop}
use Rattle.pivot_trees.specs.Leaves.{halves, sides_by, parts_of}
use Rattle.pivot_trees.proofs.Splitting.{parts_sides, parts_alike, parts_deep}
use Rattle.pivot_trees.proofs.splitter.Splitter.write_parts.Goals as goal
use Rattle.pivot_trees.proofs.splitter.Splitter.write_parts.Goals.{then-self-le-MAX_DEPTH+else-left-gt0, else-left-gt0-via-then-left-gt0+else-left-ids, else-left-gt0-via-else-left-gt0, else-self-le-MAX_DEPTH}

pub returns-then-left-ids : goal.returns-then-left-ids
returns-then-left-ids c =
    let s = c.args.self.now in
    let ids = c.args.ids.now in
    let points = s.points.now.vectors in
    let pivots = c.pivots-first.result in
    let sides : sides_by points pivots.0 pivots.1 ids ≡ parts_of points s.seed s.tree s.depth c.args.number ids =
    parts_sides points s.seed s.tree s.depth c.args.number ids pivots.0 pivots.1 c.write_sides-left.result c.if-self-le-MAX_DEPTH.true c.pivots-first.ensures.first c.pivots-first.ensures.second c.write_sides-left.ensures.left c.if-left-gt0.true c.if-left-ids.true in
    record {
      out = c.write_sides-left.ensures.out ∙ ap (λ (p : List ℕ × List ℕ). p.0 ++ p.1) sides;
      left = c.write_sides-left.ensures.left ∙ ap (λ (p : List ℕ × List ℕ). length p.0) sides;
    }

pub returns : goal.returns
returns c =
    let s = c.args.self.now in
    let ids = c.args.ids.now in
    let points = s.points.now.vectors in
    let halved : halves ids ≡ parts_of points s.seed s.tree s.depth c.args.number ids =
    elim c.if-self-le-MAX_DEPTH.branch [
      | then-self-le-MAX_DEPTH+else-left-gt0 w ↦ elim w.else-left-gt0.branch [
        | else-left-gt0-via-then-left-gt0+else-left-ids v ↦
            parts_alike points s.seed s.tree s.depth c.args.number ids w.pivots-first.result.0 w.pivots-first.result.1 w.write_sides-left.result w.pivots-first.ensures.first w.pivots-first.ensures.second w.write_sides-left.ensures.left (inr v.if-left-ids.false)
        | else-left-gt0-via-else-left-gt0 v ↦
            parts_alike points s.seed s.tree s.depth c.args.number ids w.pivots-first.result.0 w.pivots-first.result.1 w.write_sides-left.result w.pivots-first.ensures.first w.pivots-first.ensures.second w.write_sides-left.ensures.left (inl (let none = v.if-left-gt0.false in omega (arith, none)))
      ]
      | else-self-le-MAX_DEPTH w ↦ parts_deep points s.seed s.tree s.depth c.args.number ids w.if-self-le-MAX_DEPTH.false
    ] in
    record {
      out = c.copy_from_slice.ensures.after ∙ sym (take-append-drop ((length ids + 1) / 2) ids) ∙ ap (λ (p : List ℕ × List ℕ). p.0 ++ p.1) halved;
      left = sym (length-take-le ((length ids + 1) / 2) ids (omega arith)) ∙ ap (λ (p : List ℕ × List ℕ). length p.0) halved;
    }
