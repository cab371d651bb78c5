use Rattle.std.proofs.Common.{◌≡◌, ℕ, ◌+◌, ◌*◌, ◌<◌, ◌≤◌, sym, ap, ◌∙◌, length, get_or, arith, rules, List, subst, length-take, length-drop}
use Rattle.std.proofs.lemmas.Grind.{common_steps}
use Rattle.graph_rows.specs.Blocks.{rows_in}
use Rattle.graph_rows.proofs.Parts.{ends_within}
use Rattle.graph_rows.specs.Flat.{Flat}
use Rattle.graph_rows.proofs.BlockRows.{length-rows_in, row-rows_in, read_row, short_at}
use Rattle.graph_rows.proofs.flat.FlatGraph.at.Goals as goal

abbrev record_of : ℕ → ℕ → List ℕ → Flat
record_of count width words = record { width = width; rows = rows_in count width words }

below : (count width : ℕ) (words : List ℕ) (g : Flat) (id : ℕ) → record_of count width words ≡ g → id < length g.rows → id < count
below count width words g id e h = subst (λ k. id < k) (sym (sym (length-rows_in count width words) ∙ ap (λ (g : Flat). length g.rows) e)) h

pub index-requires : goal.index-requires
index-requires c =
    let at = below c.self.inside.count c.self.inside.width c.self.inside.words.items c.args.self.now c.args.i c.self.view_is c.requires in
    let end = ends_within c.self.inside.count (c.self.inside.width + 1) c.self.inside.words.items c.args.i at c.self.invariant.whole in
    search rules

pub slice_bounds-result-end : goal.slice_bounds-result-end
slice_bounds-result-end c =
    let at = below c.self.inside.count c.self.inside.width c.self.inside.words.items c.args.self.now c.args.i c.self.view_is c.requires in
    let end = ends_within c.self.inside.count (c.self.inside.width + 1) c.self.inside.words.items c.args.i at c.self.invariant.whole in
    let short = short_at c.self.inside.count c.self.inside.width c.self.inside.words.items c.args.i c.self.invariant at in
    let len : c.index.result.now ≡ get_or c.self.inside.words.items (c.args.i * (c.self.inside.width + 1)) 0 = grind (arith, common_steps) in
    let within : c.args.i * (c.self.inside.width + 1) + 1 + c.index.result.now ≤ length c.deref.result.now = rw c.deref.ensures.value (omega arith) in
    search rules

pub returns-clause-row : goal.returns-clause-row
returns-clause-row c =
    let at = below c.self.inside.count c.self.inside.width c.self.inside.words.items c.args.self.now c.args.i c.self.view_is c.requires in
    let short = short_at c.self.inside.count c.self.inside.width c.self.inside.words.items c.args.i c.self.invariant at in
    let end = ends_within c.self.inside.count (c.self.inside.width + 1) c.self.inside.words.items c.args.i at c.self.invariant.whole in
    let len : c.index.result.now ≡ get_or c.self.inside.words.items (c.args.i * (c.self.inside.width + 1)) 0 = grind (arith, common_steps) in
    rw (c.deref.ensures.value, ← c.self.view_is)
    (read_row c.self.inside.words.items (c.args.i * (c.self.inside.width + 1)) c.self.inside.width c.index.result.now (omega arith) len
    ∙ sym (row-rows_in c.self.inside.count c.self.inside.width c.self.inside.words.items c.args.i at))

pub returns-clause-short : goal.returns-clause-short
returns-clause-short c =
    let at = below c.self.inside.count c.self.inside.width c.self.inside.words.items c.args.self.now c.args.i c.self.view_is c.requires in
    let short = short_at c.self.inside.count c.self.inside.width c.self.inside.words.items c.args.i c.self.invariant at in
    let len : c.index.result.now ≡ get_or c.self.inside.words.items (c.args.i * (c.self.inside.width + 1)) 0 = grind (arith, common_steps) in
    let width : c.self.inside.width ≡ c.args.self.now.width = ap (λ (g : Flat). g.width) c.self.view_is in
    simp (length-take, length-drop) (omega arith)

pub returns-clause-small : goal.returns-clause-small
returns-clause-small c =
    let at = below c.self.inside.count c.self.inside.width c.self.inside.words.items c.args.self.now c.args.i c.self.view_is c.requires in
    let short = short_at c.self.inside.count c.self.inside.width c.self.inside.words.items c.args.i c.self.invariant at in
    let len : c.index.result.now ≡ get_or c.self.inside.words.items (c.args.i * (c.self.inside.width + 1)) 0 = grind (arith, common_steps) in
    simp (length-take, length-drop) (omega (arith, c.self.invariant.bound))
