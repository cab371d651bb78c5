use Rattle.std.proofs.Common.{◌≡◌, ◌<◌, ◌≤◌, ◌+◌, ◌*◌, ap, ◌∙◌, sym, subst, ℕ, List, length, rules}
use Rattle.graph_rows.proofs.Parts.{ends_within}
use Rattle.graph_rows.specs.Blocks.{rows_in}
use Rattle.graph_rows.specs.Flat.{Flat, with_row}
use Rattle.graph_rows.proofs.BlockRows.{length-rows_in, items-written, AreBlocks-written, rows-written}
use Rattle.graph_rows.proofs.flat.FlatGraph.set_row.Goals as goal

abbrev record_of : ℕ → ℕ → List ℕ → Flat
record_of count width words = record { width = width; rows = rows_in count width words }

below : (count width : ℕ) (words : List ℕ) (g : Flat) (id : ℕ) → record_of count width words ≡ g → id < length g.rows → id < count
below count width words g id e h = subst (λ k. id < k) (sym (ap (λ (g : Flat). length g.rows) e) ∙ length-rows_in count width words) h

few : (count width : ℕ) (words : List ℕ) (g : Flat) (n : ℕ) → record_of count width words ≡ g → n ≤ g.width → n ≤ width
few count width words g n e h = subst (λ (k : ℕ). n ≤ k) (sym (ap (λ (g : Flat). g.width) e)) h

pub slice_bounds-write_block-end : goal.slice_bounds-write_block-end
slice_bounds-write_block-end c =
    let at = below c.self.inside.count c.self.inside.width c.self.inside.words.items c.args.self.now c.args.i c.self.view_is c.requires.i in
    let within : c.args.i * (c.self.inside.width + 1) + (c.self.inside.width + 1) ≤ length c.deref_mut.result.now = rw c.deref_mut.ensures.value (ends_within c.self.inside.count (c.self.inside.width + 1) c.self.inside.words.items c.args.i at c.self.invariant.whole) in
    search rules

pub invariant_of-self : goal.invariant_of-self
invariant_of-self c =
    let at = below c.self.inside.count c.self.inside.width c.self.inside.words.items c.args.self.now c.args.i c.self.view_is c.requires.i in
    let short = few c.self.inside.count c.self.inside.width c.self.inside.words.items c.args.self.now (length c.args.ids.now) c.self.view_is c.requires.ids in
    rw (items-written c.self.inside.count c.self.inside.width c.self.inside.words.items c.args.i c.args.ids.now c.self.invariant at short c.self.inside.words.len c.deref_mut.result.now c.write_block.new.block c.deref_mut.ensures.len c.deref_mut.ensures.value c.write_block.ensures)
    (AreBlocks-written c.self.inside.count c.self.inside.width c.self.inside.words.items c.args.i c.args.ids.now c.self.invariant at short)

pub returns : goal.returns
returns c =
    let at = below c.self.inside.count c.self.inside.width c.self.inside.words.items c.args.self.now c.args.i c.self.view_is c.requires.i in
    let short = few c.self.inside.count c.self.inside.width c.self.inside.words.items c.args.self.now (length c.args.ids.now) c.self.view_is c.requires.ids in
    ap (λ ws. record_of c.self.inside.count c.self.inside.width ws) (items-written c.self.inside.count c.self.inside.width c.self.inside.words.items c.args.i c.args.ids.now c.self.invariant at short c.self.inside.words.len c.deref_mut.result.now c.write_block.new.block c.deref_mut.ensures.len c.deref_mut.ensures.value c.write_block.ensures)
    ∙ (let rows = rows-written c.self.inside.count c.self.inside.width c.self.inside.words.items c.args.i c.args.ids.now c.self.invariant at short in
    λ j. record { width = c.self.inside.width; rows = rows j })
    ∙ ap (λ (g : Flat). with_row g c.args.i c.args.ids.now) c.self.view_is
