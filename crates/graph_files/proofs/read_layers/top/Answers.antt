use Rattle.std.proofs.Common.{ℕ, ◌<◌, ◌≤◌, List, length, nat_lt, sym, ap, ◌∙◌, arith}
use Rattle.std.proofs.lemmas.Bool.{ltb-true, ltb-false}
use Rattle.std.proofs.lemmas.List.{length-map}
use Rattle.ann_defs.specs.Graph.{has}
use Rattle.graph_rows.specs.Members.{held_over, count_over}
use Rattle.graph_files.proofs.UpperLoop.{top_held, top_count, no_layers}
use Rattle.graph_files.proofs.read_layers.top.Goals as goal

pub returns-in-Some-clause-held : goal.returns-in-Some-clause-held
returns-in-Some-clause-held c =
    let some : 0 < length c.args.layers.now = ltb-true 0 (length c.args.layers.now) (sym c.in-Some.ensures.item.0) in
    ap (λ (xs : List ℕ). λ id. has xs id) c.ids.ensures.value ∙ sym (top_held (λ id. nat_lt id c.args.count) c.args.layers.now c.in-Some.layer.now c.in-Some.layer.now some (sym c.in-Some.ensures.item.1))

pub returns-in-Some-clause-count : goal.returns-in-Some-clause-count
returns-in-Some-clause-count c =
    let some : 0 < length c.args.layers.now = ltb-true 0 (length c.args.layers.now) (sym c.in-Some.ensures.item.0) in
    ap length c.ids.ensures.value ∙ length-map c.in-Some.layer.now.entries (λ (e : ℕ × List ℕ). e.0) ∙ sym (top_count c.args.count c.args.layers.now c.in-Some.layer.now c.in-Some.layer.now some (sym c.in-Some.ensures.item.1))

pub returns-in-None-clause-held : goal.returns-in-None-clause-held
returns-in-None-clause-held c =
    let none : length c.args.layers.now ≤ 0 = ltb-false 0 (length c.args.layers.now) (sym c.in-None.ensures.item.0) in
    ap (held_over (λ id. nat_lt id c.args.count)) (sym (no_layers c.args.layers.now (omega arith)))

pub returns-in-None-clause-count : goal.returns-in-None-clause-count
returns-in-None-clause-count c =
    let none : length c.args.layers.now ≤ 0 = ltb-false 0 (length c.args.layers.now) (sym c.in-None.ensures.item.0) in
    ap (count_over c.args.count) (sym (no_layers c.args.layers.now (omega arith)))
