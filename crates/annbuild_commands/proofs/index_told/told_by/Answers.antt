use Rattle.std.proofs.Common.{◌≡◌, ◌+◌, arith, length}
use Rattle.std.proofs.lemmas.List.{length-map}
use Rattle.graph_rows.specs.View.{contents}
use Rattle.graph_rows.specs.Layers.{Layered}
use Rattle.annbuild_commands.proofs.IndexFacts.{told_is, kind_back}
use Rattle.annbuild_commands.proofs.index_told.told_by.Goals as goal

pub returns : goal.returns
returns c =
    let layers : 1 + c.len.result ≡ length (contents c.args.index.now).layers = omega (arith, c.len.ensures, length-map c.args.index.now.upper.items (λ (l : Layered). l.entries)) in
    told_is (contents c.args.index.now) c.args.index.now.kind (1 + c.len.result) c.edges.result (kind_back c.args.index.now.kind) layers c.edges.ensures
