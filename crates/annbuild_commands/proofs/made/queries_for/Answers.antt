use Rattle.std.proofs.Common.{◌≡◌, ◌∙◌, ◌*◌, ap}
use Rattle.std.proofs.lemmas.Result.{IfOk-weaker}
use Rattle.seeded_order.specs.Generator.{made_points_of}
use Rattle.annbuild_commands.specs.Trying.{queries_made}
use Rattle.annbuild_commands.proofs.TrialFacts.{queries_are}
use Rattle.annbuild_commands.proofs.made.queries_for.Goals as goal

pub returns : goal.returns
returns c =
    let o = c.args.options.now in
    let behind : c.from.result * c.from-2.result ≡ o.count * o.dim = λ i. c.from.ensures i * c.from-2.ensures i in
    IfOk-weaker c.made_points.result (λ q. q.vectors ≡ made_points_of o.queries o.dim o.seed (c.from.result * c.from-2.result)) (λ q. q.vectors ≡ queries_made o)
    (λ q e. e ∙ ap (made_points_of o.queries o.dim o.seed) behind ∙ queries_are o) c.made_points.ensures.vectors
