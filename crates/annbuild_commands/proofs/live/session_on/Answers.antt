use Rattle.std.proofs.Common.{◌≡◌, ◌∙◌, ap, sym, subst}
use Rattle.ann_defs.specs.Distance.{PointSet}
use Rattle.vamana_build.specs.declared.settings.VamanaSettings.{VamanaSettings}
use Rattle.index_build.specs.Stamping.{stamp_for}
use Rattle.annbuild_commands.specs.Living.{IsSession}
use Rattle.annbuild_commands.proofs.LiveFacts.{session_is, live_kind, live_index}
use Rattle.annbuild_commands.proofs.live.session_on.Goals as goal

pub returns : goal.returns
returns g c =
    let X = c.args.inputs.now.points in
    let Q = c.args.inputs.now.queries.vectors in
    let o = c.args.options.now in
    let p = c.in_ok-plan.plan in
    let Y = p.points.now in
    let s = p.settings in
    let same : s ≡ c.settings_for_vamana.result = c.in_ok-plan.ensures.settings in
    let of = c.settings_for_vamana.ensures in
    let at = c.in_ok-plan.ensures.points in
    let x = c.in_ok-session.session in
    let told = c.in_ok-session.ensures in
    let mark = c.stamp_for.ensures in
    subst (λ (Z : PointSet). IsSession Z Q o c.marked.result) at
    (session_is Y s o (ap (λ (z : VamanaSettings). z.order) same ∙ of.order) (ap (λ (z : VamanaSettings). z.start) same ∙ of.start) (ap (λ (z : VamanaSettings). z.seed) same ∙ of.seed)
    (ap (λ (z : VamanaSettings). z.degree) same ∙ of.degree) (ap (λ (z : VamanaSettings). z.beam) same ∙ of.beam) (ap (λ (z : VamanaSettings). z.alpha.num) same ∙ of.num)
    (ap (λ (z : VamanaSettings). z.alpha.den) same ∙ of.den) (ap (λ (z : VamanaSettings). z.cap) same ∙ of.cap) (ap (λ (z : VamanaSettings). z.passes) same ∙ of.passes)
    Q x c.marked.result c.stamp_for.result (live_kind o c.requires.inputs.options) (live_index Y o c.requires.inputs.options) told.index told.well_formed told.lawful told.live told.last
    c.marked.ensures.index c.marked.ensures.live c.marked.ensures.last (mark.value ∙ ap (λ (Z : PointSet). stamp_for Z o) (sym at)) mark.allowed)
