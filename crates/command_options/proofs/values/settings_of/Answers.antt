use Rattle.std.proofs.Common.{◌≡◌, ◌<◌, ◌^◌, min, ap, ap₂, sym, subst, ◌∙◌}
use Rattle.command_options.proofs.Fits.{k_fits}
use Rattle.command_options.specs.Settings.{number_or, settings_of}
use Rattle.command_options.specs.Shapes.{is_exact}
use Rattle.command_options.proofs.values.settings_of.Goals as goal

pub small-requires-15 : goal.small-requires-15
small-requires-15 g c =
    let k = k_fits (is_exact c.args.verb) _ _ c.requires.k c.requires.search in
    let same : number_or c.min.result c.value-24.result ≡ (settings_of (g.V.Values.values c.args.given.now)).k = ap₂ number_or (c.min.ensures ∙ ap (min 10) (c.number_of-search.ensures ∙ ap (number_or 0) c.value-2.ensures)) c.value-24.ensures in
    subst (λ n. n < 2 ^ 32) (sym same) k
