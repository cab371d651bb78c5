use Rattle.std.proofs.Common.{◌≡◌, rules}
use Rattle.versions.proofs.Settings.{cap_same, settings_same}
use Rattle.versions.proofs.course.are_same_settings.Goals as goal

pub returns : goal.returns
returns c e =
    let order : c.args.a.order ≡ c.args.b.order = search rules in
    let start : c.args.a.start ≡ c.args.b.start = search rules in
    let alpha : c.args.a.alpha ≡ c.args.b.alpha = c.is_same_factor.ensures c.if-not-is_same_factor.false in
    let cap : c.args.a.cap ≡ c.args.b.cap = cap_same _ _ (search rules) in
    let beam : c.args.a.beam ≡ c.args.b.beam = search rules in
    settings_same c.args.a c.args.b order start alpha cap c.if-a-b.false c.if-a-b-2.false beam c.if-a-b-3.false
