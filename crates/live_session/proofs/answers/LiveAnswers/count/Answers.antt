use Rattle.std.proofs.Common.{◌∙◌, [], length, map, sym, ap}
use Rattle.std.proofs.lemmas.List.FromFn.{length-map-range_with_len}
use Rattle.live_session.specs.SideBySide.{item_of}
use Rattle.live_session.specs.Rows.{Row}
use Rattle.live_session.proofs.answers.LiveAnswers.count.Goals as goal

pub returns : goal.returns
returns c =
    let a = c.self.inside in
    sym (length-map-range_with_len (λ j. item_of (map (λ (r : Row). r.answers) a.rows.items) j (0, [])) 0 a.count) ∙ ap length c.self.view_is
