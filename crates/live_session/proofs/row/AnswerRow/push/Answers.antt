use Rattle.std.proofs.Common.{◌≡◌, ◌∙◌, ℕ, ◌+◌, ◌++◌, ◌∷◌, [], List, length, map, ap}
use Rattle.ann_defs.specs.declared.near.Near.{Near}
use Rattle.live_session.specs.declared.row.Mark.{Mark}
use Rattle.live_session.specs.Rows.{Row, answer_in, pushed}
use Rattle.live_session.proofs.Marks.{answers_more}
use Rattle.live_session.proofs.row.AnswerRow.push.Goals as goal

pub returns : goal.returns
returns c =
    let r = c.self.inside in
    let more = c.args.nears.now in
    let m : Mark = record { batch = c.args.batch; from = c.len-from.result; to = c.len-from.result + length more } in
    let nears : c.extend_from_slice.new.self.items ≡ r.nears.items ++ more = c.in-Ok.ensures.items in
    let marks : c.push.new.self.items ≡ r.marks.items ++ m ∷ [] = c.in-Ok-push.ensures.items in
    (λ i. record { answers = map (answer_in (nears i)) (marks i); size = r.size; k = r.k })
    ∙ ap (λ (xs : List (ℕ × List Near)). record { answers = xs; size = r.size; k = r.k }) (answers_more r.nears.items more r.marks.items m c.self.invariant.within (c.len-from.ensures ∙ r.nears.ok.0) (ap (λ n. n + length more) (c.len-from.ensures ∙ r.nears.ok.0)))
    ∙ ap (λ (x : Row). pushed x c.args.batch more) c.self.view_is
