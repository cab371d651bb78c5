use Rattle.std.proofs.Common.{◌≡◌, ◌∙◌, ap, length, refl, sym, Some, None}
use Rattle.std.specs.Option.{option_or}
use Rattle.std.proofs.lemmas.Result.{IfErr-weaker}
use Rattle.index_build.specs.IndexOf.{vamana_words, words_of}
use Rattle.index_build.specs.Limits.{words_refusal, answers_refusal}
use Rattle.annbuild_commands.specs.Living.{live_refusal}
use Rattle.annbuild_commands.proofs.Fits.{queries_fit}
use Rattle.annbuild_commands.proofs.LiveFacts.{live_words, live_refused, on_ok}
use Rattle.annbuild_commands.proofs.live_inputs.check_live.Goals as goal

pub returns-in-Some-clause-err : goal.returns-in-Some-clause-err
returns-in-Some-clause-err c =
    let X = c.args.points.now.vectors in
    let Q = c.args.queries.now.vectors in
    let o = c.args.options.now in
    live_refused X Q o (Some c.in-Some.fault) (words_refusal (words_of (length X) o)) (answers_refusal (length Q) o.k) (sym c.in-Some.ensures) refl refl

sizes : (c : goal.After-check_sizes) → live_refusal c.args.points.now.vectors c.args.queries.now.vectors c.args.options.now
    ≡ option_or (words_refusal (vamana_words (length c.args.points.now.vectors) c.args.options.now)) (answers_refusal (length c.args.queries.now.vectors) c.args.options.now.k)
sizes c =
    let X = c.args.points.now.vectors in
    let Q = c.args.queries.now.vectors in
    let o = c.args.options.now in
    live_refused X Q o None (words_refusal (vamana_words (length X) o)) (answers_refusal (length Q) o.k) (sym c.in-None.ensures) (ap words_refusal (live_words (length X) o c.requires)) refl

pub returns-in-None-clause-dim : goal.returns-in-None-clause-dim
returns-in-None-clause-dim c = on_ok c.check_sizes.result _ _ (λ _. queries_fit c.args.points.now.vectors c.args.queries.now.vectors (sym c.in-None.ensures)) c.check_sizes.ensures.ok

pub returns-in-None-clause-ok : goal.returns-in-None-clause-ok
returns-in-None-clause-ok c = on_ok c.check_sizes.result _ _ (λ e. sizes c ∙ e) c.check_sizes.ensures.ok

pub returns-in-None-clause-err : goal.returns-in-None-clause-err
returns-in-None-clause-err c = IfErr-weaker c.check_sizes.result _ _ (λ fault e. sizes c ∙ e) c.check_sizes.ensures.err
