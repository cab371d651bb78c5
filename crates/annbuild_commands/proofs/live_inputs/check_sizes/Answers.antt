use Rattle.std.proofs.Common.{◌≡◌, ◌∙◌, ap, length, sym, Some}
use Rattle.std.specs.Option.{option_or}
use Rattle.command_shapes.proofs.Told.{on_fault}
use Rattle.index_build.specs.IndexOf.{vamana_words}
use Rattle.index_build.specs.Limits.{words_refusal, answers_refusal}
use Rattle.annbuild_commands.proofs.live_inputs.check_sizes.Goals as goal

pub returns-in_err-check_words-clause-err : goal.returns-in_err-check_words-clause-err
returns-in_err-check_words-clause-err c =
    let words = vamana_words (length c.args.points.now.vectors) c.args.options.now in
    let few = answers_refusal (length c.args.queries.now.vectors) c.args.options.now.k in
    on_fault c.from_residual.result _ (λ fault. option_or (words_refusal words) few ≡ Some fault) c.from_residual.ensures.1
    (ap (λ u. option_or u few) (ap words_refusal (sym c.words_for_vamana.ensures) ∙ c.in_err-check_words.ensures.err))

pub returns-in_err-check_answers-clause-err : goal.returns-in_err-check_answers-clause-err
returns-in_err-check_answers-clause-err c =
    let words = vamana_words (length c.args.points.now.vectors) c.args.options.now in
    let k = c.args.options.now.k in
    on_fault c.from_residual-in_err-check_answers.result _ (λ fault. option_or (words_refusal words) (answers_refusal (length c.args.queries.now.vectors) k) ≡ Some fault) c.from_residual-in_err-check_answers.ensures.1
    (ap (λ u. option_or u (answers_refusal (length c.args.queries.now.vectors) k)) (ap words_refusal (sym c.words_for_vamana.ensures) ∙ c.in_ok-check_words.ensures.ok)
    ∙ ap (λ n. answers_refusal n k) (sym c.count.ensures.value) ∙ c.in_err-check_answers.ensures.err)

pub returns-clause-ok : goal.returns-clause-ok
returns-clause-ok c =
    let words = vamana_words (length c.args.points.now.vectors) c.args.options.now in
    let k = c.args.options.now.k in
    ap (λ u. option_or u (answers_refusal (length c.args.queries.now.vectors) k)) (ap words_refusal (sym c.words_for_vamana.ensures) ∙ c.in_ok-check_words.ensures.ok)
    ∙ ap (λ n. answers_refusal n k) (sym c.count.ensures.value) ∙ c.in_ok-check_answers.ensures.ok
