use Rattle.std.proofs.Common.{rules, ◌≡◌, ◌∙◌, refl, Some}
use Rattle.std.specs.Prelude.{◌⊎◌}
use Rattle.command_options.specs.declared.verb.Verb.TheVariants as verbs
use Rattle.annbuild_lines.specs.declared.fault.Fault.TheVariants.{NoMemory}
use Rattle.command_shapes.proofs.Told.{on_fault}
use Rattle.annbuild_commands.specs.Trying.{trial_refusal}
use Rattle.annbuild_commands.proofs.IndexFacts.{for_build}
use Rattle.annbuild_commands.proofs.TrialFacts.{trial_fits, trial_of_points, trial_of_index, index_is_tried}
use Rattle.annbuild_commands.proofs.trial.tried.Goals as goal

pub index_for-requires : goal.index_for-requires
index_for-requires g c = let h = for_build verbs.Trial c.args.options.now refl c.requires in search rules

pub returns-in_err-points-clause-failed : goal.returns-in_err-points-clause-failed
returns-in_err-points-clause-failed g c = on_fault c.from_residual.result _ (λ fault. (trial_refusal c.args.options.now ≡ Some fault) ⊎ (fault ≡ NoMemory)) c.from_residual.ensures.1
    (trial_of_points c.args.options.now _ c.in_err-points.ensures.failed)

pub returns-in_err-index-clause-failed : goal.returns-in_err-index-clause-failed
returns-in_err-index-clause-failed g c = on_fault c.from_residual-in_err-index.result _ (λ fault. (trial_refusal c.args.options.now ≡ Some fault) ⊎ (fault ≡ NoMemory)) c.from_residual-in_err-index.ensures.1
    (trial_of_index c.in_ok-points.points c.args.options.now _ c.in_ok-points.ensures.points c.in_ok-points.ensures.fits c.in_err-index.ensures.failed)

pub returns-clause-fits : goal.returns-clause-fits
returns-clause-fits g c = trial_fits c.in_ok-points.points c.args.options.now c.in_ok-points.ensures.points c.in_ok-points.ensures.fits c.in_ok-index.ensures.fits

pub returns-clause-index : goal.returns-clause-index
returns-clause-index g c = c.in_ok-index.ensures.index ∙ index_is_tried c.in_ok-points.points c.args.options.now c.in_ok-points.ensures.points
