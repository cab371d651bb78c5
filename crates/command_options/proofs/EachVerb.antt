-- What all commands pass, each passes.
use Rattle.std.proofs.Common.{◌≡◌, Bool, true, List, [], ◌∷◌}
use Rattle.std.specs.List.{AllByRecursion, list_all}
use Rattle.ann_defs.proofs.Members.{and_both}
use Rattle.command_options.specs.Verbs.{every_verb}
use Rattle.command_options.specs.declared.verb.Verb.{Verb}
use Rattle.command_options.specs.declared.verb.Verb.TheVariants as verbs

each_of : (test : Verb → Bool) (those : List Verb) → list_all test those ≡ true → AllByRecursion (λ verb. test verb ≡ true) those
each_of test [] all = tt
each_of test (verb ∷ those) all = let both = and_both (test verb) (list_all test those) all in (both.0, each_of test those both.1)

pub each_verb : (test : Verb → Bool) → list_all test every_verb ≡ true → (verb : Verb) → test verb ≡ true
each_verb test all verb =
    let of = each_of test every_verb all in
    elim verb as (λ v. test v ≡ true) [ verbs.Build ↦ of.0 | verbs.Query ↦ of.1.0 | verbs.Check ↦ of.1.1.0 | verbs.Make ↦ of.1.1.1.0 | verbs.Trial ↦ of.1.1.1.1.0 | verbs.Live ↦ of.1.1.1.1.1.0 | verbs.Exact ↦ of.1.1.1.1.1.1.0 | verbs.Recall ↦ of.1.1.1.1.1.1.1.0 | verbs.Forget ↦ of.1.1.1.1.1.1.1.1.0 | verbs.Without ↦ of.1.1.1.1.1.1.1.1.1.0 | verbs.Label ↦ of.1.1.1.1.1.1.1.1.1.1.0 | verbs.Find ↦ of.1.1.1.1.1.1.1.1.1.1.1.0 ]
