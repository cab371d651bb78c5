-- What a command of clap's is with one more argument, or with a command in it.
use Rattle.std.proofs.Common.{◌≡◌, ◌&&◌, Bool, true, false, refl, ap, ◌∙◌}
use Rattle.clap.specs.declared.builder.Command.{Command}
use Rattle.clap.specs.Words.{AddsSubcommand, App, app_of, with_subcommand}
use Rattle.clap.proofs.SimpleLemmas.{plain_fields}
use Rattle.command_options.specs.declared.verb.Verb.{Verb}
use Rattle.command_options.proofs.EachVerb.{each_verb}
use Rattle.annbuild_clap.specs.Program.{command_app, with_option}

-- a command of which the app is known, and is plain
pub nested : (old sub new : Command) (app : App) → AddsSubcommand old sub new → app_of sub ≡ app → app.top.is_plain ≡ true → app_of new ≡ with_subcommand (app_of old) app.top
nested old sub new app added is plain =
    added.shape (plain_fields sub (ap (λ (a : App). a.top.is_plain) is ∙ plain)).globals ∙ ap (λ (a : App). with_subcommand (app_of old) a.top) is

pub first_passes : (a b : Bool) → (a && b) ≡ true → a ≡ true
first_passes true b h = refl
first_passes false b h = cc

-- each command is plain
pub plain_command : (verb : Verb) → (command_app verb).top.is_plain ≡ true
unfolding command_app with_option
plain_command verb = each_verb (λ v. (command_app v).top.is_plain) refl verb
