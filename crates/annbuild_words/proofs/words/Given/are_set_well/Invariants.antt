use Rattle.std.proofs.Common.{◌≡◌, drop}
use Rattle.std.specs.List.{list_all}
use Rattle.command_options.specs.Forms.{option_form}
use Rattle.command_options.specs.Options.{option_name}
use Rattle.annbuild_words.specs.Parts.{items_of}
use Rattle.command_options.specs.Shapes.{has_option}
use Rattle.annbuild_words.specs.Rules.{is_set_well}
use Rattle.annbuild_words.specs.Words.{values_for}
use Rattle.annbuild_words.proofs.words.Given.are_set_well.Given as goal

abbrev pub invariant-loop-option : goal.invariant-loop-option
invariant-loop-option l =
    list_all (λ o. is_set_well (has_option l.self.verb l.self.kind o) (option_form l.self.verb l.self.kind o) (values_for (option_name o) (items_of l.self.parts.now))) (drop l.option-index l.options)
    ≡ list_all (λ o. is_set_well (has_option l.self.verb l.self.kind o) (option_form l.self.verb l.self.kind o) (values_for (option_name o) (items_of l.self.parts.now))) l.options
