use Rattle.std.proofs.Common.{◌≡◌, ◌++◌, take}
use Rattle.annbuild_words.specs.Asked.{command_of}
use Rattle.annbuild_words.specs.Parts.{texts}
use Rattle.annbuild_clap.specs.Canonical.{set_words}
use Rattle.annbuild_clap.proofs.canonical.push_settings.Given as goal

abbrev pub invariant-loop-option : goal.invariant-loop-option
invariant-loop-option l = texts l.words.items ≡ texts l.initial.words.items ++ set_words (command_of l.request) (take l.option-index l.options)
