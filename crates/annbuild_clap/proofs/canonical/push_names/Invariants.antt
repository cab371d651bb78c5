use Rattle.std.proofs.Common.{◌≡◌, ◌++◌, take}
use Rattle.annbuild_words.specs.Asked.{command_of, names_of}
use Rattle.annbuild_words.specs.Parts.{texts}
use Rattle.annbuild_clap.proofs.canonical.push_names.Given as goal

abbrev pub invariant-loop-i : goal.invariant-loop-i
invariant-loop-i l = texts l.words.items ≡ texts l.initial.words.items ++ take l.i (names_of (command_of l.request))
