use Rattle.std.proofs.Common.{lit<}
use Rattle.std.proofs.lemmas.Str.Pattern.{strip_prefix_char}
use Rattle.command_options.proofs.Dashes.{behind_dash, some_dash}
use Rattle.command_options.proofs.option_name.long_of.Goals as goal

pub unreachable-requires : goal.unreachable-requires
unreachable-requires c = some_dash _ c.strip_prefix.result _ (strip_prefix_char 45 _ c.strip_prefix.result c.strip_prefix.ensures.cases (lit< tt)) c.name_of.ensures.dashed c.in_default.is

pub unreachable-requires-in_default-strip_prefix : goal.unreachable-requires-in_default-strip_prefix
unreachable-requires-in_default-strip_prefix c =
    let rest = behind_dash _ c.strip_prefix.result c.in-Some.rest _ (strip_prefix_char 45 _ c.strip_prefix.result c.strip_prefix.ensures.cases (lit< tt)) c.in-Some.is c.name_of.ensures.dashed in
    some_dash _ c.strip_prefix-2.result _ (strip_prefix_char 45 _ c.strip_prefix-2.result c.strip_prefix-2.ensures.cases (lit< tt)) rest c.in_default-strip_prefix.is
