use Rattle.std.proofs.Common.{[], ap, ◌∙◌}
use Rattle.clap.specs.Words.{found_of}
use Rattle.clap.proofs.WalkLemmas.{first_value-rows}
use Rattle.std.specs.Option.{unwrap_or}
use Rattle.annbuild_clap.proofs.ByClap.{text_or}
use Rattle.annbuild_clap.proofs.found.name_in.Goals as goal

pub returns : goal.returns
returns c =
    let found = found_of c.args.matches.now in
    c.in_ok-from_str.ensures.ok ∙ ap (λ t. t.now) c.unwrap_or.ensures ∙ text_or c.get_str.result _
    ∙ ap (λ o. unwrap_or o []) (c.get_str.ensures ∙ first_value-rows found c.args.name.now)
