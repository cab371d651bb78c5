use Rattle.std.proofs.Common.{◌≡◌, ◌∙◌, ℕ, true, List, map, ap}
use Rattle.std.specs.Prelude.{string_bytes}
use Rattle.annbuild_words.specs.Asked.{Command, request_of}
use Rattle.annbuild_words.specs.Asked.Meaning.{Means}
use Rattle.command_options.specs.declared.verb.Verb.TheVariants.{Live}
use Rattle.annbuild_commands.specs.Ending.{begins_live}
use Rattle.annbuild_commands.proofs.Answered.{promised}
use Rattle.annbuild_commands.proofs.Asking.{answered, asked_range, as_asked}
use Rattle.annbuild_commands.proofs.FirstWord.{live_is}
use Rattle.annbuild_commands.proofs.beside.run_live.Goals as goal

-- the command of a request is the one that its words mean
is_asked : (words : List (List ℕ)) (asked c : Command) → asked ≡ c → begins_live words ≡ true → request_of words ≡ Means c → asked.verb ≡ Live
is_asked words asked c same first means = ap (λ (m : Command). m.verb) same ∙ live_is words c first means

pub live-done-requires-after_bounds : goal.live-done-requires-after_bounds
live-done-requires-after_bounds g c κs within =
    let is = is_asked (map (λ w. string_bytes w) c.args.words.now) _ c.in-Ok.parsed c.request.ensures c.requires c.in-Ok.ensures.means in
    asked_range c.in-Ok.parsed c.request.result Live c.request.ensures is c.in-Ok.ensures.allowed

pub returns-in-Ok-clause-promises : goal.returns-in-Ok-clause-promises
returns-in-Ok-clause-promises g c =
    let is = is_asked (map (λ w. string_bytes w) c.args.words.now) _ c.in-Ok.parsed c.request.ensures c.requires c.in-Ok.ensures.means in
    let ends = as_asked c.in-Ok.parsed c.request.result Live _ _ _ _ _ c.request.ensures is c.live-done.ensures in
    promised _ _ _ _ _ _ _ _ _ c.settle.ensures.fault (answered _ c.in-Ok.parsed _ _ _ _ _ c.in-Ok.ensures.means ends) c.settle.ensures.silent c.settle.ensures.told

pub returns-in-Err-clause-promises : goal.returns-in-Err-clause-promises
returns-in-Err-clause-promises g c = promised _ _ _ _ _ _ _ _ _ c.settle-in-Err.ensures.fault (c.in-Err.ensures.answered _ _) c.settle-in-Err.ensures.silent c.settle-in-Err.ensures.told
