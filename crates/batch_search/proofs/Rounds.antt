-- What is in a round.
use Rattle.std.proofs.Common.{ℕ, List, drop, length}
use Rattle.std.specs.List.{All}
use Rattle.std.proofs.lemmas.List.Elements.{All-take, All-drop}
use Rattle.ann_defs.specs.declared.near.Near.{Near}
use Rattle.batch_search.specs.Answers.{round_size, round_of}

pub all_round : (P : List Near → Type 0) (xs : List (List Near)) (from : ℕ) → All P xs → All P (round_of xs from)
all_round P xs from all = All-take P (round_size (length xs) from) (drop from xs) (All-drop P from xs all)
