-- The answers to one caller's queries.
use Rattle.std.specs.Prelude.{ℕ, ◌-◌, ◌*◌, ◌≤◌, List, [], ◌∷◌, ◌++◌, length, take, drop}
use Rattle.std.specs.List.{All}
use Rattle.ann_defs.specs.declared.near.Near.{Near}
use Rattle.ann_defs.specs.declared.limits.TheConstants.{MAX_ANSWERS, MAX_POINTS}
use Rattle.live_session.specs.declared.row.Mark.{Mark}

-- the answers so far, each with its batch; how many it has room for, and of how many ids each
pub record Row : Type 0 where
  pub answers : List (ℕ × List Near)
  pub size : ℕ
  pub k : ℕ

-- one answer more
abbrev pub pushed : Row → ℕ → List Near → Row
pushed row batch nears = record { answers = row.answers ++ (batch, nears) ∷ []; size = row.size; k = row.k }

-- an answer where all of them stand one after another
abbrev pub answer_in : List Near → Mark → ℕ × List Near
answer_in nears m = (m.batch, take (m.to - m.from) (drop m.from nears))

-- the bounds of an answer among so many ids
abbrev pub IsWithin : ℕ → Mark → Type 0
IsWithin n m = (m.from ≤ m.to) × (m.to ≤ n)

-- marks of answers with room for all that are to come
pub record HasRoom (size k : ℕ) (marks : List Mark) (nears : List Near) (marks_room nears_room : ℕ) : Type 0 where
  pub within : All (IsWithin (length nears)) marks
  pub few : length marks ≤ size
  pub short : length nears ≤ length marks * k
  pub marks_fit : size ≤ marks_room
  pub nears_fit : size * k ≤ nears_room
  pub size_small : size ≤ MAX_POINTS
  pub small : size * k ≤ MAX_ANSWERS
