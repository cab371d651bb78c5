-- What a scratch holds.
use Rattle.std.specs.Prelude.{ℕ}
use Rattle.ann_defs.specs.GreedySearch.{Walk}

-- for how many points and up to which beam it serves, and the last search
pub record Room : Type 0 where
  pub count : ℕ
  pub beam : ℕ
  pub last : Walk

-- the same room with another search in it
abbrev pub after_search : Room → Walk → Room
after_search room w = record { count = room.count; beam = room.beam; last = w }
