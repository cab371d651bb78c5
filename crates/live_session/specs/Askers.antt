-- Callers with their rows.
use Rattle.std.specs.Prelude.{◌≡◌, ℕ, ◌+◌, ◌<◌, ◌≤◌, List, [], length, slice_index_or}
use Rattle.beam_search.specs.Serving.{Serves}
use Rattle.versions.specs.Course.{Course, total_of}
use Rattle.live_session.specs.declared.asking.Asking.{Asking}
use Rattle.live_session.specs.declared.asker.Asker.{Asker}
use Rattle.live_session.specs.declared.asker.Seat.{Seat}
use Rattle.live_session.specs.declared.seats.Place.{Place}
use Rattle.versions.specs.Standing.{Standing}
use Rattle.live_session.specs.Rows.{Row}
use Rattle.live_session.specs.Asked.{IsRow}

-- room that serves a caller
pub record IsSeat (c : Course) (a : Asking) (s : Seat) : Type 0 where
  pub serves : Serves (length c.points) a.beam s.scratch
  pub room : a.k ≤ s.out.room
  pub first : s.first < a.callers

-- a caller that asks: its answers have batches up to the greatest that it saw
pub record Stands (c : Course) (a : Asking) (x : Asker) : Type 0 where
  pub course : x.caller.course ≡ c
  pub seen : (1 ≤ x.caller.seen) × (x.caller.seen ≤ total_of c)
  pub seat : IsSeat c a x.seat
  pub live : IsRow c a x.seat.first 1 x.caller.seen x.live
  pub last : IsRow c a x.seat.first (total_of c) (total_of c) x.last
  pub none : x.last.answers ≡ []

-- a caller that saw the graph after this batch and asks there: its seat, and the row of its answers in that graph
pub record AsksIn (c : Course) (a : Asking) (batch : ℕ) (x : Standing) (s : Seat) (r : Row) : Type 0 where
  pub course : x.course ≡ c
  pub seen : x.seen ≡ batch
  pub seat : IsSeat c a s
  pub row : IsRow c a s.first batch batch r

-- the callers in the order in which they are taken from the end
abbrev pub AreNumbered : ℕ → List Asker → Type 0
AreNumbered callers askers = (i : ℕ) (d : Asker) → i < length askers → (slice_index_or askers i d).seat.first + i + 1 ≡ callers

-- room for a caller, with no answer yet
pub record IsPlace (c : Course) (a : Asking) (p : Place) : Type 0 where
  pub seat : IsSeat c a p.seat
  pub live : IsRow c a p.seat.first 1 1 p.live
  pub last : IsRow c a p.seat.first (total_of c) (total_of c) p.last
  pub none : p.last.answers ≡ []

-- the places in the order of the callers
abbrev pub ArePlaces : List Place → Type 0
ArePlaces places = (i : ℕ) (d : Place) → i < length places → (slice_index_or places i d).seat.first ≡ i
