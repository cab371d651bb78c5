-- Marks of ids, by which a search knows what it has seen.
use Rattle.std.specs.Prelude.{◌≡◌, ℕ, ◌<◌, ◌≤◌, ◌⊎◌, ◌==◌, ◌||◌, List, take, length, slice_index_or}
use Rattle.std.specs.List.{list_any}
use Rattle.ann_defs.specs.declared.near.Near.{Near}
use Rattle.ann_defs.specs.Ordered.{Has, put}
use Rattle.ann_defs.specs.Nearness.{near_cmp, near_of}

-- the mark of an id
abbrev pub mark_of : List ℕ → ℕ → ℕ
mark_of marks u = slice_index_or marks u 0

-- offering the id once more would change nothing
abbrev pub IsSettled : List (List ℕ) → List ℕ → ℕ → List Near → ℕ → Type 0
IsSettled points query beam found u = take beam (put near_cmp found (near_of points query u)) ≡ found

-- each id that is marked with this stamp or a later one is settled
abbrev pub AreSettled : List (List ℕ) → List ℕ → ℕ → ℕ → List Near → List ℕ → Type 0
AreSettled points query beam seen found marks = (u : ℕ) → u < length points → seen ≤ mark_of marks u → IsSettled points query beam found u

-- no mark is later than this stamp
abbrev pub AreUpTo : ℕ → List ℕ → Type 0
AreUpTo stamp marks = (u : ℕ) → mark_of marks u ≤ stamp

-- marks change from an earlier stamp to this one alone
abbrev pub OnlySeen : ℕ → List ℕ → List ℕ → Type 0
OnlySeen seen old new = (u : ℕ) → (mark_of new u ≡ mark_of old u) ⊎ ((mark_of old u < seen) × (mark_of new u ≡ seen))

-- those ids whose mark was earlier than the stamp, and which ones are marked now
pub record AreUnseen (seen : ℕ) (ids old todo new : List ℕ) : Type 0 where
  pub among : (u : ℕ) → Has todo u → Has ids u
  pub each : (u : ℕ) → Has ids u → (seen ≤ mark_of old u) ⊎ Has todo u
  pub marked : (u : ℕ) → (mark_of new u ≡ mark_of old u) ⊎ ((mark_of old u < seen) × (mark_of new u ≡ seen) × Has todo u)

-- the ids with the visited stamp are the visited
abbrev pub AreVisited : ℕ → ℕ → List Near → List ℕ → Type 0
AreVisited n stamp visited marks = (u : ℕ) → u < n → (mark_of marks u == stamp) ≡ list_any (λ y. u == y.id) visited

-- the ids with this stamp are p and those of a list
abbrev pub AreTaken : ℕ → ℕ → ℕ → List Near → List ℕ → Type 0
AreTaken n stamp p nears marks = (u : ℕ) → u < n → (mark_of marks u == stamp) ≡ (u == p || list_any (λ y. u == y.id) nears)
