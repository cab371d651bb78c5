-- What the fields of a stamp may be.
use Rattle.std.specs.Prelude.{◌≡◌, ℕ, ◌^◌, ◌<◌, ◌==◌, ◌&&◌, ◌||◌, Bool, true, false, nat_le, List, [], ◌∷◌, length, Option, Some, None}
use Rattle.std.specs.List.{AllByRecursion}
use Rattle.ann_defs.specs.declared.limits.TheConstants.{MAX_BEAM, MAX_POINTS}
use Rattle.graph_rows.specs.declared.stamp.Stamp.{Stamp}
use Rattle.graph_rows.specs.Index.{Contents, stamp_numbers}

-- the least and the greatest value of a field that an index of some kinds has; that of another kind is 0
abbrev pub where_named : (named : Bool) → (least greatest : ℕ) → ℕ × ℕ
where_named true least greatest = (least, greatest)
where_named false least greatest = (0, 0)

-- those of each word before the seed, by the index's kind (1 Vamana, 2 HNSW, 3 lists) and the numerator of alpha
abbrev pub stamp_ranges : (kind num : ℕ) → List (ℕ × ℕ)
stamp_ranges kind num =
    let in_batches = kind == 1 || kind == 2 in
    let flat = kind == 1 || kind == 3 in
    (1, 2)
    ∷ where_named in_batches 1 2
    ∷ where_named flat 1 2
    ∷ where_named in_batches 1 MAX_BEAM
    ∷ where_named flat 1 1000
    ∷ where_named flat 1 num
    ∷ where_named in_batches 1 MAX_POINTS
    ∷ where_named (kind == 2) 1 8
    ∷ where_named (kind == 2) 0 15
    ∷ where_named (kind == 3) 1 128
    ∷ where_named (kind == 3) 1 64
    ∷ where_named (kind == 3) 2 1024
    ∷ where_named (kind == 3) 0 64
    ∷ where_named (kind == 1) 1 2
    ∷ []

-- a number in a range
abbrev pub is_within : ℕ × ℕ → ℕ → Bool
is_within range n = nat_le range.0 n && nat_le n range.1

-- each number in its range
abbrev pub are_within : List (ℕ × ℕ) → List ℕ → Bool
are_within [] ns = true
are_within (range ∷ ranges) [] = true
are_within (range ∷ ranges) (n ∷ ns) = is_within range n && are_within ranges ns

-- the changes after which rounds end, which lists alone have
abbrev pub is_floor : (kind floor : ℕ) → Bool
is_floor kind floor = kind == 3 || floor == 0

-- a stamp that an index of a kind may have
pub record IsStamp (kind : ℕ) (s : Stamp) : Type 0 where
  pub words : are_within (stamp_ranges kind s.num) (stamp_numbers s) ≡ true
  pub floor : is_floor kind s.floor ≡ true
  pub seed_fits : s.seed < 2 ^ 64
  pub floor_fits : s.floor < 2 ^ 64
  pub digest : length s.digest ≡ 32
  pub bytes : AllByRecursion (λ b. b < 256) s.digest

-- an index of a kind may have this stamp, or none
abbrev pub IsStamped : (kind : ℕ) → Option Stamp → Type 0
IsStamped kind None = Unit {0}
IsStamped kind (Some s) = IsStamp kind s

-- an index with a stamp, or without one
abbrev pub stamped : Option Stamp → Contents → Contents
stamped stamp i = record i { stamp = stamp }
