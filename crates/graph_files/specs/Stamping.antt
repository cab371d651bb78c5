-- The stamp of a file of version 2, in its first 136 bytes, or the first broken rule there.
use Rattle.std.specs.Prelude.{ℕ, ◌+◌, not, List, [], ◌∷◌, length, take, drop, Option, Some, None, nat_lt, if◌then◌else◌}
use Rattle.std.specs.Int.{w64, from_le_bytes}
use Rattle.bin_files.specs.Points.{u32_at}
use Rattle.graph_rows.specs.declared.stamp.Stamp.{Stamp}
use Rattle.graph_rows.specs.Stamps.{stamp_ranges, is_within, is_floor}
use Rattle.graph_files.specs.declared.fault.IndexFault.{IndexFault}
use Rattle.graph_files.specs.declared.fault.IndexFault.TheVariants.{Malformed}
use Rattle.graph_files.specs.declared.fault.IndexRule.TheVariants.{Short, Stamp as StampRule}

-- the number whose eight bytes stand from a place on, the least significant first
abbrev pub u64_at : List ℕ → ℕ → ℕ
u64_at bytes at = from_le_bytes w64 (take 8 (drop at bytes))

-- the stamp in the first bytes of a file
abbrev pub stamp_in : List ℕ → Stamp
stamp_in front = record {
  element = u32_at front 32;
  order = u32_at front 36;
  start_kind = u32_at front 40;
  beam = u32_at front 44;
  num = u32_at front 48;
  den = u32_at front 52;
  cap = u32_at front 56;
  bits = u32_at front 60;
  max_level = u32_at front 64;
  list = u32_at front 68;
  trees = u32_at front 72;
  leaf = u32_at front 76;
  rounds = u32_at front 80;
  passes = u32_at front 84;
  seed = u64_at front 88;
  floor = u64_at front 96;
  digest = take 32 (drop 104 front);
}

-- the first of the words from a place on that isn't whole or not in its range
abbrev pub fields_fault : List (ℕ × ℕ) → List ℕ → ℕ → Option IndexFault
fields_fault [] front at = None
fields_fault (range ∷ ranges) front at =
    if nat_lt (length front) (at + 4) then Some (Malformed (length front) Short)
    else if not (is_within range (u32_at front at)) then Some (Malformed at StampRule)
    else fields_fault ranges front (at + 4)

-- the same of seed, floor and digest
abbrev pub last_fault : (kind : ℕ) → List ℕ → Option IndexFault
last_fault kind front =
    if nat_lt (length front) 104 then Some (Malformed (length front) Short)
    else if not (is_floor kind (u64_at front 96)) then Some (Malformed 96 StampRule)
    else if nat_lt (length front) 136 then Some (Malformed (length front) Short)
    else None

abbrev pub or_else : Option IndexFault → Option IndexFault → Option IndexFault
or_else (Some fault) next = Some fault
or_else None next = next

-- the first broken rule of a stamp
abbrev pub stamp_fault : (kind : ℕ) → List ℕ → Option IndexFault
stamp_fault kind front = or_else (fields_fault (stamp_ranges kind (u32_at front 48)) front 32) (last_fault kind front)
