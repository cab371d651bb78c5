-- What the reader returns.
use Rattle.std.specs.Prelude.{◌≡◌, ℕ, ◌<◌, ◌≤◌, List, ◌++◌, length, take, drop, Result, Ok, Err, Some, None, Vec}
use Rattle.std.specs.Int.{w32, to_le_bytes}
use Rattle.std.specs.declared.alloc.Global.{Global}
use Rattle.ann_defs.specs.Distance.{PointSet}
use Rattle.bin_files.specs.declared.fault.PointsFault.{PointsFault}
use Rattle.bin_files.specs.declared.fault.PointsFault.TheVariants.{Read, Malformed, TooLarge, NoMemory as NoPointsMemory}
use Rattle.ann_shelf.specs.declared.slip.Slip.{Slip}
use Rattle.ann_shelf.specs.declared.slip.Slip.TheVariants.{Failed, NoMemory}
use Rattle.ann_defs.specs.declared.kinds.Element.{Element}
use Rattle.bin_files.specs.Points.{u32_at, verdict, header_verdict, body_verdict, points_of, text}
use Rattle.bin_files.specs.Rows.{ArePoints}

-- the first k bytes of into are those of the file from a place on, and into is full or the file is at its end
pub record ReadsAll (bytes : List ℕ) (at k : ℕ) (into : List ℕ) : Type 0 where
  pub same : take k into ≡ take k (drop at bytes)
  pub within : k ≤ length (drop at bytes)
  pub ends : k < length into → k ≡ length (drop at bytes)

-- the fault is the verdict of these bytes, or a failed read or want of memory
abbrev pub IsFaultOf : List ℕ → PointsFault → Type 0
IsFaultOf bytes Read = Unit {0}
IsFaultOf bytes (Malformed place rule) = verdict bytes ≡ Some (Malformed place rule)
IsFaultOf bytes (TooLarge name value limit) = verdict bytes ≡ Some (TooLarge name value limit)
IsFaultOf bytes NoPointsMemory = Unit {0}

-- the answer is the verdict of these bytes; a failed read and want of memory may stand in its place
abbrev pub Judges : Element → List ℕ → Result PointSet PointsFault → Type 0
Judges element bytes (Ok points) = (verdict bytes ≡ None) × (points ≡ points_of element bytes)
Judges element bytes (Err fault) = IsFaultOf bytes fault

-- these are the only points of their element within the limits whose text the bytes are
abbrev pub AreOnlyPoints : List ℕ → PointSet → Type 0
AreOnlyPoints bytes points = (X : PointSet) → ArePoints X.vectors → X.element ≡ points.element → bytes ≡ text X → X ≡ points

-- the fault that a refusal of the shelf is
abbrev pub fault_of : Slip → PointsFault
fault_of Failed = Read
fault_of NoMemory = NoPointsMemory

-- a file that has a header with these numbers, in which no rule is broken
pub record HasHeader (bytes : List ℕ) (n d : ℕ) : Type 0 where
  pub long : 8 ≤ length bytes
  pub count : n ≡ u32_at bytes 0
  pub dim : d ≡ u32_at bytes 4
  pub sound : header_verdict n d ≡ None
  pub spelled : take 8 bytes ≡ to_le_bytes w32 n ++ to_le_bytes w32 d

abbrev pub JudgesHeader : List ℕ → Result (ℕ × ℕ) PointsFault → Type 0
JudgesHeader bytes (Ok header) = HasHeader bytes header.0 header.1
JudgesHeader bytes (Err fault) = IsFaultOf bytes fault

-- the fault is that of the body, where so many bytes are wanted
abbrev pub IsBodyFault : List ℕ → ℕ → PointsFault → Type 0
IsBodyFault bytes wants Read = Unit {0}
IsBodyFault bytes wants (Malformed place rule) = body_verdict (length (drop 8 bytes)) wants ≡ Some (Malformed place rule)
IsBodyFault bytes wants (TooLarge name value limit) = ⊥
IsBodyFault bytes wants NoPointsMemory = Unit {0}

-- the answer says whether the file ends with its last point, where so many bytes are wanted after the header
abbrev pub JudgesLength : List ℕ → ℕ → Result (Unit {0}) PointsFault → Type 0
JudgesLength bytes wants (Ok _) = length (drop 8 bytes) ≡ wants
JudgesLength bytes wants (Err fault) = IsBodyFault bytes wants fault

abbrev pub JudgesBody : List ℕ → ℕ → Result (Vec ℕ Global) PointsFault → Type 0
JudgesBody bytes wants (Ok body) = (body.items ≡ drop 8 bytes) × (length body.items ≡ wants)
JudgesBody bytes wants (Err fault) = IsBodyFault bytes wants fault
