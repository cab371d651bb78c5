-- The text of a point set, and the first broken rule of a file.
use Rattle.std.specs.Prelude.{ℕ, ◌+◌, ◌*◌, ◌%◌, map, List, [], ◌∷◌, ◌++◌, length, drop, Option, Some, None, nat_lt, ◌==◌, if◌then◌else◌, slice_index}
use Rattle.std.specs.Int.{w32, to_le_bytes, from_le_bytes}
use Rattle.ann_shelf.specs.declared.slip.Quantity.TheVariants.{Count, Dim, Cells}
use Rattle.bin_files.specs.declared.fault.PointsFault.{PointsFault}
use Rattle.bin_files.specs.declared.fault.PointsFault.TheVariants.{Malformed, TooLarge}
use Rattle.bin_files.specs.declared.fault.PointsRule.TheVariants.{ShortHeader, ZeroCount, ZeroDim, ShortBody, Trailing}
use Rattle.ann_defs.specs.declared.kinds.Element.{Element}
use Rattle.ann_defs.specs.declared.kinds.Element.TheVariants.{U8, I8}
use Rattle.ann_defs.specs.declared.limits.TheConstants.{MAX_POINTS, MAX_DIM, MAX_CELLS}
use Rattle.ann_defs.specs.Distance.{PointSet, dim_of}
use Rattle.bin_files.specs.Rows.{rows, cells}

-- the bytes of a file for stored numbers, and the stored numbers for these bytes: the same step both ways
abbrev pub file_bytes : Element → List ℕ → List ℕ
file_bytes U8 numbers = numbers
file_bytes I8 numbers = map (λ s. (s + 128) % 256) numbers

-- the one text of a point set
abbrev pub text : PointSet → List ℕ
text X = to_le_bytes w32 (length X.vectors) ++ to_le_bytes w32 (dim_of X.vectors) ++ file_bytes X.element (cells X.vectors)

-- the number whose four bytes stand from a place on, the least significant first
abbrev pub u32_at : List ℕ → ℕ → ℕ
u32_at bytes at = from_le_bytes w32 (slice_index bytes at ∷ slice_index bytes (at + 1) ∷ slice_index bytes (at + 2) ∷ slice_index bytes (at + 3) ∷ [])

-- the first broken rule of a header of eight bytes
abbrev pub header_verdict : ℕ → ℕ → Option PointsFault
header_verdict n d =
    if n == 0 then Some (Malformed 0 ZeroCount)
    else if d == 0 then Some (Malformed 4 ZeroDim)
    else if nat_lt MAX_POINTS n then Some (TooLarge Count n MAX_POINTS)
    else if nat_lt MAX_DIM d then Some (TooLarge Dim d MAX_DIM)
    else if nat_lt MAX_CELLS (n * d) then Some (TooLarge Cells (n * d) MAX_CELLS)
    else None

-- the first broken rule of a body, which holds so many bytes and is to hold so many
abbrev pub body_verdict : ℕ → ℕ → Option PointsFault
body_verdict has wants =
    if nat_lt has wants then Some (Malformed (8 + has) ShortBody)
    else if nat_lt wants has then Some (Malformed (8 + wants) Trailing)
    else None

abbrev pub or_else : Option PointsFault → Option PointsFault → Option PointsFault
or_else (Some fault) next = Some fault
or_else None next = next

-- the first broken rule of a file with its place, if there is one
abbrev pub verdict : List ℕ → Option PointsFault
verdict bytes =
    if nat_lt (length bytes) 8 then Some (Malformed (length bytes) ShortHeader)
    else or_else (header_verdict (u32_at bytes 0) (u32_at bytes 4)) (body_verdict (length (drop 8 bytes)) (u32_at bytes 0 * u32_at bytes 4))

-- the points of this element in a file that breaks no rule
abbrev pub points_of : Element → List ℕ → PointSet
points_of element bytes = record { element = element; vectors = rows (u32_at bytes 0) (u32_at bytes 4) (file_bytes element (drop 8 bytes)) }
