-- The header of a file: eight words, and the first broken rule of them.
use Rattle.std.specs.Prelude.{ℕ, Bool, not, ◌&&◌, ◌||◌, ◌==◌, nat_le, List, Option, Some, None, nat_lt, if◌then◌else◌}
use Rattle.ann_defs.specs.declared.limits.TheConstants.{MAX_POINTS, MAX_DIM, MAX_WORDS}
use Rattle.bin_files.specs.Points.{u32_at}
use Rattle.ann_shelf.specs.declared.slip.Quantity.TheVariants.{Count, Dim, Degree as DegreeOf, Words}
use Rattle.graph_rows.specs.WellFormed.{layers_fit, base_bound, greatest_degree, layer_words}
use Rattle.graph_files.specs.declared.header.Header.{Header}
use Rattle.graph_files.specs.declared.fault.IndexFault.{IndexFault}
use Rattle.graph_files.specs.declared.fault.IndexFault.TheVariants.{Malformed, TooLarge}
use Rattle.graph_files.specs.declared.fault.IndexRule.TheVariants.{Magic, Version, Kind, ZeroCount, ZeroDim, Degree, Start, Layers}

-- the eight words at the front of a file
abbrev pub header_in : List ℕ → Header
header_in bytes = record {
  magic = u32_at bytes 0;
  version = u32_at bytes 4;
  kind = u32_at bytes 8;
  count = u32_at bytes 12;
  dim = u32_at bytes 16;
  degree = u32_at bytes 20;
  start = u32_at bytes 24;
  layers = u32_at bytes 28;
}

-- the versions that are read
abbrev pub is_version : ℕ → Bool
is_version version = version == 1 || version == 2

-- the kinds that are read
abbrev pub is_read : ℕ → Bool
is_read kind = nat_le 1 kind && nat_le kind 3

-- the first field whose value the format does not allow
abbrev pub form_fault : Header → Option IndexFault
form_fault h =
    if not (h.magic == 1313751376) then Some (Malformed 0 Magic)
    else if not (is_version h.version) then Some (Malformed 4 Version)
    else if not (is_read h.kind) then Some (Malformed 8 Kind)
    else if h.count == 0 then Some (Malformed 12 ZeroCount)
    else if h.dim == 0 then Some (Malformed 16 ZeroDim)
    else if h.degree == 0 then Some (Malformed 20 Degree)
    else if not (nat_lt h.start h.count) then Some (Malformed 24 Start)
    else if not (layers_fit h.kind h.layers) then Some (Malformed 28 Layers)
    else None

-- the first quantity over its limit
abbrev pub limit_fault : Header → Option IndexFault
limit_fault h =
    if nat_lt MAX_POINTS h.count then Some (TooLarge Count h.count MAX_POINTS)
    else if nat_lt MAX_DIM h.dim then Some (TooLarge Dim h.dim MAX_DIM)
    else if nat_lt (greatest_degree h.kind) h.degree then Some (TooLarge DegreeOf h.degree (greatest_degree h.kind))
    else if nat_lt MAX_WORDS (layer_words h.count (base_bound h.kind h.degree)) then Some (TooLarge Words (layer_words h.count (base_bound h.kind h.degree)) MAX_WORDS)
    else None
