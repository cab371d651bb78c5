-- The faults of the parts, as faults of the program, and the first refusal that the bytes of files show.
use Rattle.std.specs.Prelude.{ℕ, List, Option}
use Rattle.std.specs.Option.{option_map}
use Rattle.ann_shelf.specs.declared.slip.Slip.{Slip}
use Rattle.ann_shelf.specs.declared.slip.Slip.TheVariants.{Failed, NoMemory as NoSlipMemory}
use Rattle.bin_files.specs.declared.fault.PointsFault.{PointsFault}
use Rattle.bin_files.specs.declared.fault.PointsFault.TheVariants.{Read as PointsRead, Malformed as BrokenPoints, TooLarge as LargePoints, NoMemory as NoPointsMemory}
use Rattle.bin_files.specs.Points.{verdict}
use Rattle.graph_files.specs.declared.fault.IndexFault.{IndexFault}
use Rattle.graph_files.specs.declared.fault.IndexFault.TheVariants.{Read as IndexRead, Malformed as BrokenIndex, TooLarge as LargeIndex, NoMemory as NoIndexMemory}
use Rattle.graph_files.specs.Grammar.{verdict as index_verdict}
use Rattle.annbuild_lines.specs.declared.fault.Fault.{Fault}
use Rattle.annbuild_lines.specs.declared.fault.Fault.TheVariants.{Read, Malformed, Write, NoMemory, TooLarge}
use Rattle.command_options.specs.declared.role.Role.{Role}
use Rattle.annbuild_lines.specs.declared.fault.Rule.TheVariants.{Points, Index}

-- a fault of a file of points
abbrev pub points_fault_of : Role → PointsFault → Fault
points_fault_of file PointsRead = Read file
points_fault_of file (BrokenPoints place rule) = Malformed file place (Points rule)
points_fault_of file (LargePoints name value limit) = TooLarge name value limit
points_fault_of file NoPointsMemory = NoMemory

-- a fault of a file of an index
abbrev pub index_fault_of : Role → IndexFault → Fault
index_fault_of file IndexRead = Read file
index_fault_of file (BrokenIndex place rule) = Malformed file place (Index rule)
index_fault_of file (LargeIndex name value limit) = TooLarge name value limit
index_fault_of file NoIndexMemory = NoMemory

-- a fault of writing a file or the output
abbrev pub write_fault_of : Role → Slip → Fault
write_fault_of file Failed = Write file
write_fault_of file NoSlipMemory = NoMemory

-- the first rule that a file of points breaks, or its first limit that is passed
unfoldable pub points_refusal : Role → List ℕ → Option Fault
points_refusal file bytes = option_map (points_fault_of file) (verdict bytes)

-- the same of a file of an index
unfoldable pub index_refusal : Role → List ℕ → Option Fault
index_refusal file bytes = option_map (index_fault_of file) (index_verdict bytes)
