-- The status of a fault.
use Rattle.std.specs.Prelude.{ℕ, Option, Some, None}
use Rattle.annbuild_lines.specs.declared.fault.Fault.{Fault}
use Rattle.annbuild_lines.specs.declared.fault.Fault.TheVariants.{Usage, Setting, Read, Malformed, Unfit, Write, NoMemory, TooLarge}

abbrev pub code_of : Option Fault → ℕ
code_of None = 0
code_of (Some Usage) = 2
code_of (Some (Setting name value least greatest)) = 3
code_of (Some (Read file)) = 4
code_of (Some (Malformed file place rule)) = 5
code_of (Some (Unfit file what found wanted)) = 6
code_of (Some (Write file)) = 7
code_of (Some NoMemory) = 8
code_of (Some (TooLarge name value limit)) = 9
