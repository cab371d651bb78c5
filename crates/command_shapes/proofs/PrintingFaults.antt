-- The faults of printing: a failed write of the output, and want of memory.
use Rattle.annbuild_lines.specs.declared.fault.Fault.{Fault}
use Rattle.annbuild_lines.specs.declared.fault.Fault.TheVariants.{Usage, Setting, Read, Malformed, Unfit, Write, NoMemory, TooLarge}
use Rattle.command_options.specs.declared.role.Role.TheVariants.{Base, Index, Queries, Output, Gone, Fresh, Labels}
use Rattle.command_shapes.specs.Writing.{AfterPrinting}

-- what follows from either follows from any fault of printing
pub by_printing : (P : Fault → Type 0) (failed memory : Type 0) (fault : Fault) → (failed → P (Write Output)) → (memory → P NoMemory) → AfterPrinting failed memory fault → P fault
by_printing P failed memory Usage w m h = absurd h
by_printing P failed memory (Setting n v l g) w m h = absurd h
by_printing P failed memory (Read role) w m h = absurd h
by_printing P failed memory (Malformed role place rule) w m h = absurd h
by_printing P failed memory (Unfit role what found wanted) w m h = absurd h
by_printing P failed memory (Write Base) w m h = absurd h
by_printing P failed memory (Write Index) w m h = absurd h
by_printing P failed memory (Write Queries) w m h = absurd h
by_printing P failed memory (Write Gone) w m h = absurd h
by_printing P failed memory (Write Fresh) w m h = absurd h
by_printing P failed memory (Write Labels) w m h = absurd h
by_printing P failed memory (Write Output) w m h = w h
by_printing P failed memory NoMemory w m h = m h
by_printing P failed memory (TooLarge n v l) w m h = absurd h

-- the same where nothing more is known of either
pub after_printing : (F G : Type 0) (failed memory : Type 0) (fault : Fault) → (failed → F) → (memory → G) → AfterPrinting failed memory fault → AfterPrinting F G fault
after_printing F G failed memory fault w m h = by_printing (AfterPrinting F G) failed memory fault w m h
