-- How a call ends that does a command or a part of one: what is said of each command, in one record.
use Rattle.std.specs.Prelude.{◌≡◌, ℕ, List, Option, Some, None, IfSome, IfNone, Result, Ok, Err}
use Rattle.ann_shelf.specs.Faults.{Rose, NoneFell}
use Rattle.ann_shelf.specs.Files.{Files}
use Rattle.annbuild_lines.specs.declared.fault.Fault.{Fault}
use Rattle.ann_shelf.specs.Shown.{Shown}
use Rattle.ann_shelf.specs.Written.{Got}
use Rattle.command_shapes.specs.Doing.{Reads, Doing, first_refused, refusal_of}
use Rattle.command_shapes.specs.Clauses.{StoresOf, PrintsOf, IsToldBy, HasCauseOf, LeavesOf, LeavesOutOf, WritesInOrderOf, WritesIfAcceptedOf, IsBeforeWriting}
use Rattle.command_shapes.specs.Reading.{IsOfReading, IsReadFault}

-- the fault of a result, if it is one
abbrev pub fault_in : {A : Type 0} → Result A Fault → Option Fault
fault_in (Ok value) = None
fault_in (Err fault) = Some fault

-- what stands where the command is done
pub record IsDone (d : Doing) (files : Files) (held : Option Files) (before written : Option (List ℕ)) : Type 0 where
  pub accepted : refusal_of d files ≡ None
  pub stored : StoresOf d files held
  pub printed : IfSome before (λ text. PrintsOf d files text written)

-- what stands after a fault
pub record HasFailed (d : Doing) (wants : Type 0) (files : Files) (held : Option Files) (before written : Option (List ℕ)) (fault : Fault) : Type 0 where
  pub tells : IsToldBy d files fault
  pub leaves : (after : Files) × (held ≡ Some after) × LeavesOf d wants files after fault
  pub leaves_out : IfSome before (λ text. (after : List ℕ) × (written ≡ Some after) × LeavesOutOf d wants files text after fault)
  pub in_order : WritesInOrderOf d files held before written
  pub only_accepted : WritesIfAcceptedOf d files held before written

-- how a command ends, with a fault or none, from what shelf and output showed before and show after
pub record Ends (d : Doing) (old new : Shown) (had got : Got) (fault : Option Fault) : Type 0 where
  pub done : IfNone fault (IfSome old.held (λ files. IsDone d files new.held had.written got.written))
  pub failed : IfSome fault (λ f. IfSome old.held (λ files. HasFailed d (Rose had.wants got.wants) files new.held had.written got.written f))
  pub cause : IfSome fault (HasCauseOf d (λ name. Rose (old.read_faults name) (new.read_faults name)) (λ name. Rose (old.write_faults name) (new.write_faults name)) (Rose had.faults got.faults))
  pub as_found : IfSome fault (λ f. IsBeforeWriting f → (new.held ≡ old.held) × (got.written ≡ had.written))

-- files were read and none was written
pub record OnlyRead (old new : Shown) : Type 0 where
  pub held : new.held ≡ old.held
  pub reads : NoneFell old.read_faults new.read_faults
  pub writes : NoneFell old.write_faults new.write_faults

-- these reads are done: none of them is refused, and what is held is as it was
pub record HaveRead (reads : List Reads) (old new : Shown) : Type 0 where
  pub only : OnlyRead old new
  pub accepted : IfSome old.held (λ files. first_refused reads files ≡ None)

-- a read that was refused or failed
pub record FailedRead (r : Reads) (old new : Shown) (fault : Fault) : Type 0 where
  pub only : OnlyRead old new
  pub refused : IfSome old.held (λ files. IsOfReading (r.refused files) r.role fault)
  pub cause : IsReadFault r.role (Rose (old.read_faults r.name) (new.read_faults r.name)) fault
