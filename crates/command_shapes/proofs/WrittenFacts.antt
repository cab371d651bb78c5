-- How storing and printing end.
use Rattle.std.proofs.Common.{◌≡◌, ◌∙◌, ℕ, List, [], refl, ap, inl, inr, Option, Some, None, IfSome, true, Bool}
use Rattle.std.specs.Prelude.{◌⊎◌}
use Rattle.ann_shelf.specs.declared.slip.Slip.{Slip}
use Rattle.ann_shelf.specs.declared.slip.Slip.TheVariants.{Failed, NoMemory as NoSlipMemory}
use Rattle.ann_shelf.specs.Faults.{Rose}
use Rattle.ann_shelf.specs.Files.{Files}
use Rattle.annbuild_lines.specs.declared.fault.Fault.{Fault}
use Rattle.annbuild_lines.specs.declared.fault.Fault.TheVariants.{Write, NoMemory}
use Rattle.command_options.specs.declared.role.Role.{Role}
use Rattle.command_options.specs.declared.role.Role.TheVariants.{Base, Index, Queries, Output, Gone, Fresh, Labels}
use Rattle.bin_files.proofs.Pieces.{told_then}
use Rattle.ann_shelf.specs.Shown.{Shown}
use Rattle.ann_shelf.specs.Written.{Got}
use Rattle.command_shapes.specs.Doing.{Stored, Doing, files_with}
use Rattle.command_shapes.specs.Clauses.{IsToldBy, HasCauseOf, LeavesOf, LeavesOutOf, IsBeforeWriting}
use Rattle.command_shapes.specs.Faults.{write_fault_of}
use Rattle.command_shapes.specs.Ends.{Ends}
use Rattle.command_shapes.specs.Writing.{writing, writing_runs, stored_as, IsFile, IsOfPrinting, LeavesPieces, Printed}
use Rattle.command_shapes.proofs.PrintingFaults.{by_printing}
use Rattle.command_shapes.proofs.Told.{told_here}

-- one run that may be, and its pieces
module _ (s : Option Stored) (lawful : List ℕ → Bool) (runs : List ℕ → List (List ℕ)) (run : List ℕ) (may : lawful run ≡ true) where
  abbrev doing : Doing
  doing = writing_runs s lawful runs

  print_tells : (outs : Type 0) (files : Files) (fault : Fault) → IsOfPrinting outs fault → IsToldBy doing files fault
  print_tells outs files fault h = by_printing (IsToldBy doing files) outs (Unit {0}) fault (λ o. refl) (λ u. u) h

  print_cause : (reads writes : List ℕ → Type 0) (outs : Type 0) (fault : Fault) → IsOfPrinting outs fault → HasCauseOf doing reads writes outs fault
  print_cause reads writes outs fault h = by_printing (HasCauseOf doing reads writes outs) outs (Unit {0}) fault (λ o. inl (refl, o)) (λ u. u) h

  memory_leaves : (wants : Type 0) (files : Files) → (files_with s files ≡ files) ⊎ wants → LeavesOf doing wants files (files_with s files) NoMemory
  memory_leaves wants files m = elim m as (λ _. LeavesOf doing wants files (files_with s files) NoMemory) [ inl e ↦ inl e | inr w ↦ inr (w, refl) ]

  print_leaves : (outs wants : Type 0) (files : Files) (fault : Fault) → IsOfPrinting outs fault → (fault ≡ NoMemory → (files_with s files ≡ files) ⊎ wants)
      → LeavesOf doing wants files (files_with s files) fault
  print_leaves outs wants files fault h m =
      by_printing (λ f. (f ≡ NoMemory → (files_with s files ≡ files) ⊎ wants) → LeavesOf doing wants files (files_with s files) f) outs (Unit {0}) fault
      (λ o n. refl) (λ u n. memory_leaves wants files (n refl)) h m

  memory_out : (wants : Type 0) (files : Files) (before after : List ℕ) → LeavesPieces wants before after (runs run) NoMemory → LeavesOutOf doing wants files before after NoMemory
  memory_out wants files before after h = elim h as (λ _. LeavesOutOf doing wants files before after NoMemory) [ inl e ↦ inl e | inr got ↦ inr (run, may, got) ]

  print_out : (wants : Type 0) (files : Files) (before after : List ℕ) (fault : Fault) → LeavesPieces wants before after (runs run) fault → LeavesOutOf doing wants files before after fault
  print_out wants files before after fault h =
      by_printing (LeavesOutOf doing wants files before after)
      (LeavesPieces wants before after (runs run) (Write Output)) (LeavesPieces wants before after (runs run) NoMemory) fault
      (λ got. (run, may, got)) (λ l. memory_out wants files before after l) h

  print_late : (outs : Type 0) (fault : Fault) → IsOfPrinting outs fault → IsBeforeWriting fault → ⊥
  print_late outs fault h b = by_printing (λ f. IsBeforeWriting f → ⊥) outs (Unit {0}) fault (λ o n. n) (λ u n. n) h b

  -- printing, once the file that is stored is whole: where there is one, only the output itself wants memory
  pub then_run_printed : (old new : Shown) (had got : Got) (fault : Option Fault) → IfSome old.held (λ files. new.held ≡ Some (files_with s files))
      → ((files : Files) → fault ≡ Some NoMemory → (files_with s files ≡ files) ⊎ Rose had.wants got.wants) → Printed (runs run) had got fault → Ends doing old new had got fault
  then_run_printed old new had got None whole memory printed = record {
    done = told_then old.held whole (λ files is. record {
      accepted = refl;
      stored = (tt, is);
      printed = told_then had.written printed.whole (λ text e. (run, may, e));
    });
    failed = tt;
    cause = tt;
    as_found = tt;
  }
  then_run_printed old new had got (Some fault) whole memory printed = record {
    done = tt;
    failed = told_then old.held whole (λ files is. record {
      tells = print_tells (Rose had.faults got.faults) files fault printed.cause;
      leaves = (files_with s files, is, print_leaves (Rose had.faults got.faults) (Rose had.wants got.wants) files fault printed.cause (λ e. memory files (ap Some e)));
      leaves_out = told_then had.written printed.leaves (λ text o. (o.0, o.1, print_out (Rose had.wants got.wants) files text o.0 fault o.2));
      in_order = inr is;
      only_accepted = inl refl;
    });
    cause = print_cause (λ name. Rose (old.read_faults name) (new.read_faults name)) (λ name. Rose (old.write_faults name) (new.write_faults name)) (Rose had.faults got.faults) fault printed.cause;
    as_found = λ b. absurd (print_late (Rose had.faults got.faults) fault printed.cause b);
  }

-- the same where the files decide the pieces
pub then_printed : (s : Option Stored) (pieces : List (List ℕ)) (old new : Shown) (had got : Got) (fault : Option Fault) → IfSome old.held (λ files. new.held ≡ Some (files_with s files))
    → ((files : Files) → fault ≡ Some NoMemory → (files_with s files ≡ files) ⊎ Rose had.wants got.wants) → Printed pieces had got fault → Ends (writing s pieces) old new had got fault
then_printed s pieces old new had got fault whole memory printed = then_run_printed s (λ run. true) (λ run. pieces) [] refl old new had got fault whole memory printed

module _ (role : Role) (name text : List ℕ) (lawful : List ℕ → Bool) (runs : List ℕ → List (List ℕ)) (file : IsFile role) where
  store_tells : (files : Files) (slip : Slip) → IsToldBy (writing_runs (Some (stored_as role name text)) lawful runs) files (write_fault_of role slip)
  store_tells files Failed = refl
  store_tells files NoSlipMemory = tt

  store_cause : (reads writes : List ℕ → Type 0) (outs : Type 0) (slip : Slip) → (slip ≡ Failed → writes name) → HasCauseOf (writing_runs (Some (stored_as role name text)) lawful runs) reads writes outs (write_fault_of role slip)
  store_cause reads writes outs Failed m = inr (refl, m refl)
  store_cause reads writes outs NoSlipMemory m = tt

  store_late : (slip : Slip) → IsBeforeWriting (write_fault_of role slip) → ⊥
  store_late Failed b = b
  store_late NoSlipMemory b = b

store_leaves : (role : Role) (name text : List ℕ) (lawful : List ℕ → Bool) (runs : List ℕ → List (List ℕ)) → IsFile role → (wants : Type 0) (files : Files) (slip : Slip)
    → LeavesOf (writing_runs (Some (stored_as role name text)) lawful runs) wants files files (write_fault_of role slip)
store_leaves Base name text lawful runs file wants files Failed = refl
store_leaves Index name text lawful runs file wants files Failed = refl
store_leaves Queries name text lawful runs file wants files Failed = refl
store_leaves Gone name text lawful runs file wants files Failed = refl
store_leaves Fresh name text lawful runs file wants files Failed = refl
store_leaves Labels name text lawful runs file wants files Failed = refl
store_leaves Output name text lawful runs file wants files Failed = absurd file
store_leaves role name text lawful runs file wants files NoSlipMemory = inl refl

store_out : (role : Role) (name text : List ℕ) (lawful : List ℕ → Bool) (runs : List ℕ → List (List ℕ)) → IsFile role → (wants : Type 0) (files : Files) (before : List ℕ) (slip : Slip)
    → LeavesOutOf (writing_runs (Some (stored_as role name text)) lawful runs) wants files before before (write_fault_of role slip)
store_out Base name text lawful runs file wants files before Failed = refl
store_out Index name text lawful runs file wants files before Failed = refl
store_out Queries name text lawful runs file wants files before Failed = refl
store_out Gone name text lawful runs file wants files before Failed = refl
store_out Fresh name text lawful runs file wants files before Failed = refl
store_out Labels name text lawful runs file wants files before Failed = refl
store_out Output name text lawful runs file wants files before Failed = absurd file
store_out role name text lawful runs file wants files before NoSlipMemory = inl refl

-- a file that couldn't be stored
pub store_failed : (role : Role) (name text : List ℕ) (lawful : List ℕ → Bool) (runs : List ℕ → List (List ℕ)) → IsFile role → (old new : Shown) (had : Got) (slip : Slip)
    → new.held ≡ old.held → (slip ≡ Failed → Rose (old.write_faults name) (new.write_faults name))
    → Ends (writing_runs (Some (stored_as role name text)) lawful runs) old new had had (Some (write_fault_of role slip))
store_failed role name text lawful runs file old new had slip same rose = record {
  done = tt;
  failed = told_here old.held (λ files is. record {
    tells = store_tells role name text lawful runs file files slip;
    leaves = (files, same ∙ is, store_leaves role name text lawful runs file (Rose had.wants had.wants) files slip);
    leaves_out = told_here had.written (λ before e. (before, e, store_out role name text lawful runs file (Rose had.wants had.wants) files before slip));
    in_order = inl refl;
    only_accepted = inl refl;
  });
  cause = store_cause role name text lawful runs file (λ n. Rose (old.read_faults n) (new.read_faults n)) (λ n. Rose (old.write_faults n) (new.write_faults n)) (Rose had.faults had.faults) slip rose;
  as_found = λ b. absurd (store_late role name text lawful runs file slip b);
}
