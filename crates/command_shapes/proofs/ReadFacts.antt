-- Reading files in their order: what is known behind some reads, and a fault at the next one.
use Rattle.std.proofs.Common.{◌≡◌, ◌∙◌, ◌≤◌, ℕ, List, [], ◌∷◌, ◌++◌, refl, sym, ap, subst, arith, inl, inr, Option, Some, None, IfSome}
use Rattle.std.specs.Option.{option_or}
use Rattle.ann_shelf.specs.Faults.{Rose}
use Rattle.ann_shelf.specs.Files.{Files}
use Rattle.annbuild_lines.specs.declared.fault.Fault.{Fault}
use Rattle.command_options.specs.declared.role.Role.{Role}
use Rattle.bin_files.proofs.Pieces.{both_told, told_then}
use Rattle.ann_shelf.specs.Shown.{Shown, OnlyReads}
use Rattle.command_shapes.specs.Doing.{Reads, first_refused}
use Rattle.command_shapes.specs.Clauses.{IsReached, IsReadOf}
use Rattle.command_shapes.specs.Ends.{OnlyRead, HaveRead, FailedRead}
use Rattle.command_shapes.specs.Reading.{IsOfReading, IsReadFault}
use Rattle.command_shapes.proofs.Refusals.{alone}
use Rattle.command_shapes.proofs.Told.{told_here}

-- neither of two refusals
pub or_none : (u v : Option Fault) → option_or u v ≡ None → (u ≡ None) × (v ≡ None)
or_none None v e = (refl, e)
or_none (Some f) v e = cc

-- reads that are not refused, and reads after them
pub refused_after : (front back : List Reads) (files : Files) → first_refused front files ≡ None → first_refused (front ++ back) files ≡ first_refused back files
refused_after [] back files e = refl
refused_after (r ∷ front) back files e =
    let p = or_none (r.refused files) (first_refused front files) e in
    ap (λ u. option_or u (first_refused (front ++ back) files)) p.0 ∙ refused_after front back files p.1

-- the first read that is refused
pub refused_at : (front back : List Reads) (r : Reads) (files : Files) (fault : Fault) → first_refused front files ≡ None → r.refused files ≡ Some fault → first_refused (front ++ (r ∷ back)) files ≡ Some fault
refused_at front back r files fault e f = refused_after front (r ∷ back) files e ∙ ap (λ u. option_or u (first_refused back files)) f

pub is_reached : (front back : List Reads) (r : Reads) (files : Files) (role : Role) → role ≡ r.role → first_refused front files ≡ None → IsReached (front ++ (r ∷ back)) files role
is_reached [] back r files role same e = inl same
is_reached (x ∷ front) back r files role same e =
    let p = or_none (x.refused files) (first_refused front files) e in
    inr (p.0, is_reached front back r files role same p.1)

pub is_read : (front back : List Reads) (r : Reads) (rose : List ℕ → Type 0) (role : Role) → role ≡ r.role → rose r.name → IsReadOf (front ++ (r ∷ back)) rose role
is_read [] back r rose role same m = inl (same, m)
is_read (x ∷ front) back r rose role same m = inr (is_read front back r rose role same m)

then_read : (a b c : ℕ) → a ≤ b → b ≤ c → a ≤ c
then_read a b c p q = omega (arith, p, q)

-- some reads and then some more
pub only_both : (old mid new : Shown) → OnlyRead old mid → OnlyRead mid new → OnlyRead old new
only_both old mid new a b = record {
  held = b.held ∙ a.held;
  reads = λ name. then_read (old.read_faults name) (mid.read_faults name) (new.read_faults name) (a.reads name) (b.reads name);
  writes = λ name. then_read (old.write_faults name) (mid.write_faults name) (new.write_faults name) (a.writes name) (b.writes name);
}

pub have_both : (front back : List Reads) (old mid new : Shown) → HaveRead front old mid → HaveRead back mid new → HaveRead (front ++ back) old new
have_both front back old mid new a b = record {
  only = only_both old mid new a.only b.only;
  accepted = both_told old.held mid.held a.only.held a.accepted b.accepted (λ files p q. refused_after front back files p ∙ q);
}

-- nothing is read yet
pub none_read : (old : Shown) → HaveRead [] old old
none_read old = record {
  only = record { held = refl; reads = λ name. omega arith; writes = λ name. omega arith };
  accepted = told_here old.held (λ files e. refl);
}

only_read : (old new : Shown) (name : List ℕ) (failed : Type 0) → OnlyReads old new name failed → OnlyRead old new
only_read old new name failed o = record { held = o.held; reads = o.reads; writes = o.writes }

-- a read of one file that is done, and that the file's bytes don't refuse
pub one_read : (r : Reads) (old new : Shown) (failed : Type 0) → OnlyReads old new r.name failed → IfSome old.held (λ files. r.refused files ≡ None) → HaveRead (r ∷ []) old new
one_read r old new failed o accepted = record {
  only = only_read old new r.name failed o;
  accepted = told_then old.held accepted (λ files e. alone r files e);
}

-- a read of one file that failed, with the reader's fault as this one of the program
pub one_failed : (r : Reads) (old new : Shown) (failed : Type 0) (fault told : Fault) → told ≡ fault → OnlyReads old new r.name failed
    → IfSome old.held (λ files. IsOfReading (r.refused files) r.role fault) → IsReadFault r.role (Rose (old.read_faults r.name) (new.read_faults r.name)) fault → FailedRead r old new told
one_failed r old new failed fault told same o refused cause = subst (FailedRead r old new) (sym same) (record { only = only_read old new r.name failed o; refused = refused; cause = cause })
