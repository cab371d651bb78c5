-- How a command ends, from how its parts end.
use Rattle.std.proofs.Common.{◌≡◌, ◌∙◌, ℕ, List, ◌∷◌, ◌++◌, take, refl, sym, ap, subst, inl, inr, Option, Some, None, IfSome, true, Bool}
use Rattle.std.specs.Prelude.{◌⊎◌}
use Rattle.std.specs.List.{concat}
use Rattle.std.specs.Option.{option_or}
use Rattle.ann_shelf.specs.Faults.{Rose}
use Rattle.ann_shelf.specs.Files.{Files}
use Rattle.annbuild_lines.specs.declared.fault.Fault.{Fault}
use Rattle.annbuild_lines.specs.declared.fault.Fault.TheVariants.{Usage, Setting, Read, Malformed, Unfit, Write, NoMemory, TooLarge}
use Rattle.command_options.specs.declared.role.Role.{Role}
use Rattle.command_options.specs.declared.role.Role.TheVariants.{Base, Index, Queries, Output, Gone, Fresh, Labels}
use Rattle.bin_files.proofs.Pieces.{both_told, told_then}
use Rattle.ann_shelf.specs.Shown.{Shown}
use Rattle.ann_shelf.specs.Written.{Got}
use Rattle.command_shapes.specs.Doing.{Reads, Stored, Doing, first_refused, refusal_of, files_with, files_then}
use Rattle.command_shapes.specs.Clauses.{IsReached, IsToldBy, IsReadOf, IsStoreOf, IsWriteOf, HasCauseOf, LeavesOf, LeavesOutOf, GotBeforeMemory}
use Rattle.command_shapes.specs.Reading.{IsOfReading, IsReadFault}
use Rattle.command_shapes.specs.Ends.{IsDone, HasFailed, Ends, OnlyRead, HaveRead, FailedRead}
use Rattle.command_shapes.specs.Writing.{writing_runs}
use Rattle.command_shapes.proofs.Told.{told_here, told_with, rose_later}
use Rattle.command_shapes.proofs.ReadFacts.{refused_at, is_reached, is_read}

-- a fault that no write answers
abbrev pub IsNoWrite : Fault → Type 0
IsNoWrite (Write role) = ⊥
IsNoWrite fault = Unit {0}

leaves_before : (d : Doing) (wants : Type 0) (files : Files) (fault : Fault) → IsNoWrite fault → LeavesOf d wants files files fault
leaves_before d wants files Usage n = refl
leaves_before d wants files (Setting name v l g) n = refl
leaves_before d wants files (Read role) n = refl
leaves_before d wants files (Malformed role place rule) n = refl
leaves_before d wants files (Unfit role what found wanted) n = refl
leaves_before d wants files (Write role) n = absurd n
leaves_before d wants files NoMemory n = inl refl
leaves_before d wants files (TooLarge name v l) n = refl

out_before : (d : Doing) (wants : Type 0) (files : Files) (text : List ℕ) (fault : Fault) → IsNoWrite fault → LeavesOutOf d wants files text text fault
out_before d wants files text Usage n = refl
out_before d wants files text (Setting name v l g) n = refl
out_before d wants files text (Read role) n = refl
out_before d wants files text (Malformed role place rule) n = refl
out_before d wants files text (Unfit role what found wanted) n = refl
out_before d wants files text (Write role) n = absurd n
out_before d wants files text NoMemory n = inl refl
out_before d wants files text (TooLarge name v l) n = refl

-- a fault before anything is written
pub fails_before : (d : Doing) (old new : Shown) (had : Got) (fault : Fault) → IsNoWrite fault → new.held ≡ old.held
    → HasCauseOf d (λ name. Rose (old.read_faults name) (new.read_faults name)) (λ name. Rose (old.write_faults name) (new.write_faults name)) (Rose had.faults had.faults) fault
    → IfSome old.held (λ files. IsToldBy d files fault) → Ends d old new had had (Some fault)
fails_before d old new had fault n held cause tells = record {
  done = tt;
  failed = told_with old.held tells (λ files is t. record {
    tells = t;
    leaves = (files, held ∙ is, leaves_before d (Rose had.wants had.wants) files fault n);
    leaves_out = told_here had.written (λ text e. (text, e, out_before d (Rose had.wants had.wants) files text fault n));
    in_order = inl refl;
    only_accepted = inr (held ∙ is, refl);
  });
  cause = cause;
  as_found = λ b. (held, refl);
}

-- want of memory before anything is written
pub fails_memory : (d : Doing) (old new : Shown) (had : Got) → new.held ≡ old.held → Ends d old new had had (Some NoMemory)
fails_memory d old new had held = fails_before d old new had NoMemory tt held tt (told_here old.held (λ files is. tt))

-- a fault at a read
no_write_read : (role : Role) (rose : Type 0) (fault : Fault) → IsReadFault role rose fault → IsNoWrite fault
no_write_read role rose Usage h = tt
no_write_read role rose (Setting name v l g) h = tt
no_write_read role rose (Read file) h = tt
no_write_read role rose (Malformed file place rule) h = tt
no_write_read role rose (Unfit file what found wanted) h = tt
no_write_read role rose (Write file) h = h
no_write_read role rose NoMemory h = tt
no_write_read role rose (TooLarge name v l) h = tt

module _ (d : Doing) (front back : List Reads) (r : Reads) (all : d.reads ≡ front ++ (r ∷ back)) where
  read_cause : (rose : Type 0) (reads writes : List ℕ → Type 0) (outs : Type 0) (fault : Fault) → (rose → reads r.name) → IsReadFault r.role rose fault → HasCauseOf d reads writes outs fault
  read_cause rose reads writes outs Usage m h = absurd h
  read_cause rose reads writes outs (Setting name v l g) m h = absurd h
  read_cause rose reads writes outs (Read file) m h = subst (λ l. IsReadOf l reads file) (sym all) (is_read front back r reads file h.0 (m h.1))
  read_cause rose reads writes outs (Malformed file place rule) m h = tt
  read_cause rose reads writes outs (Unfit file what found wanted) m h = tt
  read_cause rose reads writes outs (Write file) m h = absurd h
  read_cause rose reads writes outs NoMemory m h = tt
  read_cause rose reads writes outs (TooLarge name v l) m h = tt

  refusal_at : (files : Files) (fault : Fault) → first_refused front files ≡ None → r.refused files ≡ Some fault → refusal_of d files ≡ Some fault
  refusal_at files fault e f = ap (λ l. option_or (first_refused l files) (d.rest files)) all ∙ ap (λ u. option_or u (d.rest files)) (refused_at front back r files fault e f)

  read_tells : (files : Files) (fault : Fault) → first_refused front files ≡ None → IsOfReading (r.refused files) r.role fault → IsToldBy d files fault
  read_tells files Usage e h = absurd h
  read_tells files (Setting name v l g) e h = absurd h
  read_tells files (Read file) e h = subst (λ l. IsReached l files file) (sym all) (is_reached front back r files file h e)
  read_tells files (Malformed file place rule) e h = refusal_at files (Malformed file place rule) e h
  read_tells files (Unfit file what found wanted) e h = absurd h
  read_tells files (Write file) e h = absurd h
  read_tells files NoMemory e h = tt
  read_tells files (TooLarge name v l) e h = refusal_at files (TooLarge name v l) e h

  pub fails_at : (old mid new : Shown) (had : Got) (fault : Fault) → HaveRead front old mid → FailedRead r mid new fault → Ends d old new had had (Some fault)
  fails_at old mid new had fault so_far failed =
      fails_before d old new had fault (no_write_read r.role (Rose (mid.read_faults r.name) (new.read_faults r.name)) fault failed.cause) (failed.only.held ∙ so_far.only.held)
      (read_cause (Rose (mid.read_faults r.name) (new.read_faults r.name)) (λ name. Rose (old.read_faults name) (new.read_faults name)) (λ name. Rose (old.write_faults name) (new.write_faults name)) (Rose had.faults had.faults) fault
      (rose_later (old.read_faults r.name) (mid.read_faults r.name) (new.read_faults r.name) (so_far.only.reads r.name)) failed.cause)
      (both_told old.held mid.held so_far.only.held so_far.accepted failed.refused (λ files e h. read_tells files fault e h))

-- a refusal of files that are read: they don't fit together, or a limit is passed
abbrev pub IsOfFiles : Fault → Type 0
IsOfFiles (Malformed role place rule) = Unit {0}
IsOfFiles (Unfit role what found wanted) = Unit {0}
IsOfFiles (TooLarge name value limit) = Unit {0}
IsOfFiles fault = ⊥

no_write_files : (fault : Fault) → IsOfFiles fault → IsNoWrite fault
no_write_files Usage h = tt
no_write_files (Setting name v l g) h = tt
no_write_files (Read file) h = tt
no_write_files (Malformed file place rule) h = tt
no_write_files (Unfit file what found wanted) h = tt
no_write_files (Write file) h = h
no_write_files NoMemory h = tt
no_write_files (TooLarge name v l) h = tt

files_cause : (d : Doing) (reads writes : List ℕ → Type 0) (outs : Type 0) (fault : Fault) → IsOfFiles fault → HasCauseOf d reads writes outs fault
files_cause d reads writes outs Usage h = absurd h
files_cause d reads writes outs (Setting name v l g) h = absurd h
files_cause d reads writes outs (Read file) h = absurd h
files_cause d reads writes outs (Malformed file place rule) h = tt
files_cause d reads writes outs (Unfit file what found wanted) h = tt
files_cause d reads writes outs (Write file) h = absurd h
files_cause d reads writes outs NoMemory h = absurd h
files_cause d reads writes outs (TooLarge name v l) h = tt

files_tell : (d : Doing) (files : Files) (fault : Fault) → IsOfFiles fault → refusal_of d files ≡ Some fault → IsToldBy d files fault
files_tell d files Usage h e = absurd h
files_tell d files (Setting name v l g) h e = absurd h
files_tell d files (Read file) h e = absurd h
files_tell d files (Malformed file place rule) h e = e
files_tell d files (Unfit file what found wanted) h e = e
files_tell d files (Write file) h e = absurd h
files_tell d files NoMemory h e = absurd h
files_tell d files (TooLarge name v l) h e = e

-- what the rest says once all files are read
pub refusal_is : (d : Doing) (files : Files) → first_refused d.reads files ≡ None → refusal_of d files ≡ d.rest files
refusal_is d files e = ap (λ u. option_or u (d.rest files)) e

-- a refusal once all files are read
pub fails_rest : (d : Doing) (old new : Shown) (had : Got) (fault : Fault) → IsOfFiles fault → HaveRead d.reads old new → IfSome old.held (λ files. d.rest files ≡ Some fault) → Ends d old new had had (Some fault)
fails_rest d old new had fault of so_far rest =
    fails_before d old new had fault (no_write_files fault of) so_far.only.held
    (files_cause d (λ name. Rose (old.read_faults name) (new.read_faults name)) (λ name. Rose (old.write_faults name) (new.write_faults name)) (Rose had.faults had.faults) fault of)
    (both_told old.held old.held refl so_far.accepted rest (λ files e h. files_tell d files fault of (refusal_is d files e ∙ h)))

-- what a command is on files that it doesn't refuse: the writing that is left
pub record Leads (d : Doing) (s : Option Stored) (lawful : List ℕ → Bool) (pieces : List ℕ → List (List ℕ)) (files : Files) : Type 0 where
  pub accepted : refusal_of d files ≡ None
  pub meant : d.meant files
  pub stored : files_with s files ≡ files_then d files
  pub runs : (run : List ℕ) → lawful run ≡ true → d.lawful files run ≡ true
  pub prints : (run : List ℕ) → pieces run ≡ d.pieces files run

module _ (d : Doing) (s : Option Stored) (lawful : List ℕ → Bool) (pieces : List ℕ → List (List ℕ)) where
  left_tells : (files : Files) (fault : Fault) → refusal_of d files ≡ None → IsToldBy (writing_runs s lawful pieces) files fault → IsToldBy d files fault
  left_tells files Usage a h = absurd h
  left_tells files (Setting name v l g) a h = absurd h
  left_tells files (Read file) a h = absurd h
  left_tells files (Malformed file place rule) a h = cc
  left_tells files (Unfit file what found wanted) a h = cc
  left_tells files (Write file) a h = a
  left_tells files NoMemory a h = tt
  left_tells files (TooLarge name v l) a h = cc

  left_leaves : (wants : Type 0) (files after : Files) (fault : Fault) → Leads d s lawful pieces files → LeavesOf (writing_runs s lawful pieces) wants files after fault → LeavesOf d wants files after fault
  left_leaves wants files after Usage l h = h
  left_leaves wants files after (Setting name v x g) l h = h
  left_leaves wants files after (Read file) l h = h
  left_leaves wants files after (Malformed file place rule) l h = h
  left_leaves wants files after (Unfit file what found wanted) l h = h
  left_leaves wants files after (Write Base) l h = h
  left_leaves wants files after (Write Index) l h = h
  left_leaves wants files after (Write Queries) l h = h
  left_leaves wants files after (Write Gone) l h = h
  left_leaves wants files after (Write Fresh) l h = h
  left_leaves wants files after (Write Labels) l h = h
  left_leaves wants files after (Write Output) l h = h ∙ l.stored
  left_leaves wants files after NoMemory l h = elim h as (λ _. LeavesOf d wants files after NoMemory) [ inl e ↦ inl e | inr x ↦ inr (x.0, x.1 ∙ l.stored) ]
  left_leaves wants files after (TooLarge name v x) l h = h

  left_got : (wants : Type 0) (files : Files) (before after : List ℕ) → Leads d s lawful pieces files
      → (run : List ℕ) → GotBeforeMemory wants before after (pieces run) → GotBeforeMemory wants before after (d.pieces files run)
  left_got wants files before after l run h = subst (GotBeforeMemory wants before after) (l.prints run) h

  left_out : (wants : Type 0) (files : Files) (before after : List ℕ) (fault : Fault) → Leads d s lawful pieces files
      → LeavesOutOf (writing_runs s lawful pieces) wants files before after fault → LeavesOutOf d wants files before after fault
  left_out wants files before after Usage l h = h
  left_out wants files before after (Setting name v x g) l h = h
  left_out wants files before after (Read file) l h = h
  left_out wants files before after (Malformed file place rule) l h = h
  left_out wants files before after (Unfit file what found wanted) l h = h
  left_out wants files before after (Write Base) l h = h
  left_out wants files before after (Write Index) l h = h
  left_out wants files before after (Write Queries) l h = h
  left_out wants files before after (Write Gone) l h = h
  left_out wants files before after (Write Fresh) l h = h
  left_out wants files before after (Write Labels) l h = h
  left_out wants files before after (Write Output) l h = (h.0, l.runs h.0 h.1, (h.2.0, h.2.1 ∙ ap (λ ps. before ++ take h.2.0 (concat ps)) (l.prints h.0)))
  left_out wants files before after NoMemory l h = elim h as (λ _. LeavesOutOf d wants files before after NoMemory) [
    | inl same ↦ inl same
    | inr got ↦ inr (got.0, l.runs got.0 got.1, left_got wants files before after l got.0 got.2)
  ]
  left_out wants files before after (TooLarge name v x) l h = h

  left_order : (files : Files) (held : Option Files) (before written : Option (List ℕ)) → Leads d s lawful pieces files
      → (written ≡ before) ⊎ (held ≡ Some (files_with s files)) → (written ≡ before) ⊎ (held ≡ Some (files_then d files))
  left_order files held before written l h = elim h as (λ _. (written ≡ before) ⊎ (held ≡ Some (files_then d files))) [ inl e ↦ inl e | inr e ↦ inr (e ∙ ap Some l.stored) ]

  store_more : (u : Option Stored) (w v : List ℕ → Type 0) (role : Role) → ((name : List ℕ) → w name → v name) → IsStoreOf u w role → IsStoreOf u v role
  store_more None w v role m h = absurd h
  store_more (Some u) w v role m h = (h.0, m u.name h.1)

  left_write : (w v : List ℕ → Type 0) (outs : Type 0) (role : Role) → ((name : List ℕ) → w name → v name) → (IsStoreOf s v role → IsStoreOf d.stores v role)
      → IsWriteOf (writing_runs s lawful pieces) w outs role → IsWriteOf d v outs role
  left_write w v outs role m to h = elim h as (λ _. IsWriteOf d v outs role) [ inl o ↦ inl o | inr x ↦ inr (to (store_more s w v role m x)) ]

  left_cause : (reads w all v : List ℕ → Type 0) (outs : Type 0) (fault : Fault) → ((name : List ℕ) → w name → v name) → ((role : Role) → IsStoreOf s v role → IsStoreOf d.stores v role)
      → HasCauseOf (writing_runs s lawful pieces) reads w outs fault → HasCauseOf d all v outs fault
  left_cause reads w all v outs Usage m to h = absurd h
  left_cause reads w all v outs (Setting name x l g) m to h = absurd h
  left_cause reads w all v outs (Read file) m to h = absurd h
  left_cause reads w all v outs (Malformed file place rule) m to h = tt
  left_cause reads w all v outs (Unfit file what found wanted) m to h = tt
  left_cause reads w all v outs (Write file) m to h = left_write w v outs file m (to file) h
  left_cause reads w all v outs NoMemory m to h = tt
  left_cause reads w all v outs (TooLarge name x l) m to h = tt

  left_failed : (wants : Type 0) (files : Files) (held : Option Files) (before written : Option (List ℕ)) (fault : Fault) → Leads d s lawful pieces files
      → HasFailed (writing_runs s lawful pieces) wants files held before written fault → HasFailed d wants files held before written fault
  left_failed wants files held before written fault l h = record {
    tells = left_tells files fault l.accepted h.tells;
    leaves = (h.leaves.0, h.leaves.1, left_leaves wants files h.leaves.0 fault l h.leaves.2);
    leaves_out = told_then before h.leaves_out (λ text o. (o.0, o.1, left_out wants files text o.0 fault l o.2));
    in_order = left_order files held before written l h.in_order;
    only_accepted = inl l.accepted;
  }

  left_done : (files : Files) (held : Option Files) (before written : Option (List ℕ)) → Leads d s lawful pieces files
      → IsDone (writing_runs s lawful pieces) files held before written → IsDone d files held before written
  left_done files held before written l h = record {
    accepted = l.accepted;
    stored = (l.meant, h.stored.1 ∙ ap Some l.stored);
    printed = told_then before h.printed (λ text p. (p.0, l.runs p.0 p.1, p.2 ∙ ap (λ ps. Some (text ++ concat ps)) (l.prints p.0)));
  }

  -- a command whose files are read and accepted, and the writing that is left
  pub after_reading : (old mid new : Shown) (had got : Got) (fault : Option Fault) → IfSome old.held (Leads d s lawful pieces) → OnlyRead old mid
      → ((rose : List ℕ → Type 0) (role : Role) → IsStoreOf s rose role → IsStoreOf d.stores rose role)
      → Ends (writing_runs s lawful pieces) mid new had got fault → Ends d old new had got fault
  after_reading old mid new had got None leads only to ends = record {
    done = both_told old.held mid.held only.held leads ends.done (λ files l h. left_done files new.held had.written got.written l h);
    failed = tt;
    cause = tt;
    as_found = tt;
  }
  after_reading old mid new had got (Some fault) leads only to ends = record {
    done = tt;
    failed = both_told old.held mid.held only.held leads ends.failed (λ files l h. left_failed (Rose had.wants got.wants) files new.held had.written got.written fault l h);
    cause = left_cause (λ name. Rose (mid.read_faults name) (new.read_faults name)) (λ name. Rose (mid.write_faults name) (new.write_faults name))
        (λ name. Rose (old.read_faults name) (new.read_faults name)) (λ name. Rose (old.write_faults name) (new.write_faults name)) (Rose had.faults got.faults) fault
        (λ name. rose_later (old.write_faults name) (mid.write_faults name) (new.write_faults name) (only.writes name))
        (to (λ name. Rose (old.write_faults name) (new.write_faults name))) ends.cause;
    as_found = λ b. ((ends.as_found b).0 ∙ only.held, (ends.as_found b).1);
  }
