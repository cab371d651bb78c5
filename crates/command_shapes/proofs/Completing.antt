-- Where no count rose, a command ends as its files show, or wants memory.
use Rattle.std.proofs.Common.{◌≡◌, ℕ, List, [], ◌∷◌, refl, sym, subst, inl, inr, Option, Some, None, IfSome}
use Rattle.ann_shelf.specs.Files.{Files}
use Rattle.annbuild_lines.specs.declared.fault.Fault.{Fault}
use Rattle.annbuild_lines.specs.declared.fault.Fault.TheVariants.{Usage, Setting, Read, Malformed, Unfit, Write, NoMemory, TooLarge}
use Rattle.command_options.specs.declared.role.Role.{Role}
use Rattle.command_shapes.specs.Doing.{Reads, Stored, Doing, refusal_of}
use Rattle.command_shapes.specs.Clauses.{IsToldBy, IsReadOf, IsStoreOf, IsWriteOf, HasCauseOf, AreQuiet, IsQuietOf, IsShownOrNoMemory}

quiet_read : (reads : List Reads) (rose : List ℕ → Type 0) (role : Role) → AreQuiet reads rose → IsReadOf reads rose role → ⊥
quiet_read [] rose role q h = h
quiet_read (r ∷ reads) rose role q h = elim h as (λ _. ⊥) [ inl x ↦ q.0 x.1 | inr x ↦ quiet_read reads rose role q.1 x ]

quiet_store : (s : Option Stored) (rose : List ℕ → Type 0) (role : Role) → IfSome s (λ t. rose t.name → ⊥) → IsStoreOf s rose role → ⊥
quiet_store None rose role q h = h
quiet_store (Some s) rose role q h = q h.1

quiet_write : (d : Doing) (reads writes : List ℕ → Type 0) (outs : Type 0) (role : Role) → IsQuietOf d reads writes outs → IsWriteOf d writes outs role → ⊥
quiet_write d reads writes outs role q h = elim h as (λ _. ⊥) [ inl x ↦ q.2 x.1 | inr x ↦ quiet_store d.stores writes role q.1 x ]

pub shown_or_memory : (d : Doing) (files : Files) (reads writes : List ℕ → Type 0) (outs : Type 0) (fault : Fault)
    → HasCauseOf d reads writes outs fault → IsToldBy d files fault → IsQuietOf d reads writes outs → IsShownOrNoMemory (refusal_of d files) (Some fault)
shown_or_memory d files reads writes outs Usage h t q = absurd h
shown_or_memory d files reads writes outs (Setting n v l u) h t q = absurd h
shown_or_memory d files reads writes outs (Read role) h t q = absurd (quiet_read d.reads reads role q.0 h)
shown_or_memory d files reads writes outs (Malformed role place rule) h t q = inl (sym t)
shown_or_memory d files reads writes outs (Unfit role what found wanted) h t q = inl (sym t)
shown_or_memory d files reads writes outs (Write role) h t q = absurd (quiet_write d reads writes outs role q h)
shown_or_memory d files reads writes outs NoMemory h t q = inr refl
shown_or_memory d files reads writes outs (TooLarge n v l) h t q = inl (sym t)

-- a fault of a command isn't one of the words
pub not_usage : (d : Doing) (reads writes : List ℕ → Type 0) (outs : Type 0) (fault : Fault) → HasCauseOf d reads writes outs fault → fault ≡ Usage → ⊥
not_usage d reads writes outs fault h e = subst (HasCauseOf d reads writes outs) e h

pub not_setting : (d : Doing) (reads writes : List ℕ → Type 0) (outs : Type 0) (fault : Fault) → HasCauseOf d reads writes outs fault → (f : Fault) → fault ≡ f → HasCauseOf d reads writes outs f
not_setting d reads writes outs fault h f e = subst (HasCauseOf d reads writes outs) e h
