-- Calls one after another: what each left besides the bytes is what they left together.
use Rattle.std.proofs.Common.{◌≡◌, ◌⊎◌, inl, inr, ℕ, ◌≤◌, List, refl, ◌∙◌, ap, subst, arith, Option, Some, None}
use Rattle.ann_shelf.specs.Faults.{Rose, NoneFell}
use Rattle.ann_shelf.specs.Files.{Files, with_file, without_file}
use Rattle.ann_shelf.specs.Shown.{Shown, OthersStay, OnlyReads, OnlyWrites}
use Rattle.ann_shelf.proofs.Names.{remove_insert_same, remove_twice}
use Rattle.ann_shelf.specs.Written.{Got, OnlyWritten}

pub rose_later : (a b c : ℕ) → Rose a b → b ≤ c → Rose a c
rose_later a b c rose le = elim rose [ inl lt ↦ inl (omega arith) | inr top ↦ inr (omega arith) ]

pub rose_before : (a b c : ℕ) → a ≤ b → Rose b c → Rose a c
rose_before a b c le rose = elim rose [ inl lt ↦ inl (omega arith) | inr top ↦ inr (omega arith) ]

pub others_same : (files : Option Files) (name : List ℕ) → OthersStay files files name
others_same None name = tt
others_same (Some files) name = (files, refl, refl)

pub others_then : (a b c : Option Files) (name : List ℕ) → OthersStay a b name → OthersStay b c name → OthersStay a c name
others_then None b c name first next = tt
others_then (Some files) b c name first next =
    let moved = subst (λ o. OthersStay o c name) first.1 next in (moved.0, moved.1, moved.2 ∙ first.2)

-- a file of this name that is set, and one that is taken away
pub others_set : (old new : Files) (name x : List ℕ) → new ≡ with_file old name x → OthersStay (Some old) (Some new) name
others_set old new name x is = (new, refl, ap (λ m. without_file m name) is ∙ remove_insert_same old name x)

pub others_taken : (old new : Files) (name : List ℕ) → new ≡ without_file old name → OthersStay (Some old) (Some new) name
others_taken old new name is = (new, refl, ap (λ m. without_file m name) is ∙ remove_twice old name)

pub others_kept : (old new : Files) (name : List ℕ) → new ≡ old → OthersStay (Some old) (Some new) name
others_kept old new name is = (new, refl, ap (λ m. without_file m name) is)

-- nothing changed
pub only_reads_same : (s : Shown) (name : List ℕ) {failed : Type 0} → (failed → ⊥) → OnlyReads s s name failed
only_reads_same s name never = record {
  held = refl;
  begun = refl;
  reads = λ other. omega arith;
  writes = λ other. omega arith;
  cause = λ f. absurd (never f);
}

-- the same call, whose answer is told in other words
pub only_reads_as : (a b : Shown) (name : List ℕ) {P Q : Type 0} → OnlyReads a b name P → (Q → P) → OnlyReads a b name Q
only_reads_as a b name first same = record {
  held = first.held;
  begun = first.begun;
  reads = first.reads;
  writes = first.writes;
  cause = λ q. first.cause (same q);
}

-- a call and one after it, of which either may have failed
pub only_reads_then : (a b c : Shown) (name : List ℕ) {P Q R : Type 0} → OnlyReads a b name P → OnlyReads b c name Q → (R → P ⊎ Q) → OnlyReads a c name R
only_reads_then a b c name first next told = record {
  held = next.held ∙ first.held;
  begun = next.begun ∙ first.begun;
  reads = λ other. omega (arith, first.reads other, next.reads other);
  writes = λ other. omega (arith, first.writes other, next.writes other);
  cause = λ r. elim (told r) [
    | inl p ↦ rose_later _ _ _ (first.cause p) (next.reads name)
    | inr q ↦ rose_before _ _ _ (first.reads name) (next.cause q)
  ];
}

pub only_writes_same : (s : Shown) (name : List ℕ) {failed : Type 0} → (failed → ⊥) → OnlyWrites s s name failed
only_writes_same s name never = record {
  others = others_same s.begun name;
  reads = λ other. omega arith;
  writes = λ other. omega arith;
  cause = λ f. absurd (never f);
}

-- a call that left both counts, and one that counted a failed write
pub only_writes_quiet : {a b : Shown} {name : List ℕ} {failed : Type 0} → OthersStay a.begun b.begun name → a.read_faults ≡ b.read_faults → a.write_faults ≡ b.write_faults → (failed → ⊥) → OnlyWrites a b name failed
only_writes_quiet {a} {b} {name} others reads writes never = record {
  others = others;
  reads = λ other. subst (λ (f : List ℕ → ℕ). a.read_faults other ≤ f other) reads (omega arith);
  writes = λ other. subst (λ (f : List ℕ → ℕ). a.write_faults other ≤ f other) writes (omega arith);
  cause = λ f. absurd (never f);
}

pub only_writes_counted : {a b : Shown} {name : List ℕ} {failed : Type 0} → OthersStay a.begun b.begun name → a.read_faults ≡ b.read_faults → NoneFell a.write_faults b.write_faults → Rose (a.write_faults name) (b.write_faults name) → OnlyWrites a b name failed
only_writes_counted {a} {b} {name} others reads grew rose = record {
  others = others;
  reads = λ other. subst (λ (f : List ℕ → ℕ). a.read_faults other ≤ f other) reads (omega arith);
  writes = grew;
  cause = λ _. rose;
}

pub only_writes_then : (a b c : Shown) (name : List ℕ) {P Q R : Type 0} → OnlyWrites a b name P → OnlyWrites b c name Q → (R → P ⊎ Q) → OnlyWrites a c name R
only_writes_then a b c name first next told = record {
  others = others_then _ _ _ name first.others next.others;
  reads = λ other. omega (arith, first.reads other, next.reads other);
  writes = λ other. omega (arith, first.writes other, next.writes other);
  cause = λ r. elim (told r) [
    | inl p ↦ rose_later _ _ _ (first.cause p) (next.writes name)
    | inr q ↦ rose_before _ _ _ (first.writes name) (next.cause q)
  ];
}

-- a write and one after it, where the first was answered
pub only_written_then : (a b c : Got) {P Q R S T U : Type 0} → OnlyWritten a b P Q → OnlyWritten b c R S → (T → P ⊎ R) → (U → Q ⊎ S) → OnlyWritten a c T U
only_written_then a b c first next failed wanted = record {
  faults = omega (arith, first.faults, next.faults);
  wants = omega (arith, first.wants, next.wants);
  cause = λ t. elim (failed t) [
    | inl p ↦ rose_later _ _ _ (first.cause p) next.faults
    | inr r ↦ rose_before _ _ _ first.faults (next.cause r)
  ];
  want = λ u. elim (wanted u) [
    | inl q ↦ rose_later _ _ _ (first.want q) next.wants
    | inr s ↦ rose_before _ _ _ first.wants (next.want s)
  ];
}
