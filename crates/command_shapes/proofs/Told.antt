-- What is said of what is told.
use Rattle.std.proofs.Common.{◌≡◌, ◌≤◌, ℕ, refl, sym, ap, subst, arith, inl, inr, Option, Some, None, IfSome, Result, Ok, Err, IfErr, IsErrAnd}
use Rattle.bin_files.proofs.Pieces.{both_told}
use Rattle.ann_shelf.specs.Faults.{Rose}
use Rattle.annbuild_lines.specs.declared.fault.Fault.{Fault}
use Rattle.annbuild_lines.specs.declared.fault.Fault.TheVariants.{NoMemory}
use Rattle.command_shapes.specs.Ends.{fault_in}

pub told_here : {A : Type 0} {P : A → Type 0} (o : Option A) → ((x : A) → o ≡ Some x → P x) → IfSome o P
told_here None f = tt
told_here (Some x) f = f x refl

pub told_with : {A : Type 0} {P Q : A → Type 0} (o : Option A) → IfSome o P → ((x : A) → o ≡ Some x → P x → Q x) → IfSome o Q
told_with None p f = tt
told_with (Some x) p f = f x refl p

-- two facts of what is told
pub both_pair : {A : Type 0} (P Q : A → Type 0) (o p : Option A) → p ≡ o → IfSome o P → IfSome p Q → IfSome o (λ x. P x × Q x)
both_pair P Q o p e a b = both_told {P = P} {Q = Q} {R = λ x. P x × Q x} o p e a b (λ x u v. (u, v))

-- a count that rose later, and one that rose earlier
pub rose_later : (a b c : ℕ) → a ≤ b → Rose b c → Rose a c
rose_later a b c h r = elim r as (λ _. Rose a c) [ inl m ↦ inl (omega (arith, m, h)) | inr e ↦ inr e ]

pub rose_before : (a b c : ℕ) → b ≤ c → Rose a b → Rose a c
rose_before a b c h r = elim r as (λ _. Rose a c) [ inl m ↦ inl (omega (arith, m, h)) | inr e ↦ inr (omega (arith, e, h)) ]

-- what holds of a fault holds of the result that passes it on
pub on_fault : {T E : Type 0} (r : Result T E) (e : E) (P : E → Type 0) → IsErrAnd r (λ x. x ≡ e) → P e → IfErr r P
on_fault (Ok x) e P is p = absurd is
on_fault (Err x) e P is p = subst P (sym is) p

pub fault_passed : {T : Type 0} (r : Result T Fault) (e : Fault) → IsErrAnd r (λ x. x ≡ e) → Some e ≡ fault_in r
fault_passed (Ok x) e is = absurd is
fault_passed (Err x) e is = ap Some (sym is)

pub no_memory_in : {A : Type 0} (r : Result A Fault) → fault_in r ≡ Some NoMemory → r ≡ Err NoMemory
no_memory_in (Ok x) is = cc
no_memory_in (Err f) is = cc
