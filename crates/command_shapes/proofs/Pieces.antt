-- Pieces that are printed one after another.
use Rattle.std.proofs.Common.{◌≡◌, ◌∙◌, ◌+◌, ◌≤◌, ◌<◌, ℕ, List, [], ◌++◌, take, length, refl, sym, ap, subst, arith, inl, inr, append_assoc, Option, Some, None, IfSome, true, false, nat_le, Result, IsErrAnd}
use Rattle.std.specs.List.{concat}
use Rattle.std.proofs.lemmas.Bool.{leb-true, leb-false}
use Rattle.std.proofs.lemmas.List.{append-nil, take_all, length-append, take-append-le}
use Rattle.std.proofs.lemmas.List.Folds.{concat-append}
use Rattle.std.proofs.Math.Seq.{take-append-add}
use Rattle.ann_shelf.specs.Faults.{Rose}
use Rattle.ann_shelf.specs.Written.{GotSome}
use Rattle.annbuild_lines.specs.declared.fault.Fault.{Fault}
use Rattle.annbuild_lines.specs.declared.fault.Fault.TheVariants.{Write, NoMemory}
use Rattle.command_options.specs.declared.role.Role.TheVariants.{Output}
use Rattle.bin_files.proofs.Pieces.{told_then}
use Rattle.ann_shelf.specs.Written.{Got}
use Rattle.command_shapes.specs.Clauses.{GotPieces}
use Rattle.command_shapes.specs.Ends.{fault_in}
use Rattle.command_shapes.specs.Writing.{IsOfPrinting, LeavesPieces, Printed}
use Rattle.command_shapes.proofs.PrintingFaults.{after_printing}
use Rattle.command_shapes.proofs.Told.{told_here, rose_later, fault_passed}

-- a part of a text that follows one is a part of both and what comes after
got_upto : (before p q r after : List ℕ) (k : ℕ) → k ≤ length q → after ≡ (before ++ p) ++ take k q → GotSome before after (p ++ (q ++ r))
got_upto before p q r after k short is = (
  length p + k,
  is ∙ append_assoc before p (take k q)
      ∙ ap (λ t. before ++ t) (ap (λ t. p ++ t) (sym (take-append-le k q r short)) ∙ sym (take-append-add p (q ++ r) k)),
)

got_within : (before p q r after : List ℕ) → GotSome (before ++ p) after q → GotSome before after (p ++ (q ++ r))
got_within before p q r after got = elim (nat_le got.0 (length q)) as (λ b. nat_le got.0 (length q) ≡ b → GotSome before after (p ++ (q ++ r))) [
  | true ↦ λ e. got_upto before p q r after got.0 (leb-true got.0 (length q) e) got.1
  | false ↦ λ e.
      let long : length q ≤ got.0 = omega (arith, leb-false got.0 (length q) e) in
      let whole : take got.0 q ≡ take (length q) q = take_all got.0 q long ∙ sym (take_all (length q) q (omega arith)) in
      got_upto before p q r after (length q) (omega arith) (got.1 ∙ ap (λ t. (before ++ p) ++ t) whole)
] refl

-- a part of the pieces in the middle
got_middle : (before after : List ℕ) (ps qs rs : List (List ℕ)) → GotSome (before ++ concat ps) after (concat qs) → GotSome before after (concat (ps ++ (qs ++ rs)))
got_middle before after ps qs rs got =
    subst (GotSome before after) (ap (λ t. concat ps ++ t) (sym (concat-append qs rs)) ∙ sym (concat-append ps (qs ++ rs)))
    (got_within before (concat ps) (concat qs) (concat rs) after got)

take_within : (ps qs rs : List (List ℕ)) (count : ℕ) → count ≤ length qs → take (length ps + count) (ps ++ (qs ++ rs)) ≡ ps ++ take count qs
take_within ps qs rs count short = take-append-add ps (qs ++ rs) count ∙ ap (λ t. ps ++ t) (take-append-le count qs rs short)

pieces_middle : (before after : List ℕ) (ps qs rs : List (List ℕ)) (count : ℕ) → count ≤ length qs → length ps + count < length (ps ++ (qs ++ rs))
    → after ≡ (before ++ concat ps) ++ concat (take count qs) → GotPieces before after (ps ++ (qs ++ rs))
pieces_middle before after ps qs rs count short less is = (
  length ps + count,
  less,
  is ∙ append_assoc before (concat ps) (concat (take count qs))
      ∙ ap (λ t. before ++ t) (sym (concat-append ps (take count qs)) ∙ ap concat (sym (take_within ps qs rs count short))),
)

lengths : (ps qs rs : List (List ℕ)) → length (ps ++ (qs ++ rs)) ≡ length ps + (length qs + length rs)
lengths ps qs rs = length-append ps (qs ++ rs) ∙ ap (λ n. length ps + n) (length-append qs rs)

memory_middle : (wants more : Type 0) (before after : List ℕ) (ps qs rs : List (List ℕ)) → (wants → more) → 1 ≤ length qs
    → LeavesPieces wants (before ++ concat ps) after qs NoMemory → LeavesPieces more before after (ps ++ (qs ++ rs)) NoMemory
memory_middle wants more before after ps qs rs m some h = elim h as (λ _. LeavesPieces more before after (ps ++ (qs ++ rs)) NoMemory) [
  | inl same ↦ inr (inl (pieces_middle before after ps qs rs 0 (omega (arith, some)) (omega (arith, some, lengths ps qs rs)) (same ∙ sym (append-nil (before ++ concat ps)))))
  | inr got ↦ elim got as (λ _. LeavesPieces more before after (ps ++ (qs ++ rs)) NoMemory) [
    | inl some_of ↦ inr (inl (pieces_middle before after ps qs rs some_of.0 (omega (arith, some_of.1)) (omega (arith, some_of.1, lengths ps qs rs)) some_of.2))
    | inr part ↦ inr (inr (m part.0, got_middle before after ps qs rs part.1))
  ]
]

leaves_middle : (wants more : Type 0) (before after : List ℕ) (ps qs rs : List (List ℕ)) (fault : Fault) → (wants → more) → 1 ≤ length qs
    → LeavesPieces wants (before ++ concat ps) after qs fault → LeavesPieces more before after (ps ++ (qs ++ rs)) fault
leaves_middle wants more before after ps qs rs fault m some h =
    after_printing (LeavesPieces more before after (ps ++ (qs ++ rs)) (Write Output)) (LeavesPieces more before after (ps ++ (qs ++ rs)) NoMemory)
    (LeavesPieces wants (before ++ concat ps) after qs (Write Output)) (LeavesPieces wants (before ++ concat ps) after qs NoMemory) fault
    (λ got. got_middle before after ps qs rs got) (λ l. memory_middle wants more before after ps qs rs m some l) h

cause_middle : (outs more : Type 0) (fault : Fault) → (outs → more) → IsOfPrinting outs fault → IsOfPrinting more fault
cause_middle outs more fault m h = after_printing more (Unit {0}) outs (Unit {0}) fault m (λ u. u) h

told_on : {A B : Type 0} (f : A → B) (Q : B → Type 0) (o : Option A) (p : Option B) → IfSome o (λ x. p ≡ Some (f x)) → IfSome p Q → IfSome o (λ x. Q (f x))
told_on f Q None p told q = tt
told_on f Q (Some x) p told q = subst (λ v. IfSome v Q) told q

no_fall : (a b c : ℕ) → a ≤ b → b ≤ c → a ≤ c
no_fall a b c p q = omega (arith, p, q)

-- nothing is printed yet
pub none_printed : (had : Got) → Printed [] had had None
none_printed had = record {
  whole = told_here had.written (λ text e. e ∙ ap Some (sym (append-nil text)));
  leaves = tt;
  cause = tt;
  faults = omega arith;
  wants = omega arith;
}

-- pieces and then more of them
pub both_printed : (ps qs : List (List ℕ)) (had mid got : Got) → Printed ps had mid None → Printed qs mid got None → Printed (ps ++ qs) had got None
both_printed ps qs had mid got a b = record {
  whole = told_then had.written (told_on (λ before. before ++ concat ps) (λ before. got.written ≡ Some (before ++ concat qs)) had.written mid.written a.whole b.whole)
      (λ before e. e ∙ ap Some (append_assoc before (concat ps) (concat qs) ∙ ap (λ t. before ++ t) (sym (concat-append ps qs))));
  leaves = tt;
  cause = tt;
  faults = no_fall had.faults mid.faults got.faults a.faults b.faults;
  wants = no_fall had.wants mid.wants got.wants a.wants b.wants;
}

-- a fault at pieces in the middle
pub failed_printing : (ps qs rs : List (List ℕ)) (had mid got : Got) (fault : Fault) → 1 ≤ length qs → Printed ps had mid None → Printed qs mid got (Some fault)
    → Printed (ps ++ (qs ++ rs)) had got (Some fault)
failed_printing ps qs rs had mid got fault some a b = record {
  whole = tt;
  leaves = told_then had.written
      (told_on (λ before. before ++ concat ps) (λ before. (after : List ℕ) × (got.written ≡ Some after) × LeavesPieces (Rose mid.wants got.wants) before after qs fault) had.written mid.written a.whole b.leaves)
      (λ before l. (l.0, l.1, leaves_middle (Rose mid.wants got.wants) (Rose had.wants got.wants) before l.0 ps qs rs fault (rose_later had.wants mid.wants got.wants a.wants) some l.2));
  cause = cause_middle (Rose mid.faults got.faults) (Rose had.faults got.faults) fault (rose_later had.faults mid.faults got.faults a.faults) b.cause;
  faults = no_fall had.faults mid.faults got.faults a.faults b.faults;
  wants = no_fall had.wants mid.wants got.wants a.wants b.wants;
}

-- pieces and then more of them, with a fault or without
pub then_pieces : (ps qs : List (List ℕ)) (had mid got : Got) (fault : Option Fault) → 1 ≤ length qs → Printed ps had mid None → Printed qs mid got fault → Printed (ps ++ qs) had got fault
then_pieces ps qs had mid got None some a b = both_printed ps qs had mid got a b
then_pieces ps qs had mid got (Some fault) some a b =
    subst (λ rs. Printed (ps ++ rs) had got (Some fault)) (append-nil qs) (failed_printing ps qs [] had mid got fault some a b)

-- want of memory before anything of these pieces is printed
pub no_memory_printing : (pieces : List (List ℕ)) (had : Got) → Printed pieces had had (Some NoMemory)
no_memory_printing pieces had = record {
  whole = tt;
  leaves = told_here had.written (λ before e. (before, e, inl refl));
  cause = tt;
  faults = omega arith;
  wants = omega arith;
}

-- the same where it is passed on
pub memory_passed : {T : Type 0} (r : Result T Fault) (pieces : List (List ℕ)) (had : Got) → IsErrAnd r (λ f. f ≡ NoMemory) → Printed pieces had had (fault_in r)
memory_passed r pieces had is = subst (Printed pieces had had) (fault_passed r NoMemory is) (no_memory_printing pieces had)
