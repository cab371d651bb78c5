-- Lines that wait in a buffer until they are printed in one piece.
use Rattle.std.proofs.Common.{◌≡◌, ◌∙◌, ◌≤◌, ℕ, List, [], ◌∷◌, ◌++◌, take, length, sym, ap, subst, arith, inl, inr, append_assoc, Some, None, Result, Ok, Err, OnOk, IfErr}
use Rattle.std.specs.List.{concat}
use Rattle.std.proofs.lemmas.List.{append-nil}
use Rattle.std.proofs.lemmas.List.Folds.{concat-append}
use Rattle.ann_shelf.specs.Faults.{Rose}
use Rattle.ann_shelf.specs.Written.{Got, GotSome}
use Rattle.annbuild_lines.specs.declared.fault.Fault.{Fault}
use Rattle.annbuild_lines.specs.declared.fault.Fault.TheVariants.{Write, NoMemory}
use Rattle.command_options.specs.declared.role.Role.TheVariants.{Output}
use Rattle.command_shapes.specs.AnswerLines.{numbered_lines}
use Rattle.command_shapes.specs.Clauses.{GotPieces}
use Rattle.command_shapes.specs.Ends.{fault_in}
use Rattle.command_shapes.specs.Writing.{LeavesPieces, Printed}
use Rattle.command_shapes.specs.Waiting.{WaitIn}
use Rattle.command_shapes.proofs.LineLists.{no_lines}
use Rattle.command_shapes.proofs.PrintingFaults.{after_printing}
use Rattle.command_shapes.proofs.Told.{told_with}
use Rattle.command_shapes.proofs.Pieces.{none_printed, both_printed, failed_printing}

-- pieces are printed whole in whatever parts they came
pub regrouped : (ps qs : List (List ℕ)) (had got : Got) → concat ps ≡ concat qs → Printed ps had got None → Printed qs had got None
regrouped ps qs had got same p = record {
  whole = told_with had.written p.whole (λ before e is. is ∙ ap (λ t. Some (before ++ t)) same);
  leaves = tt;
  cause = tt;
  faults = p.faults;
  wants = p.wants;
}

one_piece : (piece : List ℕ) → concat (piece ∷ []) ≡ piece
one_piece piece = append-nil piece

-- no piece comes before the only one
none_before : (piece old new : List ℕ) → GotPieces old new (piece ∷ []) → new ≡ old
none_before piece old new got =
    let none : got.0 ≡ 0 = omega (arith, got.1) in
    got.2 ∙ ap (λ n. old ++ concat (take n (piece ∷ []))) none ∙ append-nil old

memory_regrouped : (wants : Type 0) (piece : List ℕ) (lines : List (List ℕ)) (old new : List ℕ) → concat (piece ∷ []) ≡ concat lines
    → LeavesPieces wants old new (piece ∷ []) NoMemory → LeavesPieces wants old new lines NoMemory
memory_regrouped wants piece lines old new same h = elim h as (λ _. LeavesPieces wants old new lines NoMemory) [
  | inl as_before ↦ inl as_before
  | inr got ↦ elim got as (λ _. LeavesPieces wants old new lines NoMemory) [
    | inl some_of ↦ inl (none_before piece old new some_of)
    | inr part ↦ inr (inr (part.0, subst (GotSome old new) same part.1))
  ]
]

leaves_regrouped : (wants : Type 0) (piece : List ℕ) (lines : List (List ℕ)) (old new : List ℕ) (fault : Fault) → concat (piece ∷ []) ≡ concat lines
    → LeavesPieces wants old new (piece ∷ []) fault → LeavesPieces wants old new lines fault
leaves_regrouped wants piece lines old new fault same h =
    after_printing (LeavesPieces wants old new lines (Write Output)) (LeavesPieces wants old new lines NoMemory)
    (LeavesPieces wants old new (piece ∷ []) (Write Output)) (LeavesPieces wants old new (piece ∷ []) NoMemory) fault
    (λ got. subst (GotSome old new) same got) (λ l. memory_regrouped wants piece lines old new same l) h

-- a fault at a piece is a fault at the lines that it holds
fault_regrouped : (piece : List ℕ) (lines : List (List ℕ)) (had got : Got) (fault : Fault) → concat (piece ∷ []) ≡ concat lines
    → Printed (piece ∷ []) had got (Some fault) → Printed lines had got (Some fault)
fault_regrouped piece lines had got fault same p = record {
  whole = tt;
  leaves = told_with had.written p.leaves (λ before e l. (l.0, l.1, leaves_regrouped (Rose had.wants got.wants) piece lines before l.0 fault same l.2));
  cause = p.cause;
  faults = p.faults;
  wants = p.wants;
}

-- a buffer that isn't empty holds lines
lines_in : (buffer : List ℕ) (waiting : List (List ℕ)) → buffer ≡ concat waiting → 1 ≤ length buffer → 1 ≤ length waiting
lines_in buffer [] is some = let none = ap length is in omega (arith, some, none)
lines_in buffer (line ∷ waiting) is some = omega arith

-- lines that are printed don't wait
pub printed_waits : (lines : List (List ℕ)) (buffer : List ℕ) (had got : Got) → buffer ≡ [] → Printed lines had got None → WaitIn lines buffer had got
printed_waits lines buffer had got empty p = record { printed = lines; waiting = []; lines_are = sym (append-nil lines); buffer_is = empty; so_far = p }

-- a line that is added to the buffer waits behind the others
pub line_waits : (lines : List (List ℕ)) (buffer line more : List ℕ) (had got : Got) → more ≡ buffer ++ line → WaitIn lines buffer had got → WaitIn (lines ++ (line ∷ [])) more had got
line_waits lines buffer line more had got is w = record {
  printed = w.printed;
  waiting = w.waiting ++ (line ∷ []);
  lines_are = ap (λ ls. ls ++ (line ∷ [])) w.lines_are ∙ append_assoc w.printed w.waiting (line ∷ []);
  buffer_is = is ∙ ap (λ t. t ++ line) w.buffer_is ∙ ap (λ t. concat w.waiting ++ t) (sym (one_piece line)) ∙ sym (concat-append w.waiting (line ∷ []));
  so_far = w.so_far;
}

-- where the buffer is empty, all lines were printed
pub all_printed : (lines : List (List ℕ)) (buffer : List ℕ) (had got : Got) → buffer ≡ [] → WaitIn lines buffer had got → Printed lines had got None
all_printed lines buffer had got empty w =
    regrouped w.printed lines had got
    (sym (append-nil (concat w.printed)) ∙ ap (λ t. concat w.printed ++ t) (sym empty ∙ w.buffer_is) ∙ sym (concat-append w.printed w.waiting) ∙ ap concat (sym w.lines_are))
    w.so_far

held_by : (lines : List (List ℕ)) (buffer : List ℕ) (had got : Got) (w : WaitIn lines buffer had got) → concat (buffer ∷ []) ≡ concat w.waiting
held_by lines buffer had got w = one_piece buffer ∙ w.buffer_is

-- once the buffer is printed, all lines are
pub buffer_printed : (lines : List (List ℕ)) (buffer : List ℕ) (had mid got : Got) → WaitIn lines buffer had mid → Printed (buffer ∷ []) mid got None → Printed lines had got None
buffer_printed lines buffer had mid got w p =
    subst (λ ls. Printed ls had got None) (sym w.lines_are)
    (both_printed w.printed w.waiting had mid got w.so_far (regrouped (buffer ∷ []) w.waiting mid got (held_by lines buffer had mid w) p))

-- a fault at printing the buffer
pub buffer_failed : (lines rest : List (List ℕ)) (buffer : List ℕ) (had mid got : Got) (fault : Fault) → 1 ≤ length buffer → WaitIn lines buffer had mid → Printed (buffer ∷ []) mid got (Some fault)
    → Printed (lines ++ rest) had got (Some fault)
buffer_failed lines rest buffer had mid got fault some w p =
    subst (λ ls. Printed ls had got (Some fault)) (sym (append_assoc w.printed w.waiting rest) ∙ ap (λ ls. ls ++ rest) (sym w.lines_are))
    (failed_printing w.printed w.waiting rest had mid got fault (lines_in buffer w.waiting w.buffer_is some) w.so_far
    (fault_regrouped buffer w.waiting mid got fault (held_by lines buffer had mid w) p))

-- once the buffer is emptied all lines are printed, or a fault tells why not
pub all_flushed : {A : Type 0} (r : Result A Fault) (lines : List (List ℕ)) (buffer : List ℕ) (had mid got : Got)
    → OnOk r ((ls : List (List ℕ)) (h : Got) → WaitIn ls buffer h mid → Printed ls h got None)
    → IfErr r (λ fault. (ls rest : List (List ℕ)) (h : Got) → WaitIn ls buffer h mid → Printed (ls ++ rest) h got (Some fault))
    → WaitIn lines buffer had mid → Printed lines had got (fault_in r)
all_flushed (Ok x) lines buffer had mid got whole failed w = whole lines had w
all_flushed (Err fault) lines buffer had mid got whole failed w = subst (λ ls. Printed ls had got (Some fault)) (append-nil lines) (failed lines [] had w)

-- the lines of no items wait in an empty buffer
pub no_lines_wait : {A : Type 0} (line : ℕ → A → List ℕ) (none : A) (first : ℕ) (buffer : List ℕ) (had : Got) → buffer ≡ [] → WaitIn (numbered_lines line first []) buffer had had
no_lines_wait line none first buffer had empty =
    printed_waits (numbered_lines line first []) buffer had had empty (subst (λ ps. Printed ps had had None) (sym (no_lines line none first)) (none_printed had))
