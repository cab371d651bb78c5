-- What err gains of the line of a fault.
use Rattle.std.proofs.Common.{◌≡◌, ◌∙◌, ◌<◌, ℕ, List, ◌++◌, take, length, refl, ap, subst, Option, Some, IfSome, inl, inr, true, false, nat_lt}
use Rattle.std.specs.Prelude.{◌⊎◌}
use Rattle.std.proofs.lemmas.List.{take_all}
use Rattle.std.proofs.lemmas.Bool.{ltb-true, ltb-false}
use Rattle.ann_shelf.specs.declared.slip.Slip.{Slip}
use Rattle.ann_shelf.specs.declared.slip.Slip.TheVariants.{Failed, NoMemory as NoSlipMemory}
use Rattle.ann_shelf.specs.Written.{GotSome}
use Rattle.bin_files.proofs.Pieces.{told_then}
use Rattle.annbuild_lines.specs.Lines.{fault_text}
use Rattle.annbuild_lines.specs.declared.fault.Fault.{Fault}
use Rattle.annbuild_commands.specs.Ending.{fault_line, TellsOf}

text_is : (fault : Fault) → fault_text fault ≡ fault_line fault
unfolding fault_line
text_is fault = refl

pub told_whole : (failed : Type 0) (old new : Option (List ℕ)) (fault : Fault) (bytes : List ℕ) → bytes ≡ fault_text fault → IfSome old (λ text. new ≡ Some (text ++ bytes))
    → IfSome old (λ before. (after : List ℕ) × (new ≡ Some after) × TellsOf failed before after fault)
told_whole failed old new fault bytes is told = told_then old told (λ text e. (text ++ bytes, e, inl (ap (λ b. text ++ b) (is ∙ text_is fault))))

part_of : (failed : Type 0) (before after line : List ℕ) → failed → GotSome before after line
    → (after ≡ before ++ line) ⊎ (failed × ((k : ℕ) × (k < length line) × (after ≡ before ++ take k line)))
part_of failed before after line f got = elim (nat_lt got.0 (length line)) as (λ b. nat_lt got.0 (length line) ≡ b → (after ≡ before ++ line) ⊎ (failed × ((k : ℕ) × (k < length line) × (after ≡ before ++ take k line)))) [
  | true ↦ λ e. inr (f, (got.0, ltb-true got.0 (length line) e, got.1))
  | false ↦ λ e. inl (got.1 ∙ ap (λ t. before ++ t) (take_all got.0 line (ltb-false got.0 (length line) e)))
] refl

pub told_part : (failed : Type 0) (old new : Option (List ℕ)) (fault : Fault) (bytes : List ℕ) → bytes ≡ fault_text fault → failed
    → IfSome old (λ text. (after : List ℕ) × (new ≡ Some after) × GotSome text after bytes)
    → IfSome old (λ before. (after : List ℕ) × (new ≡ Some after) × TellsOf failed before after fault)
told_part failed old new fault bytes is f told = told_then old told (λ text got. (got.0, got.1, part_of failed text got.0 (fault_line fault) f (subst (GotSome text got.0) (is ∙ text_is fault) got.2)))

-- a slip is a failed call or want of memory
pub failed_either : (A B : Type 0) (slip : Slip) → (slip ≡ Failed → A) → (slip ≡ NoSlipMemory → B) → A ⊎ B
failed_either A B Failed a b = inl (a refl)
failed_either A B NoSlipMemory a b = inr (b refl)
