-- What a pass has out.
use Rattle.std.proofs.Common.{◌≡◌, ℕ, ◌<◌, List, [], ◌∷◌, length, Some, None, IsSome, Option, refl, sym, ap, ◌∙◌, subst}
use Rattle.atomic_table.specs.Table.{rest}
use Rattle.steal_table.specs.declared.view.Size.{Size}
use Rattle.steal_table.specs.declared.view.View.{View}
use Rattle.steal_table.specs.Rule.{Block, waiting}
use Rattle.steal_table.specs.Steps.{Seated, holding, with_entry, ClaimTells}
use Rattle.steal_table.specs.declared.view.Entry.{Entry}
use Rattle.steal_table.specs.Passes.{Holds, Sound}

-- a pass that holds no task has no slot out
pub nothing_out : (size : Size) (m : Seated) (number : ℕ) (task : Option ℕ) (block : List ℕ) → Sound size m number task block → m.0.held ≡ None → Holds size m block None
nothing_out size m number task block h free = subst (Holds size m block) (sym h.2 ∙ free) h.4

-- one that holds the task t has its slot out
pub slot_out : (size : Size) (m : Seated) (number : ℕ) (task : Option ℕ) (block : List ℕ) (t : ℕ) → Sound size m number task block → m.0.held ≡ Some t → Holds size m block (Some t)
slot_out size m number task block t h holds = subst (Holds size m block) (sym h.2 ∙ holds) h.4

first_block : Block → List (ℕ × Block) → Block
first_block d [] = d
first_block d (x ∷ xs) = x.1

-- what an exchange finds in the slot that a claim took, and leaves
pub taken_out : (m m' m'' : Seated) (t : ℕ) (y found left : Block) → m.1 ≡ [] → m' ≡ (holding m.0 t, (t, y) ∷ m.1) → m'.1 ≡ (t, found) ∷ rest m'.1 → m'' ≡ (m'.0, (t, left) ∷ rest m'.1)
    → (found ≡ y) × (m'' ≡ (holding m.0 t, (t, left) ∷ []))
unfolding first_block
taken_out m m' m'' t y found left none_out is has leaves =
    let b = ap (λ (z : Seated). z.1) is in
    (ap (first_block found) (sym has ∙ b), leaves ∙ (λ i. ((is i).0, (t, left) ∷ rest (is i).1)) ∙ ap (λ (l : List (ℕ × Block)). (holding m.0 t, (t, left) ∷ l)) none_out)

pub claim_sound : (size : Size) (m m' m'' : Seated) (number t : ℕ) (task : Option ℕ) (block : List ℕ) (found left : Block) → Sound size m number task block → m.0.held ≡ None → t < size.tasks
    → ClaimTells t m m' waiting → m'.1 ≡ (t, found) ∷ rest m'.1 → m'' ≡ (m'.0, (t, left) ∷ rest m'.1) → Sound size m'' number (Some t) found.items
claim_sound size m m' m'' number t task block found left h free lt tells has leaves =
    let none_out = nothing_out size m number task block h free in let o = taken_out m m' m'' t tells.0.0 found left none_out.0 tells.0.2 has leaves in
    let now : m''.0 ≡ holding m.0 t = ap (λ (z : Seated). z.0) o.1 in (
      ap (λ (z : View). z.live) now ∙ h.0,
      ap (λ (z : View). z.number) now ∙ h.1,
      ap (λ (z : View). z.held) now,
      ap (λ (z : View). z.size) now ∙ h.3,
      (lt, (left, ap (λ (z : Seated). z.1) o.1), ap (λ (z : Block). length z.items) o.0 ∙ tells.0.1 ∙ ap (λ (z : Size). z.width) h.3),
    )

-- what an exchange leaves in the slot of the task that is held
pub put_back : (m m' : Seated) (t : ℕ) (z y : Block) → m.1 ≡ (t, z) ∷ [] → m' ≡ (m.0, (t, y) ∷ rest m.1) → (m'.1 ≡ (t, y) ∷ []) × (m'.0 ≡ m.0)
put_back m m' t z y has is = (ap (λ (x : Seated). x.1) is ∙ ap (λ (l : List (ℕ × Block)). (t, y) ∷ rest l) has, ap (λ (x : Seated). x.0) is)

pub finish_sound : (size : Size) (m m'' : Seated) (number t : ℕ) (task : Option ℕ) (block : List ℕ) (e : Entry) → Sound size m number task block → m'' ≡ (with_entry m.0 e, []) → Sound size m'' number None []
finish_sound size m m'' number t task block e h is = subst (λ (z : Seated). Sound size z number None []) (sym is) (h.0, h.1, refl, h.3, (refl, refl))

-- a pass stays sound where its seat keeps its slot and what the view says of the seat
pub still_sound : (size : Size) (m m' : Seated) (v : View) (number : ℕ) (task : Option ℕ) (block : List ℕ) → Sound size m number task block → v.live ≡ m.0.live → v.number ≡ m.0.number → v.held ≡ m.0.held → v.size ≡ m.0.size → m' ≡ (v, m.1) → Sound size m' number task block
still_sound size m m' v number task block h live number_is held_is size_is is = subst (λ (z : Seated). Sound size z number task block) (sym is) (live ∙ h.0, number_is ∙ h.1, held_is ∙ h.2, size_is ∙ h.3, holds task h.4)
  where
    holds : (task : Option ℕ) → Holds size m block task → Holds size (v, m.1) block task
    holds None k = k
    holds (Some t) k = k

pub held_width : (size : Size) (m : Seated) (number : ℕ) (task : Option ℕ) (block : List ℕ) → Sound size m number task block → IsSome m.0.held → length block ≡ size.width
held_width size m number task block h some_held = at task (subst IsSome h.2 some_held) h.4
  where
    at : (task : Option ℕ) → IsSome task → Holds size m block task → length block ≡ size.width
    at None i k = absurd (cc)
    at (Some t) i k = k.2
