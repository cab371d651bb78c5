-- What holds of an error that `?` passes on.
use Rattle.std.proofs.Common.{◌≡◌, sym, ap, subst, Bool, true, false, cond, Result, Ok, Err, OnErr, IsErrAnd, IsErrOf}
use Rattle.ann_shelf.specs.declared.slip.Slip.{Slip}
use Rattle.ann_shelf.specs.declared.slip.Slip.TheVariants.{Failed, NoMemory}

true_not_false : true ≡ false → ⊥
true_not_false is = subst (λ (b : Bool). cond b (Unit {0}) ⊥) is tt

pub on_err : {T E : Type 0} (r : Result T E) {P : Type 0} → P → OnErr r P
on_err (Ok x) p = tt
on_err (Err e) p = p

-- an error that is passed on is the one that came
pub passed_on : {T U E : Type 0} (r : Result T E) (e x : E) → IsErrAnd r (λ y. y ≡ e) → IsErrOf r x → IsErrOf {T = U} (Err e) x
passed_on {U = U} r e x is told = let P : Result _ _ → Type 0 = λ r. IsErrAnd r (λ y. y ≡ e) in ap Err (sym (subst P told is))

ok_or_err : {T E : Type 0} → Result T E → Bool
ok_or_err (Ok x) = true
ok_or_err (Err e) = false

pub ok_not_err : {T E : Type 0} (x : T) (e : E) → IsErrOf (Ok x) e → ⊥
unfolding ok_or_err
ok_not_err x e told = true_not_false (ap ok_or_err told)

has_failed : Slip → Bool
has_failed Failed = true
has_failed NoMemory = false

-- an error that is want of memory is no failed call
pub no_failure : {T : Type 0} (r : Result T Slip) → IsErrAnd r (λ slip. slip ≡ NoMemory) → IsErrOf r Failed → ⊥
unfolding has_failed
no_failure r want told = let P : Result _ Slip → Type 0 = λ r. IsErrAnd r (λ slip. slip ≡ NoMemory) in true_not_false (ap has_failed (subst P told want))
