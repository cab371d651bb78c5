-- A buffer that is filled piece by piece.
use Rattle.std.proofs.Common.{◌≡◌, ℕ, ◌+◌, ◌<◌, ◌≤◌, arith, inl, inr, List, ◌++◌, length, take, drop, sym, ap, subst, ◌∙◌, Option, Some, None, IfSome}
use Rattle.std.proofs.lemmas.List.{drop-drop, length-drop, length-take-le, take-append-le}
use Rattle.std.proofs.Math.Seq.{take-add, take-append-add}
use Rattle.ann_shelf.specs.Files.{Reads}

pub more_read : (at done k : ℕ) (into part rest file : List ℕ) → done ≤ length into → k ≤ length part → take done into ≡ take done (drop at file) → Reads file (at + done) k part →
    take (done + k) (take done into ++ (part ++ rest)) ≡ take (done + k) (drop at file)
more_read at done k into part rest file in_into in_part so_far reads =
    ap (λ n. take (n + k) (take done into ++ (part ++ rest))) (sym (length-take-le done into in_into))
    ∙ take-append-add (take done into) (part ++ rest) k
    ∙ ap (λ xs. take done into ++ xs) (take-append-le k part rest in_part ∙ reads.same)
    ∙ ap (λ xs. xs ++ take k (drop (at + done) file)) so_far
    ∙ sym (take-add done k (drop at file) ∙ ap (λ xs. take done (drop at file) ++ take k xs) (drop-drop done at file))

-- what two told facts give together
pub both_told : {A : Type 0} {P Q R : A → Type 0} (o p : Option A) → p ≡ o → IfSome o P → IfSome p Q → ((x : A) → P x → Q x → R x) → IfSome o R
both_told {A} {P} {Q} {R} o p e = subst (λ v. IfSome o P → IfSome v Q → ((x : A) → P x → Q x → R x) → IfSome o R) (sym e) (told o)
  where
    told : (v : Option A) → IfSome v P → IfSome v Q → ((x : A) → P x → Q x → R x) → IfSome v R
    told None p q f = tt
    told (Some x) p q f = f x p q

pub told_then : {A : Type 0} {P Q : A → Type 0} (o : Option A) → IfSome o P → ((x : A) → P x → Q x) → IfSome o Q
told_then None p f = tt
told_then (Some x) p f = f x p

pub told_always : {A : Type 0} {P : A → Type 0} (o : Option A) → ((x : A) → P x) → IfSome o P
told_always None f = tt
told_always (Some x) f = f x

-- a read that gave nothing
pub same_read : (a b : List ℕ) (n k : ℕ) → k ≡ 0 → take (n + k) a ≡ take (n + k) b → take n a ≡ take n b
same_read a b n k none same = let e : n + k ≡ n = omega arith in subst (λ m. take m a ≡ take m b) e same

pub stopped : (file part : List ℕ) (at done k : ℕ) → Reads file (at + done) k part → k ≡ 0 → 0 < length part → done ≤ length (drop at file) → done ≡ length (drop at file)
stopped file part at done k reads none some within = elim (reads.ends none) [
  | inl empty ↦ absurd (omega arith)
  | inr past ↦ omega (arith, length-drop at file)
]
