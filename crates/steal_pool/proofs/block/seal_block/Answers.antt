use Rattle.std.proofs.Common.{◌≡◌, ◌∙◌, ◌+◌, ◌-◌, ◌<◌, ◌≤◌, ◌++◌, ◌∷◌, [], ap, sym, ℕ, List, replicate, suc, zero, length, take, drop, arith, length-set, append_assoc, refl}
use Rattle.std.proofs.lemmas.List.{take_more_set}
use Rattle.steal_pool.proofs.block.seal_block.Goals as goal

replicate_more : (n : ℕ) → replicate {A = ℕ} (suc n) 0 ≡ replicate {A = ℕ} n 0 ++ 0 ∷ []
replicate_more zero = refl
replicate_more (suc n) = ap (λ (xs : List ℕ). 0 ∷ xs) (replicate_more n)

more_zeros : (i from : ℕ) → from ≤ i → replicate {A = ℕ} (i + 1 - from) 0 ≡ replicate {A = ℕ} (i - from) 0 ++ 0 ∷ []
more_zeros i from h = let e : i + 1 - from ≡ suc (i - from) = omega arith in ap (λ n. replicate {A = ℕ} n 0) e ∙ replicate_more (i - from)

pub loop-i-preserved : goal.loop-i-preserved
loop-i-preserved c =
    let i = c.loop-i.i in
    let front = c.args.first ∷ take c.args.len (drop 1 c.args.out.now) in
    let within : i < length c.loop-i.out = omega (arith, c.loop-i.auto.out, c.loop-i-test.true, length-set c.args.out.now 0 c.args.first) in
    record {
      front = take_more_set c.loop-i.out i 0 within
          ∙ ap (λ (xs : List ℕ). xs ++ 0 ∷ []) c.loop-i.invariant.front
          ∙ append_assoc front (replicate {A = ℕ} (i - (c.args.len + 1)) 0) (0 ∷ [])
          ∙ ap (λ (xs : List ℕ). front ++ xs) (sym (more_zeros i (c.args.len + 1) c.loop-i.auto.i));
      size = length-set c.loop-i.out i 0 ∙ c.loop-i.invariant.size;
    }
