-- The generator after some words.
use Rattle.std.proofs.Common.{◌≡◌, ℕ, zero, suc, ◌+◌, List, [], ◌∷◌, ◌++◌, map, refl, sym, ap, ◌∙◌, add-one, zero-add}
use Rattle.std.specs.List.{range_with_len}
use Rattle.std.proofs.lemmas.List.FromFn.{map-range_with_len_more}
use Rattle.rand_pcg.specs.Lcg.{Lcg, advance, increment_of, started, state_after}
use Rattle.rand_pcg.specs.Pcg.{pcg64, multiplier_128}
use Rattle.seeded_order.specs.Words.{after, generator, word_of}

-- a jump leads to where the words lead one by one
pub advance_after : (n : ℕ) (g : Lcg) → advance 128 multiplier_128 n g ≡ after g n
unfolding state_after
advance_after zero g = refl
advance_after (suc n) g = advance_after n (pcg64 g).1

after_suc : (n : ℕ) (g : Lcg) → after g (suc n) ≡ (pcg64 (after g n)).1
after_suc zero g = refl
after_suc (suc n) g = after_suc n (pcg64 g).1

pub after_more : (n : ℕ) (g : Lcg) → after g (n + 1) ≡ (pcg64 (after g n)).1
after_more n g = ap (after g) (add-one n) ∙ after_suc n g

-- what a new generator jumps to
pub jumped : (seed stream i s t k : ℕ) (g h : Lcg) → s ≡ seed → t ≡ stream → k ≡ i → g ≡ started 128 multiplier_128 s (increment_of 128 t) → h ≡ advance 128 multiplier_128 k g → h ≡ after (generator seed stream) i
jumped seed stream i s t k g h p q r e f =
    f
    ∙ (λ j. advance 128 multiplier_128 (r j) (e j))
    ∙ (λ j. advance 128 multiplier_128 i (started 128 multiplier_128 (p j) (increment_of 128 (q j))))
    ∙ advance_after i (generator seed stream)

-- one word more
pub next_is : (seed stream n w : ℕ) (g h : Lcg) → (w, h) ≡ pcg64 g → g ≡ after (generator seed stream) n → w ≡ word_of seed stream n
next_is seed stream n w g h e p = ap (λ (q : ℕ × Lcg). q.0) e ∙ ap (λ (g : Lcg). (pcg64 g).0) p

pub next_leads : (seed stream n w : ℕ) (g h : Lcg) → (w, h) ≡ pcg64 g → g ≡ after (generator seed stream) n → h ≡ after (generator seed stream) (n + 1)
next_leads seed stream n w g h e p = ap (λ (q : ℕ × Lcg). q.1) e ∙ ap (λ (g : Lcg). (pcg64 g).1) p ∙ sym (after_more n (generator seed stream))

-- a list of what f gives, with one more
pub pushed_more : {X : Type 0} (f : ℕ → X) (a n j : ℕ) (old new : List X) (x : X) → a + n ≡ j → old ≡ map f (range_with_len a n) → new ≡ old ++ x ∷ [] → x ≡ f j → new ≡ map f (range_with_len a (n + 1))
pushed_more f a n j old new x p e push g = push ∙ (λ i. e i ++ g i ∷ []) ∙ sym (map-range_with_len_more f a n j p)

-- a list of what f makes of ids and their words, with one more
pub drawn_more : {X : Type 0} (seed stream n w : ℕ) (g h : Lcg) (f : ℕ → ℕ → X) (old new : List X) (x : X) → (w, h) ≡ pcg64 g → g ≡ after (generator seed stream) n
    → old ≡ map (λ id. f id (word_of seed stream id)) (range_with_len 0 n) → new ≡ old ++ x ∷ [] → x ≡ f n w
    → (h ≡ after (generator seed stream) (n + 1)) × (new ≡ map (λ id. f id (word_of seed stream id)) (range_with_len 0 (n + 1)))
drawn_more seed stream n w g h f old new x e p are push is = (
  next_leads seed stream n w g h e p,
  pushed_more (λ id. f id (word_of seed stream id)) 0 n n old new x (zero-add n) are push (is ∙ ap (f n) (next_is seed stream n w g h e p)),
)
