-- The words of a seed and a stream, as `rand_pcg` states them for `Pcg64::new(seed, stream)`.
use Rattle.std.specs.Prelude.{ℕ, zero, suc}
use Rattle.rand_pcg.specs.Lcg.{Lcg, started, increment_of}
use Rattle.rand_pcg.specs.Pcg.{pcg64, multiplier_128}

-- the generator after i words
abbrev pub after : Lcg → ℕ → Lcg
after g zero = g
after g (suc i) = after (pcg64 g).1 i

abbrev pub generator : ℕ → ℕ → Lcg
generator seed stream = started 128 multiplier_128 seed (increment_of 128 stream)

-- word number i, counted from 0
abbrev pub word_of : ℕ → ℕ → ℕ → ℕ
word_of seed stream i = (pcg64 (after (generator seed stream) i)).0
