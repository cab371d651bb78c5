-- What stands behind a dash.
use Rattle.std.proofs.Common.{◌≡◌, ◌≢◌, ℕ, Bor, List, ◌∷◌, Option, Some, None}
use Rattle.std.specs.Option.{MatchOption}

pub behind_dash : (bytes : List ℕ) (r : Option (Bor (List ℕ))) (x : Bor (List ℕ)) (rest : List ℕ) → MatchOption r ((tail : List ℕ) → bytes ≢ 45 ∷ tail) (λ y. bytes ≡ 45 ∷ y.now) → r ≡ Some x → bytes ≡ 45 ∷ rest → x.now ≡ rest
behind_dash bytes None x rest h is e = cc
behind_dash bytes (Some y) x rest h is e = cc

pub some_dash : (bytes : List ℕ) (r : Option (Bor (List ℕ))) (rest : List ℕ) → MatchOption r ((tail : List ℕ) → bytes ≢ 45 ∷ tail) (λ y. bytes ≡ 45 ∷ y.now) → bytes ≡ 45 ∷ rest → r ≡ None → ⊥
some_dash bytes None rest h e is = h rest e
some_dash bytes (Some y) rest h e is = cc
