-- Posts that serve.
use Rattle.std.specs.Prelude.{List, All}
use Rattle.steal_pool.specs.declared.post.Post.{Post}

-- the scratch of a post
abbrev pub scratch_of : {S : Type 0} → Post S → S
scratch_of p = p.scratch

-- the scratch of each post serves
abbrev pub AllServe : {S : Type 0} → (S → Type 0) → List (Post S) → Type 0
AllServe serves posts = All (λ p. serves (scratch_of p)) posts
