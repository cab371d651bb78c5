-- Fixed shares of a round.
use Rattle.std.specs.Prelude.{◌≡◌, ◌+◌, ◌*◌, ◌/◌, ◌<◌, ◌≤◌, ℕ, List, map, take, drop, length, slice_index_or, All, IsSomeAnd, Vec}
use Rattle.std.specs.declared.alloc.Global.{Global}
use Rattle.steal_pool.specs.declared.post.Post.{Post}

-- the first task of a worker's share
abbrev pub share_start : ℕ → ℕ → ℕ → ℕ
share_start tasks workers worker = worker * tasks / workers

-- the share of a worker has a block for each of its tasks
abbrev pub IsShare : ℕ → ℕ → ℕ → List (Vec ℕ Global) → Type 0
IsShare tasks workers worker blocks = share_start tasks workers worker + length blocks ≡ share_start tasks workers (worker + 1)

-- the worker's post has its share, blocks of this width
abbrev pub HasShare : {S : Type 0} → ℕ → ℕ → ℕ → ℕ → Post S → Type 0
HasShare tasks width workers worker p = IsSomeAnd p.share (λ v. IsShare tasks workers worker v.items × All (λ y. length y.items ≡ width) v.items)

-- the worker's post has its share, with the blocks that are wanted
abbrev pub HasDone : {S : Type 0} → List (List ℕ) → ℕ → ℕ → Post S → Type 0
HasDone want workers worker p = IsSomeAnd p.share (λ v. IsShare (length want) workers worker v.items
    × (map (λ y. y.items) v.items ≡ take (length v.items) (drop (share_start (length want) workers worker) want)))

-- the fact holds of each worker's post, from the worker n on
abbrev pub EachFrom : {S : Type 0} → ℕ → (ℕ → Post S → Type 0) → List (Post S) → Type 0
EachFrom {S} n P posts = (i : ℕ) (d : Post S) → n ≤ i → i < length posts → P i (slice_index_or posts i d)

-- the fact holds of each post of a worker below n
abbrev pub EachBelow : {S : Type 0} → ℕ → (ℕ → Post S → Type 0) → List (Post S) → Type 0
EachBelow {S} n P posts = (i : ℕ) (d : Post S) → i < n → i < length posts → P i (slice_index_or posts i d)
