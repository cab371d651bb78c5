-- Lists in memory.
use Rattle.std.proofs.Common.{◌≡◌, ℕ, ◌+◌, ◌-◌, ◌<◌, ◌≤◌, Bool, true, false, cond, not, List, [], ◌++◌, Vec, Global, take, drop, length, get_or, sym, ap, ◌∙◌, arith, rules, vec_len}
use borrow.Rule.Slice.PartMut.{put_mid, Post-is}
use Rattle.std.proofs.lemmas.List.{length-map, get_or-map, drop_all, drop_more, take_at, append-nil}
use Rattle.ann_defs.specs.Graph.{has}
use Rattle.pivot_trees.specs.Blocks.{lists_of}
use Rattle.pivot_trees.specs.Leaves.{place_of_id}

abbrev pub items_of : Vec ℕ Global → List ℕ
items_of v = v.items

pub many_lists : (vectors : List (Vec ℕ Global)) → length (lists_of vectors) ≡ length vectors
many_lists vectors = length-map vectors items_of

-- one of the lists
pub list_at : (vectors : List (Vec ℕ Global)) (i : ℕ) (v : Vec ℕ Global) → i < length vectors → v ≡ get_or vectors i v → v.items ≡ get_or (lists_of vectors) i []
list_at vectors i v lt is = ap items_of is ∙ sym (get_or-map items_of vectors i v [] lt)

pub list_read : (vectors : List (Vec ℕ Global)) (i : ℕ) (d : Vec ℕ Global) → i < length vectors → (get_or vectors i d).items ≡ get_or (lists_of vectors) i []
list_read vectors i d lt = sym (get_or-map items_of vectors i d [] lt)

pub list_len : (vectors : List (Vec ℕ Global)) (i : ℕ) (d : Vec ℕ Global) → i < length vectors → vec_len (get_or vectors i d) ≡ length (get_or (lists_of vectors) i [])
list_len vectors i d lt = len_is (get_or vectors i d) ∙ ap (λ (ids : List ℕ). length ids) (list_read vectors i d lt)
  where
    len_is : (v : Vec ℕ Global) → vec_len v ≡ length v.items
    len_is v = search rules

-- what is written over the end of a list
pub end_written : (out new : List ℕ) (from : ℕ) → from ≤ length out → put_mid from (length out - from) out new ≡ take from out ++ new
end_written out new from within =
    ap (λ (xs : List ℕ). take from out ++ (new ++ xs)) (Post-is from (length out) out within ∙ drop_all (length out) out (omega arith)) ∙ ap (λ (xs : List ℕ). take from out ++ xs) (append-nil new)

-- all of a vector written
pub all_written : (n : ℕ) (new old : List ℕ) → length new ≡ n → length old ≡ n → take n (new ++ drop (length new) old) ≡ new
all_written n new old many same = take_at new (drop (length new) old) n many

-- one leaf more before the others
pub place_step : (lists : List (List ℕ)) (place id old new : ℕ) (ids : List ℕ) → place < length lists → ids ≡ get_or lists place [] → old ≡ place + 1 + place_of_id (drop (place + 1) lists) id → new ≡ cond (has ids id) place old → new ≡ place + place_of_id (drop place lists) id
place_step lists place id old new ids lt is before now =
    let rest = place_of_id (drop (place + 1) lists) id in
    let here : place_of_id (drop place lists) id ≡ cond (not (has ids id)) (1 + rest) 0 = ap (λ (xs : List (List ℕ)). place_of_id xs id) (drop_more lists place [] lt) ∙ ap (λ (xs : List ℕ). cond (not (has xs id)) (1 + rest) 0) (sym is) in
    now ∙ both_ways (has ids id) ∙ ap (λ k. place + k) (sym here)
  where
    both_ways : (b : Bool) → cond b place old ≡ place + cond (not b) (1 + place_of_id (drop (place + 1) lists) id) 0
    both_ways true = omega arith
    both_ways false = omega (arith, before)
