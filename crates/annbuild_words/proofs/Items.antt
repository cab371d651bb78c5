-- The items of words, place by place.
use Rattle.std.proofs.Common.{◌≡◌, ◌≢◌, ℕ, zero, suc, ◌+◌, ◌-◌, ◌<◌, ◌≤◌, Bool, false, List, [], ◌∷◌, length, get_or, drop, refl, ap, sym, ◌∙◌, arith, add-one, String, string_bytes, ◌++◌, take, ap₂}
use Rattle.std.proofs.lemmas.List.{drop-map, get_or-map, length-map, map-append, take_more, take_all}
use Rattle.std.specs.declared.alloc.Global.{Global}
use Rattle.annbuild_words.specs.Words.{Item, Wrong, item, items, items_after, is_bare, is_taken}
use Rattle.annbuild_words.specs.declared.item.Part.{Part}
use Rattle.annbuild_words.specs.Parts.{texts, item_of, items_of}

abbrev taken_at : Bool → List (List ℕ) → ℕ → Bool
taken_at taken words zero = taken
taken_at taken words (suc i) = is_bare (get_or words i [])

next_taken : (taken : Bool) (w : List ℕ) (ws : List (List ℕ)) (i : ℕ) → taken_at (is_bare w) ws i ≡ taken_at taken (w ∷ ws) (suc i)
next_taken taken w ws zero = refl
next_taken taken w ws (suc i) = refl

item_place : (taken : Bool) (ws : List (List ℕ)) (i : ℕ) → i < length ws → get_or (items_after taken ws) i Wrong ≡ item (taken_at taken ws i) (get_or ws i []) (drop (suc i) ws)
item_place taken [] i h = absurd (omega arith)
item_place taken (w ∷ ws) zero h = refl
item_place taken (w ∷ ws) (suc i) h = item_place (is_bare w) ws i (omega arith) ∙ ap (λ t. item t (get_or ws i []) (drop (suc i) ws)) (next_taken taken w ws i)

same_taken : (ws : List (List ℕ)) (i : ℕ) → taken_at false ws i ≡ is_taken ws i
same_taken ws zero = refl
same_taken ws (suc i) = refl

items_length : (taken : Bool) (ws : List (List ℕ)) → length (items_after taken ws) ≡ length ws
items_length taken [] = refl
items_length taken (w ∷ ws) = ap suc (items_length (is_bare w) ws)

pub length_items : (words : List (String Global)) → length (items (texts words)) ≡ length words
unfolding items
length_items words = items_length false (texts words) ∙ length-map words (λ w. string_bytes w)

text_here : (words : List (String Global)) (i : ℕ) (w : String Global) → i < length words → w ≡ get_or words i w → string_bytes w ≡ get_or (texts words) i []
text_here words i w h e = ap (λ s. string_bytes s) e ∙ sym (get_or-map (λ s. string_bytes s) words i w [] h)

-- the item at a place, from the word there and the words after it
pub item_here : (words : List (String Global)) (i : ℕ) (w : String Global) (rest : List (String Global)) (taken : Bool) (x : Item) → i < length words → w ≡ get_or words i w → rest ≡ drop (i + 1) words
    → taken ≡ is_taken (texts words) i → x ≡ item taken (string_bytes w) (texts rest) → x ≡ get_or (items (texts words)) i Wrong
unfolding items
item_here words i w rest taken x h e r t is =
    let long : i < length (texts words) = omega (arith, length-map words (λ s. string_bytes s)) in
    let after : texts rest ≡ drop (suc i) (texts words) = ap texts r ∙ ap (λ n. texts (drop n words)) (add-one i) ∙ sym (drop-map (λ s. string_bytes s) (suc i) words) in
    let here : item taken (string_bytes w) (texts rest) ≡ item (taken_at false (texts words) i) (get_or (texts words) i []) (drop (suc i) (texts words)) =
    ap (λ b. item b (string_bytes w) (texts rest)) (t ∙ sym (same_taken (texts words) i)) ∙ ap (λ v. item (taken_at false (texts words) i) v (texts rest)) (text_here words i w h e)
    ∙ ap (λ v. item (taken_at false (texts words) i) (get_or (texts words) i []) v) after in
    is ∙ here ∙ sym (item_place false (texts words) i long)

-- whether the word before takes this one
pub taken_after : (words : List (String Global)) (i : ℕ) (w : String Global) → i ≢ 0 → i < length words → w ≡ get_or words (i - 1) w → is_bare (string_bytes w) ≡ is_taken (texts words) i
taken_after words zero w h l e = absurd (h refl)
taken_after words (suc i) w h l e =
    let here : w ≡ get_or words i w = e ∙ ap (λ n. get_or words n w) (omega arith) in
    ap is_bare (text_here words i w (omega arith) here)

-- one more part, and all of them

pub one_more : (words : List (String Global)) (i : ℕ) (old new : List Part) (p : Part) → i < length words → new ≡ old ++ p ∷ [] → items_of old ≡ take i (items (texts words))
    → item_of p ≡ get_or (items (texts words)) i Wrong → items_of new ≡ take (i + 1) (items (texts words))
one_more words i old new p h is so_far here =
    ap items_of is ∙ map-append item_of old (p ∷ []) ∙ ap₂ (λ xs x. xs ++ x ∷ []) so_far here ∙ sym (take_more (items (texts words)) i Wrong (omega (arith, length_items words)))

pub all_cut : (words : List (String Global)) (i : ℕ) (xs : List Item) → length words ≤ i → xs ≡ take i (items (texts words)) → xs ≡ items (texts words)
all_cut words i xs h is = is ∙ take_all i (items (texts words)) (omega (arith, length_items words))
