-- Lists that belong to points.
use Rattle.std.proofs.Common.{◌≡◌, ℕ, ◌+◌, ◌*◌, ◌<◌, ◌≤◌, Bool, true, false, List, [], ◌++◌, map, length, replicate, get_or, sym, ap, ◌∙◌, subst, arith}
use Rattle.std.specs.List.{range_with_len}
use Rattle.std.proofs.lemmas.Bool.{true≢false}
use Rattle.std.proofs.lemmas.List.{get_or-replicate, length-replicate}
use Rattle.std.proofs.lemmas.List.FromFn.{get_or-map-range_with_len}
use Rattle.ann_defs.specs.declared.limits.TheConstants.{MAX_WORDS, MAX_DEGREE}
use Rattle.ann_defs.specs.Graph.{has, row_in, AreGoodRows}
use Rattle.ann_defs.specs.Laws.{AreAlike}
use Rattle.ann_defs.specs.Ordered.{Has}
use Rattle.neighbour_lists.specs.declared.edge.Edge.{Edge}
use Rattle.neighbour_lists.specs.Edges.{edges_of}
use Rattle.neighbour_lists.specs.Fresh.{parts, IsPast, ArePast}
use Rattle.neighbour_lists.specs.Held.{Held, ArePointLists, BelongTo, is_active}
use Rattle.neighbour_lists.specs.ListRound.{nearest_of, around, reached, next_row, next_rows, with_leaves}
use Rattle.neighbour_lists.specs.Reversed.{others_of}
use Rattle.neighbour_lists.specs.Settled.{IsSettled, IsStill, around_in}
use Rattle.neighbour_lists.proofs.AllRows.{mapped_count}
use Rattle.neighbour_lists.proofs.Past.{still_past, round_past, none_past}
use Rattle.neighbour_lists.proofs.Neighbourhoods.{settled_stays, reached_inside}
use Rattle.neighbour_lists.proofs.NearestLists.{nearest_lists, empty_lists}
use Rattle.neighbour_lists.proofs.Reversing.{reversed}

-- the lists after a round
pub next_lists : (points : List (List ℕ)) (l : Held) → BelongTo points l → ArePointLists points l.list (next_rows points l.list l.rows)
next_lists points l belong = nearest_lists points l.list (reached points l.list l.rows) (reached_inside points l.list l.rows belong.rows)

-- a neighbourhood by lists and edges
around_is : (points : List (List ℕ)) (list : ℕ) (rows : List (List ℕ)) (edges : List Edge) (v : ℕ) → AreGoodRows (length points) list rows → edges ≡ edges_of points rows → around_in list rows edges v ≡ around points list rows v
around_is points list rows edges v good is = ap (λ (es : List Edge). around_in list rows es v) is ∙ ap (λ (xs : List ℕ). row_in rows v ++ xs) (reversed points list rows good v)

module _ (points : List (List ℕ)) (list : ℕ) (old new : List (List ℕ)) (old_edges new_edges : List Edge) (good : AreGoodRows (length points) list old) (then : AreGoodRows (length points) list new)
    (old_is : old_edges ≡ edges_of points old) (new_is : new_edges ≡ edges_of points new) where
  alike : (u : ℕ) → AreAlike (around_in list new new_edges u) (around_in list old old_edges u) → AreAlike (around points list new u) (around points list old u)
  alike u same w =
      ap (λ (xs : List ℕ). has xs w) (sym (around_is points list new new_edges u then new_is))
      ∙ same w
      ∙ ap (λ (xs : List ℕ). has xs w) (around_is points list old old_edges u good old_is)

  -- what the flags tell
  pub still_settled : (v : ℕ) → IsStill list old old_edges new new_edges v → IsSettled points list old new v
  still_settled v still = record {
    row = still.row;
    around_it = alike v still.around_it;
    around_them = λ u h. alike u (still.around_them u (subst (λ (xs : List ℕ). has xs u ≡ true) (sym (around_is points list old old_edges v good old_is)) h));
  }

-- with all flags up
pub all_active : (points : List (List ℕ)) (n : ℕ) (l : Held) (v : ℕ) → l.active ≡ replicate n true → v < n → is_active l v ≡ false → ⊥
all_active points n l v up below h = true≢false (sym (get_or-replicate n v true false below) ∙ ap (λ (bs : List Bool). get_or bs v false) (sym up) ∙ h)

-- lists whose points are all active
pub active_belong : (points : List (List ℕ)) (l : Held) → (1 ≤ l.list) × (l.list ≤ MAX_DEGREE) → length points * (l.list + 1) ≤ MAX_WORDS → ArePointLists points l.list l.rows → (l.sorted ≡ true → l.edges ≡ edges_of points l.rows) → l.active ≡ replicate (length points) true
    → length l.seen_rows ≡ length points → length l.seen_others ≡ length points → ArePast points l.list l.rows l.seen_rows l.seen_others → BelongTo points l
active_belong points l list words lists edges up seen_rows seen_others past = record {
  list = list;
  words = words;
  rows = lists.good;
  near = lists.near;
  edges = edges;
  flags = ap (λ (bs : List Bool). length bs) up ∙ length-replicate (length points) true;
  settled = λ v below h. absurd (all_active points (length points) l v up below h);
  seen_rows = seen_rows;
  seen_others = seen_others;
  past = past;
}

-- lists that took leaves
pub leaves_belong : (points : List (List ℕ)) (l k : Held) (leaf : ℕ → List ℕ) → BelongTo points l → ArePointLists points l.list k.rows → ((v u : ℕ) → v < length points → Has (row_in l.rows v ++ leaf v) u → u < length points)
    → k.list ≡ l.list → k.rows ≡ with_leaves points l.list leaf l.rows → k.sorted ≡ false → k.active ≡ replicate (length l.active) true → k.seen_rows ≡ l.seen_rows → k.seen_others ≡ l.seen_others → BelongTo points k
leaves_belong points l k leaf belong lists inside list is unsorted up seen_rows seen_others =
    let row : (v : ℕ) → v < length points → row_in k.rows v ≡ nearest_of points l.list v (row_in l.rows v ++ leaf v) =
    λ v lt. ap (λ (rs : List (List ℕ)). row_in rs v) is ∙ get_or-map-range_with_len (λ u. nearest_of points l.list u (row_in l.rows u ++ leaf u)) 0 (length points) v v [] lt (omega arith) in
    let past : ArePast points l.list k.rows l.seen_rows l.seen_others =
    λ v u w lt h m. still_past points l.list v (row_in l.rows v) (leaf v) (row_in k.rows v) w (row v lt) (λ x there. inside v x lt there) (belong.past v u w lt h m) in
    active_belong points k
    (subst (λ m. (1 ≤ m) × (m ≤ MAX_DEGREE)) (sym list) belong.list)
    (subst (λ m. length points * (m + 1) ≤ MAX_WORDS) (sym list) belong.words)
    (subst (λ m. ArePointLists points m k.rows) (sym list) lists)
    (λ e. absurd (true≢false (sym e ∙ unsorted)))
    (up ∙ ap (λ n. replicate n true) belong.flags)
    (ap (λ (rs : List (List ℕ)). length rs) seen_rows ∙ belong.seen_rows)
    (ap (λ (rs : List (List ℕ)). length rs) seen_others ∙ belong.seen_others)
    (λ v u w lt h m. subst (λ n. IsPast points n v (row_in k.rows v) w) (sym list)
    (past v u w lt (subst (λ (xs : List ℕ). Has xs u) (λ i. parts (seen_rows i) (seen_others i) v) h) (subst (λ (xs : List ℕ). Has xs w) (λ i. parts (seen_rows i) (seen_others i) u) m)))

-- lists after a round
pub round_belong : (points : List (List ℕ)) (l k : Held) → BelongTo points l → l.edges ≡ edges_of points l.rows → k.list ≡ l.list → k.rows ≡ next_rows points l.list l.rows → k.edges ≡ edges_of points k.rows → length k.active ≡ length points
    → ((v : ℕ) → v < length points → is_active k v ≡ false → IsStill l.list l.rows l.edges k.rows k.edges v)
    → k.seen_rows ≡ l.rows → k.seen_others ≡ map (others_of points l.list l.rows) (range_with_len 0 (length points)) → BelongTo points k
round_belong points l k belong sorted list rows edges flags still seen_rows seen_others =
    let lists : ArePointLists points l.list k.rows = subst (ArePointLists points l.list) (sym rows) (next_lists points l belong) in
    record {
      list = subst (λ m. (1 ≤ m) × (m ≤ MAX_DEGREE)) (sym list) belong.list;
      words = subst (λ m. length points * (m + 1) ≤ MAX_WORDS) (sym list) belong.words;
      rows = subst (λ m. AreGoodRows (length points) m k.rows) (sym list) lists.good;
      near = λ v below. subst (λ m. nearest_of points m v (row_in k.rows v) ≡ row_in k.rows v) (sym list) (lists.near v below);
      edges = λ _. edges;
      flags = flags;
      settled = λ v below h.
          let settled = still_settled points l.list l.rows k.rows l.edges k.edges belong.rows lists.good sorted edges v (still v below h) in
          subst (λ m. next_row points m k.rows v ≡ row_in k.rows v) (sym list)
          (subst (λ (xs : List (List ℕ)). next_row points l.list xs v ≡ row_in xs v) (sym rows)
          (settled_stays points l.list l.rows v below (subst (λ (xs : List (List ℕ)). IsSettled points l.list l.rows xs v) rows settled)));
      seen_rows = ap (λ (rs : List (List ℕ)). length rs) seen_rows ∙ belong.rows.count;
      seen_others = ap (λ (rs : List (List ℕ)). length rs) seen_others ∙ mapped_count (others_of points l.list l.rows) (length points);
      past =
          subst (λ (rs : List (List ℕ)). ArePast points k.list k.rows rs k.seen_others) (sym seen_rows)
          (subst (λ m. ArePast points m k.rows l.rows k.seen_others) (sym list)
          (subst (λ (rs : List (List ℕ)). ArePast points l.list rs l.rows k.seen_others) (sym rows)
          (round_past points l.list l.rows k.seen_others belong.rows seen_others)));
    }

-- the lists before the first leaves
pub empty_belong : (points : List (List ℕ)) (l : Held) → (1 ≤ l.list) × (l.list ≤ MAX_DEGREE) → length points * (l.list + 1) ≤ MAX_WORDS → l.rows ≡ replicate (length points) [] → l.edges ≡ edges_of points l.rows → l.active ≡ replicate (length points) true
    → l.seen_rows ≡ replicate (length points) [] → l.seen_others ≡ replicate (length points) [] → BelongTo points l
empty_belong points l list words rows edges up seen_rows seen_others =
    let count : (rs : List (List ℕ)) → rs ≡ replicate (length points) [] → length rs ≡ length points = λ rs e. ap (λ (xs : List (List ℕ)). length xs) e ∙ length-replicate {A = List ℕ} (length points) [] in
    active_belong points l list words (subst (ArePointLists points l.list) (sym rows) (empty_lists points l.list)) (λ _. edges) up (count l.seen_rows seen_rows) (count l.seen_others seen_others)
    (none_past points l.list l.rows l.seen_rows l.seen_others seen_rows seen_others)
