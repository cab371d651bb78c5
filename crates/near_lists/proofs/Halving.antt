-- A place that is looked up by halves.
use Rattle.std.proofs.Common.{◌≡◌, ◌≢◌, ℕ, ◌+◌, ◌-◌, ◌*◌, ◌<◌, ◌≤◌, Bool, true, false, List, length, get_or, refl, sym, subst, inl, inr, arith}
use mir.Val.{bool_byte}
use Rattle.std.specs.List.{AllWithin, HoldsAt}
use Rattle.std.specs.declared.cmp.Ordering.{Ordering}
use Rattle.std.specs.declared.cmp.Ordering.TheVariants.{Less, Equal, Greater}
use Rattle.std.specs.Ordering.{is_lt}
use Rattle.std.proofs.lemmas.Bool.{cases_lt}
use Rattle.std.proofs.lemmas.List.{get_or_default}
use Rattle.ann_defs.specs.declared.near.Near.{Near}
use Rattle.ann_defs.specs.Ordered.{Rises}
use Rattle.ann_defs.specs.Nearness.{near_cmp}
use Rattle.ann_defs.proofs.NearOrder.{near_order}
use Rattle.near_lists.proofs.Inserting.{rises_at, less_if}

-- the place is one of `left + 1` from `low` on
pub record IsBetween (list : List Near) (x : Near) (low left : ℕ) : Type 0 where
  pub some : 1 ≤ left
  pub inside : low + left ≤ length list
  pub before : AllWithin (λ y. near_cmp y x ≡ Less) list 0 low
  pub behind : AllWithin (λ y. near_cmp y x ≢ Less) list (low + left) (length list)

if_not : (o : Ordering) → is_lt o ≡ false → o ≢ Less
if_not Less e = cc
if_not Equal e = λ h. cc
if_not Greater e = λ h. cc

module _ (list : List Near) (x : Near) (rises : Rises near_cmp list) where
  -- what stands before one that comes before x
  below : (m k : ℕ) (d : Near) → m < length list → near_cmp (get_or list m d) x ≡ Less → k ≤ m → near_cmp (get_or list k d) x ≡ Less
  below m k d inside less le =
      elim (cases_lt k m) as (λ _. near_cmp (get_or list k d) x ≡ Less) [
        | inl lt ↦ near_order.total.trans (get_or list k d) (get_or list m d) x (rises_at list k m d rises lt inside) less
        | inr ge ↦ let same : m ≡ k = omega arith in subst (λ j. near_cmp (get_or list j d) x ≡ Less) same less
      ]

  all_below : (m : ℕ) (e : Near) → m < length list → near_cmp (get_or list m e) x ≡ Less → AllWithin (λ y. near_cmp y x ≡ Less) list 0 (m + 1)
  all_below m e inside less k d low lt = below m k d inside (subst (λ (y : Near). near_cmp y x ≡ Less) (get_or_default list m e d inside) less) (omega arith)

  none_above : (m : ℕ) (e : Near) → m < length list → near_cmp (get_or list m e) x ≢ Less → AllWithin (λ y. near_cmp y x ≢ Less) list m (length list)
  none_above m e inside not k d low lt = λ less. not (subst (λ (y : Near). near_cmp y x ≡ Less) (get_or_default list m d e inside) (below k m d lt less low))

  -- one half is taken
  pub halved : (low left half : ℕ) (b : Bool) (e : Near) → 1 ≤ half → half + half ≤ left → b ≡ is_lt (near_cmp (get_or list (low + half - 1) e) x) → IsBetween list x low left → IsBetween list x (low + half * bool_byte b) (left - half)
  halved low left half true e some few is h =
      let in_list = h.inside in
      record {
        some = omega arith;
        inside = omega arith;
        before = λ k d from lt. all_below (low + half - 1) e (omega arith) (less_if (near_cmp (get_or list (low + half - 1) e) x) (sym is)) k d from (omega arith);
        behind = λ k d from lt. h.behind k d (omega arith) lt;
      }
  halved low left half false e some few is h =
      let in_list = h.inside in
      record {
        some = omega arith;
        inside = omega arith;
        before = λ k d from lt. h.before k d from (omega arith);
        behind = λ k d from lt. none_above (low + half - 1) e (omega arith) (if_not (near_cmp (get_or list (low + half - 1) e) x) (sym is)) k d (omega arith) lt;
      }

  -- and the one that is left
  pub place_before : (low left : ℕ) (b : Bool) (e : Near) → left ≡ 1 → b ≡ is_lt (near_cmp (get_or list low e) x) → IsBetween list x low left → AllWithin (λ y. near_cmp y x ≡ Less) list 0 (low + bool_byte b)
  place_before low left true e one is h = let in_list = h.inside in λ k d from lt. all_below low e (omega arith) (less_if (near_cmp (get_or list low e) x) (sym is)) k d from (omega arith)
  place_before low left false e one is h = λ k d from lt. h.before k d from (omega arith)

  pub place_behind : (low left : ℕ) (b : Bool) (e : Near) → left ≡ 1 → b ≡ is_lt (near_cmp (get_or list low e) x) → IsBetween list x low left → low + bool_byte b < length list → HoldsAt (λ y. near_cmp y x ≢ Less) list (low + bool_byte b)
  place_behind low left true e one is h inside d = h.behind (low + 1) d (omega arith) (omega arith)
  place_behind low left false e one is h inside d = none_above low e (omega arith) (if_not (near_cmp (get_or list low e) x) (sym is)) (low + 0) d (omega arith) (omega arith)

-- what is neither before x nor x stands behind it
pub stands_behind : (y x : Near) → near_cmp y x ≢ Less → y ≢ x → near_cmp y x ≡ Greater
stands_behind y x not_less not_same =
    elim (near_cmp y x) as (λ o. near_cmp y x ≡ o → near_cmp y x ≡ Greater) [
      | Less ↦ λ e. absurd (not_less e)
      | Equal ↦ λ e. absurd (not_same (near_order.exact y x e))
      | Greater ↦ λ e. e
    ] refl
