-- The stamp that settings ask for is one that an index of their kind may have.
use Rattle.std.proofs.Common.{◌≡◌, ℕ, suc, ◌^◌, ◌<◌, ◌≤◌, Bool, true, ◌&&◌, List, [], ◌∷◌, length, get_or, Option, Some, None, IfSome, sym, ap, arith, refl, ◌∙◌}
use Rattle.std.proofs.lemmas.Bool.Decides.{nat_tests}
use Rattle.std.specs.List.{AllByRecursion}
use Rattle.ann_defs.specs.Distance.{PointSet}
use Rattle.ann_defs.specs.BatchInsert.{cap_of}
use Rattle.ann_defs.specs.declared.kinds.Element.{Element}
use Rattle.ann_defs.specs.declared.kinds.Element.TheVariants.{U8, I8}
use Rattle.ann_defs.specs.declared.kinds.Kind.{Kind}
use Rattle.ann_defs.specs.declared.kinds.Kind.TheVariants.{Vamana, Hnsw, Nnd}
use Rattle.ann_defs.specs.declared.kinds.OrderKind.{OrderKind}
use Rattle.ann_defs.specs.declared.kinds.OrderKind.TheVariants.{File, Seeded}
use Rattle.ann_defs.specs.declared.kinds.StartKind.{StartKind}
use Rattle.ann_defs.specs.declared.kinds.StartKind.TheVariants.{First, Medoid}
use Rattle.ann_defs.specs.declared.limits.TheConstants.{MAX_POINTS}
use Rattle.graph_rows.specs.declared.stamp.Stamp.{Stamp}
use Rattle.graph_rows.specs.Index.{stamp_numbers}
use Rattle.graph_rows.specs.Stamps.{is_within, are_within, is_floor, stamp_ranges, IsStamp}
use Rattle.graph_rows.specs.View.{kind_code}
use Rattle.command_options.specs.declared.settings.Settings.{Settings}
use Rattle.index_build.specs.IndexOf.{AreForBuild}
use Rattle.index_build.specs.Stamping.{element_code, order_code, start_code, used_cap, stamp_by, stamp_of}

-- the stamp that settings of a kind ask for
pub stamp_is : (X : PointSet) (o : Settings) (k : Kind) → o.kind ≡ k → stamp_by k X o ≡ stamp_of X o
unfolding stamp_of
stamp_is X o k e = ap (λ (j : Kind). stamp_by j X o) (sym e)

-- a number in its range, before what holds of others
field : (low high n : ℕ) (others : Bool) → low ≤ n → n ≤ high → others ≡ true → is_within (low, high) n && others ≡ true
field low high n others above below rest =
    let within : is_within (low, high) n ≡ true = grind (arith, nat_tests) in
    ap (λ b. b && others) within ∙ rest

element_within : (e : Element) → (1 ≤ element_code e) × (element_code e ≤ 2)
element_within U8 = (omega arith, omega arith)
element_within I8 = (omega arith, omega arith)

order_within : (k : OrderKind) → (1 ≤ order_code k) × (order_code k ≤ 2)
order_within File = (omega arith, omega arith)
order_within Seeded = (omega arith, omega arith)

start_within : (k : StartKind) → (1 ≤ start_code k) × (start_code k ≤ 2)
start_within First = (omega arith, omega arith)
start_within Medoid = (omega arith, omega arith)

cap_within : (n : ℕ) (cap : Option ℕ) → n ≤ MAX_POINTS → IfSome cap (λ c. (1 ≤ c) × (c ≤ MAX_POINTS)) → (1 ≤ cap_of n cap) × (cap_of n cap ≤ MAX_POINTS)
cap_within n (Some c) few set = set
cap_within n None few set = (omega arith, omega arith)

all_below : (bytes : List ℕ) → ((i : ℕ) → get_or bytes i 0 < 256) → AllByRecursion (λ b. b < 256) bytes
all_below [] each = tt
all_below (b ∷ bytes) each = (each 0, all_below bytes (λ i. each (suc i)))

-- what the types of a stamp keep
pub record Fits (s : Stamp) : Type 0 where
  pub seed : s.seed < 2 ^ 64
  pub floor : s.floor < 2 ^ 64
  pub long : length s.digest ≡ 32
  pub bytes : (i : ℕ) → get_or s.digest i 0 < 256

-- a stamp whose words are in their ranges
kept : (code : ℕ) (s : Stamp) → are_within (stamp_ranges code s.num) (stamp_numbers s) ≡ true → is_floor code s.floor ≡ true → Fits s → IsStamp code s
kept code s words floor fits = record { words = words; floor = floor; seed_fits = fits.seed; floor_fits = fits.floor; digest = fits.long; bytes = all_below _ fits.bytes }

allowed_by : (k : Kind) (X : PointSet) (o : Settings) → AreForBuild o → length X.vectors ≤ MAX_POINTS → Fits (stamp_by k X o) → IsStamp (kind_code k) (stamp_by k X o)
allowed_by Vamana X o a few =
    let e = element_within X.element in
    let r = order_within o.order in
    let t = start_within o.start in
    let c = cap_within (length X.vectors) o.cap few a.cap in
    kept (kind_code Vamana) (stamp_by Vamana X o)
    (field 1 2 (element_code X.element) _ e.0 e.1 (field 1 2 (order_code o.order) _ r.0 r.1 (field 1 2 (start_code o.start) _ t.0 t.1
    (field 1 1024 o.beam _ a.some_beam a.beam (field 1 1000 o.num _ (omega arith) a.num (field 1 o.num o.den _ a.some_den a.ordered
    (field 1 MAX_POINTS (used_cap X o) _ c.0 c.1 (field 1 2 o.passes _ a.some_pass a.passes refl)))))))) refl
allowed_by Hnsw X o a few =
    let e = element_within X.element in
    let r = order_within o.order in
    let c = cap_within (length X.vectors) o.cap few a.cap in
    kept (kind_code Hnsw) (stamp_by Hnsw X o)
    (field 1 2 (element_code X.element) _ e.0 e.1 (field 1 2 (order_code o.order) _ r.0 r.1 (field 1 1024 o.beam _ a.some_beam a.beam
    (field 1 MAX_POINTS (used_cap X o) _ c.0 c.1 (field 1 8 o.bits _ a.some_bit a.bits (field 0 15 o.max_level _ (omega arith) a.max_level refl)))))) refl
allowed_by Nnd X o a few =
    let e = element_within X.element in
    let t = start_within o.start in
    kept (kind_code Nnd) (stamp_by Nnd X o)
    (field 1 2 (element_code X.element) _ e.0 e.1 (field 1 2 (start_code o.start) _ t.0 t.1 (field 1 1000 o.num _ (omega arith) a.num (field 1 o.num o.den _ a.some_den a.ordered
    (field 1 128 o.list _ a.some_entry a.list (field 1 64 o.trees _ a.some_tree a.trees (field 2 1024 o.leaf _ a.two_in_a_leaf a.leaf (field 0 64 o.rounds _ (omega arith) a.rounds refl)))))))) refl

-- the stamp of a build is one that its index may have
pub allowed : (X : PointSet) (o : Settings) → AreForBuild o → length X.vectors ≤ MAX_POINTS → Fits (stamp_of X o) → IsStamp (kind_code o.kind) (stamp_of X o)
unfolding stamp_of
allowed X o a few fits = allowed_by o.kind X o a few fits
