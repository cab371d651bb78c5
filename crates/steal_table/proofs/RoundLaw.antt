-- From a new table, whatever steps follow, the rule is kept and the state goes by claims and finishes.
use Rattle.std.proofs.Common.{◌≡◌, ◌≢◌, ℕ, zero, suc, ◌+◌, ◌<◌, List, [], ◌∷◌, length, set, replicate, slice_index_or, None, refl, sym, ap, ◌∙◌, subst, inl, inr, ⊎_elim, arith}
use mathlib.Core.Option.{some, none, some-ne-none, some-injective}
use lib.ListN.{get_elem?}
use Rattle.atomic_table.specs.Table.{opening}
use Rattle.atomic_table.proofs.Lists.{at_set, set_else, set_again}
use Rattle.steal_table.specs.declared.view.Found.TheVariants.{HeldBy, DoneBy}
use Rattle.steal_table.specs.declared.view.Size.{Size}
use Rattle.steal_table.specs.declared.view.View.{View}
use Rattle.steal_table.specs.Opened.{AllWide}
use Rattle.steal_table.specs.Rule.{Block, Table, Status, waiting, held, done, Says, Live, Rule, entry, caller_first, taken_over}
use Rattle.steal_table.specs.Steps.{holding, finding, with_entry}
use Rattle.steal_table.specs.RoundState.{TaskState, RoundState, StateOf, open_task, held_by, done_by, ClaimEvent, FinishEvent, Stands, ShowsRound}
use Rattle.steal_table.specs.Laws.{RoundStep, claim_by, finish_by, split_off, join_in, load_at, ClaimMakes, StepsTo, Reaches, Changes, Leads, BringsWanted, AllBring, AreWanted, RoundsGoByEvents}
use Rattle.steal_table.proofs.Begins.{begins}
use Rattle.steal_table.proofs.Claims.{take_move, find_move}
use Rattle.steal_table.proofs.Finishes.{finish_move}
use Rattle.steal_table.proofs.Joins.{joins}
use Rattle.steal_table.proofs.RoundEvents.{shows_once, claim_event, refused_claim, finish_event, split_shown, join_shown, load_shown}
use Rattle.steal_table.proofs.Splits.{splits}
use Rattle.steal_table.proofs.Tables as tables
use Rattle.steal_table.proofs.Tables.{says_once}

-- what stands in a list of one element, again and again
copy_at : {A : Type 0} (n : ℕ) (x : A) (t : ℕ) → t < n → get_elem? (replicate n x) t ≡ some x
copy_at zero x t lt = absurd (omega arith)
copy_at (suc n) x zero lt = refl
copy_at (suc n) x (suc t) lt = copy_at n x t (omega arith)

copy_only : {A : Type 0} (n : ℕ) (x y : A) (t : ℕ) → get_elem? (replicate n x) t ≡ some y → (t < n) × (x ≡ y)
copy_only zero x y t e = absurd (some-ne-none y (sym e))
copy_only (suc n) x y zero e = (omega arith, some-injective x y e)
copy_only (suc n) x y (suc t) e = let h = copy_only n x y t e in ((let lt = h.0 in omega arith), h.1)

copies : {A : Type 0} (n : ℕ) (x : A) → length (replicate n x) ≡ n
copies zero x = refl
copies (suc n) x = ap suc (copies n x)

-- a new table shows all tasks open
start_shown : (size : Size) (blocks : List Block) → ShowsRound size (opening (replicate (size.tasks + 1) 0) blocks (caller_first size)) (replicate size.tasks open_task)
start_shown size blocks = (copies size.tasks open_task, λ t q at. shown t q (copy_only size.tasks open_task q t at))
  where
    shown : (t : ℕ) (q : TaskState) → (t < size.tasks) × (open_task ≡ q) → Stands (opening (replicate (size.tasks + 1) 0) blocks (caller_first size)) t q
    shown t q h = subst (Stands (opening (replicate (size.tasks + 1) 0) blocks (caller_first size)) t) h.1 (let lt = h.0 in copy_at {A = ℕ} (size.tasks + 1) 0 (t + 1) (omega arith))

-- a claim keeps the rule, and is an event where the task is open
module _ (size : Size) (s : Table) (rule : Rule size s) (t id : ℕ) (v : View) (live : Live s id v) (free : v.held ≡ None) where
  claim_rule : (q : Status) → Says s t q → (s' : Table) → ClaimMakes s id v t q s' → Rule size s'
  claim_rule waiting says s' makes = subst (Rule size) (sym makes.2) (tables.keeps size s rule t (held v.number) id (set s.homes t none) v (holding v t) (take_move size s rule t id v live free makes.0 makes.1 says))
  claim_rule (held j) says s' makes = subst (Rule size) (sym makes) (tables.keeps size s rule t (held j) id s.homes v (finding v t (HeldBy j)) (find_move size s rule t id v live free (held j) says (HeldBy j) (inl says)))
  claim_rule (done j) says s' makes = subst (Rule size) (sym makes) (tables.keeps size s rule t (done j) id s.homes v (finding v t (DoneBy j)) (find_move size s rule t id v live free (done j) says (DoneBy j) says))

  module _ (r : RoundState) (shows : ShowsRound size s r) where
    claim_shows : (q : Status) → Says s t q → (s' : Table) → ClaimMakes s id v t q s' → (r' : RoundState) × ShowsRound size s' r' × Changes (claim_by v.number t) r r'
    claim_shows waiting says s' makes = let e = claim_event size s rule t id v live r shows makes.0 free says in
        (set r t (held_by v.number), subst (λ (z : Table). ShowsRound size z (set r t (held_by v.number))) (sym makes.2) e.1, inl e.0)
    claim_shows (held j) says s' makes = (
      r,
      subst (λ (z : Table). ShowsRound size z r) (sym makes) (refused_claim size s rule t id v live r shows (held j) (HeldBy j) says),
      inr (refl, λ at. absurd (let e : waiting ≡ held j = says_once s t waiting (held j) (shows.1 t open_task at) says in cc)),
    )
    claim_shows (done j) says s' makes = (
      r,
      subst (λ (z : Table). ShowsRound size z r) (sym makes) (refused_claim size s rule t id v live r shows (done j) (DoneBy j) says),
      inr (refl, λ at. absurd (let e : waiting ≡ done j = says_once s t waiting (done j) (shows.1 t open_task at) says in cc)),
    )

-- each step keeps the rule
step_rule : (size : Size) (k : RoundStep) (s s' : Table) → Rule size s → StepsTo size k s s' → Rule size s'
step_rule size (claim_by i t) s s' rule st = claim_rule size s rule t st.0 st.1 st.2 st.4 st.5.0 st.5.1 s' st.5.2
step_rule size (finish_by i t b) s s' rule st = let v : View = st.1 in let y : Block = st.5.0 in
    subst (Rule size) (sym st.5.2) (tables.keeps size s rule t (done v.number) st.0 (set s.homes t (some y)) v (with_entry v (entry t v.number y.items)) (finish_move size s rule t st.0 v st.2 st.4 y))
step_rule size split_off s s' rule st = subst (Rule size) (sym st.5) (splits size st.0 st.1 st.2.1 st.3 st.4 s rule st.2.0)
step_rule size (join_in i) s s' rule st = let v : View = st.2 in let w : View = st.3 in
    subst (Rule size) (sym st.10) (joins size st.0 st.1 v w st.4.1 st.5 st.6.1 st.8 s rule st.4.0 st.9 (set_else s.views st.0 st.1 (taken_over v w) st.9 ∙ st.6.0))
step_rule size (load_at k) s s' rule st =
    subst (Rule size) (sym (st.3.2 ∙ (λ i. record { words = set_again s.words k st.3.0 st.3.1 i; homes = s.homes; views = set_again s.views st.0 st.1 st.2.0 i }))) rule

-- and leads to the state after its event
step_shows : (size : Size) (k : RoundStep) (s s' : Table) → Rule size s → StepsTo size k s s' → (r : RoundState) → ShowsRound size s r → (r' : RoundState) × ShowsRound size s' r' × Changes k r r'
step_shows size (claim_by i t) s s' rule st r shows =
    subst (λ (j : ℕ). (r' : RoundState) × ShowsRound size s' r' × Changes (claim_by j t) r r') st.3 (claim_shows size s rule t st.0 st.1 st.2 st.4 r shows st.5.0 st.5.1 s' st.5.2)
step_shows size (finish_by i t b) s s' rule st r shows = let v : View = st.1 in let y : Block = st.5.0 in let e = finish_event size s rule t st.0 v st.2 r shows y st.4 in
    subst (λ (c : List ℕ). (r' : RoundState) × ShowsRound size s' r' × FinishEvent i t c r r') st.5.1
    (subst (λ (j : ℕ). (r' : RoundState) × ShowsRound size s' r' × FinishEvent j t y.items r r') st.3
    (set r t (done_by v.number y.items), subst (λ (z : Table). ShowsRound size z (set r t (done_by v.number y.items))) (sym st.5.2) e.1, e.0))
step_shows size split_off s s' rule st r shows = (r, subst (λ (z : Table). ShowsRound size z r) (sym st.5) (split_shown size s st.0 st.1 r shows), refl)
step_shows size (join_in i) s s' rule st r shows = (r, subst (λ (z : Table). ShowsRound size z r) (sym st.10) (join_shown size s st.0 st.1 st.2 st.3 r shows), refl)
step_shows size (load_at k) s s' rule st r shows = (r, subst (λ (z : Table). ShowsRound size z r) (sym st.3.2) (load_shown size s k st.3.0 st.0 st.1 [] r st.3.1 shows), refl)

-- no event loses a wanted block, and a finish brings one
claimed_wanted : (want : List (List ℕ)) (i t : ℕ) (r r' : RoundState) → AreWanted want r → ClaimEvent i t r r' → AreWanted want r'
claimed_wanted want i t r r' are e u j b at =
    ⊎_elim (λ (h : (u ≡ t) × (held_by i ≡ done_by j b)). absurd (let x = h.1 in cc)) (λ (h : (u ≢ t) × (get_elem? r u ≡ some (done_by j b))). are u j b h.1)
    (at_set r t u (held_by i) (done_by j b) (subst (λ (z : RoundState). StateOf z u (done_by j b)) e.2 at))

finished_wanted : (want : List (List ℕ)) (i t : ℕ) (c : List ℕ) (r r' : RoundState) → c ≡ slice_index_or want t [] → AreWanted want r → FinishEvent i t c r r' → AreWanted want r'
finished_wanted want i t c r r' brings are e u j b at =
    ⊎_elim
    (λ (h : (u ≡ t) × (done_by i c ≡ done_by j b)). let x = h.1 in let same : c ≡ b = cc in sym same ∙ brings ∙ ap (λ (k : ℕ). slice_index_or want k []) (sym h.0))
    (λ (h : (u ≢ t) × (get_elem? r u ≡ some (done_by j b))). are u j b h.1)
    (at_set r t u (done_by i c) (done_by j b) (subst (λ (z : RoundState). StateOf z u (done_by j b)) e.1 at))

step_wanted : (want : List (List ℕ)) (k : RoundStep) (r r' : RoundState) → BringsWanted want k → AreWanted want r → Changes k r r' → AreWanted want r'
step_wanted want (claim_by i t) r r' brings are e =
    ⊎_elim (λ (h : ClaimEvent i t r r'). claimed_wanted want i t r r' are h) (λ (h : (r' ≡ r) × (¬ StateOf r t open_task)). subst (AreWanted want) (sym h.0) are) e
step_wanted want (finish_by i t b) r r' brings are e = finished_wanted want i t b r r' brings are e
step_wanted want split_off r r' brings are e = subst (AreWanted want) (sym e) are
step_wanted want (join_in i) r r' brings are e = subst (AreWanted want) (sym e) are
step_wanted want (load_at k) r r' brings are e = subst (AreWanted want) (sym e) are

reached : (size : Size) (want : List (List ℕ)) (blocks : List Block) (steps : List RoundStep) (s : Table) → length blocks ≡ size.tasks → AllWide size.width blocks → AllBring want steps
    → Reaches size blocks steps s → Rule size s × ((r : RoundState) × ShowsRound size s r × Leads size steps r × AreWanted want r)
reached size want blocks [] s count wide brings is = (
  subst (Rule size) (sym is) (begins size blocks count wide),
  (
    replicate size.tasks open_task,
    subst (λ (z : Table). ShowsRound size z (replicate size.tasks open_task)) (sym is) (start_shown size blocks),
    refl,
    λ t i b at. absurd (let e : open_task ≡ done_by i b = (copy_only size.tasks open_task (done_by i b) t at).1 in cc),
  ),
)
reached size want blocks (k ∷ ks) s count wide brings st =
    let before = reached size want blocks ks st.0 count wide brings.1 st.1 in let o = step_shows size k st.0 s before.0 st.2 before.1.0 before.1.1 in (
      step_rule size k st.0 s before.0 st.2,
      (o.0, o.1, (before.1.0, before.1.2, o.2), step_wanted want k before.1.0 o.0 brings.0 before.1.3 o.2),
    )

pub goes_by_events : RoundsGoByEvents
goes_by_events size want blocks steps s count wide brings reaches = let h = reached size want blocks steps s count wide brings reaches in
    (h.0, (h.1.0, h.1.1, h.1.2, h.1.3, λ r' shows. shows_once size s r' h.1.0 shows h.1.1))
