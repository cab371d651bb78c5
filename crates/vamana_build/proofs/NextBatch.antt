-- The next batch of a build.
use Rattle.std.proofs.Common.{◌≡◌, ℕ, suc, ◌+◌, ◌-◌, ◌*◌, ◌%◌, ◌<◌, ◌≤◌, true, false, cond, List, length, Option, Some, None, refl, sym, ap, ◌∙◌, subst, arith}
use Rattle.std.specs.Prelude.{◌↔◌, nat_lt, IsSome, IsNone, IfSome}
use Rattle.std.proofs.Math.Nat.{mul-le-mul_right, mod-eq_of_lt, suc-mod, mod-lt, mod_self, mul-mod_left}
use Rattle.std.proofs.lemmas.Bool.{ltb-true, lt-ltb, ltb-false, le-ltb, true≢false}
use Rattle.ann_defs.specs.BatchInsert.{bound_at, total_of}
use Rattle.beam_search.specs.Room.{Room}
use Rattle.graph_rows.specs.Flat.{Flat}
use Rattle.prefix_batches.specs.Progress.{Progress}
use Rattle.steal_pool.specs.Work.{AllServe}
use Rattle.steal_pool.specs.declared.post.Post.{Post}
use Rattle.vamana_build.specs.declared.settings.VamanaSettings.{VamanaSettings}
use Rattle.vamana_build.specs.Builds.{batch_cap, pass_of, batches_of, order_of, start_of}
use Rattle.vamana_build.specs.Building.{next_of, given_of, IsBuilt}
use Rattle.batch_insert.specs.Changes.{put_all}
use Rattle.vamana_build.specs.Changes.{Change, change_at}
use Rattle.beam_search.specs.Serving.{Serves}
use Rattle.vamana_build.proofs.Stepping.{change_leads}

-- of one pass or two
pub passes_some : (passes pass : ℕ) → 1 ≤ passes → 1 ≤ pass → 0 < passes * pass
passes_some passes pass some full = let least : 1 * pass ≤ passes * pass = mul-le-mul_right pass some in omega (arith, least, full)

pub passes_few : (passes pass limit : ℕ) → passes ≤ 2 → pass ≤ limit → passes * pass ≤ 2 * limit
passes_few passes pass limit two few = let most : passes * pass ≤ 2 * pass = mul-le-mul_right pass two in omega (arith, most, few)

module _ (points : List (List ℕ)) (s : VamanaSettings) where
  abbrev n : ℕ
  n = length points

  abbrev cap : ℕ
  cap = batch_cap points s

  abbrev total : ℕ
  total = batches_of points s

  abbrev pass : ℕ
  pass = pass_of points s

  abbrev place : ℕ → ℕ
  place k = k % pass

  abbrev at : ℕ → Progress
  at k = record { n = n; cap = cap; done = k }

  -- where there is a next batch, not all are in
  pub some_left : (k : ℕ) (o : Option (ℕ × ℕ)) (b : ℕ × ℕ) → o ≡ next_of points s k → o ≡ Some b → k < total
  some_left k o b e h =
      elim (nat_lt k total) as (λ t. nat_lt k total ≡ t → cond {A = Option (ℕ × ℕ)} t (Some (bound_at n cap (place k), bound_at n cap (place k + 1))) None ≡ Some b → k < total) [
        | true ↦ λ t _. ltb-true k total t
        | false ↦ λ _ q. cc
      ] refl (sym e ∙ h)

  pub few_left : (k limit : ℕ) (o : Option (ℕ × ℕ)) (b : ℕ × ℕ) → o ≡ next_of points s k → o ≡ Some b → total ≤ limit → k < limit
  few_left k limit o b e h few = let less = some_left k o b e h in omega (arith, less, few)

  -- where there is a next batch, the batches have given it
  pub next_some : (k d : ℕ) → d ≡ place k → k < total → (Some (bound_at n cap d, bound_at n cap (d + 1)) ≡ next_of points s k) × (d + 1 ≡ given_of points s k)
  next_some k d e less = (
    ap {B = Option (ℕ × ℕ)} (λ j. Some (bound_at n cap j, bound_at n cap (j + 1))) e ∙ sym (ap (λ t. cond {A = Option (ℕ × ℕ)} t (Some (bound_at n cap (place k), bound_at n cap (place k + 1))) None) (lt-ltb k total less)),
    ap (λ j. j + 1) e ∙ sym (ap (λ t. cond t (place k + 1) pass) (lt-ltb k total less)),
  )

  -- where there is none, they have given all of the pass
  pub next_none : (k : ℕ) → total ≤ k → (None ≡ next_of points s k) × (pass ≡ given_of points s k)
  next_none k past = (
    sym (ap (λ t. cond {A = Option (ℕ × ℕ)} t (Some (bound_at n cap (place k), bound_at n cap (place k + 1))) None) (le-ltb k total past)),
    sym (ap (λ t. cond t (place k + 1) pass) (le-ltb k total past)),
  )

  -- within a pass the place goes on by one
  pub place_on : (k d : ℕ) → 1 ≤ k → d ≡ place (k - 1) + 1 → d < pass → d ≡ place k
  place_on k d some e less =
      let count : k ≡ suc (k - 1) = omega (arith, some) in
      let one : d ≡ suc (place (k - 1)) = omega (arith, e) in
      let below : suc (place (k - 1)) < pass = omega (arith, one, less) in
      one ∙ sym (mod-eq_of_lt below) ∙ sym (suc-mod (k - 1) pass) ∙ ap place (sym count)

  -- and at its end begins again
  pub place_again : (k d : ℕ) → 1 ≤ k → 1 ≤ pass → d ≡ place (k - 1) + 1 → pass ≤ d → place k ≡ 0
  place_again k d some full e more =
      let count : k ≡ suc (k - 1) = omega (arith, some) in
      let low : place (k - 1) < pass = mod-lt (k - 1) full in
      let end : suc (place (k - 1)) ≡ pass = omega (arith, low, e, more) in
      ap place count ∙ suc-mod (k - 1) pass ∙ ap place end ∙ mod_self pass

  -- all batches are whole passes
  pub more_left : (k : ℕ) → k ≤ total → 1 ≤ place k → k < total
  more_left k within some =
      elim (nat_lt k total) as (λ t. nat_lt k total ≡ t → k < total) [
        | true ↦ λ t. ltb-true k total t
        | false ↦ λ t.
            let past = ltb-false k total t in
            let all : k ≡ total = omega (arith, within, past) in
            let none : place k ≡ 0 = ap place all ∙ mul-mod_left s.passes pass in
            absurd (absent (place k) none some)
      ] refl
    where
      absent : (m : ℕ) → m ≡ 0 → 1 ≤ m → ⊥
      absent m e some = omega (arith, e, some)

  -- what the batches give next
  pub record IsNext (old new : Progress) (next : Option (ℕ × ℕ)) : Type 0 where
    pub counted : IsSome next ↔ (old.done < total_of old.n old.cap)
    pub bounds : IfSome next (λ b. b ≡ (bound_at old.n old.cap old.done, bound_at old.n old.cap (old.done + 1)))
    pub given : IfSome next (λ _. new ≡ record { n = old.n; cap = old.cap; done = old.done + 1 })
    pub same : IsNone next → new ≡ old

  given_at : (k d : ℕ) (new : Progress) (next : Option (ℕ × ℕ)) → d ≡ place k → k < total → d < pass → IsNext (at d) new next → (next ≡ next_of points s k) × (new ≡ at (given_of points s k))
  given_at k d new None e left less h = let some : IsSome {T = ℕ × ℕ} None = h.counted.1 less in absurd (true≢false (sym some))
  given_at k d new (Some b) e left less h = let told = next_some k d e left in (ap Some h.bounds ∙ told.0, h.given ∙ ap at told.1)

  -- the next place of a pass
  pub given_next : (k d : ℕ) (old new : Progress) (next : Option (ℕ × ℕ)) → d ≡ place k → k < total → d < pass → old ≡ at d → IsNext old new next → (next ≡ next_of points s k) × (new ≡ at (given_of points s k))
  given_next k d old new next e left less is h = given_at k d new next e left less (subst (λ (o : Progress). IsNext o new next) is h)

  -- within a pass
  pub given_on : (k : ℕ) (old new : Progress) (next : Option (ℕ × ℕ)) → 1 ≤ k → k ≤ total → old ≡ at (place (k - 1) + 1) → IsSome next → IsNext old new next → (next ≡ next_of points s k) × (new ≡ at (given_of points s k))
  given_on k old new next some within is there h =
      let here : IsNext (at (place (k - 1) + 1)) new next = subst (λ (o : Progress). IsNext o new next) is h in
      let less = here.counted.0 there in
      let e = place_on k (place (k - 1) + 1) some refl less in
      let left = more_left k within (omega (arith, e)) in
      given_at k (place (k - 1) + 1) new next e left less here

  -- at the end of a pass all its batches are given
  pub ended : (k : ℕ) (old new : Progress) (next : Option (ℕ × ℕ)) → 1 ≤ pass → old ≡ at (place (k - 1) + 1) → IsNone next → IsNext old new next → (place (k - 1) + 1 ≡ pass) × (new ≡ at pass)
  ended k old new None full is none h =
      let here : IsNext (at (place (k - 1) + 1)) new None = subst (λ (o : Progress). IsNext o new None) is h in
      let low : place (k - 1) < pass = mod-lt (k - 1) full in
      let past : pass ≤ place (k - 1) + 1 = not_below (place (k - 1) + 1) (λ less. let some : IsSome {T = ℕ × ℕ} None = here.counted.1 less in true≢false (sym some)) in
      let all : place (k - 1) + 1 ≡ pass = omega (arith, low, past) in
      (all, here.same refl ∙ ap at all)
    where
      not_below : (d : ℕ) → (d < pass → ⊥) → pass ≤ d
      not_below d f = elim (nat_lt d pass) as (λ t. nat_lt d pass ≡ t → pass ≤ d) [ true ↦ λ e. absurd (f (ltb-true d pass e)) | false ↦ λ e. ltb-false d pass e ] refl
  ended k old new (Some b) full is none h = absurd (true≢false none)

  -- one batch more
  pub stepped : (k : ℕ) (graph graph' : Flat) (batches batches' : Progress) (next next' : Option (ℕ × ℕ)) (posts posts' : List (Post Room)) (b : ℕ × ℕ) (change : Change) → start_of points s < n → length (order_of points s) ≡ n → IsBuilt points s k graph batches next posts → next ≡ Some b → change ≡ change_at points s k → graph' ≡ put_all graph change.rows → next' ≡ next_of points s (k + 1) → IfSome next' (λ b. (b.0 < b.1) × (b.1 ≤ n)) → batches' ≡ at (given_of points s (k + 1)) → AllServe (Serves n s.beam) posts' → length posts' ≡ length posts → IsBuilt points s (k + 1) graph' batches' next' posts'
  stepped k graph graph' batches batches' next next' posts posts' b change starts whole built is c g to fits given serve count =
      let less = some_left k next b built.next_is is in
      record {
        graph_is = g ∙ (λ i. put_all (built.graph_is i) (c i).rows) ∙ change_leads points s starts k whole;
        within = omega (arith, less);
        few = built.few;
        batches_are = given;
        next_is = to;
        next_fits = fits;
        serve = serve;
        workers = (subst (λ m. 1 ≤ m) (sym count) built.workers.0, subst (λ m. m ≤ 64) (sym count) built.workers.1);
      }
