use Rattle.std.proofs.Common.{◌≡◌, ◌∙◌, ◌+◌, ◌-◌, ◌%◌, ◌<◌, ◌≤◌, ℕ, Option, length, refl, sym, ap, subst, arith}
use Rattle.prefix_batches.specs.Progress.{Progress}
use Rattle.vamana_build.specs.declared.plan.Plan.{Plan}
use Rattle.vamana_build.specs.Builds.{batch_cap, pass_of, batches_of}
use Rattle.vamana_build.specs.Building.{next_of, given_of}
use Rattle.vamana_build.proofs.Plans.{pass_some}
use Rattle.vamana_build.proofs.NextBatch.{given_on, given_next, ended, next_none, place_again}
use Rattle.vamana_build.proofs.places.next_places.Goals as goal

-- that places are the next ones after k batches, and that so many of their pass are given
abbrev AreNext : Plan → ℕ → Option (ℕ × ℕ) → Progress → Type 0
AreNext p k next left =
    (next ≡ next_of p.points.now.vectors p.settings k) × (left ≡ record { n = length p.points.now.vectors; cap = batch_cap p.points.now.vectors p.settings; done = given_of p.points.now.vectors p.settings k })

-- within a pass
on : (c : goal.Then-is_some) → AreNext c.args.plan.now c.args.k c.next-next.result c.next-next.new.self
on c = given_on c.args.plan.now.points.now.vectors c.args.plan.now.settings c.args.k c.args.batches.now c.next-next.new.self c.next-next.result c.requires.some (subst (λ (t : ℕ). c.args.k ≤ t) c.requires.total c.requires.within) c.requires.given (sym c.is_some.ensures ∙ c.if-is_some.true) (record { counted = c.next-next.ensures.counted; bounds = c.next-next.ensures.bounds; given = c.next-next.ensures.given; same = c.next-next.ensures.same })

pub returns-then-is_some-clause-next : goal.returns-then-is_some-clause-next
returns-then-is_some-clause-next c = (on c).0

pub returns-then-is_some-clause-given : goal.returns-then-is_some-clause-given
returns-then-is_some-clause-given c = (on c).1

pub returns-then-k-total-clause-next : goal.returns-then-k-total-clause-next
returns-then-k-total-clause-next c = (next_none c.args.plan.now.points.now.vectors c.args.plan.now.settings c.args.k (let all = c.requires.total in let here = c.if-k-total.true in omega (arith, all, here))).0

pub returns-then-k-total-clause-given : goal.returns-then-k-total-clause-given
returns-then-k-total-clause-given c = (ended c.args.plan.now.points.now.vectors c.args.plan.now.settings c.args.k c.args.batches.now c.next-next.new.self c.next-next.result (pass_some c.args.plan.now) c.requires.given (sym c.is_some.ensures ∙ c.if-is_some.false) (record { counted = c.next-next.ensures.counted; bounds = c.next-next.ensures.bounds; given = c.next-next.ensures.given; same = c.next-next.ensures.same })).1 ∙ ap (λ (d : ℕ). record { n = length c.args.plan.now.points.now.vectors; cap = batch_cap c.args.plan.now.points.now.vectors c.args.plan.now.settings; done = d }) (next_none c.args.plan.now.points.now.vectors c.args.plan.now.settings c.args.k (let all = c.requires.total in let here = c.if-k-total.true in omega (arith, all, here))).1

-- and where a pass begins again
again : (c : goal.After-next) → AreNext c.args.plan.now c.args.k c.next.result c.next.new.self
again c =
    let plan = c.args.plan.now in
    let points = plan.points.now.vectors in
    let s = plan.settings in
    let stop = ended c.args.plan.now.points.now.vectors c.args.plan.now.settings c.args.k c.args.batches.now c.next-next.new.self c.next-next.result (pass_some c.args.plan.now) c.requires.given (sym c.is_some.ensures ∙ c.if-is_some.false) (record { counted = c.next-next.ensures.counted; bounds = c.next-next.ensures.bounds; given = c.next-next.ensures.given; same = c.next-next.ensures.same }) in
    let past : pass_of points s ≤ (c.args.k - 1) % pass_of points s + 1 = let all = stop.0 in omega (arith, all) in
    let start : 0 ≡ c.args.k % pass_of points s = sym (place_again points s c.args.k ((c.args.k - 1) % pass_of points s + 1) c.requires.some (pass_some plan) refl past) in
    let left : c.args.k < batches_of points s = let all = c.requires.total in let within = c.requires.within in let not = c.if-k-total.false in omega (arith, all, within, not) in
    let fresh : c.new.result ≡ record { n = length points; cap = batch_cap points s; done = 0 } = c.new.ensures ∙ (λ i. record { n = c.count.ensures.value i; cap = plan.capped i; done = 0 }) in
    given_next points s c.args.k 0 c.new.result c.next.new.self c.next.result start left (pass_some plan) fresh (record { counted = c.next.ensures.counted; bounds = c.next.ensures.bounds; given = c.next.ensures.given; same = c.next.ensures.same })

pub returns-clause-next : goal.returns-clause-next
returns-clause-next c = (again c).0

pub returns-clause-given : goal.returns-clause-given
returns-clause-given c = (again c).1
