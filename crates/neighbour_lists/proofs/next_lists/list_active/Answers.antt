use Rattle.std.proofs.Common.{◌≡◌, ◌∙◌, ◌++◌, ◌∷◌, ◌<◌, [], ℕ, List, Bool, Vec, Global, cond, length, sym, ap, arith, false}
use Rattle.std.specs.List.{filter, range_with_len}
use Rattle.std.proofs.lemmas.List.{get_or_default, append-nil}
use Rattle.neighbour_lists.specs.Held.{Held, is_active}
use Rattle.neighbour_lists.proofs.Activity.{filter_on}
use Rattle.neighbour_lists.proofs.next_lists.list_active.Goals as goal
use Rattle.neighbour_lists.proofs.next_lists.list_active.Goals.{then-index+in_ok-push, else-index}

pub loop-v-preserved : goal.loop-v-preserved
loop-v-preserved c =
    let v = c.loop-v.v in
    let p = is_active c.args.lists.now in
    let flags = c.lists.inside.active.items in
    let before = filter p (range_with_len 0 v) in
    let at : v < length flags = let less = c.loop-v-test.true in let end = c.len-v-end.ensures in let long = c.lists.inside.active.ok.0 in omega (arith, less, end, long) in
    let flag : p v ≡ c.index.result.now = sym (ap (λ (l : Held). is_active l v) c.lists.view_is) ∙ sym (get_or_default flags v c.index.result.now false at) ∙ sym c.index.ensures in
    elim c.if-index.branch [
      | then-index+in_ok-push w ↦
          let pushed : c.if-index.ids.items ≡ c.loop-v.ids.items ++ v ∷ [] = ap (λ (ids : Vec ℕ Global). ids.items) w.ids-is ∙ w.in_ok-push.ensures.items in
          pushed
          ∙ ap (λ (ids : List ℕ). ids ++ v ∷ []) c.loop-v.invariant
          ∙ sym (filter_on p v ∙ ap (λ (b : Bool). before ++ cond b (v ∷ []) []) (flag ∙ w.if-index.true))
      | else-index w ↦
          let same : c.if-index.ids.items ≡ c.loop-v.ids.items = ap (λ (ids : Vec ℕ Global). ids.items) w.ids-is in
          same
          ∙ c.loop-v.invariant
          ∙ sym (filter_on p v ∙ ap (λ (b : Bool). before ++ cond b (v ∷ []) []) (flag ∙ w.if-index.false) ∙ append-nil before)
    ]
