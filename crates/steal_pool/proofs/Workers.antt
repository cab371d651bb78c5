-- What a worker keeps when it finishes a task.
use Rattle.std.proofs.Common.{◌≡◌, ℕ, List, [], ◌∷◌, ◌++◌, length, take, Option, Some, refl, sym, ap, ◌∙◌, subst, ⊎_elim, arith, append-nil, take_all, slice_index_or}
use Rattle.std.proofs.lemmas.List.{drop_all}
use Rattle.std.specs.Prelude.{MatchOption}
use lib.ListN.{get_elem?}
use mathlib.Core.Option.{some}
use Rattle.steal_table.specs.declared.view.Entry.{Entry}
use Rattle.steal_table.specs.declared.view.View.{View}
use Rattle.steal_table.specs.Rule.{HasEntry, entry}
use Rattle.steal_table.specs.Steps.{holding, with_entry, AllBack, NoEntry, HasEntryOf}
use Rattle.steal_table.specs.declared.view.Size.{Size}
use Rattle.steal_table.proofs.Tables.{back_same}
use Rattle.steal_table.specs.Passes.{BoardId, PassState}
use Rattle.steal_table.specs.Lending.{refilled}
use Rattle.steal_pool.specs.Worker.{AllWanted, Ready, Grown}
use Rattle.steal_table.proofs.Finishes.{at_longer, at_last, at_push}

-- a block that is filled whole has the words that were written
pub refilled_whole : (old w : List ℕ) → length w ≡ length old → refilled old w ≡ w
refilled_whole old w same = ap (λ (l : List ℕ). take (length old) (w ++ l)) (drop_all (length w) old (omega arith)) ∙ ap (take (length old)) (append-nil w) ∙ take_all (length old) w (omega arith)

pub still_wanted : (want : List (List ℕ)) (v : View) (t i : ℕ) (b : List ℕ) → AllWanted want v → b ≡ slice_index_or want t [] → AllWanted want (with_entry v (entry t i b))
still_wanted want v t i b all is e has =
    ⊎_elim (λ (h : get_elem? v.entries has.0 ≡ some e). all e (has.0, h))
    (λ (h : (has.0 ≡ length v.entries) × (entry t i b ≡ e)). subst (λ (z : Entry). z.block ≡ slice_index_or want z.task []) h.1 is)
    (at_push v.entries (entry t i b) e has.0 has.1)

pub finished_ready : (board : BoardId) (want : List (List ℕ)) (old mid fin : PassState) (t : ℕ) (w : List ℕ) → Ready board want old
    → mid ≡ record old { view = holding old.view t; block = mid.block } → length w ≡ length mid.block → w ≡ slice_index_or want t []
    → ((u : ℕ) → mid.view.held ≡ Some u → fin ≡ record mid { view = with_entry mid.view (entry u mid.view.number (refilled mid.block w)); block = [] })
    → Ready board want fin × (fin.view.number ≡ old.view.number)
finished_ready board want old mid fin t w r is len wants ends =
    let v : mid.view ≡ holding old.view t = ap (λ (z : PassState). z.view) is in
    let f = ends t (ap (λ (z : View). z.held) v) in
    let fv : fin.view ≡ with_entry old.view (entry t old.view.number w) =
    ap (λ (z : PassState). z.view) f ∙ (λ i. with_entry (v i) (entry t (v i).number (refilled_whole mid.block w len i))) in (
      record {
        its_board = ap (λ (z : PassState). z.board) f ∙ ap (λ (z : PassState). z.board) is ∙ r.its_board;
        free = ap (λ (z : View). z.held) fv;
        wanted = subst (AllWanted want) (sym fv) (still_wanted want old.view t old.view.number w r.wanted wants);
      },
      ap (λ (z : View). z.number) fv,
    )

-- what the finish of a task adds to the view
pub finished_view : (old mid fin : PassState) (t : ℕ) (w : List ℕ) → mid ≡ record old { view = holding old.view t; block = mid.block } → length w ≡ length mid.block
    → ((u : ℕ) → mid.view.held ≡ Some u → fin ≡ record mid { view = with_entry mid.view (entry u mid.view.number (refilled mid.block w)); block = [] })
    → fin.view ≡ with_entry old.view (entry t old.view.number w)
finished_view old mid fin t w is len ends =
    let v : mid.view ≡ holding old.view t = ap (λ (z : PassState). z.view) is in
    let f = ends t (ap (λ (z : View). z.held) v) in
    ap (λ (z : PassState). z.view) f ∙ (λ i. with_entry (v i) (entry t (v i).number (refilled_whole mid.block w len i)))

pub grown_entry : (v w : View) (e : Entry) → w ≡ with_entry v e → Grown v w
grown_entry v w e is = subst (Grown v) (sym is) record { same_size = refl; same_back = refl; more = λ x h. (h.0, at_longer v.entries (e ∷ []) h.0 x h.1) }

pub has_entry : (v w : View) (e : Entry) (t : ℕ) → w ≡ with_entry v e → e.task ≡ t → HasEntryOf w t
has_entry v w e t is task = subst (λ (x : View). HasEntryOf x t) (sym is) (e, (length v.entries, at_last v.entries e (length v.entries) refl), task)

-- the caller stays alone
pub all_back : (v w : View) → Grown v w → w.number ≡ v.number → AllBack v → AllBack w
all_back v w g same all = (
  same ∙ all.0 ∙ ap (λ (z : Size). z.workers) (sym g.same_size),
  λ i lt. back_same v w i g.same_back (all.1 i (let z = ap (λ (z : Size). z.workers) g.same_size in omega arith)),
)

pub still_has : (v w : View) (t : ℕ) → Grown v w → HasEntryOf v t → HasEntryOf w t
still_has v w t g h = (h.0, g.more h.0 h.1, h.2)

-- a look that finds who has done a task finds its entry
pub done_entry : (v : View) (t by : ℕ) (found : Option ℕ) → MatchOption found (NoEntry v t) (λ i. (e : Entry) × HasEntry v e × (e.task ≡ t) × (e.worker ≡ i)) → found ≡ Some by → HasEntryOf v t
done_entry v t by found answer is =
    let e = subst (λ (o : Option ℕ). MatchOption o (NoEntry v t) (λ i. (e : Entry) × HasEntry v e × (e.task ≡ t) × (e.worker ≡ i))) is answer in (e.0, e.1, e.2)
