-- To publish a change that leads to the next graph keeps the rule.
use Rattle.std.proofs.Common.{◌≡◌, ℕ, List, [], ◌∷◌, ◌++◌, fold, sym, ap, ◌∙◌, subst, arith}
use Rattle.left_right.specs.Register.{TurnsAt}
use Rattle.batch_insert.specs.Changes.{put_all}
use Rattle.vamana_build.specs.Changes.{Change}
use Rattle.versions.specs.Course.{graph_after, LeadsFrom}
use Rattle.versions.specs.Known.{Known}
use Rattle.versions.specs.Rule.{IsVersion, Keeps, Sees, shared_course}
use Rattle.versions.specs.Ready.{IsReady}
use Rattle.versions.specs.declared.shared.Shared.{Shared}
use Rattle.versions.proofs.Keeping.{turns}

abbrev pub apply : Shared → Change → Shared
apply s c = record s { batch = c.batch; graph = put_all s.graph c.rows }

version_apply : (x : Shared) (change : Change) → IsVersion x → LeadsFrom (shared_course x) x.batch change → IsVersion (apply x change)
version_apply x change is leads = record {
  low = let e = leads.batch in omega arith;
  high = let e = leads.batch in let t = leads.within in omega arith;
  graph = (ap (λ g. put_all g change.rows) is.graph ∙ leads.next) ∙ ap (graph_after (shared_course x)) (sym leads.batch);
}

pub publishes : (seat : ℕ) (v : Known) (x old next : Shared) (pending before : List Change) (change : Change) (u : Known) → x ≡ old → IsReady (shared_course old) old.batch old before u
    → LeadsFrom (shared_course old) old.batch change → pending ≡ before ++ change ∷ [] → next ≡ fold apply x pending → TurnsAt Keeps seat v x next Sees
publishes seat v x old next pending before change u same ready leads more is =
    let one : pending ≡ change ∷ [] = more ∙ ap (λ b. b ++ change ∷ []) ready.nothing in
    let n : next ≡ apply old change = (is ∙ ap (fold apply x) one) ∙ ap (λ s. apply s change) same in
    let b : next.batch ≡ change.batch = ap (λ (s : Shared). s.batch) n in
    let a : x.batch ≡ old.batch = ap (λ (s : Shared). s.batch) same in
    let l = leads.batch in
    turns seat v x next (subst (λ (s : Shared). IsVersion s) (sym n) (version_apply old change ready.version leads)) (ap shared_course n ∙ ap shared_course (sym same)) (omega arith)
