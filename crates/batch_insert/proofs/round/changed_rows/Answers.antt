use Rattle.std.proofs.Common.{◌≡◌, ◌∙◌, ◌+◌, ◌*◌, ◌≤◌, ap, sym, subst, ℕ, Bool, List, length, arith, true}
use Rattle.std.proofs.Math.Nat.{mul-le-mul_right}
use Rattle.ann_defs.specs.Ordered.{ordered}
use Rattle.batch_insert.specs.declared.pair.Pair.{Pair}
use Rattle.batch_insert.specs.Batch.{IsBatch, AreTargets, laid_over}
use Rattle.batch_insert.specs.Proposing.{Proposed, pair_cmp, targets_of}
use Rattle.batch_insert.specs.Proposed.{proposed}
use Rattle.batch_insert.proofs.MergeFacts.{targets_right, targets_few, ids_few}
use Rattle.batch_insert.proofs.round.changed_rows.Goals as goal

-- a list of no more than n rows is within the words of n
words_fit : (count n size limit : ℕ) → count ≤ n → n * size ≤ limit → count * size ≤ limit
words_fit count n size limit few words = let more : count * size ≤ n * size = grind (arith, mul-le-mul_right) in omega (arith, more, words)

one_fits : (n size limit : ℕ) → 1 ≤ n → n * size ≤ limit → size ≤ limit
one_fits n size limit some words = let one : 1 * size ≤ n * size = grind (arith, mul-le-mul_right) in omega (arith, one, words)

less_words : (n bound limit : ℕ) → n * (bound + 1) ≤ limit → n * bound ≤ limit
less_words n bound limit h = grind arith

-- the pairs of a batch, once they are grouped
module _ (n bound : ℕ) (held : ℕ → Bool) (old : ℕ → List ℕ) (batch : ℕ → Bool) (fresh : ℕ → List ℕ) (ids : List ℕ) (fits : IsBatch n bound held old batch fresh ids) (merged : ℕ → List ℕ → List ℕ → List ℕ)
    (before after : Proposed) (grouped : after ≡ record before { pairs = ordered pair_cmp before.pairs; grouped = true }) (all : before.pairs ≡ proposed fresh ids) where
  right : after.pairs ≡ ordered pair_cmp (proposed fresh ids)
  right = ap (λ (p : Proposed). p.pairs) grouped ∙ ap (ordered pair_cmp) all

  targets_are : AreTargets n bound held (laid_over old batch fresh) after.pairs
  targets_are = subst (AreTargets n bound held (laid_over old batch fresh)) (sym right) (targets_right n bound held old batch fresh ids fits merged)

  few_targets : length (targets_of after.pairs) ≤ n
  few_targets = subst (λ (ps : List Pair). length (targets_of ps) ≤ n) (sym right) (targets_few n bound held old batch fresh ids fits merged)

pub propose-requires-after_bounds : goal.propose-requires-after_bounds
propose-requires-after_bounds g c =
    let m = c.args.merging.now in
    let n = g.M.Merging.count m in
    let bound = g.M.Merging.most m in
    let few = ids_few n bound (g.O.Rows.held c.args.old.now) (g.O.Rows.row_of c.args.old.now) (g.F.Rows.held c.args.fresh.now) (g.F.Rows.row_of c.args.fresh.now) c.args.ids.now c.requires.batch (g.M.Merging.merged m) in
    let words = words_fit (length c.args.ids.now) n bound 134217728 few (less_words n bound 134217728 c.requires.words) in
    omega (arith, words)

pub invariant_of-work : goal.invariant_of-work
invariant_of-work g c =
    let m = c.args.merging.now in
    let n = g.M.Merging.count m in
    let bound = g.M.Merging.most m in
    record {
      grouped = ap (λ (p : Proposed). p.grouped) c.group.ensures;
      targets = targets_are n bound (g.O.Rows.held c.args.old.now) (g.O.Rows.row_of c.args.old.now) (g.F.Rows.held c.args.fresh.now) (g.F.Rows.row_of c.args.fresh.now) c.args.ids.now c.requires.batch (g.M.Merging.merged m) c.in_ok-proposals.proposals c.group.new.self c.group.ensures c.in_ok-proposals.ensures.0;
      known = λ t h. c.requires.known t ((targets_are n bound (g.O.Rows.held c.args.old.now) (g.O.Rows.row_of c.args.old.now) (g.F.Rows.held c.args.fresh.now) (g.F.Rows.row_of c.args.fresh.now) c.args.ids.now c.requires.batch (g.M.Merging.merged m) c.in_ok-proposals.proposals c.group.new.self c.group.ensures c.in_ok-proposals.ensures.0).held_all t h);
      narrow = one_fits n (bound + 1) 134217728 c.requires.some c.requires.words;
    }

pub merge_all-requires-clause-words : goal.merge_all-requires-clause-words
merge_all-requires-clause-words g c κs within =
    let m = c.args.merging.now in
    let n = g.M.Merging.count m in
    let bound = g.M.Merging.most m in
    let few = few_targets n bound (g.O.Rows.held c.args.old.now) (g.O.Rows.row_of c.args.old.now) (g.F.Rows.held c.args.fresh.now) (g.F.Rows.row_of c.args.fresh.now) c.args.ids.now c.requires.batch (g.M.Merging.merged m) c.in_ok-proposals.proposals c.group.new.self c.group.ensures c.in_ok-proposals.ensures.0 in
    words_fit (length (targets_of c.group.new.self.pairs)) n (bound + 1) 134217728 few c.requires.words
