use Rattle.std.proofs.Common.{◌≡◌, ◌∙◌, ap, map, ℕ}
use Rattle.std.specs.Prelude.{Vec}
use Rattle.std.specs.declared.alloc.Global.{Global}
use Rattle.std.proofs.lemmas.Result.{IfOk-weaker}
use Rattle.seeded_order.specs.Order.{seeded_order_of}
use Rattle.seeded_order.specs.Words.{word_of}
use Rattle.seeded_order.proofs.KeyedOrder.{sorted_keys}
use Rattle.seeded_order.proofs.insertion.order.Goals as goal

pub returns : goal.returns
returns c =
    let qs = c.sort_unstable.new.self.items in
    let sorted = sorted_keys (word_of c.args.seed 1) c.args.n c.in_ok-keys.keys.items qs c.in_ok-keys.ensures c.sort_unstable.ensures.permutation c.sort_unstable.ensures.sorted in
    let same = ap (map (λ (p : ℕ × ℕ). p.1)) c.as_slice.ensures.value ∙ sorted in
    IfOk-weaker _ _ (λ (v : Vec ℕ Global). v.items ≡ seeded_order_of c.args.n c.args.seed) (λ v e. e ∙ same) c.ids_in.ensures
