use Rattle.std.proofs.Common.{◌≡◌, ◌+◌, ◌-◌, ◌*◌, ◌<◌, ◌≤◌, ◌∙◌, ℕ, Ok, inl, inr, length, get_or, set, arith, sym, ap, subst, get_or-set_same, get_or-set_other, length-set}
use Rattle.std.proofs.lemmas.Bool.{cases_eq}
use Rattle.graph_files.specs.Grammar.{word_at}
use Rattle.graph_files.proofs.Shown.{part_word, part_bytes, bytes_more}
use Rattle.graph_files.proofs.window.Window.words.Goals as goal

pub loop-i-preserved : goal.loop-i-preserved
loop-i-preserved c =
    let at = c.args.at in
    let i = c.loop-i.i in
    let cells = c.loop-i.cells in
    let id = c.u32_le.result in
    let from = at - c.args.self.now.from in
    let size = 4 * length c.args.cells.now in
    let below : i < length cells = omega (arith, c.loop-i.invariant.count) in
    let fits : from + size ≤ c.args.self.now.len = omega arith in
    let place : at ≡ c.args.self.now.from + from = omega arith in
    record {
      words = λ file shows k lt. elim (cases_eq k i) as (λ _. word_at file (at + 4 * k) ≡ Ok (get_or (set cells i id) k 0)) [
        | inl e ↦ subst (λ (m : ℕ). word_at file (at + 4 * m) ≡ Ok (get_or (set cells i id) m 0)) (sym e)
            (part_word file c.args.self.now from size at shows fits place (4 * i) (at + 4 * i) id (omega (arith, c.loop-i.invariant.count)) (omega arith) c.u32_le.ensures.value ∙ ap (λ n. Ok n) (sym (get_or-set_same cells i id 0 below)))
        | inr n ↦ c.loop-i.invariant.words file shows k (omega arith) ∙ ap (λ n. Ok n) (sym (get_or-set_other cells i k id 0 n))
      ];
      bytes = λ file shows. bytes_more file at (at + 4 * i) (at + 4 * i + 4) (at + 4 * (i + 1)) (c.loop-i.invariant.bytes file shows)
          (part_bytes file c.args.self.now from size at shows fits place (4 * i) (at + 4 * i) (omega (arith, c.loop-i.invariant.count)) (omega arith) c.u32_le.ensures.are_bytes) (omega arith);
      count = length-set cells i id ∙ c.loop-i.invariant.count;
    }
