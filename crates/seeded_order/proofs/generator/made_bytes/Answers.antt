use Rattle.std.proofs.Common.{◌≡◌, ◌∙◌, ◌+◌, ◌/◌, ◌%◌, ℕ, ap, sym, refl, arith, add-zero, slice_index, w64, vec_len}
use Rattle.std.specs.Int.{to_le_bytes}
use Rattle.seeded_order.specs.Generator.{generated_byte}
use Rattle.seeded_order.specs.Words.{after, generator, word_of}
use Rattle.seeded_order.proofs.WordLaws.{next_is, next_leads, pushed_more}
use Rattle.seeded_order.proofs.generator.made_bytes.Goals as goal
use Rattle.seeded_order.proofs.generator.made_bytes.Goals.{then-at-eq7, else-at-eq7}

pub loop-k-init : goal.loop-k-init
loop-k-init c =
    let seed = c.args.seed in
    let at : c.args.first / 8 ≡ (c.args.first + 0) / 8 = ap (λ (x : ℕ). x / 8) (sym (add-zero c.args.first)) in
    record {
      words = next_leads seed 0 (c.args.first / 8) c.next_word-word.result c.words_from-words.result c.next_word-word.new.self c.next_word-word.ensures c.words_from-words.ensures ∙ ap (λ (i : ℕ). after (generator seed 0) (i + 1)) at;
      word = next_is seed 0 (c.args.first / 8) c.next_word-word.result c.words_from-words.result c.next_word-word.new.self c.next_word-word.ensures c.words_from-words.ensures ∙ ap (word_of seed 0) at;
      bytes = c.in_ok-bytes.ensures.items;
      len = c.in_ok-bytes.ensures.len;
    }

pub loop-k-preserved : goal.loop-k-preserved
loop-k-preserved c =
    let seed = c.args.seed in
    let at = c.args.first + c.loop-k.k in
    let byte = c.byte_of.ensures ∙ ap (λ (w : ℕ). slice_index (to_le_bytes w64 w) (at % 8)) c.loop-k.invariant.word in
    let bytes = pushed_more (generated_byte seed) c.args.first c.loop-k.k at c.loop-k.bytes.items c.push.new.self.items c.byte_of.result refl c.loop-k.invariant.bytes c.in_ok-push.ensures.items byte in
    let len : vec_len c.push.new.self ≡ c.loop-k.k + 1 = c.in_ok-push.ensures.len ∙ ap (λ (n : ℕ). n + 1) c.loop-k.invariant.len in
    elim c.if-at-eq7.branch [
      | then-at-eq7 w ↦
          let over : at / 8 + 1 ≡ (c.args.first + (c.loop-k.k + 1)) / 8 = omega arith in
          rw (w.words-is, w.word-is) (record {
            words = next_leads seed 0 (at / 8 + 1) w.next_word-word-then-at-eq7.result c.loop-k.words w.next_word-word-then-at-eq7.new.self w.next_word-word-then-at-eq7.ensures c.loop-k.invariant.words ∙ ap (λ (i : ℕ). after (generator seed 0) (i + 1)) over;
            word = next_is seed 0 (at / 8 + 1) w.next_word-word-then-at-eq7.result c.loop-k.words w.next_word-word-then-at-eq7.new.self w.next_word-word-then-at-eq7.ensures c.loop-k.invariant.words ∙ ap (word_of seed 0) over;
            bytes = bytes;
            len = len;
          })
      | else-at-eq7 w ↦
          let within : at / 8 ≡ (c.args.first + (c.loop-k.k + 1)) / 8 = omega arith in
          rw (w.words-is, w.word-is) (record {
            words = c.loop-k.invariant.words ∙ ap (λ (i : ℕ). after (generator seed 0) (i + 1)) within;
            word = c.loop-k.invariant.word ∙ ap (word_of seed 0) within;
            bytes = bytes;
            len = len;
          })
    ]
