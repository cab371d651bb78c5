use Rattle.std.proofs.Common.{arith, length, ◌≤◌}
use Rattle.annbuild_words.proofs.Items.{one_more, all_cut}
use Rattle.annbuild_words.specs.Parts.{items_of}
use Rattle.annbuild_words.proofs.item.cut.Goals as goal

pub loop-i-preserved : goal.loop-i-preserved
loop-i-preserved c = record {
  so_far = one_more c.args.words.now c.loop-i.i c.loop-i.parts.items c.push.new.self.items c.part_at.result c.loop-i-test.true c.push.ensures.items c.loop-i.invariant.so_far c.part_at.ensures;
  len = omega (arith, c.push.ensures.len, c.loop-i.invariant.len);
}

pub returns : goal.returns
returns c =
    let past : length c.args.words.now ≤ c.loop-i.i = omega (arith, c.loop-i-test.false) in
    all_cut c.args.words.now c.loop-i.i (items_of c.loop-i.parts.items) past c.loop-i.invariant.so_far
