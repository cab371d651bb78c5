use Rattle.std.proofs.Common.{◌∙◌, ◌+◌, ◌<◌, ap, arith, ◌++◌, sym, lit<}
use Rattle.std.proofs.lemmas.Fmt.{decimal_digit}
use Rattle.arrayvec.specs.ArrayVec.{array_vec_len}
use Rattle.annbuild_lines.proofs.Decimals.{one_digit, more_digits, added_digits}
use Rattle.annbuild_lines.proofs.line.+push_digits.Goals as goal

pub push-requires : goal.push-requires
push-requires depth c =
    let room : array_vec_len c.args.line.now < 256 = omega (arith, c.requires, one_digit c.args.n c.if-n-lt10.true) in
    (lit< tt, room)

pub returns-then-n-lt10-clause-items : goal.returns-then-n-lt10-clause-items
returns-then-n-lt10-clause-items depth c = c.push.ensures.items ∙ ap (λ xs. c.args.line.now.items ++ xs) (sym (decimal_digit c.args.n c.if-n-lt10.true))

pub returns-then-n-lt10-clause-len : goal.returns-then-n-lt10-clause-len
returns-then-n-lt10-clause-len depth c = c.push.ensures.len ∙ ap (λ k. array_vec_len c.args.line.now + k) (sym (one_digit c.args.n c.if-n-lt10.true))

pub push-requires-2 : goal.push-requires-2
push-requires-2 depth c =
    let room : array_vec_len c.push_digits.new.line < 256 = omega (arith, c.requires, c.push_digits.ensures.len, more_digits c.args.n (omega (arith, c.if-n-lt10.false)) c.ranges.n.fits) in
    (lit< tt, room)

pub returns-clause-items : goal.returns-clause-items
returns-clause-items depth c = c.push-2.ensures.items ∙ added_digits c.args.n c.args.line.now.items c.push_digits.new.line.items (omega (arith, c.if-n-lt10.false)) c.ranges.n.fits c.push_digits.ensures.items

pub returns-clause-len : goal.returns-clause-len
returns-clause-len depth c =
    omega (arith, c.push-2.ensures.len, c.push_digits.ensures.len, more_digits c.args.n (omega (arith, c.if-n-lt10.false)) c.ranges.n.fits)

pub push_digits-requires : goal.push_digits-requires
push_digits-requires depth c =
    (omega (arith, c.decreases, c.if-n-lt10.false), omega (arith, c.requires, more_digits c.args.n (omega (arith, c.if-n-lt10.false)) c.ranges.n.fits))
