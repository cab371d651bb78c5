use Rattle.std.proofs.Common.{◌≡◌, ◌∙◌, ◌*◌, ◌≤◌, length, arith, [], ap}
use Rattle.std.specs.Int.{div_ceil}
use Rattle.std.proofs.Math.Nat.{mul-le-mul_right}
use Rattle.live_session.specs.Rows.{Row}
use Rattle.versions.specs.Course.{course_of, total_of}
use Rattle.live_session.proofs.Rows.{row_empty, share_small}
use Rattle.live_session.proofs.seats.place_for.Goals as goal

pub new-requires-2-clause-answers : goal.new-requires-2-clause-answers
new-requires-2-clause-answers c =
    let a = c.args.asking.now in
    let n = length a.queries.now.vectors in
    let count = c.count.ensures.value in
    let some : 1 ≤ n = omega (arith, c.count.ensures.some, count) in
    let small = share_small n a.callers some c.requires.fits.callers.0 in
    let size : c.div_ceil-size.result ≡ div_ceil n a.callers = c.div_ceil-size.ensures ∙ ap (λ m. div_ceil m a.callers) count in
    let few : c.div_ceil-size.result ≤ n = omega (arith, small, size) in
    let all : c.div_ceil-size.result * a.k ≤ n * a.k = mul-le-mul_right a.k few in
    omega (arith, all, c.requires.answers)

pub returns-clause-place : goal.returns-clause-place
returns-clause-place c =
    let a = c.args.asking.now in
    let course = course_of c.args.plan.now in
    let n = length a.queries.now.vectors in
    let count = c.count.ensures.value in
    let some : 1 ≤ n = omega (arith, c.count.ensures.some, count) in
    let callers = c.requires.fits.callers.0 in
    let size : c.div_ceil-size.result ≡ div_ceil n a.callers = c.div_ceil-size.ensures ∙ ap (λ m. div_ceil m a.callers) count in
    let live : c.in_ok-live.live ≡ record { answers = []; size = div_ceil n a.callers; k = a.k } = c.in_ok-live.ensures ∙ (λ i. record { answers = []; size = size i; k = a.k }) in
    let last : c.in_ok-last.last ≡ record { answers = []; size = div_ceil n a.callers; k = a.k } = c.in_ok-last.ensures ∙ (λ i. record { answers = []; size = size i; k = a.k }) in
    record {
      seat = record {
        serves = record {
          count = ap (λ r. r.count) c.in_ok-scratch.ensures ∙ c.count-2.ensures.value;
          beam_fits = let e : c.in_ok-scratch.scratch.beam ≡ a.beam = ap (λ r. r.beam) c.in_ok-scratch.ensures in omega (arith, e);
        };
        room = c.in_ok-out.ensures.1;
        first = c.requires.first;
      };
      live = row_empty course a c.args.first 1 1 c.in_ok-live.live live some callers;
      last = row_empty course a c.args.first (total_of course) (total_of course) c.in_ok-last.last last some callers;
      none = ap (λ (r : Row). r.answers) last;
    }
