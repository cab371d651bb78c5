use Rattle.std.proofs.Common.{map, refl, Some}
use Rattle.std.specs.Prelude.{string_bytes}
use Rattle.ann_shelf.specs.Shown.{Shown}
use Rattle.ann_shelf.specs.Written.{Got}
use Rattle.annbuild_words.specs.Asked.{request_of, command_of}
use Rattle.command_shapes.proofs.Told.{on_fault}
use Rattle.command_shapes.proofs.Ending.{fails_memory}
use Rattle.annbuild_commands.specs.Commands.{doing_of}
use Rattle.annbuild_commands.specs.Promises.{IsAnswered}
use Rattle.annbuild_commands.proofs.Asking.{answered, answered_words}
use Rattle.annbuild_commands.proofs.request.read_request.Goals as goal

pub returns-in_err-request-clause-answered : goal.returns-in_err-request-clause-answered
returns-in_err-request-clause-answered c =
    let asked = request_of (map (λ w. string_bytes w) c.args.words.now) in
    on_fault c.from_residual.result _ (λ f. (shown : Shown) (had : Got) → IsAnswered asked shown shown had had (Some f)) c.from_residual.ensures.1
    (λ shown had. answered_words asked _ shown had c.in_err-request.ensures.fault)

pub returns-in_err-parsed-clause-answered : goal.returns-in_err-parsed-clause-answered
returns-in_err-parsed-clause-answered c =
    let asked = request_of (map (λ w. string_bytes w) c.args.words.now) in
    let command = command_of c.in_ok-request.request in
    on_fault c.from_residual-in_err-parsed.result _ (λ f. (shown : Shown) (had : Got) → IsAnswered asked shown shown had had (Some f)) c.from_residual-in_err-parsed.ensures.1
    (λ shown had. answered asked command shown shown had had _ c.in_ok-request.ensures.means (fails_memory (doing_of command) shown shown had refl))
