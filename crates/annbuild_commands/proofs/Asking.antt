-- What a request asks for, and how it is answered.
use Rattle.std.proofs.Common.{◌≡◌, sym, refl, subst, Option, Some, None}
use Rattle.ann_shelf.specs.Shown.{Shown}
use Rattle.ann_shelf.specs.Written.{Got}
use Rattle.annbuild_words.specs.Asked.{Command, Meaning, command_of, IsAllowed}
use Rattle.annbuild_words.specs.Asked.Meaning.{Nothing', Outside', Means}
use Rattle.annbuild_words.specs.declared.request.Request.{Request}
use Rattle.command_options.specs.Settings.{IsInRange}
use Rattle.command_options.specs.declared.verb.Verb.{Verb}
use Rattle.annbuild_lines.specs.declared.fault.Fault.{Fault}
use Rattle.annbuild_lines.specs.declared.fault.Fault.TheVariants.{Usage, Setting}
use Rattle.command_shapes.specs.Ends.{Ends}
use Rattle.command_shapes.proofs.Completing.{not_usage, not_setting}
use Rattle.annbuild_commands.specs.Commands.{doing_by, doing_of}
use Rattle.annbuild_commands.specs.Ending.{words_fault}
use Rattle.annbuild_commands.specs.Promises.{IsAnswered}
use Rattle.annbuild_commands.proofs.Fits.{some_same}

-- a request with this command
module _ (c : Command) (r : Request) (v : Verb) where
  -- its settings are within the ranges of the command
  pub asked_range : command_of r ≡ c → r.verb ≡ v → IsAllowed c → IsInRange v r.settings
  asked_range same is allowed = subst (λ w. IsInRange w r.settings) is (subst IsAllowed (sym same) allowed).in_range

  -- it ends as its command does
  pub as_asked : (old new : Shown) (had got : Got) (fault : Option Fault) → command_of r ≡ c → r.verb ≡ v
      → Ends (doing_by v r.names.first.now r.names.second.now r.names.third.now r.names.fourth.now r.settings) old new had got fault → Ends (doing_of c) old new had got fault
  as_asked old new had got fault same is ends =
      subst (λ m. Ends (doing_of m) old new had got fault) same
      (subst (λ w. Ends (doing_by w r.names.first.now r.names.second.now r.names.third.now r.names.fourth.now r.settings) old new had got fault) (sym is) ends)

-- words that mean a command are answered as it ends
answered_as : (c : Command) (old new : Shown) (had got : Got) (fault : Option Fault) → Ends (doing_of c) old new had got fault → IsAnswered (Means c) old new had got fault
answered_as c old new had got None ends = record {
  usage = (λ i. cc, λ i. cc);
  setting = λ name value least greatest. (λ i. cc, λ i. cc);
  ends = ends;
}
answered_as c old new had got (Some fault) ends = record {
  usage = (λ i. absurd (not_usage (doing_of c) _ _ _ fault ends.cause (some_same fault Usage i)), λ i. cc);
  setting = λ name value least greatest. (
    λ i. absurd (not_setting (doing_of c) _ _ _ fault ends.cause (Setting name value least greatest) (some_same fault (Setting name value least greatest) i)),
    λ i. cc,
  );
  ends = ends;
}

pub answered : (asked : Meaning) (c : Command) (old new : Shown) (had got : Got) (fault : Option Fault) → asked ≡ Means c → Ends (doing_of c) old new had got fault → IsAnswered asked old new had got fault
answered asked c old new had got fault is ends = subst (λ m. IsAnswered m old new had got fault) (sym is) (answered_as c old new had got fault ends)

-- words that mean none are answered by the fault that they are
pub answered_words : (asked : Meaning) (fault : Fault) (shown : Shown) (had : Got) → words_fault asked ≡ Some fault → IsAnswered asked shown shown had had (Some fault)
answered_words Nothing' fault shown had is = record {
  usage = (λ i. refl, λ i. sym is);
  setting = λ name value least greatest. (λ i. cc, λ i. cc);
  ends = tt;
}
answered_words (Outside' n v l g) fault shown had is = record {
  usage = (λ i. cc, λ i. cc);
  setting = λ name value least greatest. (λ i. cc, λ i. cc);
  ends = tt;
}
answered_words (Means c) fault shown had is = cc
