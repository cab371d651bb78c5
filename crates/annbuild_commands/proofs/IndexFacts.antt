-- The index that a build gives, its line, and the words of its rows.
use Rattle.std.proofs.Common.{◌≡◌, ℕ, length, refl, sym, subst, Result, Ok, Err, IfOk, OnOk, Some, None, Bool, true, false, cond, nat_lt}
use Rattle.ann_defs.specs.declared.kinds.Kind.{Kind}
use Rattle.ann_defs.specs.declared.kinds.Kind.TheVariants.{Vamana, Hnsw, Nnd}
use Rattle.ann_shelf.specs.declared.slip.Quantity.{Quantity}
use Rattle.graph_rows.specs.Index.{Contents, text_of, edges_of, longest_of}
use Rattle.graph_rows.specs.View.{kind_code}
use Rattle.annbuild_lines.specs.Lines.{built_text, checked_text}
use Rattle.annbuild_lines.specs.declared.fault.Fault.{Fault}
use Rattle.annbuild_lines.specs.declared.fault.Fault.TheVariants.{TooLarge}
use Rattle.command_shapes.proofs.Ending.{IsOfFiles}
use Rattle.command_options.specs.declared.settings.Settings.{Settings}
use Rattle.command_options.specs.declared.verb.Verb.{Verb}
use Rattle.command_options.specs.Settings.{AreForKind, IsInRange}
use Rattle.command_options.specs.Shapes.{shape_kind}
use Rattle.index_build.specs.IndexOf.{AreForBuild}
use Rattle.annbuild_commands.specs.IndexTexts.{file_of, line_of, told_of, kind_at}
use Rattle.index_build.specs.Limits.{limit_refusal}
use Rattle.annbuild_commands.specs.Checking.{checked_of}
use Rattle.annbuild_commands.proofs.Fits.{some_same}

pub file_is : (i : Contents) → text_of i ≡ file_of i
unfolding file_of
file_is i = refl

pub line_is : (i : Contents) → built_text (told_of i) ≡ line_of i
unfolding line_of
line_is i = refl

pub checked_is : (i : Contents) → checked_text (told_of i) (longest_of i) ≡ checked_of i
unfolding checked_of
checked_is i = refl

none_is_some : (u : Fault) → None ≡ Some u → ⊥
none_is_some u e = cc

-- the kind with a kind's code is that kind
pub kind_back : (k : Kind) → kind_at (kind_code k) ≡ k
kind_back Vamana = refl
kind_back Hnsw = refl
kind_back Nnd = refl

-- what tells of an index
pub told_is : (i : Contents) (kind : Kind) (layers edges : ℕ) → kind_at i.kind ≡ kind → layers ≡ length i.layers → edges ≡ edges_of i
    → record { kind = kind; count = i.count; dim = i.dim; degree = i.degree; start = i.start; layers = layers; edges = edges } ≡ told_of i
told_is i kind layers edges k l e = λ j. record { kind = sym k j; count = i.count; dim = i.dim; degree = i.degree; start = i.start; layers = l j; edges = e j }

-- the settings that commands which build any kind have are those of a build
pub for_build : (v : Verb) (o : Settings) → shape_kind v o.kind ≡ o.kind → IsInRange v o → AreForBuild o
for_build v o same r = subst (λ k. AreForKind k o) same r.build

-- an index that fits
pub both_ok : {T : Type 0} (r : Result T Fault) (P : Type 0) (Q R : T → Type 0) → ((x : T) → P → Q x → R x) → OnOk r P → IfOk r Q → IfOk r R
both_ok (Ok x) P Q R f p q = f x p q
both_ok (Err fault) P Q R f p q = tt

-- a number over its limit is a refusal of files
over_fault : (over : Bool) (name : Quantity) (value limit : ℕ) (fault : Fault) → cond over (Some (TooLarge name value limit)) None ≡ Some fault → IsOfFiles fault
over_fault true name value limit fault e = subst IsOfFiles (some_same (TooLarge name value limit) fault e) tt
over_fault false name value limit fault e = absurd (none_is_some fault e)

pub limit_fault : (name : Quantity) (value limit : ℕ) (fault : Fault) → limit_refusal name value limit ≡ Some fault → IsOfFiles fault
limit_fault name value limit fault e = over_fault (nat_lt limit value) name value limit fault e
