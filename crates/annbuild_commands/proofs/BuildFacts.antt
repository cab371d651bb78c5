-- What is left of a build once its index stands.
use Rattle.std.proofs.Common.{◌≡◌, ◌∙◌, ℕ, true, List, [], ◌∷◌, length, ap, Some, None}
use Rattle.std.specs.Option.{option_or}
use Rattle.ann_shelf.specs.Files.{Files, bytes_of, with_file}
use Rattle.command_shapes.specs.Reading.{points_in}
use Rattle.graph_rows.specs.Index.{Contents}
use Rattle.command_options.specs.declared.settings.Settings.{Settings}
use Rattle.command_options.specs.declared.role.Role.TheVariants.{Index}
use Rattle.command_shapes.specs.Writing.{stored_as}
use Rattle.command_shapes.proofs.Ending.{Leads}
use Rattle.index_build.specs.IndexOf.{index_of, words_of}
use Rattle.annbuild_commands.specs.IndexTexts.{file_of, line_of}
use Rattle.index_build.specs.Limits.{words_refusal}
use Rattle.annbuild_commands.specs.Building.{building, IsIndexOf}

pub build_leads : (files : Files) (base index : List ℕ) (o : Settings) (i : Contents) (text line : List ℕ) → IsIndexOf (bytes_of files base) o i → text ≡ file_of i → line ≡ line_of i
    → Leads (building base index o) (Some (stored_as Index index text)) (λ run. true) (λ run. line ∷ []) files
build_leads files base index o i text line is spelled told =
    let same : text ≡ file_of (index_of (points_in o.element (bytes_of files base)) o) = spelled ∙ ap file_of is.index_is in
    record {
      accepted = ap (λ u. option_or (option_or u None) (words_refusal (words_of (length (points_in o.element (bytes_of files base)).vectors) o))) is.accepted ∙ is.fits;
      meant = is.meant;
      stored = ap (with_file files index) same;
      runs = λ run e. e;
      prints = λ run. ap (λ l. l ∷ []) (told ∙ ap line_of is.index_is);
    }
