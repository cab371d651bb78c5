-- What is left of a check once its files are read and fit together.
use Rattle.std.proofs.Common.{◌≡◌, ◌∙◌, ℕ, true, List, [], ◌∷◌, sym, ap, refl, None, IfSome, Option}
use Rattle.ann_defs.specs.Distance.{PointSet}
use Rattle.ann_shelf.specs.Files.{Files, bytes_of}
use Rattle.graph_rows.specs.Index.{Contents}
use Rattle.command_options.specs.declared.settings.Settings.{Settings}
use Rattle.command_options.specs.declared.role.Role.TheVariants.{Base, Index}
use Rattle.bin_files.proofs.Pieces.{both_told}
use Rattle.command_shapes.specs.Doing.{first_refused}
use Rattle.command_shapes.specs.Reading.{AreOf, IsOf}
use Rattle.command_shapes.proofs.Refusals.{points_text}
use Rattle.command_shapes.proofs.Told.{both_pair}
use Rattle.command_shapes.proofs.Ending.{Leads, refusal_is}
use Rattle.annbuild_commands.specs.Fitting.{index_unfit}
use Rattle.annbuild_commands.specs.Checking.{checking, checked_of}
use Rattle.annbuild_commands.proofs.Fits.{index_unfit_read, checked_read}

pub check_leads : (held : Option Files) (base index : List ℕ) (o : Settings) (X : PointSet) (i : Contents) (line : List ℕ)
    → IfSome held (λ files. AreOf Base o.element (bytes_of files base) X) → IfSome held (λ files. IsOf Index (bytes_of files index) i)
    → IfSome held (λ files. first_refused (checking base index o).reads files ≡ None)
    → index_unfit X i ≡ None → line ≡ checked_of i → IfSome held (Leads (checking base index o) None (λ run. true) (λ run. line ∷ []))
check_leads held base index o X i line points is read fit told =
    both_told held held refl (both_pair (λ files. AreOf Base o.element (bytes_of files base) X) (λ files. IsOf Index (bytes_of files index) i) held held refl points is) read (λ files a asked. record {
      accepted = refusal_is (checking base index o) files asked ∙ index_unfit_read o.element (bytes_of files base) (bytes_of files index) X i a.0 a.1 ∙ fit;
      meant = points_text Base o.element (bytes_of files base) X a.0;
      stored = refl;
      runs = λ run e. e;
      prints = λ run. ap (λ l. l ∷ []) (told ∙ sym (checked_read o.element (bytes_of files base) (bytes_of files index) X i a.0 a.1));
    })
