-- What is left of a query once its files are read and fit together.
use Rattle.std.proofs.Common.{◌≡◌, ◌∙◌, ℕ, true, List, sym, ap, refl, None, IfSome, Option}
use Rattle.ann_defs.specs.Distance.{PointSet}
use Rattle.ann_shelf.specs.Files.{Files, bytes_of}
use Rattle.graph_rows.specs.Index.{Contents}
use Rattle.batch_search.specs.Answers.{answers_of}
use Rattle.command_options.specs.declared.settings.Settings.{Settings}
use Rattle.command_options.specs.declared.role.Role.TheVariants.{Base, Index, Queries}
use Rattle.bin_files.proofs.Pieces.{both_told}
use Rattle.command_shapes.specs.Doing.{first_refused}
use Rattle.command_shapes.specs.Reading.{AreOf, IsOf}
use Rattle.command_shapes.proofs.Refusals.{points_text}
use Rattle.command_shapes.proofs.Told.{both_pair}
use Rattle.command_shapes.proofs.Ending.{Leads, refusal_is}
use Rattle.command_shapes.specs.AnswerLines.{lines_from}
use Rattle.annbuild_commands.specs.Fitting.{unfit_in}
use Rattle.annbuild_commands.specs.Querying.{querying}
use Rattle.annbuild_commands.proofs.Fits.{unfit_read, answers_are}

pub query_leads : (held : Option Files) (base index queries : List ℕ) (X Q : PointSet) (i : Contents) (o : Settings)
    → IfSome held (λ files. AreOf Base o.element (bytes_of files base) X) → IfSome held (λ files. IsOf Index (bytes_of files index) i) → IfSome held (λ files. AreOf Queries o.element (bytes_of files queries) Q)
    → IfSome held (λ files. first_refused (querying base index queries o).reads files ≡ None)
    → unfit_in X i Q.vectors ≡ None → IfSome held (Leads (querying base index queries o) None (λ run. true) (λ run. lines_from 0 (answers_of X.vectors i o.search o.k Q.vectors)))
query_leads held base index queries X Q i o points is asked read fit =
    both_told held held refl (both_pair (λ files. AreOf Base o.element (bytes_of files base) X) (λ files. IsOf Index (bytes_of files index) i) held held refl points is)
    (both_pair (λ files. AreOf Queries o.element (bytes_of files queries) Q) (λ files. first_refused (querying base index queries o).reads files ≡ None) held held refl asked read) (λ files a b. record {
      accepted = refusal_is (querying base index queries o) files b.1 ∙ unfit_read o (bytes_of files base) (bytes_of files index) (bytes_of files queries) X Q i a.0 a.1 b.0 ∙ fit;
      meant = (points_text Base o.element (bytes_of files base) X a.0, points_text Queries o.element (bytes_of files queries) Q b.0);
      stored = refl;
      runs = λ run e. e;
      prints = λ run. ap (lines_from 0) (sym (answers_are o (bytes_of files base) (bytes_of files index) (bytes_of files queries) X Q i a.0 a.1 b.0));
    })
