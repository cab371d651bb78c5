-- A session over points and queries, as `live` tells of it.
use Rattle.std.proofs.Common.{◌≡◌, ◌∙◌, ◌*◌, ◌≤◌, ℕ, suc, true, List, [], ◌∷◌, ◌++◌, map, drop, length, nat_le, refl, sym, ap, subst, arith, Option, Some, None, IfSome, Result, Ok, Err, IfOk, OnOk}
use Rattle.std.specs.Prelude.{◌==◌, ◌&&◌, zip}
use Rattle.std.specs.List.{All, list_all}
use Rattle.std.specs.Option.{option_or}
use Rattle.std.proofs.lemmas.Bool.{eqb-true}
use Rattle.std.proofs.lemmas.List.{length-map, length-take}
use Rattle.ann_defs.proofs.Members.{and_both, all_from_has}
use Rattle.ann_defs.proofs.Order.{has-map}
use Rattle.ann_defs.specs.Graph.{row_in}
use Rattle.ann_defs.specs.GreedySearch.{answer_of, found_of}
use Rattle.ann_defs.specs.declared.kinds.Kind.{Kind}
use Rattle.ann_defs.specs.declared.kinds.Kind.TheVariants.{Vamana, Hnsw, Nnd}
use Rattle.ann_defs.specs.declared.limits.TheConstants.{MAX_ANSWERS, MAX_WORDS}
use Rattle.ann_defs.specs.Distance.{PointSet}
use Rattle.ann_shelf.specs.Files.{Files, bytes_of, with_file}
use Rattle.ann_shelf.specs.declared.slip.Quantity.TheVariants.{Words, Answers}
use Rattle.bin_files.specs.Rows.{ArePoints}
use Rattle.bin_files.proofs.Pieces.{both_told}
use Rattle.graph_rows.specs.Index.{Contents, text_of}
use Rattle.graph_rows.specs.View.{contents}
use Rattle.graph_rows.specs.WellFormed.{IsWellFormed}
use Rattle.vamana_build.specs.Builds.{order_of, start_of, rows_at}
use Rattle.vamana_build.specs.VamanaIndex.{vamana_index}
use Rattle.vamana_build.specs.declared.settings.VamanaSettings.{VamanaSettings}
use Rattle.versions.specs.Course.{Course, answer_at, total_of}
use Rattle.live_session.specs.Lawful.{is_lawful}
use Rattle.live_session.specs.LiveAnswers.{batches_in, live_answers, last_answers}
use Rattle.live_session.specs.declared.session.Session.{Session}
use Rattle.command_options.specs.Settings.{IsInRange, kind_code}
use Rattle.command_options.specs.declared.settings.Settings.{Settings}
use Rattle.command_options.specs.declared.verb.Verb.TheVariants.{Live}
use Rattle.command_options.specs.declared.role.Role.TheVariants.{Base, Index, Queries}
use Rattle.annbuild_lines.specs.declared.batch_line.Moment.TheVariants.{During, After}
use Rattle.annbuild_lines.specs.declared.fault.Fault.{Fault}
use Rattle.command_shapes.specs.AnswerLines.{numbered_lines}
use Rattle.command_shapes.specs.Doing.{first_refused}
use Rattle.command_shapes.specs.Reading.{AreOf, points_in}
use Rattle.command_shapes.specs.Writing.{stored_as}
use Rattle.command_shapes.proofs.Ending.{Leads, IsOfFiles, refusal_is}
use Rattle.command_shapes.proofs.Refusals.{points_text}
use Rattle.command_shapes.proofs.Told.{both_pair}
use Rattle.annbuild_commands.specs.Fitting.{queries_unfit}
use Rattle.index_build.specs.Stamping.{stamp_for}
use Rattle.index_build.specs.IndexOf.{index_of, index_by, words_by, words_of, vamana_words, vamana_of, vamana_rows, vamana_batches, vamana_start}
use Rattle.annbuild_commands.specs.IndexTexts.{file_of, line_of}
use Rattle.index_build.specs.Limits.{words_refusal, answers_refusal}
use Rattle.annbuild_commands.specs.Living.{living, live_refusal, answer_after, answers_beside, answers_last, batch_line, live_pieces, may_run, IsSession, AreTold, AreAsked}
use Rattle.annbuild_commands.proofs.Fits.{either_fault, queries_only}
use Rattle.graph_rows.specs.declared.stamp.Stamp.{Stamp}
use Rattle.graph_rows.specs.Index.{Contents}
use Rattle.graph_rows.specs.Stamps.{IsStamped, stamped}
use Rattle.graph_rows.specs.View.{kind_code as code_of_kind}
use Rattle.graph_rows.proofs.Stamped.{stamped_formed}
use Rattle.index_build.proofs.IndexFacts.{index_is, stamped_is, same_index}
use Rattle.annbuild_commands.proofs.IndexFacts.{file_is, limit_fault}

-- what of the settings decides the graphs
module _ (X : PointSet) (s : VamanaSettings) (o : Settings) (a : s.order ≡ o.order) (b : s.start ≡ o.start) (c : s.seed ≡ o.seed) (d : s.degree ≡ o.degree)
    (e : s.beam ≡ o.beam) (f : s.alpha.num ≡ o.num) (g : s.alpha.den ≡ o.den) (h : s.cap ≡ o.cap) (p : s.passes ≡ o.passes) where
  abbrev course : Course
  course = record { points = X.vectors; settings = s }

  same_batches : total_of course ≡ vamana_batches X.vectors o
  unfolding total_of vamana_batches
  same_batches = λ i. vamana_batches X.vectors (record o { cap = h i; passes = p i })

  same_rows : (v : ℕ) → rows_at X.vectors s v ≡ vamana_rows X.vectors o v
  unfolding order_of vamana_rows
  same_rows v = λ i. vamana_rows X.vectors (record o { order = a i; start = b i; seed = c i; degree = d i; beam = e i; num = f i; den = g i; cap = h i; passes = p i }) v

  same_start : start_of X.vectors s ≡ vamana_start X.vectors o
  unfolding order_of
  same_start = λ i. vamana_start X.vectors (record o { order = a i; start = b i; seed = c i })

  same_answer : (v : ℕ) (query : List ℕ) → (v, answer_at course v o.search o.k query) ≡ answer_after X.vectors o v query
  unfolding answer_at
  same_answer v query = λ i. (v, answer_of X.vectors (row_in (same_rows v i)) query o.search (same_start i) o.k)

  same_live : (Q : List (List ℕ)) (run : List ℕ) → live_answers course o.search o.k Q run ≡ answers_beside X.vectors Q o run
  same_live Q run = λ i. map (λ z. same_answer z.1 z.0 i) (zip Q run)

  same_last : (Q : List (List ℕ)) → last_answers course o.search o.k Q ≡ answers_last X.vectors Q o
  same_last Q = (λ i. map (λ q. same_answer (total_of course) q i) Q) ∙ ap (λ v. map (answer_after X.vectors o v) Q) same_batches

  -- x is the session of the builder, y the same with a stamp
  pub session_is : (Q : List (List ℕ)) (x y : Session) (stamp : Option Stamp) → o.kind ≡ Vamana → vamana_of X.vectors o ≡ index_by o.kind X.vectors o
      → contents x.index ≡ vamana_index X.vectors s → IsWellFormed (contents x.index)
      → is_lawful o.callers (total_of course) (length Q) (batches_in x.live) ≡ true
      → x.live ≡ live_answers course o.search o.k Q (batches_in x.live)
      → x.last ≡ last_answers course o.search o.k Q
      → contents y.index ≡ stamped stamp (contents x.index) → y.live ≡ x.live → y.last ≡ x.last
      → stamp ≡ stamp_for X o → IsStamped (code_of_kind o.kind) stamp → IsSession X Q o y
  session_is Q x y stamp kind plain index well lawful live last marked same_live_told same_last_told is allowed =
      let one : code_of_kind o.kind ≡ (contents x.index).kind = ap code_of_kind kind ∙ sym (ap (λ (i : Contents). i.kind) index) in
      record {
        index_is = marked ∙ ap (stamped stamp) (index ∙ same_index X.vectors s o a b c d e f g h p ∙ plain) ∙ ap (λ m. stamped m (index_by o.kind X.vectors o)) is ∙ stamped_is X o;
        well_formed = subst IsWellFormed (sym marked) (stamped_formed (contents x.index) stamp well (subst (λ k. IsStamped k stamp) one allowed));
        lawful = subst (λ l. is_lawful o.callers (vamana_batches X.vectors o) (length Q) (batches_in l) ≡ true) (sym same_live_told) (subst (λ t. is_lawful o.callers t (length Q) (batches_in x.live) ≡ true) same_batches lawful);
        live = same_live_told ∙ live ∙ same_live Q (batches_in x.live) ∙ ap (λ l. answers_beside X.vectors Q o (batches_in l)) (sym same_live_told);
        last = same_last_told ∙ last ∙ same_last Q;
      }

-- what holds where a call is done, from something else that does
pub on_ok : {T : Type 0} (r : Result T Fault) (P Q : Type 0) → (P → Q) → OnOk r P → OnOk r Q
on_ok (Ok x) P Q f p = f p
on_ok (Err fault) P Q f p = tt

pub all_ok : {T E : Type 0} (r : Result T E) (A B C D F P : T → Type 0) → ((x : T) → A x → B x → C x → D x → F x → P x) → IfOk r A → IfOk r B → IfOk r C → IfOk r D → IfOk r F → IfOk r P
all_ok (Ok x) A B C D F P f a b c d e = f x a b c d e
all_ok (Err z) A B C D F P f a b c d e = tt

-- how many answers there are, and how long they are
zip_length : {A B : Type 0} (xs : List A) (ys : List B) → length ys ≡ length xs → length (zip xs ys) ≡ length xs
zip_length [] ys e = refl
zip_length (x ∷ xs) [] e = cc
zip_length (x ∷ xs) (y ∷ ys) e = ap suc (zip_length xs ys (omega (arith, e)))

all_mapped : {A B : Type 0} (f : A → B) (P : B → Type 0) (xs : List A) → ((x : A) → P (f x)) → All P (map f xs)
all_mapped f P xs h = all_from_has P (map f xs) (λ z m. let from = has-map f xs z m in subst P from.2 (h from.0))

module _ (X : PointSet) (Q : List (List ℕ)) (o : Settings) (asked : ArePoints Q) where
  short_answer : (v : ℕ) (query : List ℕ) → length (answer_after X.vectors o v query).1 ≤ o.k
  short_answer v query =
      let cut = length-take o.k (found_of X.vectors (row_in (vamana_rows X.vectors o v)) query o.search (vamana_start X.vectors o ∷ [])) in
      omega (arith, cut)

  beside_told : (run : List ℕ) → length run ≡ length Q → AreTold o (answers_beside X.vectors Q o run)
  beside_told run many =
      let is : length (answers_beside X.vectors Q o run) ≡ length Q = length-map (zip Q run) (λ z. answer_after X.vectors o z.1 z.0) ∙ zip_length Q run many in
      record {
        some = omega (arith, is, asked.limits.some);
        few = omega (arith, is, asked.limits.count);
        short = all_mapped (λ z. answer_after X.vectors o z.1 z.0) (λ a. length a.1 ≤ o.k) (zip Q run) (λ z. short_answer z.1 z.0);
      }

  last_told : AreTold o (answers_last X.vectors Q o)
  last_told =
      let is : length (answers_last X.vectors Q o) ≡ length Q = length-map Q (answer_after X.vectors o (vamana_batches X.vectors o)) in
      record {
        some = omega (arith, is, asked.limits.some);
        few = omega (arith, is, asked.limits.count);
        short = all_mapped (answer_after X.vectors o (vamana_batches X.vectors o)) (λ a. length a.1 ≤ o.k) Q (short_answer (vamana_batches X.vectors o));
      }

  lawful_length : (run : List ℕ) → is_lawful o.callers (vamana_batches X.vectors o) (length Q) run ≡ true → length run ≡ length Q
  unfolding is_lawful
  lawful_length run e =
      let within = list_all (λ v. nat_le 1 v && nat_le v (vamana_batches X.vectors o)) run in
      let rising = list_all (λ (z : ℕ × ℕ). nat_le z.0 z.1) (zip run (drop o.callers run)) in
      eqb-true (length run) (length Q) (and_both (length run == length Q) within (and_both (length run == length Q && within) rising e).0).0

  pub asked_of : (x : Session) → IsSession X Q o x → AreAsked o x
  asked_of x h = record {
    live = subst (AreTold o) (sym h.live) (beside_told (batches_in x.live) (lawful_length (batches_in x.live) h.lawful));
    last = subst (AreTold o) (sym h.last) last_told;
  }

-- `live` builds one kind
one_kind : (k : Kind) → kind_code k ≤ 1 → k ≡ Vamana
one_kind Vamana h = refl
one_kind Hnsw h = absurd (omega (arith, h))
one_kind Nnd h = absurd (omega (arith, h))

pub live_kind : (o : Settings) → IsInRange Live o → o.kind ≡ Vamana
live_kind o h = one_kind o.kind h.kind

pub live_words : (n : ℕ) (o : Settings) → IsInRange Live o → words_of n o ≡ vamana_words n o
live_words n o h = ap (λ (k : Kind). words_by k n o) (live_kind o h)

pub live_index : (X : PointSet) (o : Settings) → IsInRange Live o → vamana_of X.vectors o ≡ index_by o.kind X.vectors o
live_index X o h = index_is X o Vamana (live_kind o h)

-- the parts of the refusal
pub live_refused : (X Q : List (List ℕ)) (o : Settings) (u v w : Option Fault) → queries_unfit X Q ≡ u → words_refusal (words_of (length X) o) ≡ v → answers_refusal (length Q) o.k ≡ w
    → live_refusal X Q o ≡ option_or u (option_or v w)
unfolding live_refusal
live_refused X Q o u v w a b c = λ i. option_or (a i) (option_or (b i) (c i))

-- the refusals are of files
pub live_fault : (X Q : List (List ℕ)) (o : Settings) (fault : Fault) → live_refusal X Q o ≡ Some fault → IsOfFiles fault
unfolding live_refusal
live_fault X Q o fault e = either_fault (queries_unfit X Q) (option_or (words_refusal (words_of (length X) o)) (answers_refusal (length Q) o.k)) fault (queries_only X Q fault)
    (λ over. either_fault (words_refusal (words_of (length X) o)) (answers_refusal (length Q) o.k) fault (limit_fault Words (words_of (length X) o) MAX_WORDS fault) (limit_fault Answers (length Q * o.k) MAX_ANSWERS fault) over) e

-- what is left of a `live` once its files are read and not refused
pub live_leads : (held : Option Files) (base index queries : List ℕ) (X Q : PointSet) (o : Settings)
    → IfSome held (λ files. AreOf Base o.element (bytes_of files base) X) → IfSome held (λ files. AreOf Queries o.element (bytes_of files queries) Q)
    → IfSome held (λ files. first_refused (living base index queries o).reads files ≡ None) → live_refusal X.vectors Q.vectors o ≡ None
    → IfSome held (Leads (living base index queries o) (Some (stored_as Index index (file_of (index_of X o)))) (may_run X.vectors Q.vectors o) (live_pieces X Q.vectors o))
live_leads held base index queries X Q o points asked read fit =
    both_told held held refl (both_pair (λ files. AreOf Base o.element (bytes_of files base) X) (λ files. AreOf Queries o.element (bytes_of files queries) Q) held held refl points asked) read (λ files both accepted.
    let a : X ≡ points_in o.element (bytes_of files base) = both.0.points_are in
    let b : Q ≡ points_in o.element (bytes_of files queries) = both.1.points_are in
    record {
      accepted = refusal_is (living base index queries o) files accepted ∙ (λ i. live_refusal (sym a i).vectors (sym b i).vectors o) ∙ fit;
      meant = (points_text Base o.element (bytes_of files base) X both.0, points_text Queries o.element (bytes_of files queries) Q both.1);
      stored = ap (λ (Y : PointSet). with_file files index (file_of (index_of Y o))) a;
      runs = λ run e. subst (λ t. t ≡ true) (λ i. may_run (a i).vectors (b i).vectors o run) e;
      prints = λ run. λ i. live_pieces (a i) (b i).vectors o run;
    })

-- the text of a session's index
pub session_text : (X : PointSet) (Q : List (List ℕ)) (o : Settings) (x : Session) → IsSession X Q o x → text_of (contents x.index) ≡ file_of (index_of X o)
session_text X Q o x h = file_is (contents x.index) ∙ ap file_of h.index_is

-- the lines of a session are the pieces of its run
pub session_pieces : (X : PointSet) (Q : List (List ℕ)) (o : Settings) (x : Session) (line : List ℕ) → IsSession X Q o x → line ≡ line_of (contents x.index)
    → line ∷ (numbered_lines (batch_line During) 0 x.live ++ numbered_lines (batch_line After) 0 x.last) ≡ live_pieces X Q o (batches_in x.live)
unfolding live_pieces
session_pieces X Q o x line h told = λ i. (told ∙ ap line_of h.index_is) i ∷ (numbered_lines (batch_line During) 0 (h.live i) ++ numbered_lines (batch_line After) 0 (h.last i))
