-- What the calls of a board ensure.
use Rattle.std.specs.Prelude.{◌≡◌, ◌≢◌, ℕ, [], length, Some}
use Rattle.steal_table.specs.declared.view.Entry.{Entry}
use Rattle.steal_table.specs.declared.view.Found.TheVariants.{HeldBy, DoneBy}
use Rattle.steal_table.specs.declared.board.Claim.{Claim}
use Rattle.steal_table.specs.declared.board.Claim.TheVariants.{Mine, Held, Done}
use Rattle.steal_table.specs.Rule.{HasEntry, entry}
use Rattle.steal_table.specs.Steps.{holding, finding, with_entry, NoEntry, HasEntryOf, AllBack}
use Rattle.steal_table.specs.Passes.{PassState}

-- a claim of the task t, by its answer: the pass holds the task, or has a finding
abbrev pub Claimed : PassState → ℕ → Claim → PassState → Type 0
Claimed p t Mine p' = (p' ≡ record p { view = holding p.view t; block = p'.block }) × (length p'.block ≡ p.board.size.width)
Claimed p t (Held by) p' = (p' ≡ record p { view = finding p.view t (HeldBy by) }) × (by ≢ p.view.number)
Claimed p t (Done by) p' = p' ≡ record p { view = finding p.view t (DoneBy by) }

-- where the pass has an entry of the task, the answer is `Done` with that entry's worker
abbrev pub AgreesWithEntries : PassState → ℕ → Claim → Type 0
AgreesWithEntries p t Mine = NoEntry p.view t
AgreesWithEntries p t (Held by) = NoEntry p.view t
AgreesWithEntries p t (Done by) = (e : Entry) → HasEntry p.view e → e.task ≡ t → e.worker ≡ by

-- with all numbers back the caller gets each task that it has no entry of, and finds none held
abbrev pub AloneClaims : PassState → ℕ → Claim → Type 0
AloneClaims p t Mine = NoEntry p.view t
AloneClaims p t (Held by) = ¬ AllBack p.view
AloneClaims p t (Done by) = AllBack p.view → HasEntryOf p.view t

-- the pass holds nothing, and has the entry of the task that it held
abbrev pub Finished : PassState → PassState → Type 0
Finished p p' = (t : ℕ) → p.view.held ≡ Some t → p' ≡ record p { view = with_entry p.view (entry t p.view.number p.block); block = [] }
