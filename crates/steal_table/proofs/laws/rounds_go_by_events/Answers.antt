use Rattle.steal_table.proofs.RoundLaw.{goes_by_events}
use Rattle.steal_table.proofs.laws.rounds_go_by_events.Goals as goal

pub returns : goal.returns
returns c = goes_by_events
