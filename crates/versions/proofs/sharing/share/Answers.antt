use Rattle.versions.proofs.Searching.{total_some}
use Rattle.versions.proofs.sharing.share.Goals as goal

pub new-requires-clause-total : goal.new-requires-clause-total
new-requires-clause-total c = total_some c.args.plan.now
