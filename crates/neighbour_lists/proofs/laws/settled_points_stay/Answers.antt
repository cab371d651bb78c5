use Rattle.neighbour_lists.proofs.Neighbourhoods.{settled_stays}
use Rattle.neighbour_lists.proofs.laws.settled_points_stay.Goals as goal

pub returns : goal.returns
returns c = λ points list rows v below still. settled_stays points list rows v below still
