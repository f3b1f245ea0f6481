-- The laws of routing hold.
use Rattle.routing.specs.Laws.{RoutingLawful}
use Rattle.routing.proofs.Making as making
use Rattle.routing.proofs.Ending as ending
use Rattle.routing.proofs.Finishing as finishing

pub routing_lawful : RoutingLawful
routing_lawful p l reached chip = record {
  one_step = making.one_step p l reached chip;
  meets_rules = making.meets_rules p l reached chip;
  routes_once = ending.routes_once p l reached chip;
  never_stuck = finishing.never_stuck p l reached chip;
}
