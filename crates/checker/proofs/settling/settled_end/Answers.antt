-- By its own refusal, and as an accepted record.
use mathlib.Core.Path.{refl, sym}
use Rattle.theory.proofs.acceptance.Accepted.{accepts}
use Rattle.checker.proofs.settling.settled_end.Goals as goal

pub settled_at-requires : goal.settled_at-requires
settled_at-requires c = (accepts c.args.control.now c.args.q _ refl (sym c.in_ok-refusal.ensures)).proper
