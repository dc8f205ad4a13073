-- The answer for a record at the end of others that were accepted has its refusal. Assumes nothing.
use mathlib.Core.Path.{◌≡◌, refl}
use Rattle.std.specs.Prelude.{Ok}
use mathlib.Core.Bool.{Bool, true, false, cond}
use mathlib.Core.List.{List}
use Prim.Native.Nat.{ℕ, zero, suc}
use lib.Dec.{eqb}
use Rattle.theory.specs.declared.record.Record.{Record}
use Rattle.theory.specs.acceptance.Refusals.{refusal_in}
use Rattle.theory.specs.acceptance.Control.{control_standing, control_refusal}
use Rattle.theory.specs.order.Recording.{accesses}
use Rattle.theory.specs.tables.Reckonings.{clock_mask}
use Rattle.requests.specs.following.Following.{run_of, answered_at, ending}
use Rattle.requests.specs.declared.settled.Settled.{Settled}
use Rattle.requests.specs.settling.Fold.{Side, unsettled, home_follower}
use Rattle.theory.proofs.acceptance.Numbered.{refused_by_row}

pub end_refusal : (home : ℕ) (control : List ℕ) (s : Side) (r : Record) → refusal_in (ending (home_follower home) r (run_of 0 control s)) ≡ control_refusal control r
end_refusal home control s r = of (control_refusal control r) refl
  where
    no_refusal_lem : (a b : Bool) → refusal_in (cond a (cond b (Ok Settled.Yes) (Ok Settled.No)) (unsettled 0)) ≡ 0
    no_refusal_lem true true = refl
    no_refusal_lem true false = refl
    no_refusal_lem false b = refl

    of : (n : ℕ) → control_refusal control r ≡ n → refusal_in (answered_at (home_follower home) r (run_of 0 control s) n) ≡ n
    of zero e = no_refusal_lem (accesses r.kind) (eqb (clock_mask s.clocks s.last r.kind r.task r.on) 0)
    of (suc n) e = refused_by_row (control_standing control) r n e
