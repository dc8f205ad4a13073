-- What is computed answers whether home can force Clear, for every list of records and every home set. The statement is in
-- specs/settling/Answer.antt. Assumes nothing.
use Rattle.std.specs.Prelude.{Ok}
use mathlib.Core.Path.{◌≡◌, refl, ◌∙◌}
use mathlib.Core.Bool.{Bool, true, false, cond}
use mathlib.Core.List.{List, [], ◌∷◌, ◌++◌}
use Prim.Native.Nat.{ℕ}
use lib.Dec.{eqb}
use lib.ListN.{length}
use Rattle.theory.specs.declared.record.Record.{Record}
use Rattle.requests.specs.declared.settled.Settled.{Settled}
use Rattle.theory.specs.order.Recording.{Event, event_of, accesses}
use Rattle.theory.specs.acceptance.Table.{refusal, recording}
use Rattle.theory.specs.acceptance.Control.{control_after}
use Rattle.theory.specs.tables.Reckonings.{clock_mask}
use Rattle.theory.specs.feeding.Step.{fresh_control}
use Rattle.requests.specs.following.Following.{fed_refusal}
use Rattle.requests.specs.settling.Fold.{home_only, Side, fresh_side, side_after, Settling, home_follower, settles}
use Rattle.requests.specs.settling.Answer.{Settles}
use Rattle.theory.proofs.tables.ClockTables.{ExactClocks, fresh_clocks}
use Rattle.theory.proofs.feeding.Simulation.{shape_of, Base, base_next, fresh_base, clocks_by}
use Rattle.requests.proofs.following.Following.{before, RightBefore, accepted, answers_without}
use Rattle.requests.proofs.settling.Tables.{home_restricts, forced_next}
use Rattle.requests.proofs.settling.Ruled.{SaysRight, settled_by}

module _ (home : ℕ) where
  -- what is kept, and the control table, are right of a recording
  record Holds (es : List Event) (control : List ℕ) (s : Side) : Type 0 where
    base : Base es control s.last
    clocks : ExactClocks (home_only home) es s.clocks

  holds_next : {es : List Event} {control : List ℕ} {s : Side} → Holds es control s → (r : Record) → refusal es r ≡ 0 →
      Holds (es ++ (event_of r ∷ [])) (control_after r.kind r.task r.on control) (side_after home control r s)
  holds_next {es} x r e =
      let h = shape_of es r e in
      record { base = base_next x.base h; clocks = clocks_by (home_restricts home) x.base x.clocks h }

  -- nothing is kept of the empty recording
  fresh_holds : Holds [] fresh_control fresh_side
  unfolding fresh_side
  fresh_holds = record { base = fresh_base; clocks = fresh_clocks }

  right_before : RightBefore (home_follower home) (λ q. Holds)
  right_before = record { keeps = λ q. record { exact = λ h. h.base.control_exact; step = λ h. holds_next h }; begins = λ q. fresh_holds }

  -- the answer for an access at the end
  says_end : (rs : List Record) (q : Record) → fed_refusal (rs ++ (q ∷ [])) ≡ 0 → accesses q.kind ≡ true →
      SaysRight home (recording rs ++ (event_of q ∷ [])) (length (recording rs)) (settles home (rs ++ (q ∷ [])))
  says_end rs q e a =
      let x = accepted right_before rs q e in
      (test, x.answer ∙ rw a (pushed test), forced_next home x.holds.clocks x.holds.base (shape_of (recording rs) q x.last) a)
    where
      kept : Side
      kept = (before (home_follower home) rs q).kept

      test : Bool
      test = eqb (clock_mask kept.clocks kept.last q.kind q.task q.on) 0

      pushed : (b : Bool) → cond {A = Settling} b (Ok Settled.Yes) (Ok Settled.No) ≡ Ok (cond b Settled.Yes Settled.No)
      pushed true = refl
      pushed false = refl

pub settled : Settles settles
settled = settled_by (record { without = λ home. answers_without (right_before home); says = says_end })
