-- What F-13 demands of takes without clock work, for every list of records. proofs/skipping proves it.
use Rattle.std.specs.Prelude.{ℕ, ◌≡◌, false, cond, List}
use Rattle.theory.specs.declared.record.Record.{Record}
use Rattle.theory.specs.declared.state.State.{State}
use Rattle.theory.specs.declared.state.Stepped.{Stepped}
use Rattle.theory.specs.order.Recording.{miss, kind, event_of}
use Rattle.theory.specs.acceptance.Owning.{under}
use Rattle.theory.specs.acceptance.Table.{refusal, recording}
use Rattle.theory.specs.acceptance.Control.{skipped_in, control_refusal}
use Rattle.theory.specs.feeding.Step.{clock_kind, step_unless_as, fresh_state}
use Rattle.theory.specs.feeding.Feeding.{Checker, runs, after_all, by_clocks}
use Rattle.theory.specs.skipping.Skipping.{skips, skipped_takes}

-- "the clocks without skipping": each record moves them by its own kind
unfoldable pub plain_step_of : State → Record → Stepped
plain_step_of s r = step_unless_as (control_refusal s.control r) r.kind s r

abbrev pub by_plain_clocks : Checker State
by_plain_clocks =
    record { fresh = fresh_state; control = λ s. s.control; next = λ s r. (plain_step_of s r).state; answer = λ s r. (plain_step_of s r).answer }

-- "For every list the verdicts and partners are those of the clocks without skipping": all that is answered, and the state
pub record AsPlain (rs : List Record) : Type 0 where
  pub answers : runs by_clocks rs ≡ runs by_plain_clocks rs
  pub state : after_all by_clocks fresh_state rs ≡ after_all by_plain_clocks fresh_state rs

abbrev pub SameAsPlain : Type 0
SameAsPlain = (rs : List Record) → AsPlain rs

-- "Do it so": after every list, an accepted record moves the clocks as a miss does where it is such a take, and as itself where not
abbrev pub SkipsThese : Type 0
SkipsThese =
    (rs : List Record) (r : Record) → refusal (recording rs) r ≡ 0 →
    clock_kind (after_all by_clocks fresh_state rs).control r.kind r.task r.on ≡ cond (skips (recording rs) (event_of r)) (kind miss) r.kind

-- how many takes a checker has counted as skipped after a list
abbrev pub counted_skips : {S : Type 0} → Checker S → List Record → ℕ
counted_skips c rs = skipped_in (c.control (after_all c c.fresh rs))

-- "The result carries the number of takes skipped, equal to the number of such takes among the accepted records of the list"
abbrev pub CountsSkips : {S : Type 0} → Checker S → Type 0
CountsSkips c = (rs : List Record) → counted_skips c rs ≡ skipped_takes (recording rs)

-- "In the owned profile": outside it none is
abbrev pub SkipsUnder : {S : Type 0} → Checker S → Type 0
SkipsUnder c = (rs : List Record) → under (recording rs) ≡ false → counted_skips c rs ≡ 0
