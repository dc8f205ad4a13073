-- What is promised of a line that was read ahead, if one was. Contracts speak of it, and no claim does.
use Rattle.std.specs.Prelude.{◌≡◌, Bool, true, false, List, ℕ, ◌+◌, Option}
use Rattle.theory.specs.declared.record.Record.{Record}
use Rattle.theory.specs.declared.state.State.{State}
use Rattle.theory.specs.feeding.Lent.{Twice}
use Rattle.text.specs.Answers.{LineAnswered}
use Rattle.report.specs.declared.answering.Reached.{Reached}

-- the line is answered where one is held; else all is as it was
pub record HeldAnswered (out : Twice (List ℕ)) (before : Reached) (held : Bool) (state : Twice State) (parsed : Option Record) (after : Reached) : Type 0 where
  pub answered : held ≡ true → LineAnswered out before.at (before.lines + 1) state parsed after.at
  pub counts : held ≡ true → after.lines ≡ before.lines + 1
  pub same : held ≡ false → (out.exit ≡ out.entry) × (state.exit ≡ state.entry) × (after ≡ before)
