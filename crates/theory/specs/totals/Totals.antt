-- The totals: for each variable how many accesses were Clear, Race and Doubt, and how many Races there were anywhere. They lie in the control table,
-- after what acceptance looks at.
use Rattle.std.specs.Prelude.{ℕ, ◌+◌, ◌*◌, Bool, cond, List, ltb, get_or, Option, Some, None}
use Rattle.theory.specs.declared.verdict_totals.Totals.{Totals}
use Rattle.theory.specs.order.Limits.{tasks, variables}
use Rattle.theory.specs.tables.Counters.{raise}
use Rattle.theory.specs.acceptance.Control.{acceptance_cells}
use Rattle.theory.specs.verdicts.Verdict.{Verdict, Race, Clear, Doubt}
use Rattle.theory.specs.feeding.Meaning.{Meaning, refuses, takes, judges}

-- where the Races anywhere are counted
abbrev pub races_at : ℕ
races_at = acceptance_cells

-- where the verdicts w on variable v are
abbrev pub first_total : ℕ
first_total = races_at + 1

abbrev pub verdict_place : Verdict → ℕ
verdict_place Clear = 0
verdict_place Race = 1
verdict_place Doubt = 2

abbrev pub total_at : Verdict → ℕ → ℕ
total_at w v = first_total + verdict_place w * variables + v

-- what a planner has accepted lies after them (specs/entries of requests): how many entries were taken in, and a cell for each variable and task
abbrev pub entries_at : ℕ
entries_at = first_total + 3 * variables

-- so many cells has the control table
abbrev pub control_cells : ℕ
control_cells = entries_at + 1 + variables * tasks

-- How they are read

abbrev pub total : Verdict → ℕ → List ℕ → ℕ
total w v control = get_or control (total_at w v) 0

abbrev pub races : List ℕ → ℕ
races control = get_or control races_at 0

-- "whether any variable has a Race yet", in one look
abbrev pub any_race : List ℕ → Bool
any_race control = ltb 0 (races control)

-- a variable's totals
abbrev pub totals_in : List ℕ → ℕ → Totals
totals_in control v = record { clear = total Clear v control; race = total Race v control; doubt = total Doubt v control }

-- those of any number: none where there is no such variable
abbrev pub totals_of : List ℕ → ℕ → Option Totals
totals_of control v = cond (ltb v variables) (Some (totals_in control v)) None

-- How they are kept

-- a verdict on an access of variable v
abbrev pub with_verdict : Verdict → ℕ → List ℕ → List ℕ
with_verdict Clear v control = raise (total_at Clear v) control
with_verdict Race v control = raise races_at (raise (total_at Race v) control)
with_verdict Doubt v control = raise (total_at Doubt v) control

-- what a record with this number was answered: only a verdict counts
abbrev pub totalled : Meaning → ℕ → List ℕ → List ℕ
totalled (refuses n) on control = control
totalled (takes n) on control = control
totalled (judges n w p) on control = with_verdict w on control
