-- What a record comes to by the refusal that it gets. Contracts speak of it, and no claim does.
use Rattle.std.specs.Prelude.{ℕ, zero, suc, List, Result, Ok, Err}
use Rattle.theory.specs.declared.refusal.Refusal.{Refusal}
use Rattle.theory.specs.acceptance.Refusals.{numbered_row}
use Rattle.theory.specs.feeding.Step.{record_number}
use Rattle.acceptance.specs.declared.admission.Admitted.{Admitted}

-- refused by the row of that number, or accepted with its record number and the kind by which it moves the clocks
abbrev pub admitted_as : ℕ → ℕ → ℕ → Result Admitted Refusal
admitted_as zero number moves = Ok (record { number = record_number number; moves = moves })
admitted_as (suc n) number moves = Err (numbered_row (suc n))

-- what an accepted record leaves, and what was there before where it is refused
abbrev pub unless : ℕ → List ℕ → List ℕ → List ℕ
unless zero after before = after
unless (suc n) after before = before
