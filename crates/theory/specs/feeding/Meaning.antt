-- What an answer means: for each case of the enum document 01's number and values. `meaning` alone goes by the cases of the enum; the demands,
-- the numbers for a host in C and the lines of the report are made from it.
use Rattle.std.specs.Prelude.{ℕ, Bool, true, false, List, [], ◌∷◌}
use Rattle.theory.specs.declared.answer.Answer.{Answer}
use Rattle.theory.specs.declared.answer.Answer.TheVariants.{Refused, Accepted}
use Rattle.theory.specs.declared.answer.Answer.TheVariants as the
use Rattle.theory.specs.acceptance.Refusals.{row_number}
use Rattle.theory.specs.verdicts.Verdict.{Verdict, Race, Clear, Doubt}
use Rattle.theory.specs.verdicts.Search.{Finding}

pub data Meaning : Type 0 where
  -- "gets a numbered refusal": the number of a row of the table
  refuses : (row : ℕ) → Meaning
  -- taken in, and no access: its record number
  takes : (number : ℕ) → Meaning
  -- "an accepted access with a verdict": its record number, the verdict, and `with`, the record number of the partner
  judges : (number : ℕ) → Verdict → (partner : ℕ) → Meaning

abbrev pub meaning : Answer → Meaning
meaning (Refused row) = refuses (row_number row)
meaning (Accepted n) = takes n.0
meaning (the.Clear n) = judges n.0 Clear 0
meaning (the.Race n w) = judges n.0 Race w.0
meaning (the.Doubt n w) = judges n.0 Doubt w.0

-- What is read off it

abbrev pub is_refusal : Meaning → Bool
is_refusal (refuses n) = true
is_refusal (takes n) = false
is_refusal (judges n v w) = false

-- the number of a refusal; 0 for what is none
abbrev pub refusal_number : Meaning → ℕ
refusal_number (refuses n) = n
refusal_number (takes n) = 0
refusal_number (judges n v w) = 0

-- the verdict, if there is one, as a finding
abbrev pub verdict_in : Meaning → List Finding
verdict_in (refuses n) = []
verdict_in (takes n) = []
verdict_in (judges n v w) = record { number = n; verdict = v; partner = w } ∷ []
