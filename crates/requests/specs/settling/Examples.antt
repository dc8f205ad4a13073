-- Short recordings that end in an access, each with a home set and whether that can force Clear. proofs/settling/Examples.antt proves the table, by
-- computing it.
use Rattle.std.specs.Prelude.{ℕ, ◌≡◌, Bool, true, false, cond, List, [], ◌∷◌, ◌++◌, map, length, Ok}
use Rattle.theory.specs.declared.record.Record.{Record}
use Rattle.requests.specs.declared.settled.Settled.{Settled}
use Rattle.theory.specs.order.Recording.{Event, act, lost, read, take, give, start, join}
use Rattle.theory.specs.verdicts.Examples.{w0, w1, r1}
use Rattle.theory.specs.feeding.Feeding.{event_record}
use Rattle.requests.specs.settling.Forcing.{Forced}
use Rattle.requests.specs.settling.Fold.{Settling}

-- what stands before the access, the access, the home set, and the answer
pub record Question : Type 0 where
  pub before : List Event
  pub access : Event
  pub home : ℕ
  pub forced : Bool

infix 10 ◌then◌for◌gets◌
abbrev pub ◌then◌for◌gets◌ : List Event → Event → ℕ → Bool → Question
before then access for home gets forced = record { before = before; access = access; home = home; forced = forced }

-- each answer of the list is the right one
pub data AllForced : List Question → Type 0 where
  no_rows : AllForced []
  and_row : {x : Question} {xs : List Question} → Forced x.home (x.before ++ (x.access ∷ [])) (length x.before) x.forced → AllForced xs →
      AllForced (x ∷ xs)

-- an idle task that a mark names and a later join ends
abbrev pub idle : List Event
idle = act start 0 2 ∷ w0 ∷ act start 0 1 ∷ lost 2 ∷ act join 2 1 ∷ []

-- K9: both tasks may have lost records
abbrev pub both_lost : List Event
both_lost = act start 0 1 ∷ w0 ∷ lost 3 ∷ []

-- two controllers, with tasks 0 and 1 on the one and 2 and 3 on the other; what task 1 wrote, task 0 may have learned of
abbrev pub two_controllers : List Event
two_controllers = act start 0 1 ∷ act start 0 2 ∷ act start 0 3 ∷ w1 ∷ lost 15 ∷ act give 0 4 ∷ act take 2 4 ∷ []

abbrev pub questions : List Question
questions =
    (idle then act read 2 5 for 2 gets true)
    ∷ (idle then act read 2 5 for 1 gets false)
    -- the empty and the full set
    ∷ (idle then act read 2 5 for 0 gets false)
    ∷ (idle then act read 2 5 for 65535 gets true)
    -- the one has to give and the other to take
    ∷ (both_lost then w1 for 1 gets false)
    ∷ (both_lost then w1 for 2 gets false)
    ∷ (both_lost then w1 for 3 gets true)
    -- K11: the take has arrived
    ∷ (act start 0 1 ∷ w0 ∷ lost 1 ∷ act take 1 9 ∷ [] then w1 for 1 gets true)
    ∷ (act start 0 1 ∷ w0 ∷ lost 1 ∷ act take 1 9 ∷ [] then w1 for 2 gets false)
    -- a Race, also where home has tasks that the mark does not name, and a Clear
    ∷ (act start 0 1 ∷ w0 ∷ [] then r1 for 65535 gets false)
    ∷ (act start 0 1 ∷ w0 ∷ lost 2 ∷ [] then w1 for 65535 gets false)
    ∷ (w0 ∷ act start 0 1 ∷ [] then r1 for 0 gets true)
    -- either controller, and both
    ∷ (two_controllers then act read 2 5 for 3 gets true)
    ∷ (two_controllers then act read 2 5 for 12 gets false)
    ∷ (two_controllers then act read 2 5 for 15 gets true)
    -- the other controller's access needs records of both
    ∷ (two_controllers then act read 3 5 for 3 gets false)
    ∷ (two_controllers then act read 3 5 for 12 gets false)
    ∷ (two_controllers then act read 3 5 for 15 gets true)
    ∷ []

-- the records of a row, as they are fed
abbrev pub records_of : Question → List Record
records_of x = map event_record x.before ++ (event_record x.access ∷ [])

-- whatever answers lists of records gives the answers that stand there
abbrev pub SettledExamples : (ℕ → List Record → Settling) → Type 0
SettledExamples answer =
    map (λ (x : Question). answer x.home (records_of x)) questions
    ≡ map (λ (x : Question). Ok (cond x.forced Settled.Yes Settled.No)) questions
