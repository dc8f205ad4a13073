-- How contracts name lent memory: what it holds when a function begins and when it returns, and the tables of a running state as one state.
use Rattle.std.specs.Prelude.{ℕ, List}
use Rattle.std.specs.Borrow.{MutBor}
use denote.Triple.Both.{Both}
use Rattle.theory.specs.declared.state.State.{State}
use Rattle.theory.specs.declared.state.SetState.{SetState}

-- a thing at entry and at exit
abbrev pub Twice : Type 0 → Type 0
Twice X = Both X X

-- a parameter that is lent, as a contract has it
abbrev pub Lent : Type 0 → Type 0
Lent X = Twice (MutBor X)

-- what it holds
abbrev pub seen : {X : Type 0} → Lent X → Twice X
seen x = record { entry = x.entry.now; exit = x.exit.now }

-- The running state

abbrev pub state_of : List ℕ → List ℕ → List ℕ → List ℕ → State
state_of control last clocks fullclocks = record { control = control; last = last; clocks = clocks; fullclocks = fullclocks }

-- its lent tables as one state
abbrev pub tables : Lent (List ℕ) → Lent (List ℕ) → Lent (List ℕ) → Lent (List ℕ) → Twice State
tables control last clocks fullclocks =
    record {
      entry = state_of control.entry.now last.entry.now clocks.entry.now fullclocks.entry.now;
      exit = state_of control.exit.now last.exit.now clocks.exit.now fullclocks.exit.now;
    }

-- The sets

abbrev pub set_state_of : List ℕ → List ℕ → List ℕ → List ℕ → SetState
set_state_of control last sets fullsets = record { control = control; last = last; sets = sets; fullsets = fullsets }

abbrev pub set_tables : Lent (List ℕ) → Lent (List ℕ) → Lent (List ℕ) → Lent (List ℕ) → Twice SetState
set_tables control last sets fullsets =
    record {
      entry = set_state_of control.entry.now last.entry.now sets.entry.now fullsets.entry.now;
      exit = set_state_of control.exit.now last.exit.now sets.exit.now fullsets.exit.now;
    }
