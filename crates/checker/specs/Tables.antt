-- What the tables of a running state hold that are lent together. Contracts speak of it, and no claim does.
use Rattle.std.specs.Prelude.{◌≡◌}
use Rattle.theory.specs.declared.state.State.{State}
use Rattle.theory.specs.feeding.Lent.{Twice, state_of}
use Rattle.checker.specs.declared.tables.Tables.{Tables}

-- as one state
abbrev pub state_in : Tables → State
state_in t = state_of t.control.now t.last.now t.clocks.now t.fullclocks.now

-- at entry and at exit
abbrev pub lent_tables : Tables → Tables → Twice State
lent_tables t u = record { entry = state_in t; exit = state_in u }

-- they are the same memory: only by this does a caller know what its own tables hold
pub record SameTables (before after : Tables) : Type 0 where
  pub control : after.control.ghost_name ≡ before.control.ghost_name
  pub last : after.last.ghost_name ≡ before.last.ghost_name
  pub clocks : after.clocks.ghost_name ≡ before.clocks.ghost_name
  pub fullclocks : after.fullclocks.ghost_name ≡ before.fullclocks.ghost_name
