-- Tables that are lent on stay the same memory. Assumes nothing.
use mathlib.Core.Path.{◌∙◌}
use Rattle.checker.specs.declared.tables.Tables.{Tables}
use Rattle.checker.specs.Tables.{SameTables}

pub same_on : {a b c : Tables} → SameTables a b → SameTables b c → SameTables a c
same_on s t =
    record { control = t.control ∙ s.control; last = t.last ∙ s.last; clocks = t.clocks ∙ s.clocks; fullclocks = t.fullclocks ∙ s.fullclocks }
