-- What a line is taken for: where it says no record, one of no kind, which the step refuses by the same row.
use Rattle.std.specs.Prelude.{length, Option, unwrap_or}
use Rattle.theory.specs.declared.record.Record.{Record}
use Rattle.theory.specs.order.Recording.{kinds}

abbrev pub record_or : Option Record → Record
record_or p = unwrap_or p (record { kind = length kinds; task = 0; on = 0 })
