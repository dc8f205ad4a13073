-- Lines of document 01's example, as the definitions give them, and the longest numbers. Assumes nothing.
use mathlib.Core.Path.{◌≡◌, refl}
use Prim.Native.Nat.{ℕ, ◌^◌, ◌-◌}
use Rattle.theory.specs.order.Limits.{records}
use Rattle.theory.specs.order.Recording.{Op, kind}
use Rattle.theory.specs.declared.record.Record.{Record}
use Rattle.theory.specs.declared.answer.Answer.TheVariants.{Refused, Accepted, Clear, Race, Doubt}
use Rattle.theory.specs.declared.refusal.Refusal.TheVariants.{TaskNotLive}
use Rattle.text.specs.Printing.{bytes, last_digits, width_in, width, decimal, record_text}
use Rattle.text.specs.ReportLines.{refused_as, access_part, access_line, report_line}

abbrev record_of_lem : Op → ℕ → ℕ → Record
record_of_lem op task on = record { kind = kind op; task = task; on = on }

started : report_line 1 (record_of_lem Op.start 0 1) (Accepted (record { 0 = 1 })) ≡ bytes ""
started = refl

clear : report_line 2 (record_of_lem Op.write 0 5) (Clear (record { 0 = 2 })) ≡ bytes "rec=0000002 task=0 var=5 verdict=clear with=0000000\n"
unfolding access_part access_line decimal width width_in last_digits
clear = refl

doubt : report_line 6 (record_of_lem Op.read 1 5) (Doubt (record { 0 = 6 }) (record { 0 = 2 })) ≡ bytes "rec=0000006 task=1 var=5 verdict=doubt with=0000002\n"
unfolding access_part access_line decimal width width_in last_digits
doubt = refl

race : report_line 7 (record_of_lem Op.read 1 6) (Race (record { 0 = 7 }) (record { 0 = 4 })) ≡ bytes "rec=0000007 task=1 var=6 verdict=race with=0000004\n"
unfolding access_part access_line decimal width width_in last_digits
race = refl

refused : report_line 10 (record_of_lem Op.read 2 5) (Refused TaskNotLive) ≡ bytes "line=10 refused=6\n"
unfolding refused_as decimal width width_in last_digits
refused = refl

longest : decimal (2 ^ 64 - 1) ≡ bytes "18446744073709551615"
unfolding decimal width width_in last_digits
longest = refl

last_record : record_text records ≡ bytes "4000000"
unfolding last_digits
last_record = refl
