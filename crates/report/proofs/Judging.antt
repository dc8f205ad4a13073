-- What a line says of a verdict. Assumes nothing.
use mathlib.Core.Path.{◌≡◌, refl, sym, ap, subst}
use mathlib.Core.Bool.{Bool, true, false, cond}
use mathlib.Core.List.{List, ◌++◌}
use mathlib.Core.Logic.{◌≢◌}
use Prim.Native.Nat.{ℕ, ◌≤◌}
use native.Mathlib.Omega.{arith}
use lib.Dec.{eqb, lit≤}
use lib.ListN.{length, get_or}
use Rattle.theory.specs.declared.refusal.Refusal.{Refusal}
use Rattle.theory.specs.declared.numbers.RecordNumber.{RecordNumber}
use Rattle.theory.specs.declared.answer.Answer.{Answer}
use Rattle.theory.specs.declared.answer.Answer.TheVariants.{Refused, Accepted, Clear, Race, Doubt}
use Rattle.requests.specs.declared.excuse.Excuse.{Excuse}
use Rattle.theory.specs.declared.record.Record.{Record}
use Rattle.requests.specs.entries.Table.{entry_count, excuse_of, tables_excuse}
use Rattle.theory.specs.feeding.Meaning.{meaning}
use Rattle.theory.specs.feeding.Step.{answer_numbers}
use Rattle.text.specs.Bytes.{little}
use Rattle.text.specs.Printing.{bytes}
use Rattle.text.specs.ReportLines.{access_line, race_word, report_line, excused_for, partner_in}
use Rattle.text.specs.Words.{Opens}
use Rattle.text.proofs.Bytes.{all_below}
use Rattle.text.proofs.Words.{opens_with}
use Rattle.report.specs.declared.telling.VerdictTold.{VerdictTold}
use Rattle.report.specs.Verdicts.{TellsVerdict}

pub told_so : (verdict rest : List ℕ) (j : VerdictTold) (number partner : ℕ)
    → j ≡ record { number = number; word = little (bytes "=" ++ verdict ++ rest); len = length (bytes "=" ++ verdict); partner = partner }
    → length (bytes "=" ++ verdict ++ rest) ≡ 8 → all_below 256 (bytes "=" ++ verdict ++ rest) ≡ true
    → (j.number ≡ number) × Opens (bytes "=" ++ verdict) j.word j.len × (j.partner ≡ partner)
told_so verdict rest j number partner e l b = (
  ap (λ (t : VerdictTold). t.number) e,
  subst (λ (t : VerdictTold). Opens (bytes "=" ++ verdict) t.word t.len) (sym e) (opens_with (bytes "=" ++ verdict) rest l b),
  ap (λ (t : VerdictTold). t.partner) e,
)

-- By the case of an answer

-- what is no Race has another case
pub no_race_case : (a : Answer) → ((n w : RecordNumber) → a ≢ Race n w) → get_or (answer_numbers a) 0 0 ≢ 3
no_race_case (Refused row) f e = absurd (omega (arith, e))
no_race_case (Accepted n) f e = absurd (omega (arith, e))
no_race_case (Clear n) f e = absurd (omega (arith, e))
no_race_case (Race n w) f e = f n w refl
no_race_case (Doubt n w) f e = absurd (omega (arith, e))

-- what is neither refused nor merely accepted is a verdict
pub judged_case : (a : Answer) → ((row : Refusal) → a ≢ Refused row) → ((n : RecordNumber) → a ≢ Accepted n) → 2 ≤ get_or (answer_numbers a) 0 0
judged_case (Refused row) f g = absurd (f row refl)
judged_case (Accepted n) f g = absurd (g n refl)
judged_case (Clear n) f g = omega arith
judged_case (Race n w) f g = omega arith
judged_case (Doubt n w) f g = omega arith

-- by document 01, from the answer's three numbers
abbrev pub plainly : ℕ → ℕ → ℕ → VerdictTold
plainly case number partner =
    record {
      number = number;
      word = cond (eqb case 3) (little (bytes "=race   ")) (cond (eqb case 4) (little (bytes "=doubt  ")) (little (bytes "=clear  ")));
      len = cond (eqb case 3) 5 6;
      partner = partner;
    }

pub tells_plainly : (a : Answer) → 2 ≤ get_or (answer_numbers a) 0 0 → (line : ℕ) (r : Record)
    → TellsVerdict (report_line line r a) r.task r.on (plainly (get_or (answer_numbers a) 0 0) (get_or (answer_numbers a) 1 0) (get_or (answer_numbers a) 2 0))
unfolding all_below
tells_plainly (Refused n) h line r = absurd (omega arith)
tells_plainly (Accepted n) h line r = absurd (omega arith)
tells_plainly (Clear n) h line r =
    record { verdict = bytes "clear"; opens = opens_with (bytes "=clear") (bytes "  ") refl refl; least = lit≤ tt; most = lit≤ tt; is = refl }
tells_plainly (Race n w) h line r =
    record { verdict = bytes "race"; opens = opens_with (bytes "=race") (bytes "   ") refl refl; least = lit≤ tt; most = lit≤ tt; is = refl }
tells_plainly (Doubt n w) h line r =
    record { verdict = bytes "doubt"; opens = opens_with (bytes "=doubt") (bytes "  ") refl refl; least = lit≤ tt; most = lit≤ tt; is = refl }

-- with no entry taken in, and for what is no Race, a line is as by document 01
pub plain_line : (line : ℕ) (r : Record) (a : Answer) → excused_for line r (excuse_of false (partner_in (meaning a))) (meaning a) ≡ report_line line r a
plain_line line r (Refused n) = refl
plain_line line r (Accepted n) = refl
plain_line line r (Clear n) = refl
plain_line line r (Race n w) = refl
plain_line line r (Doubt n w) = refl

pub no_race_line : (line : ℕ) (r : Record) (x : Excuse) (a : Answer) → (get_or (answer_numbers a) 0 0 ≡ 3 → ⊥) → excused_for line r x (meaning a) ≡ report_line line r a
no_race_line line r x (Refused n) h = refl
no_race_line line r x (Accepted n) h = refl
no_race_line line r x (Clear n) h = refl
no_race_line line r x (Race n w) h = absurd (h refl)
no_race_line line r x (Doubt n w) h = refl

-- nothing is excused
pub none_taken : (control last fullclocks : List ℕ) (r : Record) (w : ℕ) → entry_count control ≡ 0 → tables_excuse control last fullclocks r w ≡ excuse_of false w
unfolding tables_excuse
none_taken control last fullclocks r w h = rw h

-- a Race by its excuse
pub tells_race : (task on : ℕ) (x : Excuse) (j : VerdictTold) (number : ℕ)
    → (j.number ≡ number) × Opens (bytes "=" ++ race_word x.known) j.word j.len × (j.partner ≡ x.partner.0)
    → TellsVerdict (access_line number task on (race_word x.known) x.partner.0) task on j
tells_race task on x j number t = let l = letters x.known in
    record {
      verdict = race_word x.known;
      opens = t.1;
      least = omega (arith, t.1.long, l.0);
      most = omega (arith, t.1.long, l.1);
      is = rw (t.0, t.2);
    }
  where
    letters : (known : Bool) → (3 ≤ length (bytes "=" ++ race_word known)) × (length (bytes "=" ++ race_word known) ≤ 6)
    letters true = (lit≤ tt, lit≤ tt)
    letters false = (lit≤ tt, lit≤ tt)
