-- What a file of accepted faults comes to, and what a report has beside it. Assumes nothing.
use mathlib.Core.Path.{◌≡◌, refl, sym, ◌∙◌, ap, subst}
use mathlib.Core.Bool.{Bool, true, false, not}
use mathlib.Core.List.{List, [], ◌∷◌, ◌++◌}
use Prim.Native.Nat.{ℕ, zero, suc, ◌-◌, ◌≤◌, ◌<◌}
use native.Mathlib.Omega.{arith}
use borrow.Author.Tests.{lt-ltb, ltb-true, ltb-false, not-true, not-false}
use lib.Dec.{ltb}
use lib.ListN.{length, take}
use Rattle.std.proofs.lemmas.Option.{none-some}
use Rattle.std.specs.Prelude.{Option, Some, None}
use Rattle.theory.specs.declared.record.Record.{Record}
use Rattle.theory.specs.declared.state.State.{State}
use Rattle.theory.specs.order.Limits as Limits
use Rattle.theory.specs.order.Recording.{Event}
use Rattle.theory.specs.acceptance.Table.{refusal, append_unless}
use Rattle.theory.specs.verdicts.Verdict.{Race, Clear, Doubt}
use Rattle.theory.specs.feeding.Meaning.{Meaning, refuses, takes, judges, meaning}
use Rattle.theory.specs.feeding.Step.{fresh_state, fresh_control}
use Rattle.theory.specs.feeding.Feeding.{by_clocks}
use Rattle.theory.specs.totals.Totals.{entries_at, control_cells}
use Rattle.requests.specs.entries.Table.{entry_count, entries_full, entered, after_entry, excuse}
use Rattle.requests.specs.entries.Known.{Fault, Fits, AllFit, none_left, and_fits, entered_all, start_with}
use Rattle.theory.proofs.totals.Kept.{fresh_control_cell}
use Rattle.theory.proofs.acceptance.ControlTable.{fresh_control_lem}
use Rattle.theory.proofs.feeding.Simulation.{Represents, base_control, fresh_base, clocks_simulate}
use Rattle.requests.proofs.entries.Taken.{taken_all, entered_taken, entered_size, is_entered}
use Rattle.text.specs.declared.entry.Entry.{Entry}
use Rattle.text.specs.LineForm.{parse_of}
use Rattle.text.specs.Stream.{lines_said, lines_after}
use Rattle.text.specs.EntryForm.{InForm, TextOf, entry_of}
use Rattle.text.specs.ReportLines.{refused_line, line_for}
use Rattle.text.specs.Report.{said_beside, said_for, state_after, record_reader, report_of}
use Rattle.text.specs.Entries.{said_for_entry, control_with, entry_reader}
use Rattle.text.specs.TextKnown.{EntryGot, no_entry, no_room, took_in, EntriesGot, no_entries, an_entry, faults_by, faults_in, FilesRead, AsRace, the_same, a_race, AsRaces, no_line, a_line, RaceOrKnown, EntriesCut, WithoutEntries}
use Rattle.text.proofs.EntryForm.{entry_taken, only_entry_text, only_in_form}
use Rattle.text.proofs.Stream.{cuts_alike, ends_alike}
use Rattle.text.proofs.Pieces.{held_enough}
use Rattle.text.proofs.Entries.{entries_held}
use Rattle.text.proofs.Excused.{NoEntries, said_plain, none_after, none_fresh}

-- The file

-- an entry in form, as a fault, has its numbers in their ranges
abbrev fault_of : Entry → Fault
fault_of e = record { variable = e.var; low = e.low; high = e.high; accepted = e.accepted }

fault_fits : {e : Entry} → InForm e → Fits (fault_of e)
fault_fits f = record { variable_fits = f.var_within; lower = f.low_lower; high_fits = f.high_within }

-- what is taken in where there is room, and what is not
taken_in_lem : {e : Entry} (control : List ℕ) → InForm e → length control ≡ control_cells → entries_full control ≡ false →
    after_entry e.var e.low e.high e.accepted control ≡ entered e.var e.low e.high e.accepted control
taken_in_lem {e} control f size q = is_entered (fault_of e) (fault_fits f) control size (room q)
  where
    room : not (ltb (entry_count control) Limits.entries) ≡ false → entry_count control < Limits.entries
    room q = ltb-true (entry_count control) Limits.entries (not-false (ltb (entry_count control) Limits.entries) q)

module _ {e : Entry} (control : List ℕ) (f : InForm e) where
  -- there is no room: the table stays
  left_out : entries_full control ≡ true → after_entry e.var e.low e.high e.accepted control ≡ control
  left_out q =
      let l : e.low < Limits.tasks = omega (arith, f.low_lower, f.high_within) in
      rw (lt-ltb e.var Limits.variables f.var_within, lt-ltb e.low Limits.tasks l, lt-ltb e.high Limits.tasks f.high_within, q)

-- what a line is, by what it says
entry_form : (line : List ℕ) {e : Entry} → entry_of line ≡ Some e → InForm e × (TextOf e line)
entry_form line {e} q = (only_in_form line e q, only_entry_text line e q)

not_form : (line : List ℕ) → entry_of line ≡ None → (e : Entry) → InForm e → ¬ (TextOf e line)
not_form line q e f p =
    none-some e (sym q ∙ entry_taken e f line p)

-- one line: what it gets, and that the table keeps its size
record OneRead (n : ℕ) (control line : List ℕ) (x : Option Entry) : Type 0 where
  got : EntryGot n control line (control_with control x) (said_for_entry n control x)
  size : length (control_with control x) ≡ control_cells

one_read : (n : ℕ) (control line : List ℕ) → length control ≡ control_cells → (x : Option Entry) → entry_of line ≡ x → OneRead n control line x
one_read n control line size None q = record { got = no_entry (not_form line q); size = size }
one_read n control line size (Some e) q = let (f, p) = entry_form line q in decided f p (entries_full control) refl
  where
    decided : InForm e → TextOf e line → (b : Bool) → entries_full control ≡ b → OneRead n control line (Some e)
    decided f p true z = record { got = rw (left_out control f z, z) (no_room f p z); size = rw (left_out control f z) size }
    decided f p false z =
        record {
          got = rw (taken_in_lem control f size z, z) (took_in f p z);
          size = rw (taken_in_lem control f size z) (entered_size (fault_of e) (fault_fits f) control size);
        }

all_got : (n : ℕ) (control : List ℕ) (lines : List (List ℕ)) → length control ≡ control_cells → EntriesGot n control lines (lines_after entry_reader control lines) (lines_said entry_reader n control lines)
unfolding lines_after lines_said
all_got n control [] size = no_entries
all_got n control (line ∷ lines) size =
    let x = one_read n control line size (entry_of line) refl in
    an_entry x.got (all_got (suc n) (control_with control (entry_of line)) lines x.size)

-- the faults of a file fit
faults_fit : (lines : List (List ℕ)) → AllFit (faults_in lines)
faults_fit [] = none_left
faults_fit (line ∷ lines) = of (entry_of line) refl (faults_fit lines)
  where
    of : (x : Option Entry) → entry_of line ≡ x → AllFit (faults_in lines) → AllFit (faults_by x (faults_in lines))
    of None q fs = fs
    of (Some e) q fs = and_fits (fault_fits (entry_form line q).0) fs

take_fit : (k : ℕ) {fs : List Fault} → AllFit fs → AllFit (take k fs)
take_fit zero x = none_left
take_fit (suc k) none_left = none_left
take_fit (suc k) (and_fits x xs) = and_fits x (take_fit k xs)

-- the table after lines: as many of their entries as there is room for
table_after : (lines : List (List ℕ)) (control : List ℕ) → length control ≡ control_cells →
    lines_after entry_reader control lines ≡ entered_all (take (Limits.entries - entry_count control) (faults_in lines)) control
unfolding lines_after
table_after [] control size = none (Limits.entries - entry_count control)
  where
    none : (k : ℕ) → control ≡ entered_all (take k []) control
    none zero = refl
    none (suc k) = refl
table_after (line ∷ lines) control size = of (entry_of line) refl (λ c z. table_after lines c z)
  where
    of : (x : Option Entry) → entry_of line ≡ x → ((c : List ℕ) → length c ≡ control_cells → lines_after entry_reader c lines ≡ entered_all (take (Limits.entries - entry_count c) (faults_in lines)) c) →
        lines_after entry_reader (control_with control x) lines ≡ entered_all (take (Limits.entries - entry_count control) (faults_by x (faults_in lines))) control
    of None q rest = rest control size
    of (Some e) q rest = decided (entry_form line q).0 (entries_full control) refl
      where
        decided : InForm e → (b : Bool) → entries_full control ≡ b →
            lines_after entry_reader (after_entry e.var e.low e.high e.accepted control) lines ≡ entered_all (take (Limits.entries - entry_count control) (fault_of e ∷ faults_in lines)) control
        decided f true z =
            let k : Limits.entries - entry_count control ≡ 0 = no_more z in
            rw (left_out control f z, k) (rest control size ∙ ap (λ (m : ℕ). entered_all (take m (faults_in lines)) control) k)
          where
            no_more : not (ltb (entry_count control) Limits.entries) ≡ true → Limits.entries - entry_count control ≡ 0
            no_more y = omega (arith, ltb-false (entry_count control) Limits.entries (not-true (ltb (entry_count control) Limits.entries) y))
        decided f false z =
            let c = entered e.var e.low e.high e.accepted control in
            let s = entered_size (fault_of e) (fault_fits f) control size in
            let t : entry_count (entered e.var e.low e.high e.accepted control) ≡ suc (entry_count control) = entered_taken (fault_of e) (fault_fits f) control size in
            let k : Limits.entries - entry_count control ≡ suc (Limits.entries - suc (entry_count control)) = some z in
            rw (k, taken_in_lem control f size z)
            (rest c s ∙ (ap (λ (m : ℕ). entered_all (take (Limits.entries - m) (faults_in lines)) c) t ∙ ap (entered_all (take (Limits.entries - suc (entry_count control)) (faults_in lines))) (sym (taken_in_lem control f size z))))
          where
            some : not (ltb (entry_count control) Limits.entries) ≡ false → Limits.entries - entry_count control ≡ suc (Limits.entries - suc (entry_count control))
            some y = omega (arith, ltb-true (entry_count control) Limits.entries (not-false (ltb (entry_count control) Limits.entries) y))

fresh_taken : entry_count fresh_control ≡ 0
fresh_taken = fresh_control_cell entries_at (omega arith) (omega arith)

pub files_read : FilesRead
files_read lines =
    record {
      got = all_got 1 fresh_control lines fresh_control_lem.size;
      fit = take_fit Limits.entries (faults_fit lines);
      table = table_after lines fresh_control fresh_control_lem.size ∙ ap (λ (m : ℕ). entered_all (take (Limits.entries - m) (faults_in lines)) fresh_control) fresh_taken;
    }

pub entries_cut : EntriesCut
entries_cut files pieces =
    record {
      file = cuts_alike entry_reader entries_held fresh_control files;
      table = ends_alike entry_reader entries_held fresh_control files;
      report = λ s. cuts_alike record_reader held_enough s pieces;
    }

-- The report

-- what is printed for an answer beside entries, and without them
as_race : (n : ℕ) (r : Record) (s : State) (m : Meaning) → AsRace (said_beside n r s m) (line_for n r m)
as_race n r s (refuses number) = the_same
as_race n r s (takes number) = the_same
as_race n r s (judges number Clear partner) = the_same
as_race n r s (judges number Doubt partner) = the_same
as_race n r s (judges number Race partner) = a_race number r.task r.on partner (excuse s r partner).partner.0 (excuse s r partner).known

-- two states of one recording, the second without entries, fed the same lines
as_races : (lines : List (List ℕ)) (n : ℕ) (es : List Event) (s z : State) → Represents es s → Represents es z → NoEntries z → AsRaces (lines_said record_reader n s lines) (lines_said record_reader n z lines)
unfolding lines_said
as_races [] n es s z x y none = no_line
as_races (line ∷ lines) n es s z x y none = by_parse (parse_of line) (λ es s z x y none. as_races lines (suc n) es s z x y none)
  where
    by_parse : (p : Option Record) → ((es : List Event) (s z : State) → Represents es s → Represents es z → NoEntries z → AsRaces (lines_said record_reader (suc n) s lines) (lines_said record_reader (suc n) z lines)) →
        AsRaces (said_for n s p ++ lines_said record_reader (suc n) (state_after s p) lines) (said_for n z p ++ lines_said record_reader (suc n) (state_after z p) lines)
    by_parse None rest = a_line {said = refused_line n 1} {said' = refused_line n 1} the_same (rest es s z x y none)
    by_parse (Some r) rest =
        let (e, x') = clocks_simulate.steps es s r x in
        let (q, y') = clocks_simulate.steps es z r y in
        a_line (said r (e ∙ sym q)) (rest (append_unless es r (refusal es r)) (by_clocks.next s r) (by_clocks.next z r) x' y' (none_after z (Some r) none))
      where
        said : (r : Record) → meaning (by_clocks.answer s r) ≡ meaning (by_clocks.answer z r) → AsRace (said_for n s (Some r)) (said_for n z (Some r))
        said r e =
            subst (AsRace (said_for n s (Some r))) (sym (said_plain n r (by_clocks.next z r) (meaning (by_clocks.answer z r)) (none_after z (Some r) none)))
            (subst (λ (m : Meaning). AsRace (said_beside n r (by_clocks.next s r) (meaning (by_clocks.answer s r))) (line_for n r m)) e (as_race n r (by_clocks.next s r) (meaning (by_clocks.answer s r))))

starts : (fs : List Fault) → AllFit fs → length fs ≤ Limits.entries → Represents [] (start_with fs)
unfolding fresh_state
starts fs fit few =
    let x = taken_all fs fit fresh_control fresh_control_lem.size (omega (arith, fresh_taken)) in
    record {
      base = base_control fresh_base (x.exact fresh_control_lem);
      clocks = clocks_simulate.begins.clocks;
    }

pub race_or_known : RaceOrKnown
race_or_known fs fit few lines = as_races lines 1 [] (start_with fs) fresh_state (starts fs fit few) clocks_simulate.begins none_fresh

pub without_entries : WithoutEntries
unfolding report_of fresh_state
without_entries text = refl
