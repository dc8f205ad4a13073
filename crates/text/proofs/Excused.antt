-- Where no entry was taken in, what the report has is document 01's, and no record changes that. Assumes nothing.
use mathlib.Core.Path.{◌≡◌, refl, ◌∙◌}
use Prim.Native.Nat.{ℕ}
use native.Mathlib.Omega.{arith}
use mathlib.Core.Bool.{false}
use Rattle.std.specs.Prelude.{Option, Some, None}
use Rattle.theory.specs.declared.record.Record.{Record}
use Rattle.theory.specs.declared.state.State.{State}
use Rattle.theory.specs.verdicts.Verdict.{Race, Clear, Doubt}
use Rattle.theory.specs.feeding.Meaning.{Meaning, refuses, takes, judges}
use Rattle.theory.specs.feeding.Step.{fresh_state}
use Rattle.theory.specs.totals.Totals.{entries_at}
use Rattle.requests.specs.entries.Table.{entry_count, excuse_of}
use Rattle.theory.proofs.totals.Kept.{fresh_control_cell}
use Rattle.requests.proofs.entries.Kept.{taken_kept, no_excuse}
use Rattle.text.specs.ReportLines.{line_for, excused_for, partner_in}
use Rattle.text.specs.Report.{said_beside, state_after}

-- no entry was taken in
abbrev pub NoEntries : State → Type 0
NoEntries s = entry_count s.control ≡ 0

pub said_plain : (n : ℕ) (r : Record) (s : State) (m : Meaning) → NoEntries s → said_beside n r s m ≡ line_for n r m
said_plain n r s m e = rw (no_excuse s r (partner_in m) e) (plain m)
  where
    plain : (m : Meaning) → excused_for n r (excuse_of false (partner_in m)) m ≡ line_for n r m
    plain (refuses number) = refl
    plain (takes number) = refl
    plain (judges number Race partner) = refl
    plain (judges number Clear partner) = refl
    plain (judges number Doubt partner) = refl

pub none_after : (s : State) (p : Option Record) → NoEntries s → NoEntries (state_after s p)
none_after s None e = e
none_after s (Some r) e = taken_kept s r ∙ e

pub none_fresh : NoEntries fresh_state
unfolding fresh_state
none_fresh = fresh_control_cell entries_at (omega arith) (omega arith)
