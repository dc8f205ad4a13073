-- A recording that comes in pieces: its report does not depend on the cut. Instances of Stream.antt. Assumes nothing.
use mathlib.Core.Path.{◌≡◌, ap}
use mathlib.Core.List.{List, [], ◌∷◌, ◌++◌}
use Prim.Native.Nat.{ℕ, suc}
use lib.ListN.{take}
use Rattle.theory.specs.declared.state.State.{State}
use Rattle.theory.specs.feeding.Step.{fresh_state}
use Rattle.text.specs.Lines.{lf}
use Rattle.text.specs.LineForm.{parse_of}
use Rattle.text.specs.Stream.{HeldEnough}
use Rattle.text.specs.Report.{said_for, state_after, record_reader, report_of}
use Rattle.text.specs.Pieces.{Kept, kept, held_most, said_at, after_byte, said_in, after_piece, AnyCut}
use Rattle.text.proofs.Bytes.{Without}
use Rattle.text.proofs.Stream as Stream
use Rattle.text.proofs.RoundTrip.{long_refused}

-- what is held of a line says what the line does
pub parse_held : (s : List ℕ) → parse_of (take held_most s) ≡ parse_of s
parse_held = Stream.held_same parse_of long_refused

-- so a recording's lines may be held so
pub held_enough : HeldEnough record_reader
held_enough = record { same_said = λ n s l. ap (said_for n s) (parse_held l); same_next = λ s l. ap (state_after s) (parse_held l) }

-- what is kept where a line has begun with h
abbrev pub kept_with : State → ℕ → List ℕ → Kept
kept_with s n h = kept s n (take held_most h)

pub at_lf : (s : State) (n : ℕ) (h : List ℕ) → said_at (kept_with s n h) lf ≡ said_for (suc n) s (parse_of h)
at_lf = Stream.at_lf record_reader held_enough

pub after_lf_lem : (s : State) (n : ℕ) (h : List ℕ) → after_byte (kept_with s n h) lf ≡ kept_with (state_after s (parse_of h)) (suc n) []
after_lf_lem = Stream.after_lf_lem record_reader held_enough

pub at_other : (k : Kept) (b : ℕ) → (b ≡ lf → ⊥) → said_at k b ≡ []
at_other = Stream.at_other record_reader held_enough

pub after_other : (s : State) (n : ℕ) (h : List ℕ) (b : ℕ) → (b ≡ lf → ⊥) → after_byte (kept_with s n h) b ≡ kept_with s n (h ++ (b ∷ []))
after_other = Stream.after_other record_reader held_enough

pub said_append : (k : Kept) (a b : List ℕ) → said_in k (a ++ b) ≡ said_in k a ++ said_in (after_piece k a) b
said_append = Stream.said_append record_reader held_enough

pub after_append : (k : Kept) (a b : List ℕ) → after_piece k (a ++ b) ≡ after_piece (after_piece k a) b
after_append = Stream.after_append record_reader held_enough

pub rest_held : (s : State) (n : ℕ) (h l : List ℕ) → Without lf l
    → (said_in (kept_with s n h) l ≡ []) × (after_piece (kept_with s n h) l ≡ kept_with s n (h ++ l))
rest_held = Stream.rest_held record_reader held_enough

pub line_said : (s : State) (n : ℕ) (h l rest : List ℕ) → Without lf l
    → said_in (kept_with s n h) (l ++ (lf ∷ rest))
    ≡ said_for (suc n) s (parse_of (h ++ l)) ++ said_in (kept_with (state_after s (parse_of (h ++ l))) (suc n) []) rest
line_said = Stream.line_said record_reader held_enough

pub line_after : (s : State) (n : ℕ) (h l rest : List ℕ) → Without lf l
    → after_piece (kept_with s n h) (l ++ (lf ∷ rest)) ≡ after_piece (kept_with (state_after s (parse_of (h ++ l))) (suc n) []) rest
line_after = Stream.line_after record_reader held_enough

pub any_cut : AnyCut
unfolding report_of
any_cut = Stream.cuts_alike record_reader held_enough fresh_state
