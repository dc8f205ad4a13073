-- Reading the file of accepted faults byte by byte: what is said and kept so far is that of the bytes so far. Assumes nothing.
use mathlib.Core.Path.{◌≡◌, refl, sym, ap, ◌∙◌}
use mathlib.Core.Bool.{Bool, true, false, cond, ◌&&◌}
use mathlib.Core.List.{List, [], ◌∷◌, ◌++◌, append-nil}
use Prim.Native.Nat.{ℕ, ◌+◌, ◌≤◌, ◌<◌}
use native.Mathlib.Numerals.{add-one}
use native.Mathlib.Omega.{arith}
use lib.ListN.{length, take, get_or, length-append, length-take}
use lib.Seq.{sets, length-sets, take-suc, take_all}
use borrow.Author.Tests.{eq-eqb, ne_eqb}
use Rattle.std.specs.Prelude.{Option, Some}
use Rattle.theory.specs.feeding.Lent.{Twice}
use Rattle.requests.specs.entries.Table.{entries_full, entered, pair_in_range}
use Rattle.text.specs.declared.entry.Entry.{Entry}
use Rattle.text.specs.declared.progress.Progress.{Progress}
use Rattle.text.specs.Lines.{lf, line_room}
use Rattle.text.specs.Wrote.{Wrote}
use Rattle.text.specs.EntryForm.{entry_of}
use Rattle.text.specs.Stream.{Pending, pending, held_most, byte_said, byte_kept, piece_said, piece_kept, pending_in}
use Rattle.text.specs.ReportLines.{refused_entry}
use Rattle.text.specs.Entries.{said_for_entry, control_with, entry_reader}
use Rattle.text.specs.Answers.{PieceFits}
use Rattle.text.specs.EntriesRead.{EntriesFit, EntriesRead, EntriesAnswered}
use Rattle.text.proofs.Wrote.{◌then◌, wrote_nothing, front, as_long}
use Rattle.text.proofs.Stream.{said_append, after_append}
use Rattle.text.proofs.Entries.{entries_held}
use Rattle.text.proofs.Held.{front_held}

-- An entry

full_kept : (control : List ℕ) (e : Entry) → entries_full control ≡ true → control_with control (Some e) ≡ control
full_kept control e h = rw h (none (pair_in_range e.var e.low e.high))
  where
    none : (b : Bool) → cond (b && false) (entered e.var e.low e.high e.accepted control) control ≡ control
    none true = refl
    none false = refl

-- one for which there is no room is left out
pub left_out : (n : ℕ) (control : List ℕ) {l : Option Entry} {e : Entry} → l ≡ Some e → entries_full control ≡ true
    → (said_for_entry n control l ≡ refused_entry n 13) × (control_with control l ≡ control)
left_out n control {e = e} q h = (rw (q, h), rw q (full_kept control e h))

-- nothing is said for one that is taken in
pub taken_in_lem : (n : ℕ) (control : List ℕ) {l : Option Entry} {e : Entry} → l ≡ Some e → entries_full control ≡ false → said_for_entry n control l ≡ []
taken_in_lem n control q h = rw (q, h)

-- memory at entry and at exit
abbrev pub both_times : List ℕ → List ℕ → Twice (List ℕ)
both_times before after = record { entry = before; exit = after }

-- Byte by byte

pub none_read : {out line control : List ℕ} {begun : Progress} → begun.held ≤ held_most → EntriesRead (both_times out out) (both_times line line) (both_times control control) begun [] begun
unfolding piece_said piece_kept
none_read h = record { wrote = wrote_nothing; keeps = refl; room = omega arith; short = h; holds = refl; counted = omega arith }

module _ (line control : List ℕ) (begun : Progress) (b : ℕ) where
  abbrev before : Pending (List ℕ)
  before = pending_in control begun line

  abbrev entry : Option Entry
  entry = entry_of (take begun.held line)

  at_lf : b ≡ lf → (piece_said entry_reader before (b ∷ []) ≡ said_for_entry (begun.lines + 1) control entry)
      × (piece_kept entry_reader before (b ∷ []) ≡ pending (control_with control entry) (begun.lines + 1) [])
  unfolding piece_said byte_said piece_kept byte_kept
  at_lf e = (rw (eq-eqb b lf e, add-one begun.lines) (append-nil _), rw (eq-eqb b lf e, add-one begun.lines))

  at_other : (b ≡ lf → ⊥) → (piece_said entry_reader before (b ∷ []) ≡ [])
      × (piece_kept entry_reader before (b ∷ []) ≡ pending control begun.lines (take held_most (take begun.held line ++ (b ∷ []))))
  unfolding piece_said byte_said piece_kept byte_kept
  at_other d = (rw (ne_eqb b lf d), rw (ne_eqb b lf d))

module _ {out line control : List ℕ} {begun : Progress} {b : ℕ} where
  -- LF ends the line that has begun
  pub line_read : {out' control' : List ℕ} {at : ℕ} → b ≡ lf
      → Wrote out begun.at (said_for_entry (begun.lines + 1) control (entry_of (take begun.held line))) out' at
      → control' ≡ control_with control (entry_of (take begun.held line)) → at ≤ begun.at + line_room
      → EntriesRead (both_times out out') (both_times line line) (both_times control control') begun (b ∷ []) (record { lines = begun.lines + 1; held = 0; at = at })
  line_read {out'} {control'} {at} e w q r =
      record {
        wrote = rw (at_lf line control begun b e).0 w;
        keeps = ap (λ (c : List ℕ). pending c (begun.lines + 1) []) q ∙ sym (at_lf line control begun b e).1;
        room = omega arith;
        short = omega arith;
        holds = refl;
        counted = omega arith;
      }

  -- any other byte is held, if there is room
  pub byte_read : {line' : List ℕ} {n : ℕ} → (b ≡ lf → ⊥) → held_most ≤ length line
      → (n ≡ length (take held_most (take begun.held line ++ (b ∷ [])))) × (line' ≡ sets line 0 (take held_most (take begun.held line ++ (b ∷ []))))
      → EntriesRead (both_times out out) (both_times line line') (both_times control control) begun (b ∷ []) (record { lines = begun.lines; held = n; at = begun.at })
  byte_read {line'} {n} d h (f, g) =
      record {
        wrote = rw (at_other line control begun b d).0 wrote_nothing;
        keeps = ap (pending control begun.lines) there ∙ sym (at_other line control begun b d).1;
        room = omega arith;
        short = omega (arith, f, short);
        holds = ap length g ∙ length-sets line 0 (take held_most (take begun.held line ++ (b ∷ [])));
        counted = omega arith;
      }
    where
      short : length (take held_most (take begun.held line ++ (b ∷ []))) ≤ held_most
      short = omega (arith, length-take held_most (take begun.held line ++ (b ∷ [])))

      there : take n line' ≡ take held_most (take begun.held line ++ (b ∷ []))
      there = rw (f, g) (front_held line (take held_most (take begun.held line ++ (b ∷ []))) (omega (arith, short)))

-- some bytes, and others after them
read_both : {out out' out'' line line' line'' control control' control'' : List ℕ} {begun mid ended : Progress} (s t : List ℕ)
    → EntriesRead (both_times out out') (both_times line line') (both_times control control') begun s mid → EntriesRead (both_times out' out'') (both_times line' line'') (both_times control' control'') mid t ended
    → EntriesRead (both_times out out'') (both_times line line'') (both_times control control'') begun (s ++ t) ended
read_both {line = line} {control = control} {begun = begun} s t v w =
    record {
      wrote = rw (said_append entry_reader entries_held (pending_in control begun line) s t, ← v.keeps) (v.wrote then w.wrote);
      keeps = w.keeps ∙ ap (λ (k : Pending (List ℕ)). piece_kept entry_reader k t) v.keeps ∙ sym (after_append entry_reader entries_held (pending_in control begun line) s t);
      room = omega (arith, v.room, w.room, length-append s t);
      short = w.short;
      holds = w.holds ∙ v.holds;
      counted = omega (arith, v.counted, w.counted, length-append s t);
    }

-- the byte at i is read after those before it
pub read_next : {out out' out'' line line' line'' control control' control'' : List ℕ} {begun mid ended : Progress} (piece : List ℕ) {i : ℕ} → i < length piece
    → EntriesRead (both_times out out') (both_times line line') (both_times control control') begun (take i piece) mid
    → EntriesRead (both_times out' out'') (both_times line' line'') (both_times control' control'') mid (get_or piece i 0 ∷ []) ended
    → EntriesRead (both_times out out'') (both_times line line'') (both_times control control'') begun (take (i + 1) piece) ended
read_next piece {i} h v w = rw (add-one i, take-suc piece i 0 h) (read_both (take i piece) (get_or piece i 0 ∷ []) v w)

pub entries_all_read : {out line control : Twice (List ℕ)} {begun ended : Progress} (piece : List ℕ) {i : ℕ} → length piece ≤ i
    → EntriesRead out line control begun (take i piece) ended → EntriesRead out line control begun piece ended
entries_all_read piece {i} h w = rw (take_all i piece h) at w

-- there is room for the byte at i
pub next_fits : {out out' line line' control control' : List ℕ} {begun mid : Progress} (piece : List ℕ) {i : ℕ} → i < length piece
    → EntriesFit out line begun (length piece) → EntriesRead (both_times out out') (both_times line line') (both_times control control') begun (take i piece) mid
    → EntriesFit out' line' mid 1
next_fits piece {i} h f w =
    let l = length-take i piece in
    record {
      room = omega (arith, f.room, w.room, as_long w.wrote, l);
      short = w.short;
      holds = omega (arith, f.holds, w.holds);
      counted = omega (arith, f.counted, w.counted, l);
    }

-- A piece

-- what is held is read in memory of its own
pub piece_fits : {out piece held zeros line : List ℕ} {begun : Progress} {to : ℕ} → PieceFits out piece held begun → held_most ≤ length zeros
    → Wrote zeros 0 (take begun.held held) line to → EntriesFit out line begun (length piece)
piece_fits f h w = record { room = f.room; short = f.short; holds = omega (arith, as_long w); counted = f.counted }

same_progress : (p : Progress) {n at : ℕ} → p.held ≡ n → p.at ≡ at → p ≡ record { lines = p.lines; held = n; at = at }
same_progress p e f = rw (← e, ← f)

-- and what is held then is written back
pub piece_read : {out out' piece held held' zeros line line' control control' : List ℕ} {begun ended : Progress} {to to' : ℕ}
    → PieceFits out piece held begun → held_most ≤ length zeros → Wrote zeros 0 (take begun.held held) line to
    → EntriesRead (both_times out out') (both_times line line') (both_times control control') begun piece ended → Wrote held 0 (take ended.held line') held' to'
    → EntriesAnswered (both_times out out') (both_times held held') (both_times control control') begun piece ended
piece_read {out} {out'} {piece} {held} {held'} {zeros} {line} {line'} {control} {control'} {begun} {ended} {to} f h w r v =
    record {
      progress = same_progress ended (sym kept_long ∙ ap (λ (k : Pending (List ℕ)). length k.held) keeps) (r.wrote.place ∙ ap (λ (k : Pending (List ℕ)). begun.at + length (piece_said entry_reader k piece)) same)
          ∙ ap (λ (k : Pending (List ℕ)). record { lines = k.lines; held = length after.held; at = begun.at + length (piece_said entry_reader before piece) }) keeps;
      wrote = r.wrote.memory ∙ ap (λ (k : Pending (List ℕ)). sets out begun.at (piece_said entry_reader k piece)) same;
      fed = ap (λ (k : Pending (List ℕ)). k.state) keeps;
      holds = v.memory ∙ ap (λ (k : Pending (List ℕ)). sets held 0 k.held) keeps;
    }
  where
    before : Pending (List ℕ)
    before = pending_in control begun held

    after : Pending (List ℕ)
    after = piece_kept entry_reader (pending_in control begun held) piece

    long : length (take begun.held held) ≡ begun.held
    long = length-take begun.held held ∙ omega (arith, f.short, f.holds)

    there : take begun.held line ≡ take begun.held held
    there =
        let q : to ≡ begun.held = omega (arith, w.place, long) in
        ap (λ (n : ℕ). take n line) (sym q) ∙ front w (omega (arith, long, f.short))

    same : pending_in control begun line ≡ pending_in control begun held
    same = ap (pending control begun.lines) there

    keeps : pending_in control' ended line' ≡ piece_kept entry_reader (pending_in control begun held) piece
    keeps = r.keeps ∙ ap (λ (k : Pending (List ℕ)). piece_kept entry_reader k piece) same

    kept_long : length (take ended.held line') ≡ ended.held
    kept_long = length-take ended.held line' ∙ omega (arith, r.short, r.holds, as_long w)

-- so much of the line is there to be written back
pub back_fits : {out out' line line' control control' zeros bs piece : List ℕ} {begun ended : Progress} {to : ℕ} → held_most ≤ length zeros → Wrote zeros 0 bs line to
    → EntriesRead (both_times out out') (both_times line line') (both_times control control') begun piece ended → ended.held ≤ length line'
back_fits h w r = omega (arith, r.short, r.holds, as_long w)

pub back_room : {out out' line line' control control' piece : List ℕ} {begun ended : Progress} {room : ℕ} → held_most ≤ room
    → EntriesRead (both_times out out') (both_times line line') (both_times control control') begun piece ended → 0 + length (take ended.held line') ≤ room
back_room {line' = line'} {ended = ended} h r = omega (arith, r.short, length-take ended.held line')
