-- The row that the code has for a refusal's number has that number. Assumes nothing.
use mathlib.Core.Path.{◌≡◌, refl, sym, ap}
use mathlib.Core.Bool.{Bool, true, cond, ◌||◌, true≢false}
use mathlib.Core.List.{List, [], ◌∷◌, map}
use Prim.Native.Nat.{ℕ, suc}
use native.Mathlib.Omega.{arith}
use Rattle.theory.specs.declared.record.Record.{Record}
use Rattle.theory.specs.declared.refusal.Refusal.{Refusal}
use Rattle.theory.specs.declared.refusal.Refusal.TheVariants.{UnknownKind, NoSuchTask, OutsideSeries, NoSuchMask, RecordingFull, TaskNotLive, StartedBefore, JoinsItself, NamedNotLive, OwnedBefore, MarkUnderProfile, AgainstHolder}
use Rattle.theory.specs.acceptance.Table.{is_one_of, OfRow, Standing, standing_refusal}
use Rattle.theory.specs.acceptance.Refusals.{row_number, all_rows, first_numbered, numbered_row}
use Rattle.theory.specs.feeding.Meaning.{refuses}
use Rattle.theory.proofs.basics.Reflects.{Reflects, right, wrong, equal}
use Rattle.theory.proofs.acceptance.Rows.{refusal_of_row}

numbered : (rows : List Refusal) (n : ℕ) → is_one_of (map row_number rows) n ≡ true → row_number (first_numbered rows n) ≡ n
numbered [] n h = absurd (true≢false (sym h))
numbered (row ∷ rows) n h = decided (equal (row_number row) n) h (numbered rows n)
  where
    decided : {b : Bool} → Reflects (row_number row ≡ n) b → (b || is_one_of (map row_number rows) n) ≡ true →
        (is_one_of (map row_number rows) n ≡ true → row_number (first_numbered rows n) ≡ n) → row_number (cond b row (first_numbered rows n)) ≡ n
    decided (right e) h f = e
    decided (wrong d) h f = f h

pub row_numbered : (n : ℕ) → OfRow n → row_number (numbered_row n) ≡ n
row_numbered n h = numbered all_rows n h

-- and it is the row of its own number
pub numbered_row_number : (row : Refusal) → numbered_row (row_number row) ≡ row
numbered_row_number UnknownKind = refl
numbered_row_number NoSuchTask = refl
numbered_row_number OutsideSeries = refl
numbered_row_number NoSuchMask = refl
numbered_row_number RecordingFull = refl
numbered_row_number TaskNotLive = refl
numbered_row_number StartedBefore = refl
numbered_row_number JoinsItself = refl
numbered_row_number NamedNotLive = refl
numbered_row_number OwnedBefore = refl
numbered_row_number MarkUnderProfile = refl
numbered_row_number AgainstHolder = refl

-- so a record is refused with the number that the table gives it
pub refused_by_row : (s : Standing) (r : Record) (n : ℕ) → standing_refusal s r ≡ suc n → row_number (numbered_row (suc n)) ≡ suc n
refused_by_row s r n e = row_numbered (suc n) (rw e at (refusal_of_row s r (omega arith)))

pub refuses_by_row : (s : Standing) (r : Record) (n : ℕ) → standing_refusal s r ≡ suc n → refuses (row_number (numbered_row (suc n))) ≡ refuses (suc n)
refuses_by_row s r n e = ap refuses (refused_by_row s r n e)
