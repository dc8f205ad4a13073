-- The two reckonings on tables: clocks and sets, each for the recording as it arrived and for the fullest filling.
use Rattle.std.specs.Prelude.{ℕ, ◌+◌, ◌*◌, ◌-◌, ◌/◌, ◌%◌, ◌^◌, max, Bool, cond, ◌&&◌, not, List, ltb, eqb, set}
use Rattle.std.specs.Int.Bits.{bit_and, bit_or}
use Rattle.std.specs.Int.Count.{count_trailing_zeros}
use Rattle.theory.specs.declared.masks.Masks.{Masks}
use Rattle.theory.specs.basics.Turns.{turns, indicator}
use Rattle.theory.specs.order.Limits.{tasks}
use Rattle.theory.specs.order.Recording.{loss_mark, accesses}
use Rattle.theory.specs.fillings.Completion.{bit, Filling, fills}
use Rattle.theory.specs.tables.Rows.{row_count, task_row, cell, note_acted, onward, mark}
use Rattle.theory.specs.history.History.{slot, slots, latest_slot, latest_number, under_each}

-- Clocks: at row n and column u the number of the last record of task u from which order has come to node n. A task's row is its task clock, as it is
-- before its next act; that of a semaphore or a flag is the clock that it was given

abbrev pub clock_own : ℕ → ℕ → List ℕ → List ℕ
clock_own task number b = note_acted tasks task (set b (task_row task * tasks + task) number)

abbrev pub clock_act : Bool → ℕ → ℕ → ℕ → ℕ → List ℕ → List ℕ
clock_act asked k task on number b = onward max tasks asked k task on (clock_own task number b)

-- after a record, in a filling
abbrev pub next_clocks : Filling → ℕ → ℕ → ℕ → ℕ → List ℕ → List ℕ
next_clocks w k task on number b = cond (eqb k loss_mark) (mark max tasks (w on) b) (clock_act (fills w) k task on number b)

-- Sets: at row n and slot s whether order from the kept access of slot s has come to node n, as a bit. Its column is the lockset of that access, as
-- document 004 has it: the tasks and objects by which a later access is in order with it

-- so many bits a word
abbrev pub word_bits : ℕ
word_bits = 32

-- so many words a row
abbrev pub slot_words : ℕ
slot_words = slots / word_bits

-- the word of a slot, and its place there
abbrev pub slot_word : ℕ → ℕ
slot_word s = s / word_bits

abbrev pub slot_place : ℕ → ℕ
slot_place s = s % word_bits

-- row r knows of the slot's access
abbrev pub has_slot : List ℕ → ℕ → ℕ → Bool
has_slot b r s = bit (cell slot_words b r (slot_word s)) (slot_place s)

-- what row r knows of what the kind with number a asks of the tasks, for variable v: from bit 0 on a bit for each task
abbrev pub known_slots : List ℕ → ℕ → ℕ → ℕ → ℕ
known_slots b r a v = cell slot_words b r (slot_word (slot a v 0)) / 2 ^ slot_place (slot a v 0)

-- a word with the bit of weight 2 ^ k, and without it
abbrev pub with_bit : ℕ → ℕ → ℕ
with_bit k x = bit_or x (2 ^ k)

abbrev pub without_bit : ℕ → ℕ → ℕ
without_bit k x = bit_and x (2 ^ word_bits - 1 - 2 ^ k)

-- no row does any more
unfoldable pub clear_slot : ℕ → List ℕ → List ℕ
clear_slot s b = turns row_count (λ r b. set b (r * slot_words + slot_word s) (without_bit (slot_place s) (cell slot_words b r (slot_word s)))) b

-- row r does
abbrev pub add_slot : ℕ → ℕ → List ℕ → List ℕ
add_slot r s b = set b (r * slot_words + slot_word s) (with_bit (slot_place s) (cell slot_words b r (slot_word s)))

-- an access is kept anew: order from it has come to its own task's next act, and to nothing else
abbrev pub set_own : ℕ → ℕ → ℕ → List ℕ → List ℕ
set_own k task on b = note_acted slot_words task (under_each (λ s b. add_slot (task_row task) s (clear_slot s b)) k on task b)

abbrev pub set_act : Bool → ℕ → ℕ → ℕ → List ℕ → List ℕ
set_act asked k task on b = onward bit_or slot_words asked k task on (set_own k task on b)

abbrev pub next_sets : Filling → ℕ → ℕ → ℕ → List ℕ → List ℕ
next_sets w k task on b = cond (eqb k loss_mark) (mark bit_or slot_words (w on) b) (set_act (fills w) k task on b)

-- Which tasks' latest conflicting access has no path to an access. A task's own never counts: order from it has come to its next act.

abbrev pub clock_apart : List ℕ → List ℕ → ℕ → ℕ → ℕ → ℕ → Bool
clock_apart cells last k task on u = ltb (cell tasks cells (task_row task) u) (latest_number last k on u)

abbrev pub set_apart : List ℕ → List ℕ → ℕ → ℕ → ℕ → ℕ → Bool
set_apart cells last k task on u = ltb 0 (latest_number last k on u) && not (has_slot cells (task_row task) (latest_slot k on u))

-- the tasks that pass the test as a mask
unfoldable pub mask_of : (ℕ → Bool) → ℕ
mask_of p = turns tasks (λ i m. indicator (p (tasks - 1 - i)) + 2 * m) 0

abbrev pub clock_mask : List ℕ → List ℕ → ℕ → ℕ → ℕ → ℕ
clock_mask cells last k task on = mask_of (clock_apart cells last k task on)

abbrev pub set_mask : List ℕ → List ℕ → ℕ → ℕ → ℕ → ℕ
set_mask cells last k task on = mask_of (set_apart cells last k task on)

-- the lowest task of a mask
abbrev pub lowest_task : ℕ → ℕ
lowest_task mask = count_trailing_zeros tasks mask

abbrev pub masks_by : ℕ → ℕ → Masks
masks_by full arrived = record { full = full; arrived = arrived }

-- the masks of an access, in the fullest filling and as it arrived; none for any other record
abbrev pub clock_masks : List ℕ → List ℕ → List ℕ → ℕ → ℕ → ℕ → Masks
clock_masks clocks fullclocks last k task on =
    cond (accesses k) (masks_by (clock_mask fullclocks last k task on) (clock_mask clocks last k task on)) (masks_by 0 0)

abbrev pub set_masks : List ℕ → List ℕ → List ℕ → ℕ → ℕ → ℕ → Masks
set_masks sets fullsets last k task on = cond (accesses k) (masks_by (set_mask fullsets last k task on) (set_mask sets last k task on)) (masks_by 0 0)
