-- Which records are accepted: rows 1 to 9 and 14 to 16 of the refusal table, over the recording so far.
use Rattle.std.specs.Prelude.{ℕ, zero, suc, ◌^◌, ◌<◌, Bool, true, false, cond, not, ◌&&◌, ◌||◌, ◌≡◌, ◌≢◌, List, [], ◌∷◌, ◌++◌, leb, eqb, length}
use Rattle.theory.specs.declared.record.Record.{Record}
use Rattle.theory.specs.order.Limits.{tasks, records}
use Rattle.theory.specs.basics.Turns.{any_below}
use Rattle.theory.specs.order.Recording.{Op, take, give, start, join, owned, Effect, keeps, begins, ends, about, Event, act, lost, kind, kinds, loss_mark, series_size, event_of}
use Rattle.theory.specs.fillings.Completion.{names}
use Rattle.theory.specs.acceptance.Owning.{is_somebody, is_by, under, holder}

-- a task is unseen until it is started, then live, then ended by a join
pub data Phase : Type 0 where
  unseen live ended : Phase

abbrev pub is_live : Phase → Bool
is_live unseen = false
is_live live = true
is_live ended = false

abbrev pub is_unseen : Phase → Bool
is_unseen unseen = true
is_unseen live = false
is_unseen ended = false

-- the phase that a task comes to by an act that names it, from its phase before
abbrev pub apply_effect : Effect → Phase → Phase
apply_effect keeps p = p
apply_effect begins p = live
apply_effect ends p = ended

-- task t's phase after an event, from its phase before
abbrev pub next_phase : Event → ℕ → Phase → Phase
next_phase (act o u n) t p = cond (eqb n t) (apply_effect (about o).effect p) p
next_phase (lost mask) t p = p

-- task t's phase after a list of events, from its phase p before
abbrev pub later_phase : Phase → List Event → ℕ → Phase
later_phase p [] t = p
later_phase p (e ∷ es) t = later_phase (next_phase e t p) es t

-- task t's phase after a recording: task 0 is live in a fresh state, the others are unseen
abbrev pub phase : List Event → ℕ → Phase
phase es t = later_phase (cond (eqb t zero) live unseen) es t

-- the numbers of an act are in their ranges
pub record Fitting (k task on : ℕ) : Type 0 where
  pub task_fits : task < tasks
  pub on_fits : on < series_size k

-- what the code for an accepted record may rely on: an act's numbers are in their ranges, and a mark names somebody
pub record Proper (k task on : ℕ) : Type 0 where
  pub act_fits : k ≢ loss_mark → Fitting k task on
  pub mark_names : k ≡ loss_mark → 0 < on

-- the record is a loss mark
abbrev pub is_mark : Record → Bool
is_mark r = eqb r.kind loss_mark

-- the record is an act, of any op and none
abbrev pub is_act : Record → Bool
is_act r = not (is_mark r)

abbrev pub has_kind : Record → Op → Bool
has_kind r o = eqb r.kind (kind o)

-- what acceptance looks at: which tasks are live and unseen, how many records are accepted already, whether the recording is under the profile, and
-- then which semaphores are held, and by whom
pub record Standing : Type 0 where
  pub live : ℕ → Bool
  pub unseen : ℕ → Bool
  pub count : ℕ
  pub profile : Bool
  pub held : ℕ → Bool
  pub holds : ℕ → ℕ → Bool

-- a row of the refusal table: its number, and whether it applies
pub record Row : Type 0 where
  pub number : ℕ
  pub applies : Bool

infix 30 ◌when◌
abbrev pub ◌when◌ : ℕ → Bool → Row
n when b = record { number = n; applies = b }

-- the rows for a record, in the order in which they are looked at
abbrev pub rows : Standing → Record → List Row
rows s r =
    -- the op is none of the kinds
    (1 when leb (length kinds) r.kind)
    -- acting task above 15
    ∷ (2 when (is_act r && leb tasks r.task))
    -- `on` outside its series
    ∷ (3 when (is_act r && leb (series_size r.kind) r.on))
    -- mask 0 or above 65,535
    ∷ (4 when (is_mark r && (eqb r.on 0 || leb (2 ^ tasks) r.on)))
    -- 4,000,000 records are already accepted
    ∷ (5 when leb records s.count)
    -- acting task not live
    ∷ (6 when (is_act r && not (s.live r.task)))
    -- start of a task that is not unseen
    ∷ (7 when (has_kind r start && not (s.unseen r.on)))
    -- join of the acting task
    ∷ (8 when (has_kind r join && eqb r.on r.task))
    -- the joined task, or any one of the marked tasks, is not live
    ∷ (9 when ((has_kind r join && not (s.live r.on)) || (is_mark r && any_below tasks (λ t. names r.on t && not (s.live t)))))
    -- a second `owned`
    ∷ (14 when (has_kind r owned && s.profile))
    -- a loss mark under the profile
    ∷ (15 when (is_mark r && s.profile))
    -- under it, a take of a held semaphore, or a give by a task that does not hold it
    ∷ (16 when (s.profile && ((has_kind r take && s.held r.on) || (has_kind r give && not (s.holds r.on r.task)))))
    ∷ []

-- the highest number of a row
abbrev pub last_row : ℕ
last_row = 16

-- the numbers of the rows; 10 to 13 are none: 10 is not given, 11 is of a whole text, 12 and 13 are of entries
abbrev pub row_numbers : List ℕ
row_numbers = 1 ∷ 2 ∷ 3 ∷ 4 ∷ 5 ∷ 6 ∷ 7 ∷ 8 ∷ 9 ∷ 14 ∷ 15 ∷ 16 ∷ []

abbrev pub is_one_of : List ℕ → ℕ → Bool
is_one_of [] n = false
is_one_of (m ∷ ms) n = eqb m n || is_one_of ms n

-- n is the number of a row
abbrev pub OfRow : ℕ → Type 0
OfRow n = is_one_of row_numbers n ≡ true

-- the number of the first row that applies; 0 where none does
abbrev pub first_row : List Row → ℕ
first_row [] = zero
first_row (x ∷ xs) = cond x.applies x.number (first_row xs)

-- the refusal that a record gets by the table; 0 where it is accepted
unfoldable pub standing_refusal : Standing → Record → ℕ
standing_refusal s r = first_row (rows s r)

-- after a recording
abbrev pub standing : List Event → Standing
standing es =
    record {
      live = λ t. is_live (phase es t);
      unseen = λ t. is_unseen (phase es t);
      count = length es;
      profile = under es;
      held = λ s. is_somebody (holder es s);
      holds = λ s t. is_by (holder es s) t;
    }

abbrev pub refusal : List Event → Record → ℕ
refusal es r = standing_refusal (standing es) r

-- the recording after a record was fed that got the refusal n: accepted records join it, refused ones leave it as it was
abbrev pub append_unless : List Event → Record → ℕ → List Event
append_unless es r zero = es ++ (event_of r ∷ [])
append_unless es r (suc n) = es

-- the recording after the records of a list were fed one after the other
abbrev pub extended : List Event → List Record → List Event
extended es [] = es
extended es (r ∷ rs) = extended (append_unless es r (refusal es r)) rs

-- "recording": those records of a list, fed from a fresh state, that were accepted
abbrev pub recording : List Record → List Event
recording = extended []
