-- The form of a line ("Text and report"): what it says as a record, and the text of a record.
use Rattle.std.specs.Prelude.{◌≡◌, ℕ, zero, suc, ◌+◌, ◌*◌, ◌-◌, ◌^◌, ◌<◌, Bool, cond, not, ◌&&◌, ◌||◌, List, [], ◌∷◌, ◌++◌, length, get_or, drop, leb, ltb, eqb, Option, Some, None}
use Rattle.theory.specs.declared.record.Record.{Record}
use Rattle.theory.specs.order.Recording.{loss_mark}
use Rattle.text.specs.Bytes.{up_to, after, starts_with, is_word}
use Rattle.text.specs.Printing.{bytes, decimal}

-- Numbers

-- "1 to 5 digits"
abbrev pub digits : ℕ
digits = 5

-- `0` to `9`
abbrev pub is_digit : ℕ → Bool
is_digit b = leb 48 b && leb b 57

-- "1 to 5 digits and no needless leading zero": one byte, or up to five of which the first is no `0`
unfoldable pub is_plain : List ℕ → Bool
is_plain s = eqb (length s) 1 || (ltb 1 (length s) && (leb (length s) digits && not (eqb (get_or s 0 0) 48)))

-- the number that is read from digits after the number v; nothing where a byte is no digit
unfoldable pub read_digits : ℕ → List ℕ → Option ℕ
read_digits v [] = Some v
read_digits v (b ∷ s) = cond (is_digit b) (read_digits (v * 10 + (b - 48)) s) None

-- the number that a text says
unfoldable pub read_decimal : List ℕ → Option ℕ
read_decimal s = cond (is_plain s) (read_digits 0 s) None

-- Words

-- the words by their kind numbers: that of a loss mark at `loss_mark`, and each other one of an act
abbrev pub words : List (List ℕ)
words =
    bytes "read"
    ∷ bytes "write"
    ∷ bytes "take"
    ∷ bytes "give"
    ∷ bytes "look"
    ∷ bytes "set"
    ∷ bytes "start"
    ∷ bytes "join"
    ∷ bytes "lost"
    ∷ bytes "fresh"
    ∷ bytes "miss"
    ∷ bytes "bump"
    ∷ bytes "owned"
    ∷ []

abbrev pub op_name : List ℕ
op_name = bytes "op="

abbrev pub task_name : List ℕ
task_name = bytes "task="

abbrev pub on_name : List ℕ
on_name = bytes "on="

abbrev pub tasks_name : List ℕ
tasks_name = bytes "tasks="

-- a space
abbrev pub space : ℕ
space = 32

-- the place of a word among some, or their count where it is none of them
unfoldable pub place_of : List (List ℕ) → List ℕ → ℕ
place_of [] s = zero
place_of (w ∷ ws) s = cond (is_word w s) zero (suc (place_of ws s))

-- the kind that `op=W` names; the count of the words where it names none
unfoldable pub named_kind : List ℕ → ℕ
named_kind s = cond (starts_with op_name s) (place_of words (drop (length op_name) s)) (length words)

-- the number of a field, from what follows its name
abbrev pub field_by : (List ℕ → Option ℕ) → List ℕ → List ℕ → Option ℕ
field_by read name s = cond (starts_with name s) (read (drop (length name) s)) None

-- the number of a field `name=N`
unfoldable pub field_of : List ℕ → List ℕ → Option ℕ
field_of name s = field_by read_decimal name s

-- Lines

-- the record of an act, from its kind and what its two fields say
abbrev pub act_record : ℕ → Option ℕ → Option ℕ → Option Record
act_record k (Some t) (Some n) = Some (record { kind = k; task = t; on = n })
act_record k (Some t) None = None
act_record k None n = None

-- the record of a loss mark, from what its field says
abbrev pub mark_record : Option ℕ → Option Record
mark_record (Some m) = Some (record { kind = loss_mark; task = 0; on = m })
mark_record None = None

-- what follows the op of an act: `task=T on=N`
unfoldable pub parse_act : ℕ → List ℕ → Option Record
parse_act k s = act_record k (field_of task_name (up_to space s)) (field_of on_name (after space s))

-- what follows the op of a loss mark: `tasks=M`
unfoldable pub parse_mark : List ℕ → Option Record
parse_mark s = mark_record (field_of tasks_name s)

-- what follows an op of kind k, if that is the kind of a word
abbrev pub rest_of : ℕ → List ℕ → Option Record
rest_of k s = cond (ltb k (length words)) (cond (eqb k loss_mark) (parse_mark s) (parse_act k s)) None

-- the record that a line says, if it is of the text form
unfoldable pub parse_of : List ℕ → Option Record
parse_of s = rest_of (named_kind (up_to space s)) (after space s)

-- The text of a record

-- the word of a kind
abbrev pub word_of : ℕ → List ℕ
word_of k = get_or words k []

-- the text of a record, without its LF: `op=W task=T on=N`, or `op=lost tasks=M`
unfoldable pub text_of : Record → List ℕ
text_of r =
    op_name ++ (word_of r.kind ++ (space ∷
    cond (eqb r.kind loss_mark)
    (tasks_name ++ decimal r.on)
    (task_name ++ (decimal r.task ++ (space ∷ (on_name ++ decimal r.on))))))

-- a record that a line can say: a kind that has a word, numbers of at most 5 digits, and no task in a loss mark
pub record Sayable (r : Record) : Type 0 where
  pub kind_known : r.kind < length words
  pub task_short : r.task < 10 ^ digits
  pub on_short : r.on < 10 ^ digits
  pub mark_alone : r.kind ≡ loss_mark → r.task ≡ 0

-- What is claimed of the form

-- the text of a record is taken, as that record
abbrev pub TextTaken : Type 0
TextTaken = (r : Record) → Sayable r → parse_of (text_of r) ≡ Some r

-- nothing else is: what is taken is the text of the record
abbrev pub OnlyText : Type 0
OnlyText = (s : List ℕ) (r : Record) → parse_of s ≡ Some r → s ≡ text_of r

-- and of a record that a line can say
abbrev pub OnlySayable : Type 0
OnlySayable = (s : List ℕ) (r : Record) → parse_of s ≡ Some r → Sayable r

-- no line of more bytes than these is
abbrev pub longest : ℕ
longest = 64

abbrev pub LongRefused : Type 0
LongRefused = (s : List ℕ) → longest < length s → parse_of s ≡ None
