-- What both reckonings compute with: tables that have a row for each node, through which order is carried on, and columns for the
-- things that order is followed from. Row r has its cells at r * width and on. What two cells know together is what `j` makes of them: for
-- clocks the greater of two numbers, for sets the bits of both.
use Rattle.std.specs.Prelude.{ℕ, ◌+◌, ◌*◌, Bool, true, false, cond, not, ◌&&◌, ◌||◌, List, ltb, eqb, get_or, set, replicate}
use Rattle.theory.specs.basics.Turns.{turns, any_below}
use Rattle.theory.specs.order.Limits.{tasks, semaphores, flags}
use Rattle.theory.specs.order.Recording.{Op, kind}
use Rattle.theory.specs.fillings.Completion.{bit}

-- the rows: each task's next act, the semaphores, the flags, and the hub, which knows what any semaphore or flag knows
abbrev pub task_row : ℕ → ℕ
task_row t = t

abbrev pub semaphore_row : ℕ → ℕ
semaphore_row s = tasks + s

abbrev pub flag_row : ℕ → ℕ
flag_row f = tasks + semaphores + f

abbrev pub hub : ℕ
hub = tasks + semaphores + flags

abbrev pub row_count : ℕ
row_count = hub + 1

-- one row more, with a cell for each task: 1 once the task has acted
abbrev pub acted_row : ℕ
acted_row = row_count

-- so many rows and cells has a table of a width
abbrev pub table_rows : ℕ
table_rows = acted_row + 1

abbrev pub cell_count : ℕ → ℕ
cell_count w = table_rows * w

-- the cell of row r and column c in a table of a width
abbrev pub cell : ℕ → List ℕ → ℕ → ℕ → ℕ
cell w b r c = get_or b (r * w + c) 0

-- an act joins a task that has acted
abbrev pub joins_acted : ℕ → List ℕ → ℕ → ℕ → Bool
joins_acted w b k on = eqb k (kind Op.join) && ltb 0 (cell w b acted_row on)

-- the row that an act of a kind acquires beside its own task's, and that own row where there is none: a take acquires its semaphore, a look
-- its flag, and a join the ended task, whose next act has acquired what its acts knew, if there were any
abbrev pub acquired_row : ℕ → ℕ → ℕ → Bool → ℕ
acquired_row k task on joins =
    cond (eqb k (kind Op.take)) (semaphore_row on) (cond (eqb k (kind Op.look)) (flag_row on) (cond joins (task_row on) (task_row task)))

-- the row that it releases to beside its own task's: a give releases to its semaphore, a set its flag, a start the task's next act
abbrev pub released_row : ℕ → ℕ → ℕ → ℕ
released_row k task on =
    cond (eqb k (kind Op.give)) (semaphore_row on)
    (cond (eqb k (kind Op.set)) (flag_row on) (cond (eqb k (kind Op.start)) (task_row on) (task_row task)))

-- what is released to an object is released to the hub as well, in a table whose marks ask it
abbrev pub also_released : Bool → ℕ → ℕ → ℕ
also_released asked released task = cond (ltb released (semaphore_row 0) || not asked) (task_row task) hub

-- what row `from` knows is known to row `to` as well
abbrev pub join_cell : (ℕ → ℕ → ℕ) → ℕ → ℕ → ℕ → ℕ → List ℕ → List ℕ
join_cell j w to from c b = set b (to * w + c) (j (cell w b to c) (cell w b from c))

unfoldable pub join_row : (ℕ → ℕ → ℕ) → ℕ → ℕ → ℕ → List ℕ → List ℕ
join_row j w to from b = turns w (join_cell j w to from) b

-- some entry of row `from` is newer than that of row `to`
unfoldable pub any_newer : ℕ → ℕ → ℕ → List ℕ → Bool
any_newer w to from b = any_below w (λ c. ltb (cell w b to c) (cell w b from c))

-- the cells of a row by themselves
unfoldable pub row_of : ℕ → ℕ → List ℕ → List ℕ
row_of w from b = turns w (λ c row. set row c (cell w b from c)) (replicate w 0)

-- what such a row knows is known to row `to` as well
abbrev pub join_with_cell : (ℕ → ℕ → ℕ) → ℕ → ℕ → List ℕ → ℕ → List ℕ → List ℕ
join_with_cell j w to row c b = set b (to * w + c) (j (cell w b to c) (get_or row c 0))

unfoldable pub join_with : (ℕ → ℕ → ℕ) → ℕ → ℕ → List ℕ → List ℕ → List ℕ
join_with j w to row b = turns w (join_with_cell j w to row) b

-- such a row with what row `from` knows, too
unfoldable pub acquired_with : (ℕ → ℕ → ℕ) → ℕ → ℕ → List ℕ → List ℕ → List ℕ
acquired_with j w from row b = turns w (λ c x. set x c (j (get_or row c 0) (cell w b from c))) (replicate w 0)

-- row `to` with the cells of such a row
unfoldable pub put_row : ℕ → ℕ → List ℕ → List ℕ → List ℕ
put_row w to row b = turns w (λ c b. set b (to * w + c) (get_or row c 0)) b

-- order over an act of a task: its next act knows what the acquired row knows, and it is passed on
unfoldable pub flow : (ℕ → ℕ → ℕ) → ℕ → Bool → ℕ → ℕ → ℕ → List ℕ → List ℕ
flow j w asked acquired released task b =
    join_row j w (also_released asked released task) (task_row task) (join_row j w released (task_row task) (join_row j w (task_row task) acquired b))

-- the task has acted
abbrev pub note_acted : ℕ → ℕ → List ℕ → List ℕ
note_acted w task b = set b (acted_row * w + task) 1

-- a table after an act whose own part is in it already
abbrev pub onward : (ℕ → ℕ → ℕ) → ℕ → Bool → ℕ → ℕ → ℕ → List ℕ → List ℕ
onward j w asked k task on b = flow j w asked (acquired_row k task on (joins_acted w b k on)) (released_row k task on) task b

-- the row, or the hub in its place, which joined with itself stays as it is
abbrev pub row_or_hub : Bool → ℕ → ℕ
row_or_hub true r = r
row_or_hub false r = hub

-- what a mark's lost records can acquire comes to the hub: the named tasks' next acts, and any object, which it knows already
unfoldable pub gather : (ℕ → ℕ → ℕ) → ℕ → ℕ → List ℕ → List ℕ
gather j w mask b = turns tasks (λ t b. join_row j w hub (row_or_hub (bit mask t) (task_row t)) b) b

-- what they can release to, by rows: the named tasks' next acts and the objects
abbrev pub is_released : ℕ → ℕ → Bool
is_released mask r = cond (ltb r (semaphore_row 0)) (bit mask r) true

-- each row that they can release to knows what the hub knows then, which has acquired what the row knew, and nothing else
unfoldable pub spread : ℕ → ℕ → List ℕ → List ℕ
spread w mask b = turns hub (λ r x. put_row w (row_or_hub (is_released mask r) r) (row_of w hub b) x) b

-- the named tasks have acted
unfoldable pub note_named : ℕ → ℕ → List ℕ → List ℕ
note_named w mask b = turns tasks (λ t b. set b (acted_row * w + t) (cond (bit mask t) 1 (cell w b acted_row t))) b

-- the fullest filling of a mark, in closed form: whatever a lost record can acquire goes on to all that one can release to
unfoldable pub mix : (ℕ → ℕ → ℕ) → ℕ → ℕ → List ℕ → List ℕ
mix j w mask b = note_named w mask (spread w mask (gather j w mask b))

-- a mark whose lost records of these tasks are filled in; where there are none, nothing is released
abbrev pub mark : (ℕ → ℕ → ℕ) → ℕ → ℕ → List ℕ → List ℕ
mark j w mask b = cond (eqb mask 0) b (mix j w mask b)
