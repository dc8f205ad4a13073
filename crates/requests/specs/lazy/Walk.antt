-- "Sets worked out only when needed": the walk, over places of a recording as it arrived. Nothing here is computed.
use Rattle.std.specs.Prelude.{ℕ, zero, suc, ◌+◌, ◌<◌, List}
use Rattle.theory.specs.order.Limits.{tasks}
use Rattle.theory.specs.order.Recording.{write, take, give, look, set, start, join, Event, act, At, ActsIn}
use Rattle.theory.specs.order.Path.{HappensBefore}
use Rattle.theory.specs.verdicts.Verdict.{Latest}

-- "the takes, gives, looks, sets, starts and joins"
pub data HandsOver : Event → Type 0 where
  takes : {t n : ℕ} → HandsOver (act take t n)
  gives : {t n : ℕ} → HandsOver (act give t n)
  looks : {t n : ℕ} → HandsOver (act look t n)
  sets : {t n : ℕ} → HandsOver (act set t n)
  starts : {t n : ℕ} → HandsOver (act start t n)
  joins : {t n : ℕ} → HandsOver (act join t n)

-- a record of these kinds stands at place j
pub record HandOverAt (es : List Event) (j : ℕ) : Type 0 where
  pub event : Event
  pub at : At es j event
  pub hands_over_lem : HandsOver event

-- the event is an act of task t, or starts it: order that has come to it has come to what t does next
pub data ComesTo (t : ℕ) : Event → Type 0 where
  by_act : {e : Event} → ActsIn t e → ComesTo t e
  by_start : {u : ℕ} → ComesTo t (act start u t)

-- "brings order to the acting task" t, from the older access at place i: the record at place j, one of those that are walked
pub record Brings (es : List Event) (t i j : ℕ) : Type 0 where
  pub hand_over : HandOverAt es j
  pub path : HappensBefore es i j
  pub comes_to : ComesTo t hand_over.event

-- "It walks [these] after that older access in turn, and stops at the first one that brings order to the acting task, that one counted": the
-- record at place j is walked for the older access at place i, for none before it brought order
pub record Walks (es : List Event) (t i j : ℕ) : Type 0 where
  pub hand_over : HandOverAt es j
  pub after : i < j
  pub not_yet : (m : ℕ) → m < j → ¬ Brings es t i m

-- `Counted P n c`: of the places below n, c are as P says
pub data Counted (P : ℕ → Type 0) : ℕ → ℕ → Type 0 where
  none : Counted P zero zero
  this : {n c : ℕ} → Counted P n c → P n → Counted P (suc n) (suc c)
  other : {n c : ℕ} → Counted P n c → ¬ P n → Counted P (suc n) c

-- "some write of the variable by the acting task stands after the older access and every pair of that write had a path": the write is at
-- place j, before place k, the older access at place i; the acting task is t and the variable v
pub record ShortCircuit (es : List Event) (t v i k : ℕ) : Type 0 where
  pub j : ℕ
  pub after : i < j
  pub before : j < k
  pub writes : At es j (act write t v)
  pub had_paths : (u m : ℕ) → Latest es u m j → HappensBefore es m j

-- how many records are walked for task u's pair with the access at place k, which is one of task t to variable v
pub data WalkOf (es : List Event) (t v k u : ℕ) : ℕ → Type 0 where
  -- it has none
  no_pair : ((i : ℕ) → ¬ Latest es u i k) → WalkOf es t v k u 0
  -- "no walk is made or counted"
  no_walk : {i : ℕ} → Latest es u i k → ShortCircuit es t v i k → WalkOf es t v k u 0
  walk : {i c : ℕ} → Latest es u i k → ¬ ShortCircuit es t v i k → Counted (Walks es t i) k c → WalkOf es t v k u c

-- how many such records there are between task u's access and place k: none where it has no pair
pub data Between (es : List Event) (k u : ℕ) : ℕ → Type 0 where
  no_pair : ((i : ℕ) → ¬ Latest es u i k) → Between es k u 0
  pair : {i c : ℕ} → Latest es u i k → Counted (λ j. HandOverAt es j × (i < j)) k c → Between es k u c

-- `Summed Q n s`: s is the sum of what Q says for the numbers below n, "summed over the tasks"
pub data Summed (Q : ℕ → ℕ → Type 0) : ℕ → ℕ → Type 0 where
  nothing : Summed Q zero zero
  add : {n c s : ℕ} → Summed Q n s → Q n c → Summed Q (suc n) (s + c)

abbrev pub WalkedInAll : List Event → ℕ → ℕ → ℕ → ℕ → Type 0
WalkedInAll es t v k = Summed (WalkOf es t v k) tasks

abbrev pub BetweenInAll : List Event → ℕ → ℕ → Type 0
BetweenInAll es k = Summed (Between es k) tasks
