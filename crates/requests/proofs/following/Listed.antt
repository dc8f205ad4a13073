-- What the code counts on that follows a list: it takes a kind that is none for the first such kind, and goes over the list by places. Assumes
-- nothing.
use mathlib.Core.Path.{◌≡◌, refl, sym, ◌∙◌, ap}
use mathlib.Core.Bool.{Bool, cond}
use mathlib.Core.Logic.{◌≢◌}
use mathlib.Core.List.{List, [], ◌∷◌, map}
use Prim.Native.Nat.{ℕ, zero, suc, ◌+◌, ◌≤◌, ◌<◌}
use native.Mathlib.Numerals.{add-one}
use native.Mathlib.Omega.{arith}
use borrow.Author.Tests.{lt-ltb, le-ltb, le-leb}
use lib.Dec.{ltb}
use lib.ListN.{length, get_or, take, drop, length-map, length-take, drop_of_length-le, get_or-map}
use lib.Seq.{drop-cons, get_or-take}
use Rattle.std.specs.Prelude.{Result, Err}
use Rattle.theory.specs.declared.record.Record.{Record}
use Rattle.theory.specs.declared.refusal.Refusal.{Refusal}
use Rattle.theory.specs.order.Recording.{kinds}
use Rattle.theory.specs.acceptance.Table.{Standing, standing_refusal}
use Rattle.theory.specs.acceptance.Refusals.{row_number, numbered_row}
use Rattle.theory.specs.acceptance.Control.{control_standing, control_refusal, control_after}
use Rattle.theory.specs.feeding.Step.{fresh_control}
use Rattle.requests.specs.following.Following.{record_in, Run, run_of, followed, Follower, answered_at, ending, ended_by, answer_by}
use Rattle.theory.proofs.basics.Reflects.{Reflects, right, wrong, at_most}
use Rattle.theory.proofs.acceptance.Numbered.{numbered_row_number}
use Rattle.theory.proofs.acceptance.Rows.{allowed}

-- Kinds

-- a kind of a record, in a byte: all kinds that are none are one
abbrev pub clipped_kind : ℕ → ℕ
clipped_kind k = cond (ltb k (length kinds)) k (length kinds)

abbrev pub clipped : Record → Record
clipped r = record { kind = clipped_kind r.kind; task = r.task; on = r.on }

pub clipped_known : (r : Record) → r.kind < length kinds → clipped r ≡ r
clipped_known r h = rw (lt-ltb r.kind (length kinds) h)

unknown : (s : Standing) (r : Record) → length kinds ≤ r.kind → standing_refusal s r ≡ 1
unfolding standing_refusal
unknown s r h = rw (le-leb (length kinds) r.kind h)

-- a record and the clipped one get the same refusal
pub clipped_refusal : (control : List ℕ) (r : Record) → control_refusal control (clipped r) ≡ control_refusal control r
clipped_refusal control r = decided (at_most (length kinds) r.kind)
  where
    decided : {b : Bool} → Reflects (length kinds ≤ r.kind) b → control_refusal control (clipped r) ≡ control_refusal control r
    decided (right h) =
        unknown (control_standing control) (clipped r) (rw (le-ltb r.kind (length kinds) h) (omega arith)) ∙ sym (unknown (control_standing control) r h)
    decided (wrong n) = rw (clipped_known r (omega arith))

-- where it is accepted they are the same
pub clipped_accepted : (control : List ℕ) (r : Record) → control_refusal control r ≡ 0 → clipped r ≡ r
clipped_accepted control r e = clipped_known r (allowed (control_standing control) r e).known

-- Over a list

-- what the run over the first n records of the list comes to is what it comes to from place i on
pub record Goes {S : Type 0} (next : List ℕ → Record → S → S) (xs : List (List ℕ)) (n : ℕ) (run : Run S) (i : ℕ) (control : List ℕ) (s : S) : Type 0 where
  pub goes : run ≡ followed next control s (drop i (take n (map record_in xs)))

pub goes_first : {S : Type 0} {next : List ℕ → Record → S → S} {xs : List (List ℕ)} {n : ℕ} {control : List ℕ} {s : S} →
    Goes next xs n (followed next control s (take n (map record_in xs))) 0 control s
goes_first = record { goes = refl }

-- the record at a place, and those after it
at_place : (xs : List (List ℕ)) (n i : ℕ) → i < n → n ≤ length xs →
    drop i (take n (map record_in xs)) ≡ record_in (get_or xs i []) ∷ drop (i + 1) (take n (map record_in xs))
at_place xs n i h l =
    let rs = map record_in xs in
    let fits : i < length (take n rs) = rw (length-take n rs, length-map xs record_in) (omega arith) in
    rw (add-one i) (drop-cons (take n rs) i (record_in []) fits ∙ rw (get_or-take n rs i (record_in []) h, get_or-map record_in xs i []))

-- the first record of a list decides
module _ {S : Type 0} (next : List ℕ → Record → S → S) (control : List ℕ) (s : S) (r : Record) (rs : List Record) where
  abbrev by : ℕ → Run S
  by m = elim m [ zero ↦ followed next (control_after r.kind r.task r.on control) (next control r s) rs | suc n ↦ run_of (suc n) control s ]

  pub followed_refused : {m : ℕ} → m ≡ control_refusal control r → m ≢ 0 → followed next control s (r ∷ rs) ≡ run_of m control s
  followed_refused {m} e f = sym (ap by e) ∙ of m f
    where
      of : (m : ℕ) → m ≢ 0 → by m ≡ run_of m control s
      of zero f = absurd (f refl)
      of (suc m) f = refl

  pub followed_accepted : control_refusal control r ≡ 0 → followed next control s (r ∷ rs) ≡ followed next (control_after r.kind r.task r.on control) (next control r s) rs
  followed_accepted e = ap by e

module _ {S : Type 0} {next : List ℕ → Record → S → S} {xs : List (List ℕ)} {n : ℕ} {run : Run S} {i : ℕ} {control : List ℕ} {s : S} (g : Goes next xs n run i control s) where
  -- at the end of the list
  pub goes_out : n ≤ i → run_of 0 control s ≡ run
  goes_out h =
      let rs = take n (map record_in xs) in
      let past : length rs ≤ i = rw (length-take n (map record_in xs)) (omega arith) in
      sym (g.goes ∙ rw (drop_of_length-le rs past))

  module _ (h : i < n) (l : n ≤ length xs) {r : Record} (e : r ≡ clipped (record_in (get_or xs i []))) where
    -- the record there is refused
    pub goes_refused : {m : ℕ} → m ≡ control_refusal control r → m ≢ 0 → run_of m control s ≡ run
    goes_refused c f =
        let x = record_in (get_or xs i []) in
        let rs = drop (i + 1) (take n (map record_in xs)) in
        let refusal = c ∙ (ap (control_refusal control) e ∙ clipped_refusal control x) in
        sym (g.goes ∙ (ap (followed next control s) (at_place xs n i h l) ∙ followed_refused next control s x rs refusal f))

    -- it is accepted
    pub goes_on : control_refusal control r ≡ 0 → {after : List ℕ} {t : S} → after ≡ control_after r.kind r.task r.on control → t ≡ next control r s →
        Goes next xs n run (i + 1) after t
    goes_on c a b =
        let x = record_in (get_or xs i []) in
        let rs = drop (i + 1) (take n (map record_in xs)) in
        let accepted = sym (clipped_refusal control x) ∙ (sym (ap (control_refusal control) e) ∙ c) in
        let same : r ≡ x = e ∙ clipped_accepted control x accepted in
        record { goes = rw (a, b, same) (g.goes ∙ (ap (followed next control s) (at_place xs n i h l) ∙ followed_accepted next control s x rs accepted)) }

-- what stands at a place of a list, whatever would be taken past its end
any_default : (xs : List (List ℕ)) (n : ℕ) (d e : List ℕ) → n < length xs → get_or xs n d ≡ get_or xs n e
any_default [] n d e h = absurd (omega arith)
any_default (x ∷ xs) zero d e h = refl
any_default (x ∷ xs) (suc n) d e h = any_default xs n d e (omega arith)

-- The answer

-- the ending record may be the clipped one: it is asked for the same, since it is none of the kinds
module _ {S A : Type 0} (f : Follower S A) where
  ending_clipped : (q : Record) (x : Run S) → ending f (clipped q) x ≡ ending f q x
  ending_clipped q x = ap (λ (a : A). elim x.refused [ zero ↦ a | suc n ↦ f.without (suc n) ]) (decided (at_most (length kinds) q.kind))
    where
      decided : {b : Bool} → Reflects (length kinds ≤ q.kind) b →
          answered_at f (clipped q) x (control_refusal x.control (clipped q)) ≡ answered_at f q x (control_refusal x.control q)
      decided (right h) = rw (clipped_refusal x.control q, unknown (control_standing x.control) q h)
      decided (wrong n) = rw (clipped_known q (omega arith))

  -- as the code finds it: it hands over what it has, each by its equation
  module _ (same : (q : Record) → f.next (clipped q) ≡ f.next q) where
    end_clipped : (rs : List Record) (q : Record) → ended_by f rs q ≡ ended_by f rs (clipped q)
    unfolding ended_by
    end_clipped rs q =
        sym (ending_clipped q (followed (f.next (clipped q)) fresh_control f.fresh rs)
        ∙ ap (λ (next : List ℕ → Record → S → S). ending f q (followed next fresh_control f.fresh rs)) (same q))

    -- a list that is not empty, by its last record, which the code has clipped
    answer_last : (xs : List (List ℕ)) (n : ℕ) {q : Record} → length xs ≡ n + 1 → q ≡ clipped (record_in (get_or xs n [])) →
        ended_by f (take n (map record_in xs)) q ≡ answer_by f (map record_in xs)
    answer_last [] n h e = absurd (omega arith)
    answer_last (x ∷ xs) n {q} h e =
        let rs = map record_in (x ∷ xs) in
        let size : length (map record_in xs) ≡ n = length-map xs record_in ∙ omega arith in
        let fits : n < length (x ∷ xs) = omega arith in
        let last = get_or-map record_in (x ∷ xs) n x ∙ ap record_in (any_default (x ∷ xs) n x [] fits) in
        ap (ended_by f (take n rs)) e
        ∙ (sym (end_clipped (take n rs) (record_in (get_or (x ∷ xs) n [])))
        ∙ (ap (ended_by f (take n rs)) (sym last) ∙ ap (λ (m : ℕ). ended_by f (take m rs) (get_or rs m (record_in x))) (sym size)))

    pub answered_by_lem : (xs : List (List ℕ)) (n : ℕ) {q : Record} {next : List ℕ → Record → S → S} {control : List ℕ} {s : S} {run : Run S} {a : A} → length xs ≡ n + 1 →
        q ≡ clipped (record_in (get_or xs n [])) → next ≡ f.next q → control ≡ fresh_control → run ≡ followed next control s (take n (map record_in xs)) →
        a ≡ ending f q run → s ≡ f.fresh → a ≡ answer_by f (map record_in xs)
    unfolding ended_by
    answered_by_lem xs n h e d c r a z = rw (a, r, d, c, z) (answer_last xs n h e)

  pub answered_empty : (xs : List (List ℕ)) → length xs ≡ 0 → f.without 0 ≡ answer_by f (map record_in xs)
  answered_empty [] h = refl
  answered_empty (x ∷ xs) h = absurd (omega arith)

  -- the end, by the refusal before it and by its own
  pub ending_refused : (q : Record) (x : Run S) → x.refused ≢ 0 → f.without x.refused ≡ ending f q x
  ending_refused q x = of x.refused (answered_at f q x (control_refusal x.control q))
    where
      of : (m : ℕ) (a : A) → m ≢ 0 → f.without m ≡ elim m [ zero ↦ a | suc n ↦ f.without (suc n) ]
      of zero a z = absurd (z refl)
      of (suc m) a z = refl

  pub ending_own : (q : Record) (x : Run S) {m : ℕ} → x.refused ≡ 0 → m ≡ control_refusal x.control q → m ≢ 0 → f.without m ≡ ending f q x
  ending_own q x {m} e c z = rw (e, ← c) (of m x z)
    where
      of : (m : ℕ) (x : Run S) → m ≢ 0 → f.without m ≡ answered_at f q x m
      of zero x z = absurd (z refl)
      of (suc m) x z = refl

-- An answer by a refusal's number, as a definition gives it, is the one by its row, as the code gives it
pub refused_without : {A : Type 0} (answer : ℕ → Result A Refusal) → ((n : ℕ) → answer (suc n) ≡ Err (numbered_row (suc n))) → (row : Refusal) →
    answer (row_number row) ≡ Err row
refused_without answer by_row row = of (row_number row) refl
  where
    of : (n : ℕ) → row_number row ≡ n → answer n ≡ Err row
    of zero e = let first : row_number row ≡ 1 = ap row_number (sym (numbered_row_number row) ∙ ap numbered_row e) in absurd (omega arith)
    of (suc n) e = by_row n ∙ ap Err (sym (ap numbered_row e) ∙ numbered_row_number row)
