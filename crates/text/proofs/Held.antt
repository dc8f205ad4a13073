-- The memory that holds the line that has begun, and what a piece makes of it. Assumes nothing.
use mathlib.Core.Path.{◌≡◌, refl, sym, ◌∙◌, ap, ap₂, subst}
use mathlib.Core.List.{List, [], ◌∷◌, ◌++◌, append-nil}
use Prim.Native.Nat.{ℕ, zero, suc, ◌+◌, ◌-◌, ◌*◌, ◌/◌, ◌^◌, ◌≤◌, ◌<◌, min}
use native.Mathlib.Omega.{arith}
use native.Mathlib.Nat.{add-zero, zero-add}
use lib.ListN.{length, take, drop, get_or, length-append, length-take, length-drop, take-append-drop}
use lib.Seq.{sets, sets-eq, length-sets, take_all, take-length, length-take-le, take-append-add, drop-append-le, drop-drop, drop_at, get_or-take, get_or-drop}
use mathlib.Core.Bool.{Bool, true, false}
use lib.Dec.{leb, eqb}
use borrow.Author.Tests.{leb-true, leb-false, eqb-false}
use native.Mathlib.Numerals.{add-one}
use Rattle.std.proofs.lemmas.List.{take_min}
use Rattle.std.specs.Prelude.{Option}
use Rattle.theory.specs.declared.record.Record.{Record}
use Rattle.theory.specs.declared.state.State.{State}
use Rattle.theory.specs.feeding.Step.{fresh_state}
use Rattle.text.specs.declared.progress.Progress.{Progress}
use Rattle.text.specs.Bytes.{up_to, after}
use Rattle.text.specs.Lines.{lf, line_room, lines_of, line_end}
use Rattle.text.specs.LineForm.{parse_of}
use Rattle.text.specs.Wrote.{Wrote}
use Rattle.text.specs.Answers.{LineAnswered, LinesFit, stateFrom, LinesAnswered, PieceFits, EndedAnswered}
use Rattle.text.specs.Stream.{lines_said, lines_after, piece_said, piece_kept, byte_kept}
use Rattle.text.specs.Report.{said_for, state_after, report_from, report_of}
use Rattle.text.specs.Pieces.{Kept, kept, held_most, after_byte, said_in, after_piece, progress_after, holds_open, fits, HeldOpen}
use Rattle.text.specs.Reading.{LastLf}
use Rattle.text.proofs.Bytes.{Without, and_true, index_none, index_fits, index_bound, split_first, before_without, without_append, without_cons, without_head, without_drop, without_take}
use Rattle.text.proofs.Wrote.{sets_append, ◌then◌, front, as_long}
use Rattle.text.proofs.Lines.{no_lines, lines_of_lem, lines_fit, line_last}
use Rattle.text.proofs.Reading.{lf_within}
use Rattle.text.proofs.Pieces.{kept_with, parse_held, said_append, after_append, rest_held, line_said, line_after}
use Rattle.text.proofs.Reporting.{lines_in, lines_in_lem, from_place, line_without}

-- What is held

pub take_past : (n : ℕ) (a b : List ℕ) → length a ≤ n → take n (a ++ b) ≡ a ++ take (n - length a) b
take_past n a b h =
    let q : n ≡ length a + (n - length a) = omega arith in
    ap (λ (k : ℕ). take k (a ++ b)) q ∙ take-append-add a b (n - length a)

-- a list has n elements before place n, if it has so many
pub length_taken : (n : ℕ) (l : List ℕ) → n ≤ length l → n ≡ length (take n l)
length_taken n l h = omega (arith, length-take n l)

-- what stands at the start, written there, changes nothing
pub sets_same : (l : List ℕ) (n : ℕ) → sets l 0 (take n l) ≡ l
sets_same l n =
    let h : 0 + length (take n l) ≤ length l = omega (arith, length-take n l) in
    let k : 0 + length (take n l) ≡ min n (length l) = omega (arith, length-take n l) in
    sets-eq (take n l) l 0 h
    ∙ ap (λ (i : ℕ). take n l ++ drop i l) k
    ∙ ap (λ (a : List ℕ). a ++ drop (min n (length l)) l) (sym (take_min n l))
    ∙ take-append-drop (min n (length l)) l

-- what was written at the start stands there
pub front_held : (l h : List ℕ) → length h ≤ length l → take (length h) (sets l 0 h) ≡ h
front_held l h q = front {l = l} {at = 0} {bs = h} {to = length h} (record { place = omega arith; memory = refl }) (omega arith)

-- n bytes are held, and as much of s as there is room for is written after them
pub holds : {memory memory' : List ℕ} {n m to : ℕ} (s : List ℕ) → n ≤ held_most → held_most ≤ length memory → m ≡ min (held_most - n) (length s)
    → Wrote memory n (take m s) memory' to
    → (to ≡ length (take held_most (take n memory ++ s))) × (memory' ≡ sets memory 0 (take held_most (take n memory ++ s)))
holds {memory} {memory'} {n} {m} {to} s h k e w = (
  w.place ∙ sym (ap length all ∙ length-append (take n memory) (take m s) ∙ ap (λ (i : ℕ). i + length (take m s)) long),
  w.memory ∙ sym (ap (sets memory 0) all ∙ sets_append memory 0 (take n memory) (take m s) ∙ ap₂ (λ (l : List ℕ) (i : ℕ). sets l i (take m s)) (sets_same memory n) (zero-add _ ∙ long)),
)
  where
    long : length (take n memory) ≡ n
    long = length-take n memory ∙ omega arith

    all : take held_most (take n memory ++ s) ≡ take n memory ++ take m s
    all =
        take_past held_most (take n memory) s (omega (arith, long))
        ∙ ap (λ (i : ℕ). take n memory ++ take (held_most - i) s) long
        ∙ ap (λ (l : List ℕ). take n memory ++ l) (sym (take_min (held_most - n) s))
        ∙ ap (λ (i : ℕ). take n memory ++ take i s) (sym e)

pub short_held : (memory : List ℕ) {n : ℕ} → n ≤ held_most → length (take n memory) ≤ held_most
short_held memory {n} h = omega (arith, length-take n memory)

-- so what is held fits
pub held_fits : (memory h : List ℕ) {m : ℕ} {memory' : List ℕ} → m ≡ length (take held_most h) → memory' ≡ sets memory 0 (take held_most h) → held_most ≤ length memory
    → m ≤ length memory'
held_fits memory h e f k = omega (arith, length-take held_most h, ap length f ∙ length-sets memory 0 (take held_most h))

pub still_fits : {l bs l' : List ℕ} {at to : ℕ} → Wrote l at bs l' to → held_most ≤ length l → held_most ≤ length l'
still_fits w h = omega (arith, as_long w)

-- what is held of a part that goes to the end
pub held_rest : (memory s : List ℕ) (i : ℕ) {m : ℕ} {memory' : List ℕ}
    → (let part = take (length s - i) (drop i s) in (m ≡ length (take held_most part)) × (memory' ≡ sets memory 0 (take held_most part)))
    → (m ≡ length (take held_most (drop i s))) × (memory' ≡ sets memory 0 (take held_most (drop i s)))
held_rest memory s i {m} {memory'} =
    subst (λ (l : List ℕ). (m ≡ length (take held_most l)) × (memory' ≡ sets memory 0 (take held_most l))) (take_all (length s - i) (drop i s) (omega (arith, length-drop i s)))

-- What a piece makes of it

-- as many bytes as are held at most are a line's beginning as it stands
cut_none : (s : State) (n : ℕ) {h : List ℕ} → length h ≤ held_most → kept s n h ≡ kept_with s n h
cut_none s n {h} q = ap (kept s n) (sym (take_all held_most h q))

pub piece_held : (s : State) (n : ℕ) (h l : List ℕ) → length h ≤ held_most → Without lf l
    → (said_in (kept s n h) l ≡ []) × (after_piece (kept s n h) l ≡ kept s n (take held_most (h ++ l)))
piece_held s n h l q w = rw (cut_none s n q) (rest_held s n h l w)

-- a part is its lines: they are answered, and nothing is held
abbrev OnlyLines : List ℕ → State → ℕ → Type 0
OnlyLines u s n = (said_in (kept s n []) u ≡ report_from (suc n) s (lines_of u)) × (after_piece (kept s n []) u ≡ kept (stateFrom s (lines_of u)) (n + length (lines_of u)) [])

-- LF is its last byte: so it is if what follows its first line is
module _ (u : List ℕ) (some : 0 < length u) (e : get_or u (length u - 1) 0 ≡ lf) where
  abbrev line : List ℕ
  line = up_to lf u

  abbrev more : List ℕ
  more = after lf u

  more_long : length more ≡ length u - suc (line_end u)
  more_long = length-drop (suc (line_end u)) u

  more_last : 0 < length more → get_or more (length more - 1) 0 ≡ lf
  more_last k =
      let q : suc (line_end u) + (length more - 1) ≡ length u - 1 = omega (arith, more_long) in
      get_or-drop (suc (line_end u)) u (length more - 1) 0 ∙ ap (λ (j : ℕ). get_or u j 0) q ∙ e

  one_more_lem : (s : State) (n : ℕ) → OnlyLines more (state_after s (parse_of line)) (suc n) → OnlyLines u s n
  unfolding lines_said lines_after
  one_more_lem s n on =
      let split : u ≡ line ++ (lf ∷ more) = split_first lf u (lf_within u 0 some e) in
      let lines : lines_of u ≡ line ∷ lines_of more = lines_of_lem u some in
      let count : suc n + length (lines_of more) ≡ n + suc (length (lines_of more)) = omega arith in
      let w = before_without lf u in (
        ap (said_in (kept s n [])) split
            ∙ line_said s n [] line more w
            ∙ ap (λ (z : List ℕ). said_for (suc n) s (parse_of line) ++ z) on.0
            ∙ ap (report_from (suc n) s) (sym lines),
        ap (after_piece (kept s n [])) split
            ∙ line_after s n [] line more w
            ∙ on.1
            ∙ ap (λ (k : ℕ). kept (stateFrom (state_after s (parse_of line)) (lines_of more)) k []) count
            ∙ ap (λ (z : List (List ℕ)). kept (stateFrom s z) (n + length z) []) (sym lines),
      )

-- nothing is too
no_more : (s : State) (n : ℕ) → OnlyLines [] s n
unfolding piece_said piece_kept lines_said lines_after
no_more s n = rw no_lines (refl, ap (λ (k : ℕ). kept s k []) (sym (add-zero n)))

-- so a part of which LF is the last byte, or that is empty, is its lines
ended_said : (m : ℕ) (u : List ℕ) → length u ≤ m → (0 < length u → get_or u (length u - 1) 0 ≡ lf) → (s : State) (n : ℕ) → OnlyLines u s n
ended_said zero [] h e s n = no_more s n
ended_said zero (b ∷ u) h e s n = absurd (omega arith)
ended_said (suc m) [] h e s n = no_more s n
ended_said (suc m) (b ∷ u) h e s n =
    let last = e (omega arith) in
    one_more_lem (b ∷ u) (omega arith) last s n
    (ended_said m (after lf (b ∷ u)) (omega (arith, more_long (b ∷ u) (omega arith) last)) (more_last (b ∷ u) (omega arith) last) (state_after s (parse_of (up_to lf (b ∷ u)))) (suc n))

-- a piece whose last LF stands before `rest`
module _ (piece : List ℕ) (rest : ℕ) (x : LastLf piece rest) where
  -- from a place before that on: the lines that end are answered, and what is left is held
  module _ (s : State) (n from : ℕ) (h : from ≤ rest) where
    abbrev u : List ℕ
    u = drop from (take rest piece)

    long : length u ≡ rest - from
    long = length-drop from (take rest piece) ∙ ap (λ (k : ℕ). k - from) (length-take-le rest piece x.within)

    joined : drop from piece ≡ u ++ drop rest piece
    joined = ap (drop from) (sym (take-append-drop rest piece)) ∙ drop-append-le from (take rest piece) (drop rest piece) (omega (arith, length-take-le rest piece x.within))

    last : 0 < length u → get_or u (length u - 1) 0 ≡ lf
    last k =
        let q : from + (length u - 1) ≡ rest - 1 = omega (arith, long) in
        get_or-drop from (take rest piece) (length u - 1) 0
        ∙ ap (λ (j : ℕ). get_or (take rest piece) j 0) q
        ∙ get_or-take rest piece (rest - 1) 0 (omega (arith, long))
        ∙ x.after_lf (omega (arith, long))

    pub part_said : said_in (kept s n []) (drop from piece) ≡ report_from (suc n) s (lines_in piece rest from)
    part_said =
        let (p, q) = ended_said (length u) u (omega arith) last s n in
        ap (said_in (kept s n [])) joined
        ∙ said_append (kept s n []) u (drop rest piece)
        ∙ ap₂ (λ (z : List ℕ) (k : Kept). z ++ said_in k (drop rest piece)) p q
        ∙ ap (λ (z : List ℕ). report_from (suc n) s (lines_of u) ++ z) (rest_held (stateFrom s (lines_of u)) (n + length (lines_of u)) [] (drop rest piece) x.none).0
        ∙ append-nil (report_from (suc n) s (lines_of u))

    pub part_after : after_piece (kept s n []) (drop from piece)
        ≡ kept (stateFrom s (lines_in piece rest from)) (n + length (lines_in piece rest from)) (take held_most (drop rest piece))
    part_after =
        let (p, q) = ended_said (length u) u (omega arith) last s n in
        ap (after_piece (kept s n [])) joined
        ∙ after_append (kept s n []) u (drop rest piece)
        ∙ ap (λ (k : Kept). after_piece k (drop rest piece)) q
        ∙ (rest_held (stateFrom s (lines_of u)) (n + length (lines_of u)) [] (drop rest piece) x.none).1

  -- nothing was held: all lines that end in the piece lie whole in it
  pub none_begun : {out out' : List ℕ} {at n lines to : ℕ} {s s' : State}
      → LinesAnswered (record { entry = out; exit = out' }) at (record { entry = s; exit = s' }) n (lines_in piece rest 0) lines to
      → EndedAnswered (record { entry = out; exit = out' }) at (kept s n []) piece rest s' lines to
  none_begun {n = n} {s = s} a =
      record {
        wrote = rw (part_said s n 0 (omega arith)) a.wrote;
        keeps = ap₂ (λ (z : State) (k : ℕ). kept z k (take held_most (drop rest piece))) a.fed a.counts ∙ sym (part_after s n 0 (omega arith));
      }

-- the first line of a piece, up to its LF, which stands at e
whole_first : (piece : List ℕ) (e : ℕ) → take (e - 0) piece ≡ take e piece
whole_first piece e = let z : e - 0 ≡ e = omega arith in ap (λ (k : ℕ). take k piece) z

pub first_without : (piece : List ℕ) (e : ℕ) → e ≡ line_end piece → Without lf (take e piece)
first_without piece e q = subst (Without lf) (whole_first piece e) (line_without piece 0 e (q ∙ sym (zero-add _)))

module _ (piece : List ℕ) (e : ℕ) (q : e ≡ line_end piece) (ends : e < length piece) where
  first_line : piece ≡ take e piece ++ (lf ∷ drop (e + 1) piece)
  first_line = from_place piece 0 e (q ∙ sym (zero-add _)) ends ∙ ap (λ (l : List ℕ). l ++ (lf ∷ drop (e + 1) piece)) (whole_first piece e)

  -- that LF is not after the last one
  pub first_before : {rest : ℕ} → LastLf piece rest → e + 1 ≤ rest
  first_before {rest} x = picked (leb rest e) refl
    where
      picked : (t : Bool) → leb rest e ≡ t → e + 1 ≤ rest
      picked false f = omega (arith, leb-false rest e f)
      picked true f =
          let i : rest + (e - rest) ≡ e = omega (arith, leb-true rest e f) in
          let w = subst (Without lf) (drop-drop (e - rest) rest piece ∙ ap (λ (k : ℕ). drop k piece) i) (without_drop lf (drop rest piece) (e - rest) x.none) in
          let there = ap (drop e) first_line ∙ drop_at (take e piece) (lf ∷ drop (e + 1) piece) e (length-take-le e piece (omega arith)) in
          absurd ((without_head lf lf (drop (e + 1) piece) (subst (Without lf) there w)).0 refl)

-- where there is a last LF, there is a first
pub some_lf : (piece : List ℕ) {e rest : ℕ} → e ≡ line_end piece → LastLf piece rest → 0 < rest → e < length piece
some_lf piece {rest = rest} q x h = omega (arith, index_bound lf piece (rest - 1) (omega (arith, x.within)) (x.after_lf h), x.within)

-- the lines before what follows it fit where there is room for a line for each byte
pub lines_before : (piece : List ℕ) {out : List ℕ} {at lines rest : ℕ} (from : ℕ) → LastLf piece rest → from ≤ rest → at + line_room * (rest - from) ≤ length out → lines + (rest - from) < 2 ^ 64
    → LinesFit out at lines piece from rest
lines_before piece {rest = rest} from x h r k =
    let l = lines_in_lem piece rest from in
    record { begins = h; uncut = record { within = x.within; after_lf = λ i _. x.after_lf i }; room = omega (arith, l); counted = omega (arith, l) }

-- the line that has begun with h ends in the piece
module _ (s : State) (n : ℕ) (h piece : List ℕ) (e : ℕ) (short : length h ≤ held_most) (q : e ≡ line_end piece) (ends : e < length piece) where
  -- the state after that line
  abbrev next : State
  next = state_after s (parse_of (h ++ take e piece))

  said : said_in (kept s n h) piece ≡ said_for (n + 1) s (parse_of (h ++ take e piece)) ++ said_in (kept next (n + 1) []) (drop (e + 1) piece)
  said =
      ap₂ said_in (cut_none s n short) (first_line piece e q ends) ∙ line_said s n h (take e piece) (drop (e + 1) piece) (first_without piece e q)
      ∙ ap (λ (k : ℕ). said_for k s (parse_of (h ++ take e piece)) ++ said_in (kept next k []) (drop (e + 1) piece)) (sym (add-one n))

  goes_on : after_piece (kept s n h) piece ≡ after_piece (kept next (n + 1) []) (drop (e + 1) piece)
  goes_on =
      ap₂ after_piece (cut_none s n short) (first_line piece e q ends) ∙ line_after s n h (take e piece) (drop (e + 1) piece) (first_without piece e q)
      ∙ ap (λ (k : ℕ). after_piece (kept next k []) (drop (e + 1) piece)) (sym (add-one n))

  -- that line, and those that end after it
  pub some_begun : {rest : ℕ} {out out₁ out₂ : List ℕ} {at at₁ at₂ lines : ℕ} {s₁ s₂ : State} → LastLf piece rest
      → LineAnswered (record { entry = out; exit = out₁ }) at (n + 1) (record { entry = s; exit = s₁ }) (parse_of (h ++ take e piece)) at₁
      → LinesAnswered (record { entry = out₁; exit = out₂ }) at₁ (record { entry = s₁; exit = s₂ }) (n + 1) (lines_in piece rest (e + 1)) lines at₂
      → EndedAnswered (record { entry = out; exit = out₂ }) at (kept s n h) piece rest s₂ lines at₂
  some_begun {rest} {out₁ = out₁} {out₂} {at₁ = at₁} {at₂} x a b =
      let ls = lines_in piece rest (e + 1) in
      let before = first_before piece e q ends x in
      record {
        wrote = rw (said, part_said piece rest x next (n + 1) (e + 1) before)
            (a.wrote then subst (λ (z : State). Wrote out₁ at₁ (report_from (suc (n + 1)) z ls) out₂ at₂) a.fed b.wrote);
        keeps = ap₂ (λ (z : State) (k : ℕ). kept z k (take held_most (drop rest piece))) (b.fed ∙ ap (λ (z : State). stateFrom z ls) a.fed) b.counts
            ∙ sym (goes_on ∙ part_after piece rest x next (n + 1) (e + 1) before);
      }

-- As memory

-- a text of one line without LF
pub one_line : (line : List ℕ) {b : ℕ} → b ≡ length line → Without lf line → 0 < length line → lines_in line b 0 ≡ line ∷ []
one_line line q w h = ap lines_of (ap (λ (k : ℕ). take k line) q ∙ take-length line) ∙ line_last line w h

-- what is held of a line says what the line does
line_answered : (h : List ℕ) {out out' : List ℕ} {at n lines to : ℕ} {s s' : State}
    → LinesAnswered (record { entry = out; exit = out' }) at (record { entry = s; exit = s' }) n (take held_most h ∷ []) lines to
    → LineAnswered (record { entry = out; exit = out' }) at (n + 1) (record { entry = s; exit = s' }) (parse_of h) to
unfolding lines_said lines_after
line_answered h {out} {out'} {at} {n} {to = to} {s} a =
    record {
      room = omega (arith, a.room);
      wrote = subst (λ (z : List ℕ). Wrote out at z out' to) (append-nil _ ∙ ap₂ (λ (k : ℕ) (p : Option Record). said_for k s p) (sym (add-one n)) (parse_held h)) a.wrote;
      fed = a.fed ∙ ap (state_after s) (parse_held h);
    }

-- the first n bytes of `memory` and what follows them, put together in memory of their own: as much of a line as is held at most
module _ (zeros memory s : List ℕ) {n a b : ℕ} {joint line : List ℕ} (some : 0 < n) (short : n ≤ held_most) (room : held_most ≤ length memory)
    (clean : n ≤ line_end (take n memory)) (zeros-fit : held_most ≤ length zeros) (w : Wrote zeros 0 (take n memory) joint a)
    (q : b ≡ length (take held_most (take a joint ++ s))) (e : line ≡ sets joint 0 (take held_most (take a joint ++ s))) where
  joins : take a joint ≡ take n memory
  joins = front w (omega (arith, length-take n memory))

  whole_line : take b line ≡ take held_most (take n memory ++ s)
  whole_line =
      let fit : length (take held_most (take a joint ++ s)) ≤ length joint = omega (arith, length-take held_most (take a joint ++ s), as_long w) in
      ap₂ (λ (i : ℕ) (l : List ℕ). take i l) q e
      ∙ front_held joint (take held_most (take a joint ++ s)) fit
      ∙ ap (λ (l : List ℕ). take held_most (l ++ s)) joins

  joined_long : b ≡ length (take b line)
  joined_long = q ∙ ap (λ (l : List ℕ). length (take held_most (l ++ s))) joins ∙ sym (ap length whole_line)

  not_empty : 0 < length (take b line)
  not_empty =
      omega (arith, ap length whole_line, length-take held_most (take n memory ++ s), length-append (take n memory) s, length-take n memory)

  module _ (open-rest : Without lf s) where
    no_lf : Without lf (take b line)
    no_lf =
        let held : Without lf (take n memory) = omega (arith, clean, index_fits lf (take n memory), length-take n memory) in
        subst (Without lf) (sym whole_line) (without_take lf (take n memory ++ s) held_most (without_append lf (take n memory) s held open-rest))

    one : lines_in (take b line) b 0 ≡ take b line ∷ []
    one = one_line (take b line) joined_long no_lf not_empty

    pub joined_fits : {out : List ℕ} {at lines : ℕ} → at + line_room ≤ length out → lines + 1 < 2 ^ 64 → LinesFit out at lines (take b line) 0 b
    joined_fits h k =
        record {
          begins = omega arith;
          uncut = record { within = omega (arith, joined_long); after_lf = λ _ l. absurd (omega (arith, joined_long)) };
          room = omega (arith, ap length one);
          counted = omega (arith, ap length one);
        }

    pub joined_answered : {out out' : List ℕ} {at m lines to : ℕ} {z z' : State}
        → LinesAnswered (record { entry = out; exit = out' }) at (record { entry = z; exit = z' }) m (lines_in (take b line) b 0) lines to
        → LineAnswered (record { entry = out; exit = out' }) at (m + 1) (record { entry = z; exit = z' }) (parse_of (take n memory ++ s)) to
    joined_answered {out} {out'} {at} {m} {lines} {to} {z} {z'} x =
        line_answered (take n memory ++ s)
        (subst (λ (ls : List (List ℕ)). LinesAnswered (record { entry = out; exit = out' }) at (record { entry = z; exit = z' }) m ls lines to)
        (one ∙ ap (λ (l : List ℕ). l ∷ []) whole_line) x)

pub progress_said : (k : Kept) (piece : List ℕ) (at : ℕ) {to n lines : ℕ} {s : State} {h : List ℕ} → after_piece k piece ≡ kept s lines h
    → n ≡ length h → to ≡ at + length (said_in k piece)
    → record { lines = lines; held = n; at = to } ≡ progress_after k at piece
progress_said k piece at e f g = rw (e, f, g)

pub held_open : HeldOpen
unfolding piece_kept byte_kept
held_open k [] w = w
held_open k (b ∷ s) w = held_open (after_byte k b) s (picked (eqb b lf) refl)
  where
    picked : (t : Bool) → eqb b lf ≡ t → Without lf (after_byte k b).held
    picked true e = rw e (index_none lf)
    picked false e =
        rw e (without_take lf (k.held ++ (b ∷ [])) held_most (without_append lf k.held (b ∷ []) w (without_cons lf b [] (eqb-false b lf e) (index_none lf))))

-- The whole text

-- its lines fit where there is room for each
pub text_fits : (report text : List ℕ) → line_room * length (lines_of text) ≤ length report → length text < 2 ^ 64 → LinesFit report 0 0 text 0 (length text)
text_fits report text h k =
    let all = ap (λ (l : List ℕ). length (lines_of l)) (take-length text) in
    record {
      begins = omega arith;
      uncut = record { within = omega arith; after_lf = λ _ l. absurd (omega arith) };
      room = omega (arith, all);
      counted = omega (arith, all, lines_fit text);
    }

-- all its lines are answered from a fresh state
pub text_said : (text : List ℕ) {s : State} {report report' : List ℕ} {to : ℕ}
    → Wrote report 0 (report_from 1 s (lines_in text (length text) 0)) report' to → s ≡ fresh_state
    → Wrote report 0 (report_of text) report' to
unfolding report_of
text_said text {s} {report} {report'} {to} w e =
    subst (λ (z : List ℕ). Wrote report 0 z report' to) (ap₂ (λ (z : State) (l : List ℕ). report_from 1 z (lines_of l)) e (take-length text)) w

-- Room

-- so many more lines can be counted in 64 bits, where so many are counted
in_64 : (lines more : ℕ) → lines < 2 ^ 64 → more ≤ 2 ^ 64 - 1 - lines → lines + more < 2 ^ 64
in_64 lines more b h = omega arith

-- where a piece fits, its lines do, and so does what is held
pub room_enough : (out piece held : List ℕ) (begun : Progress) → begun.lines < 2 ^ 64 → fits (length out) (length piece) held begun ≡ true
    → PieceFits out piece held begun
room_enough out piece held begun w e =
    let (a, r) = and_true (leb begun.at (length out)) _ e in
    let (b, r₁) = and_true (leb (length piece) ((length out - begun.at) / line_room)) _ r in
    let (o, f) = and_true (holds_open held begun.held) _ r₁ in
    let (c, r₂) = and_true (leb held_most (length held)) _ o in
    let (d, g) = and_true (leb begun.held held_most) _ r₂ in
    let h = leb-true begun.at (length out) a in
    let k = leb-true (length piece) ((length out - begun.at) / line_room) b in
    let l = leb-true (length piece) (2 ^ 64 - 1 - begun.lines) f in
    record {
      room = omega (arith, h, k);
      short = leb-true begun.held held_most d;
      holds = leb-true held_most (length held) c;
      whole = leb-true begun.held (line_end (take begun.held held)) g;
      counted = in_64 begun.lines (length piece) w l;
    }
