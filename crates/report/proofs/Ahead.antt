-- The loop over the lines of a text that reads one line ahead of the one that it answers. Assumes nothing.
use mathlib.Core.Path.{◌≡◌, refl, sym, ◌∙◌, subst}
use mathlib.Core.Bool.{Bool, true, false, cond}
use mathlib.Core.List.{List}
use Prim.Native.Nat.{ℕ, ◌+◌, ◌-◌, ◌≤◌, ◌<◌}
use native.Mathlib.Omega.{arith}
use lib.Dec.{T, ltb}
use borrow.Author.Tests.{ltb-true, ltb-false}
use Rattle.std.specs.Prelude.{Option}
use Rattle.theory.specs.declared.record.Record.{Record}
use Rattle.theory.specs.declared.state.State.{State}
use Rattle.text.specs.LineForm.{parse_of}
use Rattle.text.specs.Reading.{line_at, next_at, LineStarts}
use Rattle.text.proofs.Reading.{moves_on}
use Rattle.text.proofs.Reporting.{Left, left_start, left_taken}
use Rattle.report.specs.declared.answering.Reached.{Reached}
use Rattle.report.specs.Held.{HeldAnswered}

-- a test that is true and false
pub never : {b : Bool} → b ≡ true → b ≡ false → ⊥
never e f = subst T (sym e ∙ f) tt

-- the line that begins there is held, and p is the place after it
pub record HeldAhead (text : List ℕ) (end begins : ℕ) (parsed : Option Record) (p : ℕ) : Type 0 where
  pub within : begins < end
  pub says : parsed ≡ parse_of (line_at text begins)
  pub next : p ≡ next_at text begins

-- the lines before `begins` are answered. The one that begins there is held; or none is, and it is read next, unless there is none
pub record Ahead (text : List ℕ) (end : ℕ) (memory : List ℕ) (start : ℕ) (s₀ : State) (n₀ p₀ : ℕ) (report : List ℕ) (s : State) (reached : Reached)
    (p : ℕ) (going held : Bool) (parsed : Option Record) : Type 0 where
  pub begins : ℕ
  pub left : Left text end memory start s₀ n₀ p₀ report reached.at s reached.lines begins
  pub holds : held ≡ true → HeldAhead text end begins parsed p
  pub begun : held ≡ false → going ≡ true → p ≡ begins
  pub over : going ≡ false → end ≤ begins

module _ {text : List ℕ} {end : ℕ} {memory : List ℕ} {start : ℕ} {s₀ : State} {n₀ p₀ : ℕ} where
  pub ahead_start : {parsed : Option Record} → Ahead text end memory start s₀ n₀ p₀ memory s₀ (record { lines = n₀; at = start }) p₀ (ltb p₀ end) false parsed
  ahead_start =
      record {
        begins = p₀;
        left = left_start;
        holds = λ e. absurd (never e refl);
        begun = λ e f. refl;
        over = ltb-false p₀ end;
      }

  module _ {report : List ℕ} {s : State} {reached : Reached} {p : ℕ} {going held : Bool} {parsed : Option Record} where
    -- the line that is held was answered, if one was: those before p are
    pub caught_up : {report' : List ℕ} {s' : State} {reached' : Reached} → LineStarts text end → going ≡ true
        → Ahead text end memory start s₀ n₀ p₀ report s reached p going held parsed
        → HeldAnswered (record { entry = report; exit = report' }) reached held (record { entry = s; exit = s' }) parsed reached'
        → Left text end memory start s₀ n₀ p₀ report' reached'.at s' reached'.lines p
    caught_up {report'} {s'} {reached'} w g x a = by held refl
      where
        by : (b : Bool) → held ≡ b → Left text end memory start s₀ n₀ p₀ report' reached'.at s' reached'.lines p
        by true e = let h = x.holds e in rw (a.counts e) (left_taken x.left w h.within h.says h.next (a.answered e))
        by false e = let (o, t, r) = a.same e in rw (o, t, r, x.begun e g) x.left

  -- the next line is read
  pub read_ahead : {report : List ℕ} {s : State} {reached : Reached} {p p' : ℕ} {next : Option Record}
      → Left text end memory start s₀ n₀ p₀ report reached.at s reached.lines p → next ≡ parse_of (line_at text p) → p' ≡ next_at text p
      → Ahead text end memory start s₀ n₀ p₀ report s reached p' (ltb p end) (ltb p end) next
  read_ahead {p = p} x e f =
      record {
        begins = p;
        left = x;
        holds = λ h. record { within = ltb-true p end h; says = e; next = f };
        begun = λ g h. absurd (never h g);
        over = ltb-false p end;
      }

-- what is left to do: each turn passes a place before the end, but for the last
abbrev pub ahead : ℕ → ℕ → Bool → ℕ
ahead end p going = cond going (1 + (end - p)) 0

pub less_ahead : (text : List ℕ) (end p p' : ℕ) (going : Bool) → LineStarts text end → going ≡ true → p' ≡ next_at text p → ahead end p' (ltb p end) < ahead end p going
less_ahead text end p p' going w g e = rw g (by (ltb p end) refl)
  where
    by : (b : Bool) → ltb p end ≡ b → ahead end p' b < ahead end p true
    by true h = let m = moves_on text end p w (ltb-true p end h) e in omega (arith, m.0, m.1)
    by false h = omega arith
