-- What the lazy reckoning keeps is right of each recording, so that following a list keeps it right. Assumes nothing.
use mathlib.Core.Path.{◌≡◌, sym, subst}
use mathlib.Core.List.{List, [], ◌∷◌, ◌++◌}
use Prim.Native.Nat.{ℕ, ◌<◌}
use lib.Dec.{T}
use lib.ListN.{replicate, length-replicate}
use Rattle.theory.specs.declared.record.Record.{Record}
use Rattle.theory.specs.order.Limits.{tasks}
use Rattle.theory.specs.order.Recording.{Op, Event, event_of, is_access}
use Rattle.theory.specs.acceptance.Table.{refusal}
use Rattle.theory.specs.acceptance.Control.{control_after}
use Rattle.theory.specs.history.History.{slots}
use Rattle.theory.specs.tables.Rows.{hub}
use Rattle.theory.specs.tables.Reckonings.{word_bits}
use Rattle.theory.specs.feeding.Step.{fresh_control}
use Rattle.requests.specs.lazy.Fold.{Lazy, column, recorded, lazy_after, fresh_lazy}
use Rattle.theory.proofs.order.Ops.{event_act, no_mark, on_series}
use Rattle.theory.proofs.order.Places.{nowhere}
use Rattle.theory.proofs.fillings.HasActed.{none_acted}
use Rattle.requests.proofs.following.Following.{Keeps}
use Rattle.theory.proofs.feeding.Simulation.{Shape, an_act, a_mark, shape_of, Base, base_next, fresh_base}
use Rattle.requests.proofs.lazy.Columns.{none_of_zero}
use Rattle.requests.proofs.lazy.Tracks.{Tracks}
use Rattle.requests.proofs.lazy.Steps.{asked_for, asking, Lazily, lazily_mark, lazily_act}

module _ (p : Op) (t v : ℕ) (isa : T (is_access p)) (ht : t < tasks) where
  -- what is kept, and the control table, are right of a recording
  pub record HoldsLazily (es : List Event) (control : List ℕ) (s : Lazy) : Type 0 where
    pub last : List ℕ
    pub base : Base es control last
    pub lazily : Lazily p t v isa ht es s

  holds_next : {es : List Event} {control : List ℕ} {s : Lazy} → HoldsLazily es control s → (r : Record) → refusal es r ≡ 0 →
      HoldsLazily (es ++ (event_of r ∷ [])) (control_after r.kind r.task r.on control) (recorded (asked_for p t v isa ht) r s)
  holds_next {es} {control} {s} x r e = let h = shape_of es r e in record { last = _; base = base_next x.base h; lazily = of h }
    where
      of : {r : Record} → Shape es r → Lazily p t v isa ht (es ++ (event_of r ∷ [])) (recorded (asked_for p t v isa ht) r s)
      of (an_act o k n a) = rw (event_act o k n, no_mark o) (lazily_act p t v isa ht es s x.lazily o k n (on_series o a.fits) x.base.seen x.base.ranged a)
      of (a_mark k mask m) = lazily_mark p t v isa ht es s x.lazily mask

  pub lazy_keeps : Keeps (lazy_after (asked_for p t v isa ht)) HoldsLazily
  lazy_keeps = record { exact = λ h. h.base.control_exact; step = λ h. holds_next h }

  -- nothing is kept of the empty recording
  pub fresh_holds : HoldsLazily [] fresh_control fresh_lazy
  unfolding fresh_lazy
  fresh_holds =
      record {
        last = replicate slots 0;
        base = fresh_base;
        lazily =
            record {
              whole = record { nodes = length-replicate {A = ℕ} hub 0; counts = length-replicate {A = ℕ} word_bits 0 };
              acting = λ u h. (λ e. absurd (subst T (none_of_zero u) (subst T (sym e) tt)), λ a. absurd (none_acted a));
              tracks = λ side u hs hu. none side u;
            };
      }
    where
      none : (side u : ℕ) → Tracks t v u (asking p t v isa ht side) (column side u) [] fresh_lazy
      none side u =
          record {
            pair = (λ h. absurd (subst T (none_of_zero (column side u)) h), λ d. absurd (nowhere d.1.occurs));
            follows = λ i a. absurd (nowhere a.occurs);
            ended = record { acting = λ m d. absurd (nowhere d.occurs); joined = λ m a d. absurd (nowhere d.occurs) };
            brought = λ i a. absurd (nowhere a.occurs);
            known = (λ h. absurd (subst T (none_of_zero (column side u)) h), λ d. absurd (nowhere d.1.occurs));
            counts = λ i a. absurd (nowhere a.occurs);
          }
