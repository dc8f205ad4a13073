-- The lines of a table: how long they are, and which there are.
use mathlib.Core.Path.{◌≡◌, sym, ap, ap₂, ◌∙◌}
use mathlib.Core.List.{List, [], ◌++◌}
use Prim.Native.Nat.{ℕ, ◌+◌, ◌*◌, ◌^◌, ◌≤◌, ◌<◌}
use native.Mathlib.Numerals.{add-one}
use native.Mathlib.Omega.{arith}
use lib.ListN.{length, length-append}
use borrow.Author.Tests.{eq-eqb, ne_eqb, lt-ltb}
use Rattle.std.specs.Prelude.{Some}
use Rattle.std.proofs.lemmas.Option.{same_Some}
use Rattle.theory.specs.declared.verdict_totals.Totals.{Totals}
use Rattle.theory.specs.order.Limits.{variables}
use Rattle.theory.specs.totals.Totals.{totals_in, totals_of}
use Rattle.totals.specs.declared.sums.Sums.{Sums}
use Rattle.totals.specs.Table.{Small, nothing_yet, added, all_of, name_width, count_width, right_aligned, count_columns, sums_below, variable_line, lines_below}
use Rattle.totals.proofs.Aligned.{aligned_fits}

module _ (s : Sums) where
  pub length_counts : length (count_columns s)
      ≡ length (right_aligned count_width s.clear) + length (right_aligned count_width s.race) + length (right_aligned count_width s.doubt) + length (right_aligned count_width (all_of s)) + 1
  unfolding count_columns
  length_counts = simp length-append

  pub counts_fit : Small s → length (count_columns s) ≤ 85
  counts_fit h =
      omega (
        arith,
        length_counts,
        h,
        aligned_fits count_width s.clear (omega arith) (omega arith),
        aligned_fits count_width s.race (omega arith) (omega arith),
        aligned_fits count_width s.doubt (omega arith) (omega arith),
        aligned_fits count_width (all_of s) (omega arith) (omega arith),
      )

-- sums that begin at 0
pub no_sums : {s : Sums} → (s.clear ≡ 0) × ((s.race ≡ 0) × (s.doubt ≡ 0)) → s ≡ nothing_yet
no_sums {s} e =
    let of : ℕ → ℕ → ℕ → Sums = λ c r d. record { clear = c; race = r; doubt = d } in
    ap (λ (c : ℕ). of c s.race s.doubt) e.0 ∙ ap₂ (of 0) e.1.0 e.1.1

module _ (v : ℕ) (t : Totals) where
  -- the sums of one variable, as they are reckoned
  pub one_variable : {none s : Sums} → none ≡ nothing_yet → s ≡ added none t → s ≡ added nothing_yet t
  one_variable b e = e ∙ ap (λ (x : Sums). added x t) b

  pub line_none : all_of (added nothing_yet t) ≡ 0 → variable_line v t ≡ []
  unfolding variable_line
  line_none h = rw (eq-eqb (all_of (added nothing_yet t)) 0 h)

  pub line_some : (all_of (added nothing_yet t) ≡ 0 → ⊥) → variable_line v t ≡ right_aligned name_width v ++ count_columns (added nothing_yet t)
  unfolding variable_line
  line_some h = rw (ne_eqb (all_of (added nothing_yet t)) 0 h)

-- One variable more

-- each sum is at most n
pub record WithinSums (n : ℕ) (s : Sums) : Type 0 where
  pub clear : s.clear ≤ n
  pub race : s.race ≤ n
  pub doubt : s.doubt ≤ n

-- a total has 32 bits
pub record Fits32 (t : Totals) : Type 0 where
  pub clear : t.clear < 2 ^ 32
  pub race : t.race < 2 ^ 32
  pub doubt : t.doubt < 2 ^ 32

-- of all variables they are small still
pub small : {v : ℕ} {s : Sums} → v ≤ variables → WithinSums (v * 2 ^ 32) s → Small s
small h w = record { clear = omega arith; race = omega arith; doubt = omega arith }

pub sums_within_more : {n : ℕ} {s r : Sums} {t : Totals} → WithinSums n s → Fits32 t → r ≡ added s t → WithinSums (n + 2 ^ 32) r
sums_within_more {s = s} {t = t} w f e = rw e (record { clear = omega arith; race = omega arith; doubt = omega arith })

module _ (control : List ℕ) (v : ℕ) where
  -- there are totals of each variable
  pub known_totals : v < variables → totals_of control v ≡ Some (totals_in control v)
  known_totals h = rw (lt-ltb v variables h)

  -- and those that are found are its own
  pub found_totals : {t : Totals} → v < variables → totals_of control v ≡ Some t → t ≡ totals_in control v
  found_totals {t} h e = sym (same_Some (totals_in control v) t (sym (known_totals h) ∙ e))

  pub next_lines : lines_below control (v + 1) ≡ lines_below control v ++ variable_line v (totals_in control v)
  unfolding lines_below
  next_lines = rw (add-one v)

  pub next_sums : {s r : Sums} {t : Totals} → s ≡ sums_below control v → t ≡ totals_in control v → r ≡ added s t → r ≡ sums_below control (v + 1)
  unfolding sums_below
  next_sums p q e = rw (add-one v) (e ∙ ap₂ added p q)
