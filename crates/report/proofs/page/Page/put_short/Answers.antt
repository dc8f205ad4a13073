-- A number below 100: from ten on both digits, and below ten the last one over the other. Assumes nothing.
-- two digits
use mathlib.Core.Path.{◌≡◌, refl, ap, ◌∙◌}
use mathlib.Core.Bool.{Bool, true, false, cond}
use mathlib.Core.List.{List, [], ◌∷◌, ◌++◌}
use Prim.Native.Nat.{ℕ, ◌+◌, ◌/◌, ◌≤◌, ◌<◌}
use native.Mathlib.Omega.{arith}
use lib.Dec.{ltb}
use lib.ListN.{length}
use borrow.Author.Tests.{ltb-true, ltb-false}
use Rattle.text.specs.Printing.{last_digit, decimal}
use Rattle.text.specs.Wrote.{Wrote}
use Rattle.text.proofs.Wrote.{◌then◌, wrote_over}
use Rattle.text.proofs.Digits.{decimal_small, decimal_more, length_small}
use Rattle.report.proofs.page.Page.put_short.Goals as goal

decimal-two : (n : ℕ) → 10 ≤ n → n < 100 → decimal n ≡ (last_digit (n / 10) ∷ []) ++ (last_digit n ∷ [])
decimal-two n h k = decimal_more n h ∙ ap (λ (ds : List ℕ). ds ++ (last_digit n ∷ [])) (decimal_small (n / 10) (omega arith))

-- the digits before the last, and it
length-short : (n : ℕ) → n < 100 → length (decimal n) ≡ cond (ltb n 10) 0 1 + 1
length-short n h = picked (ltb n 10) refl
  where
    picked : (t : Bool) → ltb n 10 ≡ t → length (decimal n) ≡ cond t 0 1 + 1
    picked true e = length_small n (ltb-true n 10 e)
    picked false e = ap length (decimal-two n (ltb-false n 10 e) h)

wrote-short : {l l' l'' : List ℕ} {at to to' : ℕ} (n last : ℕ) → n < 100 → last ≡ at + cond (ltb n 10) 0 1
    → Wrote l at (last_digit (n / 10) ∷ []) l' to → Wrote l' last (last_digit n ∷ []) l'' to' → Wrote l at (decimal n) l'' to'
wrote-short {l} {l'} {l''} {at} {to} {to'} n last h q v w = picked (ltb n 10) refl q
  where
    picked : (t : Bool) → ltb n 10 ≡ t → last ≡ at + cond t 0 1 → Wrote l at (decimal n) l'' to'
    picked true e q = let p : last ≡ at = omega arith in rw (decimal_small n (ltb-true n 10 e)) (wrote_over v (rw p at w))
    picked false e q = let p : last ≡ to = omega (arith, v.place) in rw (decimal-two n (ltb-false n 10 e) h) (v then rw p at w)

pub put_digit-requires : goal.put_digit-requires
put_digit-requires c = omega (arith, length-short c.args.n c.requires.0)

pub put_digit-requires-2 : goal.put_digit-requires-2
put_digit-requires-2 c = omega (arith, c.before_last.ensures, length-short c.args.n c.requires.0)

pub returns : goal.returns
returns c =
    let v = c.put_digit.ensures in
    let w = c.put_digit-2.ensures in
    record {
      same = w.same ∙ v.same;
      long = w.long ∙ v.long;
      wrote = wrote-short c.args.n _ c.requires.0 (ap (λ (k : ℕ). c.args.self.now.at + k) c.before_last.ensures) v.wrote w.wrote;
    }
