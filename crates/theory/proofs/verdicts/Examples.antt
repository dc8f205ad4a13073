-- K1 to K12 and the rows beside them follow from the definitions: the findings are computed, and what is computed is right.
-- Assumes nothing.
use mathlib.Core.Path.{◌≡◌, refl, ap, subst, ◌∙◌}
use mathlib.Core.Bool.{Bool, true, false}
use mathlib.Core.List.{List, [], ◌∷◌, ◌++◌, map, tail, append_assoc}
use Prim.Native.Nat.{ℕ, suc}
use native.Mathlib.Numerals.{add-one}
use lib.Dec.{T}
use lib.ListN.{length, get_or, length-append}
use Rattle.theory.specs.order.Recording.{Event, act, lost, is_access}
use Rattle.theory.specs.order.Path.{rule}
use Rattle.theory.specs.fillings.Completion.{part, round, rounds, on_each}
use Rattle.theory.specs.verdicts.Search.{Finding, finding, findings_after, findings, judge}
use Rattle.theory.specs.verdicts.Examples.{Example, RightFindings, nothing_left, to_access, to_other, to_mark, AllRight, no_rows, and_row, table}
use Rattle.theory.proofs.order.Places.{Ends, ends, onward}
use Rattle.theory.proofs.basics.Reflects.{Reflects, right, wrong, by_test}
use Rattle.theory.proofs.verdicts.Demands.{judge_ruling, ruling_firm, ruling_with}

-- The findings to a recording are right

pub ends_middle : (before : List Event) {f : Event} (rest : List Event) → Ends (before ++ (f ∷ rest)) (length before) before f
ends_middle [] rest = ends
ends_middle (x ∷ before) rest = onward (ends_middle before rest)

-- what holds with f behind those passed holds with f first of the rest
passed_on : (before : List Event) (f : Event) (rest : List Event) {more : List Finding} →
    RightFindings ((before ++ (f ∷ [])) ++ rest) (length (before ++ (f ∷ []))) rest more → RightFindings (before ++ (f ∷ rest)) (suc (length before)) rest more
passed_on before f rest {more} h =
    subst (λ (l : List Event). RightFindings l (suc (length before)) rest more) (append_assoc before (f ∷ []) rest)
    (subst (λ (n : ℕ). RightFindings ((before ++ (f ∷ [])) ++ rest) n rest more) (length-append before (f ∷ []) ∙ add-one (length before)) h)

answered_after : (before rest : List Event) → RightFindings (before ++ rest) (length before) rest (findings_after before rest)
answered_after before [] = nothing_left
answered_after before (act o t n ∷ rest) = of_act (by_test (is_access o)) (passed_on before (act o t n) rest (answered_after (before ++ (act o t n ∷ [])) rest))
  where
    of_act : {b : Bool} {more : List Finding} → Reflects (T (is_access o)) b → RightFindings (before ++ (act o t n ∷ rest)) (suc (length before)) rest more →
        RightFindings (before ++ (act o t n ∷ rest)) (length before) (act o t n ∷ rest)
        (elim b [ true ↦ finding (suc (length before)) (judge before (act o t n)) ∷ more | false ↦ more ])
    of_act (right a) h = to_access a (record { number = refl; firm = ruling_firm (judge_ruling (ends_middle before rest)); partner = ruling_with (judge_ruling (ends_middle before rest)) }) h
    of_act (wrong l) h = to_other l h
answered_after before (lost mask ∷ rest) = to_mark (passed_on before (lost mask) rest (answered_after (before ++ (lost mask ∷ [])) rest))

pub findings_right : (es : List Event) → RightFindings es 0 es (findings es)
findings_right = answered_after []

-- The table

rows_right : (xs : List Example) → map (λ (x : Example). findings x.events) xs ≡ map (λ (x : Example). x.answered) xs → AllRight xs
rows_right [] e = no_rows
rows_right (x ∷ xs) e =
    and_row (subst (RightFindings x.events 0 x.events) (ap first_of e) (findings_right x.events)) (rows_right xs (ap tail e))
  where
    first_of : List (List Finding) → List Finding
    first_of l = get_or l 0 []

pub table_right : AllRight table
unfolding part round rounds on_each judge rule
table_right = rows_right table refl
