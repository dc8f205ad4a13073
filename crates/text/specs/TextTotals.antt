-- The totals of a text that comes in pieces, at each cut: what the running state says after a piece is the count over the report so far.
use Rattle.std.specs.Prelude.{ℕ, cond, List, [], ◌∷◌, ◌++◌, map, eqb}
use Rattle.theory.specs.declared.record.Record.{Record}
use Rattle.theory.specs.feeding.Meaning.{meaning}
use Rattle.theory.specs.feeding.Feeding.{fed}
use Rattle.theory.specs.totals.Counting.{Totalled}
use Rattle.text.specs.Lines.{lf}
use Rattle.text.specs.Pieces.{Kept, fresh_kept, said_in, after_piece, whole_of}
use Rattle.text.specs.TextDemands.{Tells}

-- what is kept after pieces, and what the report has for them so far
abbrev pub after_pieces : Kept → List (List ℕ) → Kept
after_pieces k [] = k
after_pieces k (p ∷ ps) = after_pieces (after_piece k p) ps

abbrev pub said_so_far : Kept → List (List ℕ) → List ℕ
said_so_far k [] = []
said_so_far k (p ∷ ps) = said_in k p ++ said_so_far (after_piece k p) ps

-- the lines that an LF has ended in a text, where a line has begun with h
abbrev pub ended_in : List ℕ → List ℕ → List (List ℕ)
ended_in h [] = []
ended_in h (b ∷ text) = cond (eqb b lf) (h ∷ ended_in [] text) (ended_in (h ++ (b ∷ [])) text)

-- however a text is cut: the lines that have ended say records, the report so far is made of the answers to them, and the totals of the state
-- count these
abbrev pub TextTotals : Type 0
TextTotals =
    (pieces : List (List ℕ)) →
    (rs : List Record)
    × Tells 1 (ended_in [] (whole_of pieces)) rs (fed rs) (said_so_far fresh_kept pieces)
    × Totalled (after_pieces fresh_kept pieces).state.control rs (map meaning (fed rs))
