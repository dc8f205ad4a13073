-- The pieces of a block, by their places in it. Which bytes were read, nothing says.
use Rattle.std.specs.Prelude.{ℕ, ◌+◌, min, Bool, true, false, cond, ◌&&◌, List, ltb, leb, length, drop, set}
use Rattle.text.specs.Lines.{lf, line_end}
use Rattle.input.specs.declared.Span.{Span}

-- a piece has so many bytes at most
abbrev pub piece_most : ℕ
piece_most = 4096

-- how far the piece from a place on may go, where so many bytes of its block were read
abbrev pub furthest : ℕ → ℕ → ℕ
furthest from len = min len (from + piece_most)

-- after the next LF, if that is not too far
abbrev pub after_lf : List ℕ → ℕ → ℕ → ℕ
after_lf block from most = min most (from + line_end (drop from block) + 1)

-- the piece from a place on; where lines are asked for, it ends after the next LF
abbrev pub piece_at : Bool → List ℕ → ℕ → ℕ → Span
piece_at lines block from len =
    let most = furthest from len in record { from = from; end = cond lines (after_lf block from most) most; len = len; more = true }

-- the last piece, of so many bytes
abbrev pub ending_piece : ℕ → Span
ending_piece end = record { from = 0; end = end; len = end; more = false }

-- it is LF, where a line has begun that none ends, and else nothing
abbrev pub last_piece : Bool → List ℕ → Span
last_piece begun block = ending_piece (cond begun (min 1 (length block)) 0)

-- the block with that LF
abbrev pub ended : Bool → List ℕ → List ℕ
ended begun block = cond begun (set block 0 lf) block

-- a part of the block was read and not handed out
abbrev pub is_left : Span → List ℕ → Bool
is_left was block = ltb was.end was.len && leb was.len (length block)

-- the piece after another: of the same block where a part of that is left; else of the next, of which `len` bytes were read, or the last where
-- there is no more
abbrev pub next_of : Span → Bool → Bool → List ℕ → Bool → ℕ → Span
next_of was lines begun block more len =
    cond (is_left was block) (piece_at lines block was.end was.len) (cond more (piece_at lines block 0 len) (last_piece begun block))
