-- What a function asks and promises that writes on a page. Contracts speak of it, and no claim does.
use Rattle.std.specs.Prelude.{◌≡◌, List, ℕ, ◌+◌, ◌≤◌, length}
use Rattle.text.specs.Lines.{line_room}
use Rattle.text.specs.Wrote.{Wrote}
use Rattle.report.specs.declared.page.Page.{Page}

-- there is room for the bytes
abbrev pub HasRoom : Page → List ℕ → Type 0
HasRoom page bs = page.at + length bs ≤ length page.out.now

-- there is room for a line
abbrev pub LineRoom : Page → Type 0
LineRoom page = page.at + line_room ≤ length page.out.now

-- the bytes were written from the next place on, into the same memory
pub record Put (before : Page) (bs : List ℕ) (after : Page) : Type 0 where
  pub same : after.out.ghost_name ≡ before.out.ghost_name
  pub long : length after.out.now ≡ length before.out.now
  pub wrote : Wrote before.out.now before.at bs after.out.now after.at

-- a line's bytes were written, no more than there is room for
pub record PutLine (before : Page) (bs : List ℕ) (after : Page) : Type 0 where
  pub put : Put before bs after
  pub room : after.at ≤ before.at + line_room
