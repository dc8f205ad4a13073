-- `reading::entry_form::after_spaces`: what follows the spaces that are left, from a place on, is what is asked for. Assumes nothing.
use mathlib.Core.Path.{◌≡◌}
use Prim.Native.Nat.{◌-◌, ◌≤◌}
use lib.ListN.{length, drop}
use Rattle.text.specs.EntryForm.{after_spaces}
use Rattle.reading.proofs.entry_form.after_spaces.Given as goal

abbrev pub invariant-loop-space : goal.invariant-loop-space
invariant-loop-space l = (l.at ≤ length l.line) × (after_spaces l.k l.line ≡ after_spaces (l.k - l._space) (drop l.at l.line))
