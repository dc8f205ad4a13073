-- `reading::short::on_at`: the name stands there, and a number after it. Assumes nothing.
use mathlib.Core.Path.{refl}
use mathlib.Core.List.{◌∷◌}
use Rattle.std.proofs.lemmas.Option.{IfSome_then}
use Rattle.text.specs.LineForm.{space, on_name}
use Rattle.reading.proofs.short.on_at.Goals as goal

pub returns : goal.returns
returns c = IfSome_then c.field_after.result c.field_after.ensures (λ f h. (h.0, h.1 (space ∷ on_name) refl (c.has_four.ensures c.if-not-has_four.false)))
