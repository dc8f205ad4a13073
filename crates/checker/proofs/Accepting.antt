-- The accepted part of a step of a record that is no access: it is answered by its number, and nothing is counted of it. Assumes nothing.
use mathlib.Core.Path.{◌≡◌, refl}
use mathlib.Core.Bool.{false}
use mathlib.Core.List.{List}
use Prim.Native.Nat.{ℕ}
use Rattle.theory.specs.declared.record.Record.{Record}
use Rattle.theory.specs.declared.masks.Masks.{Masks}
use Rattle.theory.specs.declared.answer.Answer.{Answer}
use Rattle.theory.specs.declared.answer.Answer.TheVariants.{Accepted}
use Rattle.theory.specs.order.Recording.{accesses}
use Rattle.theory.specs.history.History.{last_after}
use Rattle.theory.proofs.feeding.Parts.{AcceptedBy}
use Rattle.acceptance.specs.declared.admission.Admitted.{Admitted}
use Rattle.acceptance.proofs.Admits.{Admits, accepted_by}

pub other_by : {control last after : List ℕ} {r : Record} {a : Admitted} {answer : Answer} {l : List ℕ} (m : Masks) → Admits control r a after → accesses r.kind ≡ false →
    answer ≡ Accepted a.number → l ≡ last_after r.kind r.task r.on a.number.0 last → AcceptedBy control last r m answer after l
other_by m x h e k = accepted_by x (rw h e) (rw e refl) k
