-- By whom it is, and whether it is a write.
use mathlib.Core.Path.{sym, ◌∙◌}
use borrow.Author.Tests.{eq-eqb, ne_eqb}
use Rattle.requests.specs.lazy.Fold.{accessed}
use Rattle.lazy_sets.proofs.kept.LazySets.access.Goals as goal
use Rattle.lazy_sets.proofs.kept.LazySets.access.Goals.{else-a-eq-WRITE-via-then-a-eq-WRITE+else-not-unordered, else-a-eq-WRITE-via-else-a-eq-WRITE}

pub returns-then-a-q : goal.returns-then-a-q
unfolding accessed
returns-then-a-q c = rw (ne_eqb _ _ c.if-a-q.true) c.keep_anew.ensures

pub returns-then-not-unordered : goal.returns-then-not-unordered
unfolding accessed
returns-then-not-unordered c =
    let no = sym (rw c.task_row.ensures at c.unordered.ensures) ∙ c.if-not-unordered.true in
    simp (eq-eqb _ _ c.if-a-q.false, eq-eqb _ _ c.if-a-eq-WRITE.true, no)

pub returns-else-a-eq-WRITE : goal.returns-else-a-eq-WRITE
unfolding accessed
returns-else-a-eq-WRITE c =
    elim c.else-a-eq-WRITE.branch [
      | else-a-eq-WRITE-via-then-a-eq-WRITE+else-not-unordered w ↦
          let yes = sym (rw w.task_row.ensures at w.unordered.ensures) ∙ w.if-not-unordered.false in
          simp (eq-eqb _ _ c.if-a-q.false, eq-eqb _ _ w.if-a-eq-WRITE.true, yes)
      | else-a-eq-WRITE-via-else-a-eq-WRITE w ↦ simp (eq-eqb _ _ c.if-a-q.false, ne_eqb _ _ w.if-a-eq-WRITE.false)
    ]
