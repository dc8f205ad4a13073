-- For every list of records the clocks that skip takes answer and leave what the clocks without skipping do. Assumes nothing.
use mathlib.Core.Path.{◌≡◌, refl, ◌∙◌, ap}
use mathlib.Core.List.{List, [], ◌∷◌}
use Rattle.theory.specs.declared.record.Record.{Record}
use Rattle.theory.specs.declared.answer.Answer.{Answer}
use Rattle.theory.specs.declared.state.State.{State}
use Rattle.theory.specs.declared.state.Stepped.{Stepped}
use Rattle.theory.specs.order.Recording.{Event}
use Rattle.theory.specs.acceptance.Table.{refusal, append_unless}
use Rattle.theory.specs.feeding.Step.{fresh_state}
use Rattle.theory.specs.feeding.Feeding.{replies, after_all, by_clocks}
use Rattle.theory.specs.skipping.Demands.{by_plain_clocks, SameAsPlain}
use Rattle.theory.proofs.feeding.Simulation.{Represents, same_step, clocks_simulate}

same_from : (es : List Event) (s : State) (rs : List Record) → Represents es s →
    (replies by_clocks s rs ≡ replies by_plain_clocks s rs) × (after_all by_clocks s rs ≡ after_all by_plain_clocks s rs)
same_from es s [] x = (refl, refl)
same_from es s (r ∷ rs) x =
    let (answers, state) = same_from (append_unless es r (refusal es r)) (by_clocks.next s r) rs (clocks_simulate.steps es s r x).1 in
    let e = same_step r x in (
      ap (λ (l : List Answer). by_clocks.answer s r ∷ l) answers ∙ ap (λ (y : Stepped). y.answer ∷ replies by_plain_clocks y.state rs) e,
      state ∙ ap (λ (y : Stepped). after_all by_plain_clocks y.state rs) e,
    )

pub same_as_plain : SameAsPlain
same_as_plain rs = let (answers, state) = same_from [] fresh_state rs clocks_simulate.begins in record { answers = answers; state = state }
