-- `reading::words::kind_of`: the words before a place are passed. Assumes nothing.
use mathlib.Core.Path.{◌≡◌, sym, ap, ◌∙◌}
use mathlib.Core.List.{List}
use Prim.Native.Nat.{ℕ}
use native.Mathlib.Omega.{arith}
use lib.ListN.{length}
use Rattle.text.specs.Bytes.{is_word}
use Rattle.text.specs.LineForm.{words}
use Rattle.text.proofs.LineForm.{word_passed, word_found, words_ended}
use Rattle.text.proofs.Ops.{opening_word}
use Rattle.reading.proofs.words.kind_of.Goals as goal

pub returns-then-is_word : goal.returns-then-is_word
returns-then-is_word c =
    let k : ℕ = c.loop-k.k in
    let s : List ℕ = c.args.word.now in (
      word_found words s k c.loop-k.invariant (omega arith)
          (ap (λ (w : List ℕ). is_word w s) (sym (opening_word k (omega arith) c.op_bytes.result c.op_bytes.ensures.0)) ∙ sym c.is_word.ensures ∙ c.if-is_word.true),
      omega arith,
    )

pub loop-k-preserved : goal.loop-k-preserved
loop-k-preserved c =
    let k : ℕ = c.loop-k.k in
    let s : List ℕ = c.args.word.now in
    word_passed words s k c.loop-k.invariant (omega arith)
    (ap (λ (w : List ℕ). is_word w s) (sym (opening_word k (omega arith) c.op_bytes.result c.op_bytes.ensures.0)) ∙ sym c.is_word.ensures ∙ c.if-is_word.false)

pub returns : goal.returns
returns c =
    let k : ℕ = c.loop-k.k in
    let e : k ≡ length words = omega arith in
    sym (sym e ∙ words_ended words c.args.word.now k c.loop-k.invariant (omega arith))
