-- The totals of a text in pieces, at each cut. Assumes nothing.
use mathlib.Core.Path.{◌≡◌, refl, sym, ◌∙◌, ap}
use mathlib.Core.Bool.{Bool, true, false}
use mathlib.Core.List.{List, [], ◌∷◌, ◌++◌}
use Prim.Native.Nat.{ℕ, suc}
use borrow.Author.Tests.{eqb-true, eqb-false}
use lib.Dec.{eqb}
use Rattle.std.specs.Prelude.{Option, Some, None}
use Rattle.theory.specs.declared.record.Record.{Record}
use Rattle.theory.specs.declared.state.State.{State}
use Rattle.theory.specs.feeding.Step.{fresh_state}
use Rattle.theory.specs.feeding.Meaning.{meaning}
use Rattle.theory.specs.feeding.Feeding.{replies, after_all, by_clocks}
use Rattle.theory.proofs.totals.Kept.{clocks_keep_totals}
use Rattle.text.specs.Lines.{lf}
use Rattle.text.specs.LineForm.{parse_of}
use Rattle.text.specs.Stream.{piece_said, piece_kept}
use Rattle.text.specs.Report.{said_for, state_after}
use Rattle.text.specs.Pieces.{Kept, fresh_kept, said_at, after_byte, said_in, after_piece, whole_of}
use Rattle.text.specs.TextDemands.{Tells, tells_nothing, tells_no_record, tells_answer}
use Rattle.text.specs.TextTotals.{after_pieces, said_so_far, ended_in, TextTotals}
use Rattle.text.proofs.Pieces.{kept_with, at_lf, after_lf_lem, at_other, after_other, said_append, after_append}
use Rattle.text.proofs.Excused.{NoEntries, said_plain, none_after, none_fresh}
use Rattle.text.proofs.TextDemands.{parsed_none, parsed_form}

-- the records that the ended lines say: the report so far has the answers to them, and the state is what feeding them leaves
record SoFar (n : ℕ) (s : State) (lines : List (List ℕ)) (said : List ℕ) (after : State) : Type 0 where
  records : List Record
  tells : Tells n lines records (replies by_clocks s records) said
  state : after ≡ after_all by_clocks s records

-- a line that has ended
line_ended : {n : ℕ} {s : State} {lines : List (List ℕ)} {said : List ℕ} {after : State} (line : List ℕ) → NoEntries s →
    SoFar (suc n) (state_after s (parse_of line)) lines said after → SoFar n s (line ∷ lines) (said_for n s (parse_of line) ++ said) after
line_ended {n} {s} {lines} {said} {after} line z x = by_parse (parse_of line) refl x
  where
    by_parse : (p : Option Record) → parse_of line ≡ p → SoFar (suc n) (state_after s p) lines said after → SoFar n s (line ∷ lines) (said_for n s p ++ said) after
    by_parse None e x = record { records = x.records; tells = tells_no_record (parsed_none line e) x.tells; state = x.state }
    by_parse (Some r) e x =
        record {
          records = r ∷ x.records;
          tells = rw (said_plain n r (by_clocks.next s r) (meaning (by_clocks.answer s r)) (none_after s (Some r) z)) (tells_answer (parsed_form line r e) x.tells);
          state = x.state;
        }

-- byte by byte, where a line has begun with h
so_far : (s : State) (n : ℕ) (h t : List ℕ) → NoEntries s → SoFar (suc n) s (ended_in h t) (said_in (kept_with s n h) t) (after_piece (kept_with s n h) t).state
unfolding piece_said piece_kept
so_far s n h [] z = record { records = []; tells = tells_nothing; state = refl }
so_far s n h (b ∷ t) z = picked (eqb b lf) refl (so_far (state_after s (parse_of h)) (suc n) [] t (none_after s (parse_of h) z)) (so_far s n (h ++ (b ∷ [])) t z)
  where
    picked : (u : Bool) → eqb b lf ≡ u →
        (let k = kept_with (state_after s (parse_of h)) (suc n) [] in SoFar (suc (suc n)) (state_after s (parse_of h)) (ended_in [] t) (said_in k t) (after_piece k t).state) →
        (let k = kept_with s n (h ++ (b ∷ [])) in SoFar (suc n) s (ended_in (h ++ (b ∷ [])) t) (said_in k t) (after_piece k t).state) →
        (let k = kept_with s n h in SoFar (suc n) s (ended_in h (b ∷ t)) (said_at k b ++ said_in (after_byte k b) t) (after_piece (after_byte k b) t).state)
    picked true e here on = rw (e, eqb-true b lf e, at_lf s n h, after_lf_lem s n h) (line_ended h z here)
    picked false e here on = let d = eqb-false b lf e in rw (e, at_other (kept_with s n h) b d, after_other s n h b d) on

-- pieces are their text
said_whole : (k : Kept) (ps : List (List ℕ)) → said_so_far k ps ≡ said_in k (whole_of ps)
unfolding piece_said whole_of
said_whole k [] = refl
said_whole k (p ∷ ps) = ap (λ (l : List ℕ). said_in k p ++ l) (said_whole (after_piece k p) ps) ∙ sym (said_append k p (whole_of ps))

kept_whole : (k : Kept) (ps : List (List ℕ)) → after_pieces k ps ≡ after_piece k (whole_of ps)
unfolding piece_kept whole_of
kept_whole k [] = refl
kept_whole k (p ∷ ps) = kept_whole (after_piece k p) ps ∙ sym (after_append k p (whole_of ps))

pub text_totals : TextTotals
text_totals pieces =
    let x = so_far fresh_state 0 [] (whole_of pieces) none_fresh in (
      x.records,
      rw (said_whole fresh_kept pieces) x.tells,
      rw (kept_whole fresh_kept pieces, x.state) (clocks_keep_totals x.records),
    )
