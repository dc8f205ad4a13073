-- A text that comes in pieces: what is said does not depend on the cut, whatever the lines are for. Assumes nothing.
use mathlib.Core.Path.{◌≡◌, refl, sym, ap, ap₂, ◌∙◌}
use mathlib.Core.Bool.{Bool, true, false}
use mathlib.Core.List.{List, [], ◌∷◌, ◌++◌, append-nil, append_assoc}
use Prim.Native.Nat.{ℕ, zero, suc, ◌<◌}
use native.Mathlib.Omega.{arith}
use lib.Dec.{eqb, leb}
use lib.ListN.{length, take, length-take}
use lib.Seq.{take_all}
use borrow.Author.Tests.{ne_eqb, eqb-true, eqb-false, leb-true, leb-false}
use Rattle.text.specs.Lines.{lf, lines_of}
use Rattle.text.specs.LineForm.{longest}
use Rattle.text.specs.Stream.{Reader, lines_said, lines_after, Pending, pending, held_most, byte_said, byte_kept, piece_said, piece_kept, end_said, pieces_said, end_state, pieces_after, whole_of, HeldEnough, CutsAlike, EndsAlike}
use Rattle.text.proofs.Bytes.{Without, index_none, without_append, without_cons, without_head}
use Rattle.text.proofs.Lines.{no_lines, line_first, line_last}

-- What is held of a line

-- cutting before a list is added or after makes no difference
pub take_again : (n : ℕ) (a b : List ℕ) → take n (take n a ++ b) ≡ take n (a ++ b)
take_again zero a b = refl
take_again (suc n) [] b = refl
take_again (suc n) (x ∷ a) b = ap (λ (l : List ℕ). x ∷ l) (take_again n a b)

-- what a line says that is nothing for a line of more than `longest` bytes is said by as much of it as is held
pub held_same : {A : Type 0} (says : List ℕ → A) {nothing : A} → ((s : List ℕ) → longest < length s → says s ≡ nothing) → (s : List ℕ) → says (take held_most s) ≡ says s
held_same says {nothing} long s = picked (leb (length s) held_most) refl
  where
    picked : (t : Bool) → leb (length s) held_most ≡ t → says (take held_most s) ≡ says s
    picked true e = ap says (take_all held_most s (leb-true (length s) held_most e))
    picked false e =
        let h : held_most < length s = leb-false (length s) held_most e in
        let k : length (take held_most s) ≡ held_most = length-take held_most s ∙ omega arith in
        long (take held_most s) (omega arith) ∙ sym (long s (omega arith))

module _ {S : Type 0} (rd : Reader S) (y : HeldEnough rd) where
  -- what is kept where a line has begun with h
  abbrev pub held_of : S → ℕ → List ℕ → Pending S
  held_of s n h = pending s n (take held_most h)

  -- Byte by byte

  pub at_lf : (s : S) (n : ℕ) (h : List ℕ) → byte_said rd (held_of s n h) lf ≡ rd.said (suc n) s h
  unfolding byte_said
  at_lf s n h = y.same_said (suc n) s h

  pub after_lf_lem : (s : S) (n : ℕ) (h : List ℕ) → byte_kept rd (held_of s n h) lf ≡ held_of (rd.next s h) (suc n) []
  unfolding byte_kept
  after_lf_lem s n h = ap (λ (z : S). held_of z (suc n) []) (y.same_next s h)

  pub at_other : (k : Pending S) (b : ℕ) → (b ≡ lf → ⊥) → byte_said rd k b ≡ []
  unfolding byte_said
  at_other k b d = rw (ne_eqb b lf d)

  pub after_other : (s : S) (n : ℕ) (h : List ℕ) (b : ℕ) → (b ≡ lf → ⊥) → byte_kept rd (held_of s n h) b ≡ held_of s n (h ++ (b ∷ []))
  unfolding byte_kept
  after_other s n h b d = rw (ne_eqb b lf d, take_again held_most h (b ∷ []))

  -- Piece by piece

  pub said_append : (k : Pending S) (a b : List ℕ) → piece_said rd k (a ++ b) ≡ piece_said rd k a ++ piece_said rd (piece_kept rd k a) b
  unfolding piece_said piece_kept
  said_append k [] b = refl
  said_append k (x ∷ a) b = ap (λ (l : List ℕ). byte_said rd k x ++ l) (said_append (byte_kept rd k x) a b) ∙ sym (append_assoc (byte_said rd k x) _ _)

  pub after_append : (k : Pending S) (a b : List ℕ) → piece_kept rd k (a ++ b) ≡ piece_kept rd (piece_kept rd k a) b
  unfolding piece_kept
  after_append k [] b = refl
  after_append k (x ∷ a) b = after_append (byte_kept rd k x) a b

  all_joined : (k : Pending S) (ps : List (List ℕ)) → pieces_said rd k ps ≡ piece_said rd k (whole_of ps) ++ end_said rd (piece_kept rd k (whole_of ps))
  unfolding pieces_said whole_of piece_said piece_kept
  all_joined k [] = refl
  all_joined k (p ∷ ps) =
      ap (λ (l : List ℕ). piece_said rd k p ++ l) (all_joined (piece_kept rd k p) ps)
      ∙ sym (append_assoc (piece_said rd k p) _ _)
      ∙ ap₂ (λ (l : List ℕ) (g : Pending S). l ++ end_said rd g) (sym (said_append k p (whole_of ps))) (sym (after_append k p (whole_of ps)))

  -- Line by line

  -- a rest without LF is held
  pub rest_held : (s : S) (n : ℕ) (h l : List ℕ) → Without lf l
      → (piece_said rd (held_of s n h) l ≡ []) × (piece_kept rd (held_of s n h) l ≡ held_of s n (h ++ l))
  unfolding piece_said piece_kept
  rest_held s n h [] w = (refl, ap (held_of s n) (sym (append-nil h)))
  rest_held s n h (b ∷ l) w =
      let (d, v) = without_head lf b l w in
      let (p, q) = rest_held s n (h ++ (b ∷ [])) l v in (
        rw (at_other (held_of s n h) b d, after_other s n h b d) p,
        rw (after_other s n h b d) (q ∙ ap (held_of s n) (append_assoc h (b ∷ []) l)),
      )

  -- a line that LF ends is answered
  pub line_said : (s : S) (n : ℕ) (h l rest : List ℕ) → Without lf l
      → piece_said rd (held_of s n h) (l ++ (lf ∷ rest))
      ≡ rd.said (suc n) s (h ++ l) ++ piece_said rd (held_of (rd.next s (h ++ l)) (suc n) []) rest
  unfolding piece_said
  line_said s n h l rest w =
      let (p, q) = rest_held s n h l w in
      said_append (held_of s n h) l (lf ∷ rest)
      ∙ rw (p, q, at_lf s n (h ++ l), after_lf_lem s n (h ++ l))

  pub line_after : (s : S) (n : ℕ) (h l rest : List ℕ) → Without lf l
      → piece_kept rd (held_of s n h) (l ++ (lf ∷ rest)) ≡ piece_kept rd (held_of (rd.next s (h ++ l)) (suc n) []) rest
  unfolding piece_kept
  line_after s n h l rest w =
      after_append (held_of s n h) l (lf ∷ rest) ∙ rw ((rest_held s n h l w).1, after_lf_lem s n (h ++ l))

  -- The whole text

  -- a line that has begun with h, at the text's end
  end_begun : (s : S) (n : ℕ) (h : List ℕ) → Without lf h → end_said rd (held_of s n h) ≡ lines_said rd (suc n) s (lines_of h)
  unfolding lines_said
  end_begun s n [] w = ap (lines_said rd (suc n) s) (sym no_lines)
  end_begun s n (x ∷ h) w =
      rw (ne_eqb (suc (length (take longest h))) 0 (λ e. omega arith))
      (at_lf s n (x ∷ h) ∙ sym (append-nil _) ∙ ap (lines_said rd (suc n) s) (sym (line_last (x ∷ h) w (omega arith))))

  -- what is said for what follows, where a line has begun with h, and at the end
  from_begun : (s : S) (n : ℕ) (h t : List ℕ) → Without lf h
      → piece_said rd (held_of s n h) t ++ end_said rd (piece_kept rd (held_of s n h) t) ≡ lines_said rd (suc n) s (lines_of (h ++ t))
  unfolding piece_said piece_kept lines_said
  from_begun s n h [] w = end_begun s n h w ∙ ap (λ (l : List ℕ). lines_said rd (suc n) s (lines_of l)) (sym (append-nil h))
  from_begun s n h (b ∷ t) w = picked (eqb b lf) refl (from_begun (rd.next s h) (suc n) [] t (index_none lf)) (from_begun s n (h ++ (b ∷ [])) t)
    where
      picked : (u : Bool) → eqb b lf ≡ u
          → (let k = held_of (rd.next s h) (suc n) [] in
          piece_said rd k t ++ end_said rd (piece_kept rd k t) ≡ lines_said rd (suc (suc n)) (rd.next s h) (lines_of t))
          → (let k = held_of s n (h ++ (b ∷ [])) in
          Without lf (h ++ (b ∷ [])) → piece_said rd k t ++ end_said rd (piece_kept rd k t) ≡ lines_said rd (suc n) s (lines_of (h ++ (b ∷ []) ++ t)))
          → (let k = held_of s n h in byte_said rd k b ++ piece_said rd (byte_kept rd k b) t ++ end_said rd (piece_kept rd (byte_kept rd k b) t) ≡ lines_said rd (suc n) s (lines_of (h ++ (b ∷ t))))
      picked true e here on =
          rw (eqb-true b lf e, at_lf s n h, after_lf_lem s n h, line_first h t w)
          (append_assoc (rd.said (suc n) s h) _ _ ∙ ap (λ (l : List ℕ). rd.said (suc n) s h ++ l) here)
      picked false e here on =
          let d = eqb-false b lf e in
          rw (at_other (held_of s n h) b d, after_other s n h b d)
          (on (without_append lf h (b ∷ []) w (without_cons lf b [] d (index_none lf))) ∙ ap (λ (l : List ℕ). lines_said rd (suc n) s (lines_of l)) (append_assoc h (b ∷ []) t))

  -- the state after pieces is that after their text
  all_after : (k : Pending S) (ps : List (List ℕ)) → pieces_after rd k ps ≡ end_state rd (piece_kept rd k (whole_of ps))
  unfolding pieces_after whole_of piece_kept
  all_after k [] = refl
  all_after k (p ∷ ps) = all_after (piece_kept rd k p) ps ∙ ap (λ (g : Pending S). end_state rd g) (sym (after_append k p (whole_of ps)))

  end_state_lem : (s : S) (n : ℕ) (h : List ℕ) → Without lf h → end_state rd (held_of s n h) ≡ lines_after rd s (lines_of h)
  unfolding lines_after
  end_state_lem s n [] w = ap (lines_after rd s) (sym no_lines)
  end_state_lem s n (x ∷ h) w =
      rw (ne_eqb (suc (length (take longest h))) 0 (λ e. omega arith))
      (ap (λ (g : Pending S). g.state) (after_lf_lem s n (x ∷ h)) ∙ ap (lines_after rd s) (sym (line_last (x ∷ h) w (omega arith))))

  state_begun : (s : S) (n : ℕ) (h t : List ℕ) → Without lf h → end_state rd (piece_kept rd (held_of s n h) t) ≡ lines_after rd s (lines_of (h ++ t))
  unfolding piece_kept lines_after
  state_begun s n h [] w = end_state_lem s n h w ∙ ap (λ (l : List ℕ). lines_after rd s (lines_of l)) (sym (append-nil h))
  state_begun s n h (b ∷ t) w = picked (eqb b lf) refl (state_begun (rd.next s h) (suc n) [] t (index_none lf)) (state_begun s n (h ++ (b ∷ [])) t)
    where
      picked : (u : Bool) → eqb b lf ≡ u
          → end_state rd (piece_kept rd (held_of (rd.next s h) (suc n) []) t) ≡ lines_after rd (rd.next s h) (lines_of t)
          → (Without lf (h ++ (b ∷ [])) → end_state rd (piece_kept rd (held_of s n (h ++ (b ∷ []))) t) ≡ lines_after rd s (lines_of (h ++ (b ∷ []) ++ t)))
          → end_state rd (piece_kept rd (byte_kept rd (held_of s n h) b) t) ≡ lines_after rd s (lines_of (h ++ (b ∷ t)))
      picked true e here on = rw (eqb-true b lf e, after_lf_lem s n h, line_first h t w) here
      picked false e here on =
          let d = eqb-false b lf e in
          rw (after_other s n h b d)
          (on (without_append lf h (b ∷ []) w (without_cons lf b [] d (index_none lf))) ∙ ap (λ (l : List ℕ). lines_after rd s (lines_of l)) (append_assoc h (b ∷ []) t))

  pub ends_alike : EndsAlike rd
  ends_alike s ps = all_after (pending s 0 []) ps ∙ state_begun s 0 [] (whole_of ps) (index_none lf)

  pub cuts_alike : CutsAlike rd
  cuts_alike s ps = all_joined (pending s 0 []) ps ∙ from_begun s 0 [] (whole_of ps) (index_none lf)
