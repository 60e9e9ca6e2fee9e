-- Scratch cells: what stands in the caller's cells is copied to cleared ones, a token is tried there, and what the moves reached is cleared again.
use Rattle.std.specs.Prelude.{ℕ, suc, ◌+◌, ◌-◌, ◌≤◌, ◌<◌, ◌≡◌, List, [], ◌∷◌, ◌++◌, length, get_or, set, take, drop, replicate, ℤ, Ok, Err}
use Rattle.std.proofs.Common.{arith, sym, ap, ◌∙◌, subst₂, append_assoc, append-nil, drop_of_length-le, take-append-drop, drop_at, drop-cons, take-suc, length-take-le}
use Rattle.std.proofs.lemmas.List.{length-replicate, replicate-append-replicate, set_at}
use Rattle.meaning.specs.Value.{mark}
use Rattle.meaning.specs.Machine.{Config, Settled}
use Rattle.theory_answers.specs.Memory.{lay_above}
use Rattle.run_registers.specs.Laid.{laid_inside}
use Rattle.run_moves.specs.declared.Run.{Run}
use Rattle.run_moves.specs.Laid.{LaidIn, laid_size}
use Rattle.run_moves.specs.Held.{Held}
use Rattle.run_machine.specs.Advancing.{Ended, Running, Settles}
use Rattle.run_machine.specs.Feeding.{Feeds}

-- as many cleared cells as vs and ps have
pub record Cleared (vs : List ℤ) (ps : List ℕ) (rs : List ℤ) (qs : List ℕ) : Type 0 where
  pub registers : rs ≡ replicate (length vs) mark
  pub places : qs ≡ replicate (length ps) 0

-- what one token of kind k and value v leads to, from the run that vs and ps hold; the cells that it led to are cleared again
pub record TriedAs (ws : List ℕ) (k : ℕ) (v : ℤ) (vs : List ℤ) (ps : List ℕ) (run : Run) (e : Ended) : Type 0 where
  pub registers : List ℤ
  pub places : List ℕ
  pub fed : Feeds ws (k ∷ []) (v ∷ []) vs ps run registers places e

-- the run that the moves reached
abbrev pub reached_by : Ended → Run
reached_by (Ok run) = run
reached_by (Err f) = f.run

-- ---- cells copied one after the other

module _ {A : Type 0} (from to : List A) where
  -- the first i are copied
  abbrev pub copied_to : ℕ → List A
  copied_to i = take i from ++ drop i to

  pub copied_more : (i : ℕ) (d : A) → i < length from → i < length to → set (copied_to i) i (get_or from i d) ≡ copied_to (i + 1)
  copied_more i d l m =
      let s : suc i ≡ i + 1 = omega arith in
      ap (λ z. set (take i from ++ z) i (get_or from i d)) (drop-cons to i d m)
      ∙ (set_at (take i from) (get_or to i d) (drop (suc i) to) (get_or from i d) i (length-take-le i from (omega arith))
      ∙ (sym (append_assoc (take i from) (get_or from i d ∷ []) (drop (suc i) to))
      ∙ (ap (λ z. z ++ drop (suc i) to) (sym (take-suc from i d l)) ∙ ap copied_to s)))

-- ---- one stack

module _ {A : Type 0} {clear : A} {n : ℕ} {mem : List A} {h : ℕ} {xs : List A} (l : LaidIn clear n mem h xs) where
  above_clear : drop h mem ≡ replicate (n - h) clear
  above_clear =
      let e : drop (length xs) mem ≡ replicate (n - length xs) clear ++ drop n (replicate n clear) = ap (drop (length xs)) l.memory ∙ lay_above n clear xs (replicate n clear) in
      let z : drop n (replicate n clear) ≡ [] = drop_of_length-le (replicate n clear) {i = n} (omega (arith, length-replicate n clear)) in
      ap (λ i. drop i mem) (sym l.height) ∙ (e ∙ (ap (λ y. replicate (n - length xs) clear ++ y) z ∙ (append-nil _ ∙ ap (λ i. replicate (n - i) clear) l.height)))

  -- cells that are cleared, with what stands copied into them, are the cells themselves
  pub copy_is : take h mem ++ drop h (replicate (length mem) clear) ≡ mem
  copy_is =
      let s = laid_size l in
      let e : h + (n - h) ≡ n = omega (arith, l.room) in
      let d : drop h (replicate n clear) ≡ replicate (n - h) clear = ap (λ i. drop h (replicate i clear)) (sym e) ∙ (ap (drop h) (sym (replicate-append-replicate h (n - h) clear)) ∙ drop_at (replicate h clear) (replicate (n - h) clear) h (length-replicate h clear)) in
      ap (λ i. take h mem ++ drop h (replicate i clear)) s
      ∙ (ap (λ z. take h mem ++ z) (d ∙ sym above_clear) ∙ take-append-drop h mem)

  -- with what stands cleared, all is
  pub clear_is : replicate h clear ++ drop h mem ≡ replicate n clear
  clear_is =
      let e : h + (n - h) ≡ n = omega (arith, l.room) in
      ap (λ z. replicate h clear ++ z) above_clear ∙ (replicate-append-replicate h (n - h) clear ∙ ap (λ i. replicate i clear) e)

-- ---- both stacks

module _ {ws : List ℕ} {vs : List ℤ} {ps : List ℕ} {run : Run} (r : Running ws vs ps run) where
  pub registers_inside : run.registers ≤ length vs
  registers_inside = laid_inside r.held.registers

  pub places_inside : run.places ≤ length ps
  places_inside = laid_inside r.held.places

  module _ {rs : List ℤ} {qs : List ℕ} (c : Cleared vs ps rs qs) where
    pub registers_copied : take run.registers vs ++ drop run.registers rs ≡ vs
    registers_copied = ap (λ z. take run.registers vs ++ drop run.registers z) c.registers ∙ copy_is r.held.registers

    pub places_copied : take run.places ps ++ drop run.places qs ≡ ps
    places_copied = ap (λ z. take run.places ps ++ drop run.places z) c.places ∙ copy_is r.held.places

    pub scratch_registers_inside : run.registers ≤ length rs
    scratch_registers_inside = omega (arith, registers_inside, ap length c.registers, length-replicate (length vs) mark)

    pub scratch_places_inside : run.places ≤ length qs
    scratch_places_inside = omega (arith, places_inside, ap length c.places, length-replicate {A = ℕ} (length ps) 0)

    -- what is copied holds the run
    module _ (rs₁ : List ℤ) (qs₁ : List ℕ) (er : rs₁ ≡ take run.registers vs ++ drop run.registers rs) (eq : qs₁ ≡ take run.places ps ++ drop run.places qs) where
      pub registers_same : rs₁ ≡ vs
      registers_same = er ∙ registers_copied

      pub places_same : qs₁ ≡ ps
      places_same = eq ∙ places_copied

      pub running_copied : Running ws rs₁ qs₁ run
      running_copied = subst₂ (λ x y. Running ws x y run) (sym registers_same) (sym places_same) r

      pub fed_copied : (k : ℕ) (v : ℤ) (rs₂ : List ℤ) (qs₂ : List ℕ) (e : Ended) → Feeds ws (k ∷ []) (v ∷ []) rs₁ qs₁ run rs₂ qs₂ e → Feeds ws (k ∷ []) (v ∷ []) vs ps run rs₂ qs₂ e
      fed_copied k v rs₂ qs₂ e f = subst₂ (λ x y. Feeds ws (k ∷ []) (v ∷ []) x y run rs₂ qs₂ e) registers_same places_same f

  -- what the moves of a token reach
  module _ (k : ℕ) (v : ℤ) (vs' : List ℤ) (ps' : List ℕ) (e : Ended) (f : Feeds ws (k ∷ []) (v ∷ []) vs ps run vs' ps' e) where
    settled_held : (e : Ended) → (o : Settled) → Settles r.grammar ws r.lent o vs' ps' e → (d : Config) × Held r.grammar ws r.lent vs' ps' (reached_by e) d
    settled_held (Ok run') o s = (s.0, s.2)
    settled_held (Err f) o s = (s.0, s.2)

    pub held_after : (d : Config) × Held r.grammar ws r.lent vs' ps' (reached_by e) d
    held_after = settled_held e _ (f r.grammar r.lent r.config r.held)

    pub registers_reached : (reached_by e).registers ≤ length vs'
    registers_reached = laid_inside held_after.1.registers

    pub places_reached : (reached_by e).places ≤ length ps'
    places_reached = laid_inside held_after.1.places

    pub cleared_after : Cleared vs ps (replicate (reached_by e).registers mark ++ drop (reached_by e).registers vs') (replicate (reached_by e).places 0 ++ drop (reached_by e).places ps')
    cleared_after = record {
      registers = clear_is held_after.1.registers ∙ ap (λ i. replicate i mark) (sym (laid_size r.held.registers));
      places = clear_is held_after.1.places ∙ ap (λ i. replicate i 0) (sym (laid_size r.held.places));
    }

    pub cleared_by : (last : Run) → last ≡ reached_by e → (rs₃ : List ℤ) (qs₃ : List ℕ) → rs₃ ≡ replicate (length (take last.registers vs')) mark → qs₃ ≡ replicate (length (take last.places ps')) 0
        → Cleared vs ps (rs₃ ++ drop last.registers vs') (qs₃ ++ drop last.places ps')
    cleared_by last q rs₃ qs₃ er eq =
        let h : ℕ = last.registers in
        let i : ℕ = last.places in
        let a : h ≡ (reached_by e).registers = ap (λ (z : Run). z.registers) q in
        let b : i ≡ (reached_by e).places = ap (λ (z : Run). z.places) q in
        let x : rs₃ ≡ replicate h mark = er ∙ ap (λ j. replicate j mark) (length-take-le h vs' (omega (arith, registers_reached))) in
        let y : qs₃ ≡ replicate i 0 = eq ∙ ap (λ j. replicate j 0) (length-take-le i ps' (omega (arith, places_reached))) in
        record {
          registers = ap (λ z. z ++ drop h vs') x ∙ (ap (λ j. replicate j mark ++ drop j vs') a ∙ cleared_after.registers);
          places = ap (λ z. z ++ drop i ps') y ∙ (ap (λ j. replicate j 0 ++ drop j ps') b ∙ cleared_after.places);
        }
