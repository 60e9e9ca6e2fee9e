-- What a predict of an alternative without entry tests leads to: the place of the alternative, and where the token's read comes next, that place with the token passed.
use Rattle.std.specs.Prelude.{ℕ, ◌+◌, ◌-◌, ◌*◌, ◌≤◌, ◌<◌, ◌≡◌, refl, true, cond, List, [], ◌∷◌, length, get_or, set, ℤ, pos, Ok, Err}
use Rattle.std.proofs.Common.{arith, ap, ◌∙◌, subst, set-set, get_or-set_same, eq-eqb, ne_eqb}
use Rattle.meaning.specs.Limits.{productions_limit}
use Rattle.meaning.specs.Grammar.{place_at}
use Rattle.meaning.specs.Machine.{moves_limit}
use Rattle.meaning.specs.Program.{predict_operation, read_operation}
use Rattle.theory_program.specs.Parts.{head_operation, head_operand, directory_step, directory_number, directory_scheme}
use Rattle.run_looking.specs.Judging.{judged_of, judged_taken}
use Rattle.run_moves.specs.declared.Run.{Run}
use Rattle.refusals.specs.declared.Refusal.TheVariants.{NoPlace}
use Rattle.run_moves.specs.Held.{Step, halting, ReadyForMove, bounds}
use Rattle.run_moves.specs.Moves.{count_if, passed}
use Rattle.run_moves.specs.Passing.{look_of, made_read, read_inside}
use Rattle.run_predict.specs.Entering.{step_by, entered_by, placed, untested_small, made_untested}
use Rattle.run_next_token.specs.Operations.{Running}
use Rattle.run_next_token.specs.Turns.{Turned, turned_predict}
use Rattle.run_next_token.specs.Reading.{can_read_plain, plain_of, turned_after, turned_plain, turned_reaches, turned_then}

-- moves from the predict on, whatever tokens come behind the one at hand, u, which is taken
abbrev pub Predicts : List ℕ → List ℤ → List ℕ → Run → ℕ → List ℕ → Step → Type 0
Predicts ws rs ps run u ps' s = (bound most : ℕ) (us : List ℕ) (vs : List ℤ) (i : ℕ) → length us ≡ length vs → Ok tt ≡ judged_of bound most us i run.tokens → get_or us i 0 ≡ u → Turned bound most ws us vs i rs ps run rs ps' (halting s)

-- the run after the predict, and after the read behind it
abbrev pub after_predict : Run → ℕ → Run
after_predict run a = record { tokens = run.tokens; moves = run.moves + 1; registers = run.registers; places = run.places + 1; at = a }

abbrev pub after_read : Run → ℕ → Run
after_read run a = record { tokens = run.tokens + 1; moves = run.moves + 1 + 1; registers = run.registers; places = run.places + 1; at = a + 1 }

-- a place that is pushed, and passes a symbol
pub pushed_passes : (ps : List ℕ) (k q : ℕ) → k < length ps → count_if true (k + 1) (set ps k (place_at q 0)) ≡ set ps k (place_at q 1)
pushed_passes ps k q l =
    let e : k + 1 - 1 ≡ k = omega arith in
    let v = place_at q 0 in
    rw e (ap (λ x. set (set ps k v) k (x + 1)) (get_or-set_same ps k v 0 l) ∙ (set-set ps k v (v + 1) ∙ ap (set ps k) (omega arith)))

module _ (ws ps : List ℕ) (run : Run) (u d : ℕ) (small : u < 64) (is : d ≡ get_or ws (9 + 64 * head_operand (get_or ws run.at 0) + u) 0) (high : directory_step ≤ d) where
  abbrev address : ℕ
  address = directory_scheme d

  word_high : directory_step ≤ get_or ws (9 + 64 * head_operand (get_or ws run.at 0) + u) 0
  word_high = omega (arith, is, high)

  pub entering_number : {rs : List ℤ} → ReadyForMove ws rs ps run predict_operation → (1 ≤ directory_number d) × (directory_number d ≤ productions_limit)
  entering_number r = let s = untested_small r.held r.operation u small word_high r.limit in (omega (arith, s.0, is), omega (arith, s.1, is))

  module _ (o : head_operation (get_or ws run.at 0) ≡ predict_operation) (limit : run.moves < moves_limit) where
    -- the place is pushed, if there is room for it
    enters : (rs : List ℤ) → Predicts ws rs ps run u (placed run.places (directory_number d) ps) (entered_by run address (length ps))
    enters rs bound most us vs i even j e =
        turned_predict bound most ws us vs rs ps run i even j rs (placed run.places (directory_number d) ps) (entered_by run address (length ps)) o (omega (arith, e, small))
        (λ l same g lent c h ok. made_untested h o u small word_high limit l (same ∙ ap look_of e) ok (directory_number d) address (ap directory_number is) (ap directory_scheme is) (bounds h).places)

    pub entering_full : run.places ≡ length ps → (rs : List ℤ) → Predicts ws rs ps run u ps (Err NoPlace)
    entering_full full rs bound most us vs i even j e =
        subst (λ b. Turned bound most ws us vs i rs ps run rs (cond b ps (set ps run.places (place_at (directory_number d - 1) 0))) (halting (step_by b run address))) (eq-eqb run.places (length ps) full) (enters rs bound most us vs i even j e)

    module _ (room : run.places < length ps) where
      abbrev pushed : List ℕ
      pushed = set ps run.places (place_at (directory_number d - 1) 0)

      pub entering_pushes : (rs : List ℤ) → Predicts ws rs ps run u pushed (Ok (after_predict run address))
      entering_pushes rs bound most us vs i even j e =
          subst (λ b. Turned bound most ws us vs i rs ps run rs (cond b ps pushed) (halting (step_by b run address))) (ne_eqb run.places (length ps) (λ z. omega (arith, z, room))) (enters rs bound most us vs i even j e)

      -- then a configuration is held
      pub entering_holds : {rs : List ℤ} → ReadyForMove ws rs ps run predict_operation → Running ws rs pushed (after_predict run address)
      entering_holds {rs} r =
          let n = run.tokens in
          let j = judged_taken 64 n (u ∷ []) 0 n (omega arith) (omega arith) small in
          (turned_after j (record { grammar = r.grammar; lent = r.lent; config = r.config; held = r.held }) (entering_pushes rs 64 n (u ∷ []) (pos 0 ∷ []) 0 refl j refl)).2

      -- and where the read comes next, the token is passed
      module _ (p : can_read_plain ws (after_predict run address) u ≡ true) where
        reading : (head_operation (get_or ws address 0) ≡ read_operation) × (run.moves + 1 ≡ moves_limit → ⊥)
        reading = let k = plain_of ws (after_predict run address) u p in (omega (arith, k.0), k.2)

        pub entering_inside : {rs : List ℤ} → ReadyForMove ws rs ps run predict_operation → (address + 1 < length ws) × (run.moves + 1 < moves_limit)
        entering_inside r =
            let h = (entering_holds r).held in
            let left : run.moves + 1 < moves_limit = omega (arith, reading.1, (bounds h).moves) in
            (read_inside h left reading.0, left)

        pub entering_reads : run.moves + 1 < moves_limit → (rs : List ℤ) → Predicts ws rs ps run u (passed ws (address + 1) (run.places + 1) pushed) (Ok (after_read run address))
        entering_reads left rs bound most us vs i even j e =
            let here : i ≡ i + (run.tokens - run.tokens) = omega arith in
            turned_then here
            (turned_reaches (turned_plain bound most ws us vs rs pushed (after_predict run address) i even j (omega (arith, e, small)) (ap (can_read_plain ws (after_predict run address)) e ∙ p)
            (λ value q g lent c h ok. made_read h (head_operand (get_or ws address 0)) value ok left reading.0 refl q)))
            (entering_pushes rs bound most us vs i even j e)
