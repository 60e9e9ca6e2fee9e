-- What a predict leaves: the place of the production found by the search is pushed, or the number refuses it.
use Rattle.std.specs.Prelude.{ℕ, zero, suc, ◌+◌, ◌-◌, ◌*◌, ◌≤◌, ◌<◌, ◌≡◌, refl, Bool, true, false, ◌&&◌, cond, List, [], ◌∷◌, map, length, get_or, set, T, eqb, ℤ, Ok, Err}
use Rattle.std.proofs.Common.{arith, sym, ap, ap₂, ◌∙◌, subst, inl, eqb→eq, lt-ltb, le-ltb, eq-eqb}
use Rattle.std.proofs.lemmas.List.{length-map}
use Rattle.meaning.specs.Limits.{productions_limit}
use Rattle.meaning.specs.Base.{In, all, keep, is_empty, count_from}
use Rattle.meaning.specs.Grammar.{Grammar, Condition, nonterminal, production_at, place_at}
use Rattle.meaning.specs.Value.{holds, mark}
use Rattle.meaning.specs.Scheme.{expect, entry_tests}
use Rattle.meaning.specs.Sets.{has, starts}
use Rattle.meaning.specs.Machine.{Config, Lent, Coming, as_look, predict, look_number, moved, blocked, step, next, push, unexpected, is_of, alternatives, entered, place_of, scheme_at, moves_limit, read_register}
use Rattle.meaning.specs.Part.{frame, config}
use Rattle.meaning.specs.Program.{first_alternative, entry_of, directory_word, predict_operation}
use Rattle.theory_base.specs.Members.{T→true, true→T, in_keep, from_in}
use Rattle.theory_answers.specs.ShapeMoves.{IsAhead, shape_move}
use Rattle.theory_program.specs.Parts.{head_operation, head_operand, directory_step, directory_number, directory_scheme}
use Rattle.theory_program.specs.WordsStand.{stands_within}
use Rattle.theory_program.specs.Addresses.{record_at_lem, directory_at, scheme_address}
use Rattle.theory_program.specs.Search.{first_number, first_none, first_some, directory_none, directory_listed, entry_number, entry_high, passes, found, found_start, found_stop}
use Rattle.run_registers.specs.Stack.{stack}
use Rattle.run_registers.specs.Laid.{laid_stack, laid_push}
use Rattle.run_moves.specs.declared.Run.{Run}
use Rattle.refusals.specs.declared.Refusal.{Refusal}
use Rattle.refusals.specs.declared.Refusal.TheVariants.{ConditionFalse, NoPlace}
use Rattle.refusals.specs.Numbers.{refusal_number}
use Rattle.run_moves.specs.Laid.{LaidIn, laid_size}
use Rattle.run_moves.specs.Ahead.{Ahead, ahead_scheme, place_begins}
use Rattle.run_moves.specs.Held.{Held, Step, Made, Hand, hand_nonterminal, hand_proper, next_is}
use Rattle.run_moves.specs.Passing.{look_of, look_number_lem, coming_of, coming_look}
use Rattle.run_predict.specs.alternatives.Predicting.{record_of, holds_at, holds_here, at_record, at_scheme, Leads, Led}

-- the tokens that are counted after a step: a predict counts none
abbrev pub tokens_of : Run → Step → ℕ
tokens_of run (Ok run') = run'.tokens
tokens_of run (Err r) = run.tokens

-- the step by whether all places are taken, and the places after it: that of production p - 1 is pushed
abbrev pub step_by : Bool → Run → ℕ → Step
step_by true run a = Err NoPlace
step_by false run a = Ok (record { tokens = run.tokens; moves = run.moves + 1; registers = run.registers; places = run.places + 1; at = a })

abbrev pub entered_by : Run → ℕ → ℕ → Step
entered_by run a n = step_by (eqb run.places n) run a

abbrev pub placed : ℕ → ℕ → List ℕ → List ℕ
placed k p ps = cond (eqb k (length ps)) ps (set ps k (place_at (p - 1) 0))

pub entered_tokens : (run : Run) (a n : ℕ) → tokens_of run (entered_by run a n) ≡ run.tokens
entered_tokens run a n = go (eqb run.places n)
  where
    go : (b : Bool) → tokens_of run (step_by b run a) ≡ run.tokens
    go true = refl
    go false = refl

empty_push : (g : Grammar) (lent : Lent) (c : Config) (ps : List ℕ) → is_empty ps ≡ true → push g lent c ps ≡ blocked 22
empty_push g lent c [] e = refl
empty_push g lent c (p ∷ ps) e = let z : ◌≡◌ {A = ℕ} 0 1 = cc in absurd (omega arith)

module _ {g : Grammar} {ws : List ℕ} {lent : Lent} {m : List ℤ} {ps : List ℕ} {run : Run} {c : Config} (h : Held g ws lent m ps run c) (o : head_operation (get_or ws run.at 0) ≡ predict_operation) (u : ℕ) (small : u < 64) where
  abbrev wanted : ℕ
  wanted = head_operand (get_or ws run.at 0)

  -- the directory's word, and the number in it
  abbrev entry : ℕ
  entry = get_or ws (9 + 64 * wanted + u) 0

  abbrev first : ℕ
  first = directory_number entry

  hand : Hand g ws run.at c (expect (nonterminal wanted))
  hand = hand_nonterminal h o

  pub directory_inside : 9 + 64 * wanted + u < length ws
  directory_inside = omega (arith, hand_proper h hand, stands_within (record_at_lem h.begins h.well_formed 0 h.well_formed.productions.0))

  abbrev alternative : ℕ
  alternative = first_alternative g wanted (look_number (look_of u))

  alternative_small : alternative < 256
  alternative_small = go alternative refl
    where
      go : (k : ℕ) → alternative ≡ k → k < 256
      go zero e = omega arith
      go (suc q) e = omega (arith, (directory_listed g h.well_formed wanted (look_of u) q e).0, h.well_formed.productions.1)

  entry_is : entry ≡ entry_of g alternative
  entry_is = directory_at h.begins wanted u (hand_proper h hand) small ∙ ap (directory_word g wanted) (sym (look_number_lem u))

  first_is : first ≡ alternative
  first_is = ap directory_number entry_is ∙ entry_number g alternative alternative_small

  -- a word that says 0
  pub first_zero : entry ≡ 0 → first ≡ 0
  first_zero e = ap directory_number e

  pub first_leads : Leads g ws (stack run.registers m) wanted first
  first_leads =
      record {
        begins = h.begins;
        well_formed = h.well_formed;
        listed = λ q e. let k = directory_listed g h.well_formed wanted (look_of u) q (sym first_is ∙ e) in (k.0, k.1);
        valued = rw (laid_stack h.registers) (λ q l e t i. hand.handled q l (ap nonterminal (sym e)) t i);
      }

  pub first_led : Led ws (stack run.registers m) first
  first_led = record { grammar = g; wanted = wanted; leads = first_leads }

  pub first_holds : (first ≡ 0 → ⊥) → holds_at ws (record_of ws first) u ≡ true
  first_holds n = go first refl n
    where
      go : (p : ℕ) → first ≡ p → (p ≡ 0 → ⊥) → holds_at ws (record_of ws p) u ≡ true
      go zero e z = absurd (z refl)
      go (suc q) e z =
          let k = directory_listed g h.well_formed wanted (look_of u) q (sym first_is ∙ e) in
          holds_here h.begins h.well_formed c.registers q k.0 u small ∙ T→true (has (starts g (production_at g q)) u) (subst (λ j. T (has (starts g (production_at g q)) j)) (look_number_lem u) k.2)

  -- what a search from there finds
  pub found_first : (p f : ℕ) → f ≡ first → ((g : Grammar) (n : ℕ) → Leads g ws (stack run.registers m) n f → p ≡ found g (stack run.registers m) n (look_of u) f) → p ≡ found g (stack run.registers m) wanted (look_of u) first
  found_first p f e k = k g wanted (subst (Leads g ws (stack run.registers m) wanted) (sym e) first_leads) ∙ ap (found g (stack run.registers m) wanted (look_of u)) e

  -- a word that says where the scheme begins: the production has no entry tests
  module _ (high : directory_step ≤ entry) where
    abbrev untested : (q : ℕ) × (alternative ≡ suc q) × (length (entry_tests g (production_at g q)) ≡ 0) × (directory_scheme (entry_of g alternative) ≡ scheme_address g q)
    untested = entry_high g alternative alternative_small (omega (arith, entry_is, high))

    is_untested : first ≡ suc untested.0
    is_untested = first_is ∙ untested.1

    untested_listed : (untested.0 < length g.productions) × ((production_at g untested.0).left ≡ wanted) × T (has (starts g (production_at g untested.0)) (look_number (look_of u)))
    untested_listed = directory_listed g h.well_formed wanted (look_of u) untested.0 untested.1

    untested_found : first ≡ found g (stack run.registers m) wanted (look_of u) first
    untested_found =
        let rs = stack run.registers m in
        let k = untested_listed in
        let passed : passes g rs (look_of u) untested.0 ≡ true = ap₂ ◌&&◌ (T→true (has (starts g (production_at g untested.0)) (look_number (look_of u))) k.2) (none_hold (entry_tests g (production_at g untested.0)) untested.2) in
        sym (ap (found g rs wanted (look_of u)) is_untested ∙ (found_stop g h.well_formed rs wanted (look_of u) untested.0 k.0 k.1 passed ∙ sym is_untested))
      where
        none_hold : (cs : List (Condition ℕ)) → length cs ≡ 0 → all (holds (read_register (stack run.registers m))) cs ≡ true
        none_hold [] e = refl
        none_hold (x ∷ xs) e = absurd (omega arith)

    untested_scheme : directory_scheme entry ≡ get_or ws (record_of ws first + 6) 0
    untested_scheme = ap directory_scheme entry_is ∙ (untested.3 ∙ sym (ap (λ j. get_or ws (record_of ws j + 6) 0) is_untested ∙ at_scheme h.begins h.well_formed c.registers untested.0 untested_listed.0))

    untested_some : first ≡ 0 → ⊥
    untested_some e = omega (arith, is_untested, e)

  -- ---- the outcome

  abbrev choice : List ℕ
  choice = keep (entered g c.registers) (alternatives g wanted (look_of u))

  -- whatever comes next that token sets see as u
  module _ (ahead : Coming) (same : as_look ahead ≡ look_of u) where
    predicts : run.moves < moves_limit → (b : Bool) → is_empty (alternatives g wanted (look_of u)) ≡ b → next g lent ahead c ≡ cond b (blocked (unexpected (look_of u))) (push g lent c choice)
    predicts limit b e = next_is h ahead hand limit ∙ ap (λ l. predict g lent c wanted l) same ∙ ap (λ z. cond z (blocked (unexpected (look_of u))) (push g lent c choice)) e

    pub blocked_unexpected : run.moves < moves_limit → first ≡ 0 → (r : Refusal) → refusal_number r ≡ unexpected (look_of u) → Made g ws lent (next g lent ahead c) m ps m ps (Err r)
    blocked_unexpected limit e r i = (predicts limit true ((directory_none g h.well_formed wanted (look_of u)).0 (sym first_is ∙ e)) ∙ ap blocked (sym i), refl, refl)

    module _ (limit : run.moves < moves_limit) (n : first ≡ 0 → ⊥) (p : ℕ) (is : p ≡ found g (stack run.registers m) wanted (look_of u) first) where
      chosen : p ≡ first_number choice
      chosen = is ∙ (ap₂ (λ rs d. found g rs wanted (look_of u) d) (laid_stack h.registers) first_is ∙ found_start g h.well_formed c.registers wanted (look_of u))

      pushes : next g lent ahead c ≡ push g lent c choice
      pushes = predicts limit false (go (is_empty (alternatives g wanted (look_of u))) refl)
        where
          go : (b : Bool) → is_empty (alternatives g wanted (look_of u)) ≡ b → is_empty (alternatives g wanted (look_of u)) ≡ false
          go true e = absurd (n (first_is ∙ (directory_none g h.well_formed wanted (look_of u)).1 e))
          go false e = e

      pub blocked_none : p ≡ 0 → Made g ws lent (next g lent ahead c) m ps m ps (Err ConditionFalse)
      blocked_none e = (pushes ∙ empty_push g lent c choice ((first_none choice).0 (sym chosen ∙ e)), refl, refl)

      -- the production entered
      record Entered : Type 0 where
        production : ℕ
        number : p ≡ suc production
        listed : production < length g.productions
        pushed : next g lent ahead c ≡ push g lent c (production ∷ [])

      module _ (some : p ≡ 0 → ⊥) where
        entering : Entered
        entering = go p refl some
          where
            go : (k : ℕ) → p ≡ k → (k ≡ 0 → ⊥) → Entered
            go zero e z = absurd (z refl)
            go (suc q) e z =
                let f = (first_some choice q).0 (sym chosen ∙ e) in
                let i : In q choice = subst (In q) (sym f.1) (inl refl) in
                let a = in_keep (is_of g wanted (look_of u)) (count_from 0 (length g.productions)) q (in_keep (entered g c.registers) (alternatives g wanted (look_of u)) q i).1 in
                record { production = q; number = e; listed = omega (arith, (from_in 0 (length g.productions) q a.1).1); pushed = pushes ∙ ap (push g lent c) f.1 }

        abbrev q : ℕ
        q = entering.production

        listed : q < length g.productions
        listed = entering.listed

        pub entering_small : p ≤ productions_limit
        entering_small = omega (arith, entering.number, listed, h.well_formed.productions.1)

        pub entering_inside : record_of ws p + 8 ≤ length ws
        entering_inside = rw entering.number (omega (arith, at_record h.begins h.well_formed c.registers q listed, stands_within (record_at_lem h.begins h.well_formed q listed)))

        pub blocked_full : run.places ≡ length ps → Made g ws lent (next g lent ahead c) m ps m ps (Err NoPlace)
        blocked_full e =
            let k = h.places.height in
            let z = length-map c.frames (place_of g) in
            let s = laid_size h.places in
            (entering.pushed ∙ ap (λ b. cond b (blocked 32) (step c (frame q (scheme_at g q) ∷ c.frames) c.registers)) (lt-ltb lent.max_places (suc (length c.frames)) (omega arith)), refl, refl)

        pub made_predict : IsAhead g ahead → run.places < length ps → (v : ℕ) → v ≡ place_at (p - 1) 0
            → Made g ws lent (next g lent ahead c) m ps m (set ps run.places v) (Ok (record { tokens = run.tokens; moves = run.moves + 1; registers = run.registers; places = run.places + 1; at = get_or ws (record_of ws p + 6) 0 }))
        made_predict ok room v is_place =
            let k = h.places.height in
            let z = length-map c.frames (place_of g) in
            let s = laid_size h.places in
            let mv = h.moves in
            let ft = h.few_tokens in
            let d : Config = config (frame q (scheme_at g q) ∷ c.frames) c.registers c.tokens (suc c.moves) in
            let e : next g lent ahead c ≡ moved d = entering.pushed ∙ ap (λ b. cond b (blocked 32) (moved d)) (le-ltb lent.max_places (suc (length c.frames)) (omega arith)) in
            let place : v ≡ place_of g (frame q (scheme_at g q)) = is_place ∙ (omega (arith, entering.number, place_begins g h.well_formed q listed)) in
            let address : scheme_address g q ≡ get_or ws (record_of ws p + 6) 0 = sym (ap (λ j. get_or ws (record_of ws j + 6) 0) entering.number ∙ at_scheme h.begins h.well_formed c.registers q listed) in (
              d,
              e,
              record {
                well_formed = h.well_formed;
                begins = h.begins;
                shaped = shape_move g h.well_formed lent ahead ok c d h.shaped e;
                registers = h.registers;
                places = subst (λ y. LaidIn 0 lent.max_places (set ps run.places v) (run.places + 1) (y ∷ map (place_of g) c.frames)) place (laid_push h.places v (omega arith));
                ahead = subst (λ a. Ahead g ws a (frame q (scheme_at g q))) address (ahead_scheme h.begins h.well_formed q listed);
                tokens = h.tokens;
                moves = omega arith;
                few_moves = omega arith;
                few_tokens = omega arith;
              },
            )

        pub made_entering : IsAhead g ahead → (a : ℕ) → a ≡ get_or ws (record_of ws p + 6) 0 → run.places ≤ length ps → Made g ws lent (next g lent ahead c) m ps m (placed run.places p ps) (entered_by run a (length ps))
        made_entering ok a e l = go (eqb run.places (length ps)) refl
          where
            go : (b : Bool) → eqb run.places (length ps) ≡ b → Made g ws lent (next g lent ahead c) m ps m (cond b ps (set ps run.places (place_at (p - 1) 0))) (step_by b run a)
            go true z = blocked_full (eqb→eq run.places (length ps) (true→T (eqb run.places (length ps)) z))
            go false z =
                let room : run.places < length ps = below (λ y. differs (sym (eq-eqb run.places (length ps) y) ∙ z)) in
                subst (λ k. Made g ws lent (next g lent ahead c) m ps m (set ps run.places (place_at (p - 1) 0)) (step_by false run k)) (sym e) (made_predict ok room (place_at (p - 1) 0) refl)
              where
                differs : true ≡ false → ⊥
                differs y = subst T y tt

                below : (run.places ≡ length ps → ⊥) → run.places < length ps
                below y = omega (arith, l, y)

-- the alternative that the directory's word names, without entry tests
module _ {g : Grammar} {ws : List ℕ} {lent : Lent} {m : List ℤ} {ps : List ℕ} {run : Run} {c : Config} (h : Held g ws lent m ps run c) (o : head_operation (get_or ws run.at 0) ≡ predict_operation) (u : ℕ) (small : u < 64) (high : directory_step ≤ entry h o u small) where
  pub untested_small : (limit : run.moves < moves_limit) → (1 ≤ directory_number (entry h o u small)) × (directory_number (entry h o u small) ≤ productions_limit)
  untested_small limit =
      let some = untested_some h o u small high in
      (omega (arith, some), entering_small h o u small (coming_of u mark) (coming_look u mark) limit some (first h o u small) (untested_found h o u small high) some)

  pub made_untested : run.moves < moves_limit → (ahead : Coming) → as_look ahead ≡ look_of u → IsAhead g ahead → (p a : ℕ) → p ≡ directory_number (entry h o u small) → a ≡ directory_scheme (entry h o u small) → run.places ≤ length ps
      → Made g ws lent (next g lent ahead c) m ps m (placed run.places p ps) (entered_by run a (length ps))
  made_untested limit ahead same ok p a number address room =
      let some = untested_some h o u small high in
      let scheme = address ∙ (untested_scheme h o u small high ∙ ap (λ j. get_or ws (record_of ws j + 6) 0) (sym number)) in
      made_entering h o u small ahead same limit some p (number ∙ untested_found h o u small high) (λ e. some (sym number ∙ e)) ok a scheme room
