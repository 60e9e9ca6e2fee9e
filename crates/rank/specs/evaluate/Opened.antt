-- What opening leaves, and the run that it begins.
use Rattle.std.specs.Prelude.{ℕ, ◌≤◌, ◌≡◌, refl, true, List, [], ◌∷◌, length, get_or, set, replicate, ℤ}
use Rattle.std.proofs.Common.{arith, sym, ap, ap₂, ◌∙◌, subst, subst₂}
use Rattle.std.proofs.lemmas.List.{length-replicate}
use Rattle.meaning.specs.Limits.{registers_limit, places_limit}
use Rattle.meaning.specs.Grammar.{Grammar, nonterminal, syn, segment_place}
use Rattle.meaning.specs.Value.{mark}
use Rattle.meaning.specs.Machine.{opening}
use Rattle.meaning.specs.Calls.{lent_of, lay_all, record_of, config_of}
use Rattle.meaning.specs.Fit.{Fit}
use Rattle.meaning.specs.PublicCalls.{stacks_of}
use Rattle.theory_answers.specs.Memory.{Within, read_back, laid_fits}
use Rattle.theory_answers.specs.ShapeMemory.{at_stop}
use Rattle.theory_sound.specs.CallSound.{opening_sound}
use Rattle.theory_program.specs.Records.{segment_words_lem}
use Rattle.theory_program.specs.Resuming.{place_address}
use Rattle.theory_evaluating.specs.Whole.{is_open}
use Rattle.run_moves.specs.declared.Run.{Run}
use Rattle.run_moves.specs.Held.{Held}
use Rattle.run_fit.specs.HasProgram.{HasProgram}
use Rattle.run_states.specs.Starting.{held_start}
use Rattle.run_opening.specs.Opening.{open_made}

-- what an opening leaves in exactly the lent cells
pub record Opened (ws : List ℕ) (vs : List ℤ) (ps : List ℕ) : Type 0 where
  pub registers : vs ≡ replicate (length vs) mark
  pub places : ps ≡ set (replicate (length ps) 0) 0 segment_place
  pub few : length vs ≤ registers_limit
  pub little : length ps ≤ places_limit
  pub room : get_or ws 4 0 ≤ length vs
  pub some : 1 ≤ length ps

abbrev pub start_run : ℕ → Run
start_run count = record { tokens = 0; moves = 0; registers = count; places = 1; at = 0 }

module _ (g : Grammar) (ws : List ℕ) (s : HasProgram g ws) where
  pub opening_count : length (opening g).registers ≡ get_or ws 4 0
  opening_count = length-replicate (syn g (nonterminal g.start)) mark ∙ sym (segment_words_lem s.begins).registers

  -- opening lays the opening configuration
  module _ (vs : List ℤ) (ps : List ℕ) (few : length vs ≤ registers_limit) (little : length ps ≤ places_limit) (room : get_or ws 4 0 ≤ length vs) (some : 1 ≤ length ps) where
    pub roomy : length (opening g).registers ≤ (lent_of (stacks_of vs ps)).max_registers
    roomy = omega (arith, opening_count)

    pub placed : 1 ≤ (lent_of (stacks_of vs ps)).max_places
    placed = omega arith

    pub opened_lays : (vs₁ : List ℤ) (ps₁ : List ℕ) → vs₁ ≡ replicate (length vs) mark → ps₁ ≡ set (replicate (length ps) 0) 0 segment_place → stacks_of vs₁ ps₁ ≡ lay_all g (opening g) (stacks_of vs ps)
    opened_lays vs₁ ps₁ e d =
        ap₂ stacks_of e d
        ∙ (ap (λ k. k.stacks) (open_made g ws s.begins vs ps few little room (λ z. omega arith) (get_or ws 4 0) (replicate (length vs) mark) (replicate (length ps) 0) refl refl refl)
        ∙ ap (λ k. k.stacks) (is_open g (stacks_of vs ps) s.formed roomy placed))

    pub opening_within : Within (lent_of (stacks_of vs ps)) (opening g)
    opening_within = (opening_sound g s.formed (stacks_of vs ps) roomy placed).0.within

  module _ (vs : List ℤ) (ps : List ℕ) (o : Opened ws vs ps) where
    enough : length (opening g).registers ≤ (lent_of (stacks_of vs ps)).max_registers
    enough = roomy vs ps o.few o.little o.room o.some

    one : 1 ≤ (lent_of (stacks_of vs ps)).max_places
    one = placed vs ps o.few o.little o.room o.some

    -- opening them once more changes nothing
    opened_same : stacks_of vs ps ≡ lay_all g (opening g) (stacks_of vs ps)
    opened_same = opened_lays vs ps o.few o.little o.room o.some vs ps o.registers o.places

    within : Within (lent_of (stacks_of vs ps)) (opening g)
    within = (opening_sound g s.formed (stacks_of vs ps) enough one).0.within

    fits : Fit g (record_of true (opening g)) (stacks_of vs ps)
    fits =
        let h = opening_sound g s.formed (stacks_of vs ps) enough one in
        subst (Fit g (record_of true (opening g))) (sym opened_same) (laid_fits g true (opening g) (stacks_of vs ps) (at_stop g s.formed (opening g).frames (opening g).registers h.0.shaped h.1) within (omega arith))

    config_is : config_of g (record_of true (opening g)) (stacks_of vs ps) ≡ opening g
    config_is =
        let h = opening_sound g s.formed (stacks_of vs ps) enough one in
        ap (config_of g (record_of true (opening g))) opened_same ∙ read_back g true (opening g) (stacks_of vs ps) (at_stop g s.formed (opening g).frames (opening g).registers h.0.shaped h.1) within

    first_place_lem : get_or ps 0 0 ≡ segment_place
    first_place_lem = ap (λ z. get_or z 0 0) o.places ∙ go ps o.some
      where
        go : (qs : List ℕ) → 1 ≤ length qs → get_or (set (replicate {A = ℕ} (length qs) 0) 0 segment_place) 0 0 ≡ segment_place
        go [] l = absurd (omega arith)
        go (q ∷ qs) l = refl

    pub held_opened : (count : ℕ) → count ≡ get_or ws 4 0 → Held g ws (lent_of (stacks_of vs ps)) vs ps (start_run count) (opening g)
    held_opened count e =
        subst₂ (λ c n. Held g ws (lent_of (stacks_of vs ps)) vs ps (start_run n) c) config_is (opening_count ∙ sym e)
        (held_start s.begins s.formed vs ps (record_of true (opening g)) fits o.few o.little 0 (ap (λ p. place_address g p) (sym first_place_lem)))
