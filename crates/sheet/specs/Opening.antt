-- Stacks that are opened hold the opening's configuration.
use Rattle.std.specs.Prelude.{ℕ, ◌≤◌, ◌≡◌, Bool, true, false, List, length, get_or, ℤ}
use Rattle.std.proofs.Common.{arith, sym, ap, ap₂, ◌∙◌, subst, le-ltb}
use Rattle.std.proofs.lemmas.List.{length-replicate}
use Rattle.meaning.specs.Limits.{registers_limit, places_limit}
use Rattle.meaning.specs.Grammar.{Grammar, nonterminal, syn, segment_place}
use Rattle.meaning.specs.Rules.{WellFormed}
use Rattle.meaning.specs.Value.{mark}
use Rattle.meaning.specs.Machine.{opening}
use Rattle.meaning.specs.Fit.{Fit}
use Rattle.meaning.specs.Calls.{Stacks, Called, more, refused, lent_of, lay_all, record_of, closed_record, as_brought, open_of, config_of}
use Rattle.meaning.specs.PublicCalls.{stacks_of}
use Rattle.theory_answers.specs.Memory.{Within, lent_kept, read_back, laid_fits}
use Rattle.theory_answers.specs.ShapeMemory.{AtStop, at_stop}
use Rattle.theory_sound.specs.CallSound.{opening_sound}
use Rattle.theory_program.specs.Addresses.{Begins}
use Rattle.theory_program.specs.Records.{segment_words_lem}
use Rattle.theory_program.specs.Resuming.{place_address}
use Rattle.run_moves.specs.declared.Run.{Run}
use Rattle.run_moves.specs.Held.{Held}
use Rattle.run_states.specs.Starting.{held_start}

-- the run of an opening
abbrev pub first_run : ℕ → Run
first_run n = record { tokens = 0; moves = 0; registers = n; places = 1; at = 0 }

module _ (g : Grammar) (ws : List ℕ) (b : Begins g ws) (f : WellFormed g) (vs : List ℤ) (ps : List ℕ) (few : length vs ≤ registers_limit) (little : length ps ≤ places_limit) where
  abbrev m : Stacks
  m = stacks_of vs ps

  pub start_size : length (opening g).registers ≡ get_or ws 4 0
  start_size = length-replicate (syn g (nonterminal g.start)) mark ∙ sym (segment_words_lem b).registers

  module _ (r : get_or ws 4 0 ≤ length vs) (p : 1 ≤ length ps) where
    room : length (opening g).registers ≤ (lent_of m).max_registers
    room = omega (arith, start_size)

    place : 1 ≤ (lent_of m).max_places
    place = omega arith

    is_open : open_of g m ≡ record { answer = more 0; state = record_of true (opening g); stacks = lay_all g (opening g) m }
    is_open = ap₂ by (le-ltb (lent_of m).max_registers (length (opening g).registers) room) (le-ltb (lent_of m).max_places 1 place)
      where
        by : Bool → Bool → Called
        by a d = elim a [ true ↦ as_brought (refused 31 0) closed_record m | false ↦ elim d [ true ↦ as_brought (refused 32 0) closed_record m | false ↦ record { answer = more 0; state = record_of true (opening g); stacks = lay_all g (opening g) m } ] ]

    stop : AtStop g (opening g).frames (opening g).registers
    stop = at_stop g f (opening g).frames (opening g).registers (opening_sound g f m room place).0.shaped tt

    within : Within (lent_of m) (opening g)
    within = (opening_sound g f m room place).0.within

    pub opened_held : (vs' : List ℤ) (ps' : List ℕ) → length vs' ≡ length vs → length ps' ≡ length ps → stacks_of vs' ps' ≡ (open_of g m).stacks → Held g ws (lent_of m) vs' ps' (first_run (get_or ws 4 0)) (opening g)
    opened_held vs' ps' d e z =
        let laid : lay_all g (opening g) m ≡ stacks_of vs' ps' = sym (z ∙ ap (λ x. x.stacks) is_open) in
        let fit : Fit g (record_of true (opening g)) (stacks_of vs' ps') = subst (Fit g (record_of true (opening g))) laid (laid_fits g true (opening g) m stop within (omega arith)) in
        let lent : lent_of (stacks_of vs' ps') ≡ lent_of m = ap lent_of (sym laid) ∙ lent_kept g (opening g) m within in
        let back : config_of g (record_of true (opening g)) (stacks_of vs' ps') ≡ opening g = ap (config_of g (record_of true (opening g))) (sym laid) ∙ read_back g true (opening g) m stop within in
        let top : segment_place ≡ get_or ps' 0 0 = ap (λ x. get_or x.places 0 0) laid in
        let h = held_start b f vs' ps' (record_of true (opening g)) fit (omega (arith, d)) (omega (arith, e)) 0 (ap (place_address g) top) in
        subst (λ n. Held g ws (lent_of m) vs' ps' (first_run n) (opening g)) start_size
        (subst (λ c. Held g ws (lent_of m) vs' ps' (first_run (length (opening g).registers)) c) back (subst (λ l. Held g ws l vs' ps' (first_run (length (opening g).registers)) (config_of g (record_of true (opening g)) (stacks_of vs' ps'))) lent h))
