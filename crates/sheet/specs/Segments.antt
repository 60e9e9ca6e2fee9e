-- A segment walked from its opening to its end: its value and its tree's records, or its refusal.
use Rattle.std.specs.Prelude.{ℕ, suc, ◌-◌, ◌≤◌, ◌<◌, min, ◌≡◌, refl, Bool, true, false, List, [], ◌∷◌, ◌++◌, length, get_or, take, drop, T, eqb, ltb, leb, ℤ, pos}
use Rattle.std.proofs.Common.{arith, sym, ap, ap₂, ◌∙◌, subst, lt-ltb, le-ltb, leb-true, leb-false, eq-eqb, ne_eqb}
use Rattle.std.proofs.lemmas.List.{length-replicate}
use Rattle.std.proofs.Math.ListN.{get_or-eq_default}
use Rattle.meaning.specs.Limits.{registers_limit, places_limit}
use Rattle.meaning.specs.Base.{all}
use Rattle.meaning.specs.Grammar.{Grammar, Leaf, leaves, whole}
use Rattle.meaning.specs.Rules.{WellFormed, four_bytes}
use Rattle.meaning.specs.Scheme as Scheme
use Rattle.meaning.specs.Grammar as Grammar
use Rattle.meaning.specs.Scheme.{Instruction, remove}
use Rattle.meaning.specs.Machine.{Frame, Config, Lent, comes, stopped, blocked, next, next_of, opening, waits, is_finished, look_at, tokens_limit, read_register}
use Rattle.meaning.specs.Tree.{Tree, Forest, TreeOf}
use Rattle.meaning.specs.Part.{Point, Open, frame, GoodNode}
use Rattle.meaning.specs.Selectors.{Due, removes}
use Rattle.meaning.specs.Calls as Calls
use Rattle.meaning.specs.Value.{mark, in_range}
use Rattle.meaning.specs.Calls.{open_of, value, refused, tokens_from, lent_of, result}
use Rattle.meaning.specs.PublicCalls.{stacks_of}
use Rattle.meaning_sheet.specs.Sheet.{sheet_of}
use Rattle.meaning_sheet.specs.SheetCalls.{SheetEffect, sheet_effect, sheeted, turned_back, stacks_for, stack_run_value, AfterRun, WhenEven}
use Rattle.theory_base.specs.Members.{true→T}
use Rattle.theory_base.specs.Feeds.{leaves_of}
use Rattle.theory_answers.specs.ShapeMemory.{result_ranged}
use Rattle.meaning.specs.Program.{predict_operation, remove_operation}
use Rattle.theory_program.specs.Parts.{head_operation}
use Rattle.theory_program.specs.Addresses.{Begins}
use Rattle.theory_program.specs.Code.{operation}
use Rattle.theory_program.specs.Records.{segment_words_lem}
use Rattle.theory_sheet.specs.Overlay.{overlay, overlay_all}
use Rattle.theory_sheet.specs.Whole.{run_from, Failing, fails_behind}
use Rattle.theory_sheet.specs.NodeInProgress.{Stand, with_children, stand_ready}
use Rattle.theory_sheet.specs.Walking.{rest, coming_to, symbol_left, Fair, look_over, look_35, look_20, look_stuck}
use Rattle.theory_sheet.specs.Segment.{segment_run, opened_as, answer_of, stack_run, segment_node, opening_stands, whole_tree}
use Rattle.run_moves.specs.declared.Run.{Run}
use Rattle.run_registers.specs.Stack.{stack}
use Rattle.run_registers.specs.Laid.{laid_stack}
use Rattle.run_fit.specs.HasProgram.{Readable}
use Rattle.run_moves.specs.Held.{Held, AtHand, some, nothing, at_hand, bounds}
use Rattle.sheet.specs.tree.moves.NodeInMemory.{tokens_as, is_inside, at_look, leaf_here, none_left, one_left}
use Rattle.sheet.specs.tree.steps.Numbers as Walked
use Rattle.sheet.specs.tree.steps.Cycle.{NodeAt, NodeDone, Listed, none_listed, list_more, rests_look}
use Rattle.sheet_answers.specs.declared.Answer as Answer
use Rattle.sheet_answers.specs.declared.Answer.TheVariants.{Value, Refused, TableRefused}
use Rattle.sheet_answers.specs.Answers.{sheet_is}
use Rattle.sheet.specs.Opening.{first_run, start_size, opened_held}

-- ---- the whole segment's node, when its child is left

removing : {g : Grammar} {o : Open} {n : ℕ} {pt : Point} → Due g o (remove n) pt → GoodNode g o pt → o.production < length g.productions
removing (removes ss) gn = gn.1.3

module _ {g : Grammar} {ws : List ℕ} {lent : Lent} {tokens : List Leaf} {m : List ℤ} {ps : List ℕ} {run : Run} {c : Config} (f : Forest) (h : Held g ws lent m ps run c) (s : Stand g tokens (with_children segment_node f) [] c) (l : remove_operation ≤ head_operation (get_or ws run.at 0)) where
  pub over_whole : (below : List Frame) × (c.frames ≡ frame whole [] ∷ below)
  over_whole = go (at_hand h)
    where
      five : (i : Instruction) → 5 ≤ operation i → (n : ℕ) × (i ≡ remove n)
      five (Scheme.add n) k = absurd (omega arith)
      five (Scheme.evaluate rs) k = absurd (omega arith)
      five (Scheme.expect (Grammar.terminal t)) k = absurd (omega arith)
      five (Scheme.expect (Grammar.nonterminal t)) k = absurd (omega arith)
      five (Scheme.test cs) k = absurd (omega arith)
      five (remove n) k = (n, refl)

      go : AtHand h → (below : List Frame) × (c.frames ≡ frame whole [] ∷ below)
      go (nothing below e w z) = (below, e)
      go (some i x o n) =
          let y = five i (omega (arith, l, o)) in
          let r = stand_ready h.well_formed s x.production i x.rest x.below x.frames in
          absurd (omega (arith, removing (subst (λ j. Due g (with_children segment_node f) j r.point) y.1 r.due) r.good, h.well_formed.productions.1))

-- a configuration whose start symbol is left
module _ (c : Config) {below : List Frame} (e : c.frames ≡ frame whole [] ∷ below) where
  pub over_finished : is_finished c ≡ true
  over_finished = rw e refl

  pub over_waits : waits c.frames ≡ true
  over_waits = ap waits e

-- ---- what is answered once the start symbol is left

-- 01: a token that "follows a start symbol already left" is a 21, after 35 and 20
abbrev pub EndsAs : Grammar → List ℕ → Lent → Config → ℕ → Answer.Answer → Type 0
EndsAs g ks lent c end (Value v moves size) = (v ≡ result g c) × (moves ≡ c.moves) × (size ≡ end) × (length ks ≤ c.tokens)
EndsAs g ks lent c end (Refused number n) = (n ≡ c.tokens) × ((vs : List ℤ) → length ks ≡ length vs → Failing g lent (coming_to c (tokens_as g ks vs)) c c number)
EndsAs g ks lent c end (TableRefused number offset) = ⊥

abbrev pub Ends : List ℕ → List ℕ → List ℤ → Run → ℕ → Answer.Answer → Type 0
Ends ws ks m run end r = (g : Grammar) (lent : Lent) (ps : List ℕ) (c : Config) (below : List Frame) → Held g ws lent m ps run c → c.frames ≡ frame whole [] ∷ below → EndsAs g ks lent c end r

pub record Ended (ws : List ℕ) (m : List ℤ) (run : Run) : Type 0 where
  pub grammar : Grammar
  pub lent : Lent
  pub places : List ℕ
  pub config : Config
  pub below : List Frame
  pub held : Held grammar ws lent m places run config
  pub left : config.frames ≡ frame whole [] ∷ below

module _ (ws ks : List ℕ) (m : List ℤ) (run : Run) (end : ℕ) (some_left : run.tokens < length ks) where
  there : {g : Grammar} {lent : Lent} {ps : List ℕ} {c : Config} → Held g ws lent m ps run c → (vs : List ℤ) → length ks ≡ length vs → coming_to c (tokens_as g ks vs) ≡ leaf_here ks vs g run.tokens ∷ leaves g (drop (suc run.tokens) (tokens_from ks vs))
  there {g} h vs even = ap (λ k. drop k (tokens_as g ks vs)) (sym h.tokens) ∙ one_left ks vs g run.tokens even some_left

  pub ends_35 : tokens_limit ≤ run.tokens → Ends ws ks m run end (Refused 35 run.tokens)
  ends_35 l g lent ps c below h e = (h.tokens, λ vs even. look_35 g lent (coming_to c (tokens_as g ks vs)) c (over_waits c e) (leaf_here ks vs g run.tokens) _ (there h vs even) (omega (arith, l, h.tokens)))

  pub ends_20 : run.tokens < tokens_limit → get_or ws 3 0 ≤ get_or ks run.tokens 0 → Ends ws ks m run end (Refused 20 run.tokens)
  ends_20 l k g lent ps c below h e = (h.tokens, λ vs even. look_20 g lent (coming_to c (tokens_as g ks vs)) c (over_waits c e) (leaf_here ks vs g run.tokens) _ (there h vs even) (omega (arith, l, h.tokens)) (omega (arith, k, (segment_words_lem h.begins).terminals)))

  pub ends_21 : run.tokens < tokens_limit → get_or ks run.tokens 0 < get_or ws 3 0 → Ends ws ks m run end (Refused 21 run.tokens)
  ends_21 l k g lent ps c below h e = (
    h.tokens,
    λ vs even.
        let t = there h vs even in
        let u = leaf_here ks vs g run.tokens in
        let stuck : next g lent (look_at (coming_to c (tokens_as g ks vs))) c ≡ blocked 21 = ap (λ us. next g lent (look_at us) c) t ∙ ap (next_of g lent (comes u) c) e in
        look_stuck g lent (coming_to c (tokens_as g ks vs)) c (over_waits c e) (subst (Fair g c) (sym t) (omega (arith, l, h.tokens), omega (arith, k, (segment_words_lem h.begins).terminals))) 21 stuck,
  )

pub ends_value : (ws ks : List ℕ) (m : List ℤ) (run : Run) (end : ℕ) (v : ℤ) → length ks ≤ run.tokens → v ≡ read_register (stack run.registers m) (get_or ws 5 0) → Ends ws ks m run end (Value v run.moves end)
ends_value ws ks m run end v l r g lent ps c below h e = (r ∙ ap₂ read_register (laid_stack h.registers) (segment_words_lem h.begins).result, h.moves, refl, omega (arith, l, h.tokens))

-- the result's register stands
pub ended_result : {ws : List ℕ} {m : List ℤ} {run : Run} → Ended ws m run → (run.registers ≤ length m) × (1 ≤ get_or ws 5 0) × (get_or ws 5 0 ≤ run.registers)
ended_result {ws} {m} {run} d =
    let h = d.held in
    let k = (segment_words_lem h.begins).result in
    let t : T (is_finished d.config) = true→T (is_finished d.config) (over_finished d.config d.left) in
    ((bounds h).registers, omega (arith, k, h.well_formed.result.0), omega (arith, k, stands t (leb d.grammar.result run.registers) refl))
  where
    stands : T (is_finished d.config) → (b : Bool) → leb d.grammar.result run.registers ≡ b → d.grammar.result ≤ run.registers
    stands t true e = leb-true d.grammar.result run.registers e
    stands t false e =
        let l = leb-false d.grammar.result run.registers e in
        absurd (subst (λ v. T (in_range v)) (get_or-eq_default d.config.registers mark {n = d.grammar.result - 1} (omega (arith, l, d.held.registers.height))) (result_ranged d.grammar d.held.well_formed d.config d.held.shaped t))

-- ---- the whole

-- the cells of which the first n and k are lent
pub record Cells (m : List ℤ) (ps : List ℕ) (n k : ℕ) : Type 0 where
  pub registers : length m ≡ registers_limit
  pub places : length ps ≡ places_limit
  pub few : n ≤ registers_limit
  pub little : k ≤ places_limit

-- opening writes those alone
pub record Opens (ws : List ℕ) (n k : ℕ) (m₀ : List ℤ) (ps₀ : List ℕ) (m : List ℤ) (ps : List ℕ) : Type 0 where
  pub opened : (g : Grammar) → Begins g ws → stacks_of (take n m) (take k ps) ≡ (open_of g (stacks_of (take n m₀) (take k ps₀))).stacks
  pub long : length m ≡ length m₀
  pub long_places : length ps ≡ length ps₀

-- the start symbol is waited at
abbrev first_operation : List Frame → ℕ
first_operation [] = 0
first_operation (f ∷ fs) = elim f.rest as (λ z. ℕ) [ [] ↦ 0 | i ∷ is ↦ operation i ]

first_three : {g : Grammar} {ws : List ℕ} {lent : Lent} {m : List ℤ} {ps : List ℕ} {run : Run} → Held g ws lent m ps run (opening g) → head_operation (get_or ws run.at 0) ≡ predict_operation
first_three {g} {ws} {run = run} h = go (at_hand h)
  where
    go : AtHand h → head_operation (get_or ws run.at 0) ≡ predict_operation
    go (some i x o n) = o ∙ sym (ap first_operation x.frames)
    go (nothing below e w l) = absurd (let z : ◌≡◌ {A = ℕ} 3 0 = ap first_operation e in omega arith)

abbrev pub SegmentAs : Grammar → Lent → List Leaf → List ℕ → List ℕ → Answer.Answer → Type 0
SegmentAs g lent us sheet₀ sheet (Value v moves size) = (t : Tree) × TreeOf g us t × (segment_run g lent us ≡ value v moves) × (size ≡ length (sheet_of t)) × (sheet ≡ overlay 0 (sheet_of t) sheet₀)
SegmentAs g lent us sheet₀ sheet (Refused number tokens) = segment_run g lent us ≡ refused number tokens
SegmentAs g lent us sheet₀ sheet (TableRefused number offset) = ⊥

abbrev pub SegmentDone : List ℕ → List ℕ → List ℤ → ℕ → ℕ → List ℕ → List ℕ → Answer.Answer → Type 0
SegmentDone ws ks vs n k sheet₀ sheet r = (g : Grammar) → Begins g ws → WellFormed g → SegmentAs g (record { max_registers = n; max_places = k }) (tokens_as g ks vs) sheet₀ sheet r

module _ (ws ks : List ℕ) (vs m : List ℤ) (ps sheet₀ : List ℕ) (few : length m ≤ registers_limit) (little : length ps ≤ places_limit) where
  abbrev lent_here : Lent
  lent_here = record { max_registers = length m; max_places = length ps }

  lent_is : lent_of (stacks_of m ps) ≡ lent_here
  lent_is =
      let a : min (length m) registers_limit ≡ length m = omega arith in
      let b : min (length ps) places_limit ≡ length ps = omega arith in
      λ i. record { max_registers = a i; max_places = b i }

  pub segment_31 : (sheet : List ℕ) → length m < get_or ws 4 0 → SegmentDone ws ks vs (length m) (length ps) sheet₀ sheet (Refused 31 0)
  segment_31 sheet l g b f = ap (λ x. opened_as x (ltb (length ps) 1) (answer_of g (run_from g lent_here (tokens_as g ks vs) (opening g)))) (lt-ltb (length m) (length (opening g).registers) (omega (arith, l, start_size g ws b f m ps few little)))

  module _ (r : get_or ws 4 0 ≤ length m) where
    pub segment_32 : (sheet : List ℕ) → length ps ≡ 0 → SegmentDone ws ks vs (length m) (length ps) sheet₀ sheet (Refused 32 0)
    segment_32 sheet z g b f = ap₂ (λ x y. opened_as x y (answer_of g (run_from g lent_here (tokens_as g ks vs) (opening g)))) (le-ltb (length m) (length (opening g).registers) (omega (arith, r, start_size g ws b f m ps few little))) (lt-ltb (length ps) 1 (omega (arith, z)))

    module _ (p : 1 ≤ length ps) (even : length ks ≡ length vs) (four : T (all four_bytes vs)) (m' : List ℤ) (ps' : List ℕ) (d : length m' ≡ length m) (e : length ps' ≡ length ps) (o : (g : Grammar) → Begins g ws → stacks_of m' ps' ≡ (open_of g (stacks_of m ps)).stacks) where
      -- past 31 and 32
      past : (g : Grammar) → Begins g ws → WellFormed g → segment_run g lent_here (tokens_as g ks vs) ≡ answer_of g (run_from g lent_here (tokens_as g ks vs) (opening g))
      past g b f = ap₂ (λ x y. opened_as x y (answer_of g (run_from g lent_here (tokens_as g ks vs) (opening g)))) (le-ltb (length m) (length (opening g).registers) (omega (arith, r, start_size g ws b f m ps few little))) (le-ltb (length ps) 1 p)

      first_held : (g : Grammar) → Begins g ws → WellFormed g → Held g ws lent_here m' ps' (first_run (get_or ws 4 0)) (opening g)
      first_held g b f = subst (λ l. Held g ws l m' ps' (first_run (get_or ws 4 0)) (opening g)) lent_is (opened_held g ws b f m ps few little r p m' ps' d e (o g b))

      pub first_at : Readable ws → NodeAt ws ks vs m' ps' (first_run (get_or ws 4 0)) 0
      first_at w =
          let g = w.grammar in
          let b = w.shown.begins in
          let f = w.shown.formed in
          record {
            walking = record { even = even; four = four; grammar = g; lent = lent_here; config = opening g; node = segment_node; below = []; held = first_held g b f; stand = opening_stands g f (tokens_as g ks vs) };
            three = first_three (first_held g b f);
            room = omega arith;
            few = omega (arith, few, d);
          }

      module _ (m₂ : List ℤ) (ps₂ sheet : List ℕ) where
        pub segment_failed : (run : Run) (j : ℕ) → NodeDone ws ks vs m' ps' (first_run (get_or ws 4 0)) 0 sheet₀ m₂ ps₂ sheet (Walked.Failed run j) → SegmentDone ws ks vs (length m) (length ps) sheet₀ sheet (Refused j run.tokens)
        segment_failed run j l g b f =
            let x = l g lent_here (opening g) segment_node [] even four (first_held g b f) (opening_stands g f (tokens_as g ks vs)) in
            past g b f ∙ (ap (answer_of g) x.fails.is_failed ∙ ap (refused j) (sym x.held.tokens))

        module _ (run : Run) (end : ℕ) (n : NodeDone ws ks vs m' ps' (first_run (get_or ws 4 0)) 0 sheet₀ m₂ ps₂ sheet (Walked.Left run end)) (rests : is_inside (head_operation (get_or ws run.at 0)) ≡ false) where
          -- the whole segment has one child
          passed_over : (g : Grammar) → Begins g ws → WellFormed g → remove_operation ≤ head_operation (get_or ws run.at 0)
          passed_over g b f = go (leb remove_operation (head_operation (get_or ws run.at 0))) refl
            where
              go : (q : Bool) → leb remove_operation (head_operation (get_or ws run.at 0)) ≡ q → remove_operation ≤ head_operation (get_or ws run.at 0)
              go true z = leb-true remove_operation (head_operation (get_or ws run.at 0)) z
              go false z =
                  let x = n g lent_here (opening g) segment_node [] even four (first_held g b f) (opening_stands g f (tokens_as g ks vs)) in
                  let y = at_look (rests_look (head_operation (get_or ws run.at 0)) rests (leb-false remove_operation (head_operation (get_or ws run.at 0)) z)) x.held in
                  absurd (omega (arith, symbol_left g x.held.well_formed lent_here (tokens_as g ks vs) (leaves_of g ks vs four) x.to x.stand y.0 y.1.frames y.2 y.3))

          listed : (g : Grammar) → Begins g ws → WellFormed g → Listed g ws lent_here (tokens_as g ks vs) (opening g) segment_node [] 0 sheet₀ m₂ ps₂ sheet run end
          listed g b f = list_more ks vs 0 sheet₀ m₂ ps₂ sheet run end n m₂ ps₂ sheet (Walked.Left run end) (none_listed ks vs m₂ ps₂ run end sheet (passed_over g b f)) g lent_here (opening g) segment_node [] even four (first_held g b f) (opening_stands g f (tokens_as g ks vs))

          pub segment_ended : Readable ws → Ended ws m₂ run
          segment_ended w =
              let x = listed w.grammar w.shown.begins w.shown.formed in
              let y = over_whole x.trees x.held x.stand x.over in
              record { grammar = w.grammar; lent = lent_here; places = ps₂; config = x.to; below = y.0; held = x.held; left = y.1 }

          pub segment_over : (a : Answer.Answer) → Ends ws ks m₂ run end a → SegmentDone ws ks vs (length m) (length ps) sheet₀ sheet a
          segment_over a z g b f =
              let x = listed g b f in
              let y = over_whole x.trees x.held x.stand x.over in
              go a x y.1 (z g lent_here ps₂ x.to y.0 x.held y.1)
            where
              go : (a : Answer.Answer) (x : Listed g ws lent_here (tokens_as g ks vs) (opening g) segment_node [] 0 sheet₀ m₂ ps₂ sheet run end) {below : List Frame} → x.to.frames ≡ frame whole [] ∷ below → EndsAs g ks lent_here x.to end a → SegmentAs g lent_here (tokens_as g ks vs) sheet₀ sheet a
              go (TableRefused number offset) x q z = z
              go (Refused number n) x q z = past g b f ∙ (ap (answer_of g) (fails_behind x.same (z.1 vs even)).is_failed ∙ ap (refused number) (sym z.0))
              go (Value v moves size) x q z =
                  let none : drop x.to.tokens (tokens_as g ks vs) ≡ [] = none_left ks vs g x.to.tokens z.3 in
                  let fin : is_finished x.to ≡ true = over_finished x.to q in
                  let t = whole_tree g f (tokens_as g ks vs) x.to x.trees x.stand none (true→T (is_finished x.to) fin) in
                  let stops : rest g lent_here (tokens_as g ks vs) x.to ≡ stopped x.to = look_over g lent_here (coming_to x.to (tokens_as g ks vs)) x.to (over_waits x.to q) none fin in
                  (t.0, t.1, past g b f ∙ (ap (answer_of g) (x.same ∙ stops) ∙ ap₂ (λ u n. value u n) (sym z.0) (sym z.1)), omega (arith, z.2, x.is_end, ap length t.2), x.written ∙ ap (λ bs. overlay 0 bs sheet₀) t.2)

-- ---- both walks of a segment

-- a walk that has none of the sheet's bytes leaves the sheet as it was
pub none_written : (xs out : List ℕ) → length xs ≡ 0 → xs ++ drop 0 out ≡ out
none_written [] out e = refl
none_written (x ∷ xs) out e = absurd (omega arith)

abbrev pub Under : List ℕ → List ℕ → List ℤ → ℕ → ℕ → List ℕ → List ℕ → Answer.Answer → Type 0
Under ws ks vs n k sheet₀ sheet r = (g : Grammar) → Begins g ws → WellFormed g → ((t u : Tree) → TreeOf g (tokens_as g ks vs) t → TreeOf g (tokens_as g ks vs) u → t ≡ u) → WhenEven (eqb (length ks) (length vs)) g n k ks vs sheet₀ (sheet_is r sheet)

pub under_uneven : (ws ks : List ℕ) (vs : List ℤ) (n k : ℕ) (sheet : List ℕ) → (length ks ≡ length vs → ⊥) → Under ws ks vs n k sheet sheet (Refused 38 0)
under_uneven ws ks vs n k sheet z g b f only = subst (λ x. WhenEven x g n k ks vs sheet (sheet_is (Refused 38 0) sheet)) (sym (ne_eqb (length ks) (length vs) z)) refl

module _ (ws ks : List ℕ) (vs : List ℤ) (n k : ℕ) (sheet₀ : List ℕ) (even : length ks ≡ length vs) (four : T (all four_bytes vs)) where
  abbrev Walks : List ℕ → List ℕ → Answer.Answer → Type 0
  Walks before after r = SegmentDone ws ks vs (min n registers_limit) (min k places_limit) before after r

  runs : (g : Grammar) → WellFormed g → stack_run_value g (stacks_for n k) ks vs ≡ segment_run g (record { max_registers = min n registers_limit; max_places = min k places_limit }) (tokens_as g ks vs)
  runs g f =
      let a : (lent_of (stacks_for n k)).max_registers ≡ min n registers_limit = omega (arith, length-replicate (min n registers_limit) (pos 0)) in
      let c : (lent_of (stacks_for n k)).max_places ≡ min k places_limit = omega (arith, length-replicate {A = ℕ} (min k places_limit) 0) in
      stack_run g f (stacks_for n k) ks vs even four ∙ ap₂ (λ x y. segment_run g (record { max_registers = x; max_places = y }) (tokens_as g ks vs)) a c

  -- by what the stack run answers
  by_run : (g : Grammar) (sheet : List ℕ) (r : Answer.Answer) (a : Calls.Answer) → stack_run_value g (stacks_for n k) ks vs ≡ a → AfterRun g (tokens_as g ks vs) a sheet₀ (sheet_is r sheet) → WhenEven (eqb (length ks) (length vs)) g n k ks vs sheet₀ (sheet_is r sheet)
  by_run g sheet r a e x = subst (λ z. WhenEven z g n k ks vs sheet₀ (sheet_is r sheet)) (sym (eq-eqb (length ks) (length vs) even)) (subst (λ z. AfterRun g (tokens_as g ks vs) z sheet₀ (sheet_is r sheet)) (sym e) x)

  pub under_refused : (before after : List ℕ) (number tokens : ℕ) → Walks before after (Refused number tokens) → Under ws ks vs n k sheet₀ sheet₀ (Refused number tokens)
  under_refused before after number tokens w g b f only = by_run g sheet₀ (Refused number tokens) (refused number tokens) (runs g f ∙ w g b f) refl

  pub under_table : (before after sheet : List ℕ) (number offset : ℕ) → Walks before after (TableRefused number offset) → Under ws ks vs n k sheet₀ sheet (TableRefused number offset)
  under_table before after sheet number offset w g b f only = absurd (w g b f)

  module _ (before after : List ℕ) (v : ℤ) (moves size : ℕ) (w : Walks before after (Value v moves size)) where
    -- 41
    pub under_short : length sheet₀ < size → Under ws ks vs n k sheet₀ sheet₀ (Refused 41 0)
    under_short l g b f only =
        let x = w g b f in
        let u = sheet_of x.0 in
        by_run g sheet₀ (Refused 41 0) (value v moves) (runs g f ∙ x.2)
        (x.0, x.1, sym (ap (λ z. elim z as (λ q. SheetEffect) [ true ↦ sheet_effect (turned_back 41 0) sheet₀ | false ↦ sheet_effect (sheeted v moves (length u)) (u ++ drop (length u) sheet₀) ]) (lt-ltb (length sheet₀) (length u) (omega (arith, l, x.3)))))

    pub under_written : size ≤ length sheet₀ → (sheet : List ℕ) (r : Answer.Answer) → Walks sheet₀ sheet r → Under ws ks vs n k sheet₀ sheet r
    under_written l sheet r y g b f only = go r (y g b f)
      where
        not_refused : {A : Type 0} {j i : ℕ} → value v moves ≡ refused j i → A
        not_refused e = absurd (let z : ◌≡◌ {A = ℕ} 0 1 = cc in omega arith)

        go : (r : Answer.Answer) → SegmentAs g (record { max_registers = min n registers_limit; max_places = min k places_limit }) (tokens_as g ks vs) sheet₀ sheet r → WhenEven (eqb (length ks) (length vs)) g n k ks vs sheet₀ (sheet_is r sheet)
        go (TableRefused number offset) z = absurd z
        go (Refused number tokens) z = not_refused (sym (w g b f).2 ∙ z)
        go (Value v₂ moves₂ size₂) z =
            let x = w g b f in
            let u = z.0 in
            let same : length (sheet_of x.0) ≡ length (sheet_of u) = ap (λ t. length (sheet_of t)) (only x.0 u x.1 z.1) in
            let fits : length (sheet_of u) ≤ length sheet₀ = omega (arith, l, x.3, same) in
            let out : sheet ≡ sheet_of u ++ drop (length (sheet_of u)) sheet₀ = z.4 ∙ overlay_all (sheet_of u) sheet₀ fits in
            let b₂ = sheet_of u in
            let n₂ = length b₂ in
            by_run g sheet (Value v₂ moves₂ size₂) (value v₂ moves₂) (runs g f ∙ z.2)
            (u, z.1, (λ i. sheet_effect (sheeted v₂ moves₂ (z.3 i)) (out i)) ∙ sym (ap (λ q. elim q as (λ y. SheetEffect) [ true ↦ sheet_effect (turned_back 41 0) sheet₀ | false ↦ sheet_effect (sheeted v₂ moves₂ n₂) (b₂ ++ drop n₂ sheet₀) ]) (le-ltb (length sheet₀) n₂ fits)))
