-- Demands 2 and 3 for a segment that has a tree: the calls on a run show what is drawn from it, and the finish answers its value.
use Rattle.std.specs.Prelude.{ℕ, ◌-◌, ◌≤◌, ◌≡◌, refl, Bool, true, false, List, [], ◌∷◌, ◌++◌, map, length, drop, ltb, pos}
use Rattle.std.proofs.Common.{arith, sym, ap, ◌∙◌, true≢false, append_assoc, append-nil, le-ltb}
use Rattle.std.proofs.lemmas.List.{length-map, length-replicate}
use Rattle.theory_base.specs.Feeds.{feed_leaves}
use Rattle.meaning.specs.Grammar.{Symbol, nonterminal, Grammar, syn, Leaf}
use Rattle.meaning.specs.Value.{mark}
use Rattle.meaning.specs.Machine.{Config, Lent, Settled, stopped, failed, opening, feed_token, feed_all, finish_all, place_of}
use Rattle.meaning.specs.Tree.{Tree, yield, width, values, WellEvaluated, value_of, synthesized_of, Picture, picture}
use Rattle.meaning.specs.Walk.{walk, walk_to}
use Rattle.meaning.specs.Drawn.{WalkFits, drawn_record, drawn_stacks}
use Rattle.meaning.specs.Calls.{status_of, outer, Record, value, Stacks, Called, lent_of, lay, lay_all, record_of, result, after_feed, after_finish_value, open_of, finish_of}
use Rattle.meaning.specs.Rules.{WellFormed}
use Rattle.theory_base.specs.MoveCounts.{past_end}
use Rattle.theory_base.specs.WalkCounts.{moves_to}
use Rattle.theory_base.specs.CallsUnder.{CallsUnder, opened, fed, finished}
use Rattle.theory_base.specs.Members.{get_d_any}
use Rattle.theory_base.specs.Selectors.{tree_syn, tree_size}
use Rattle.theory_base.specs.Walks.{all_moves, room}
use Rattle.theory_answers.specs.Memory.{lay_over}
use Rattle.theory_sound.specs.KeptByCalls.{Stopped}
use Rattle.theory_sound.specs.CallSound.{SoundSoFar, sound_feed, opening_sound, feed_is, finish_is}
use Rattle.theory_complete.specs.PredictsOfWalk.{Foreseen}
use Rattle.theory_complete.specs.SegmentComplete.{Shows, shows, ends, final, final_registers, final_places, final_moves}
use Rattle.meaning.specs.Calls as Calls

-- ---- a call on the stacks that the last one left

module _ (g : Grammar) (formed : WellFormed g) (m : Stacks) (ts : List Leaf) (c : Config) (s : Stopped (SoundSoFar g (lent_of m)) ts c) (d : Config) where
  fed_call : (us : List Leaf) → feed_all g (lent_of m) us c ≡ stopped d → feed_leaves g (record_of true c) (lay_all g c m) us ≡ record { answer = Calls.more d.moves; state = record_of true d; stacks = lay_all g d m }
  fed_call us e =
      feed_is g formed m ts c s us
      ∙ (ap (after_feed g (lay_all g c m)) e
      ∙ ap (λ (z : Stacks). record { answer = Calls.more d.moves; state = record_of true d; stacks = z }) (lay_over g c d m s.0.within))

  finished_call : finish_all g (lent_of m) c ≡ stopped d → finish_of g (record_of true c) (lay_all g c m) ≡ record { answer = value (result g d) d.moves; state = record_of false d; stacks = lay_all g d m }
  finished_call e =
      finish_is g formed m ts c s
      ∙ (ap (after_finish_value g (lay_all g c m)) e
      ∙ ap (λ (z : Stacks). record { answer = value (result g d) d.moves; state = record_of false d; stacks = z }) (lay_over g c d m s.0.within))

stopped_same : (c d : Config) → stopped c ≡ stopped d → c ≡ d
stopped_same c d e = cc

-- feeding in two parts
feed_split : (g : Grammar) (lent : Lent) (ts us : List Leaf) (c d : Config) → feed_all g lent ts c ≡ stopped d → feed_all g lent (ts ++ us) c ≡ feed_all g lent us d
feed_split g lent [] us c d e = ap (feed_all g lent us) (stopped_same c d e)
feed_split g lent (t ∷ ts) us c d e = go (feed_token g lent t c) refl (λ x h. feed_split g lent ts us x d h)
  where
    go : (r : Settled) → feed_token g lent t c ≡ r → ((x : Config) → feed_all g lent ts x ≡ stopped d → feed_all g lent (ts ++ us) x ≡ feed_all g lent us d) → feed_all g lent (t ∷ (ts ++ us)) c ≡ feed_all g lent us d
    go (stopped x) q h =
        let a = ap {B = Settled} (λ (r : Settled). elim r as (λ z. Settled) [ failed y k ↦ failed y k | stopped y ↦ feed_all g lent ts y ]) q in
        ap (λ (r : Settled). elim r as (λ z. Settled) [ failed y k ↦ failed y k | stopped y ↦ feed_all g lent (ts ++ us) y ]) q ∙ h x (sym a ∙ e)
    go (failed x k) q h =
        let a = ap {B = Settled} (λ (r : Settled). elim r as (λ z. Settled) [ failed y k ↦ failed y k | stopped y ↦ feed_all g lent ts y ]) q in
        let b : failed x k ≡ stopped d = sym a ∙ e in
        let z : ◌≡◌ {A = ℕ} 0 1 = cc in absurd (omega arith)

module _ (g : Grammar) (m : Stacks) (c : Config) (d : Picture) (er : c.registers ≡ d.registers) (ep : map (place_of g) c.frames ≡ d.places) where
  same_record : (o : Bool) (n k : ℕ) → c.tokens ≡ n → c.moves ≡ k → record_of o c ≡ record { status = status_of o; kind = outer; tokens = n; moves = k; register_height = length d.registers; place_height = length d.places }
  same_record o n k a b =
      let e : length c.frames ≡ length d.places = sym (length-map c.frames (place_of g)) ∙ ap length ep in
      λ i. record { status = status_of o; kind = outer; tokens = a i; moves = b i; register_height = length (er i); place_height = e i }

  same_stacks : lay_all g c m ≡ record { registers = lay (lent_of m).max_registers mark d.registers m.registers; places = lay (lent_of m).max_places 0 d.places m.places }
  same_stacks = λ i. record { registers = lay (lent_of m).max_registers mark (er i) m.registers; places = lay (lent_of m).max_places 0 (ep i) m.places }

module _ (g : Grammar) (formed : WellFormed g) (m : Stacks) (t : Tree) (o : Foreseen g [] t) (w : WellEvaluated g t (nonterminal g.start)) (f : WalkFits g (lent_of m) t) where
  abbrev start : Symbol
  start = nonterminal g.start

  enough : (length (opening g).registers ≤ (lent_of m).max_registers) × (1 ≤ (lent_of m).max_places)
  enough =
      let big = room g t (syn g start) in
      let fr = f.registers in
      let fp = f.places in
      let n = length-replicate (syn g start) mark in
      (omega arith, omega arith)

  -- what a feed shows is a stop of a run
  held : (ts : List Leaf) (s : Shows g formed (lent_of m) t o w f ts) → Stopped (SoundSoFar g (lent_of m)) ts s.at
  held ts s = sound_feed g formed (lent_of m) [] ts s.seen (opening g) s.at (opening_sound g formed m enough.0 enough.1) s.stops

  -- an answer at a configuration, laid out in the memory lent
  abbrev called : Calls.Answer → Bool → Config → Called
  called a is_open c = record { answer = a; state = record_of is_open c; stacks = lay_all g c m }

  -- the second test of an opening
  abbrev enough_places : Bool → Called
  enough_places b = elim b as (λ x. Called) [ true ↦ Calls.as_brought (Calls.refused 32 0) Calls.closed_record m | false ↦ called (Calls.more 0) true (opening g) ]

  abbrev last : Config
  last = final g formed (lent_of m) t o w f

  open_call : open_of g m ≡ called (Calls.more 0) true (opening g)
  open_call =
      let l : ltb (lent_of m).max_registers (length (opening g).registers) ≡ false = le-ltb (lent_of m).max_registers (length (opening g).registers) enough.0 in
      let l' : ltb (lent_of m).max_places 1 ≡ false = le-ltb (lent_of m).max_places 1 enough.1 in
      ap (λ (b : Bool). elim b as (λ x. Called) [ true ↦ Calls.as_brought (Calls.refused 31 0) Calls.closed_record m | false ↦ enough_places (ltb (lent_of m).max_places 1) ]) l
      ∙ ap enough_places l'

  -- the configuration that the calls have come to
  abbrev At : List Leaf → Bool → Record → Stacks → Type 0
  At ts true r k = (r ≡ record_of false last) × (k ≡ lay_all g last m)
  At ts false r k = (s : Shows g formed (lent_of m) t o w f ts) × (r ≡ record_of true s.at) × (k ≡ lay_all g s.at m)

  at_opening : At [] false (open_of g m).state (open_of g m).stacks
  at_opening =
      let s = shows g formed (lent_of m) t o w f [] (yield t) refl in
      let e : opening g ≡ s.at = stopped_same (opening g) s.at s.stops in
      (s, ap (λ (c : Called). c.state) open_call ∙ ap (record_of true) e, ap (λ (c : Called). c.stacks) open_call ∙ ap (λ (c : Config). lay_all g c m) e)

  at_feed : (ts us vs : List Leaf) (r : Record) (k : Stacks) → yield t ≡ ts ++ (us ++ vs) → At ts false r k → At (ts ++ us) false (feed_leaves g r k us).state (feed_leaves g r k us).stacks
  at_feed ts us vs r k read a =
      let s = a.0 in
      let s' = shows g formed (lent_of m) t o w f (ts ++ us) vs (read ∙ sym (append_assoc ts us vs)) in
      let e : feed_all g (lent_of m) us s.at ≡ stopped s'.at = sym (feed_split g (lent_of m) ts us (opening g) s.at s.stops) ∙ s'.stops in
      let er = a.1 in
      let ek = a.2 in
      let full : feed_leaves g r k us ≡ called (Calls.more s'.at.moves) true s'.at = ◌∙◌ {b = feed_leaves g (record_of true s.at) (lay_all g s.at m) us} (λ i. feed_leaves g (er i) (ek i) us) (fed_call g formed m ts s.at (held ts s) s'.at us e) in
      (s', ap (λ (c : Called). c.state) full, ap (λ (c : Called). c.stacks) full)

  finish_answer : (ts : List Leaf) (r : Record) (k : Stacks) → yield t ≡ ts → At ts false r k → finish_of g r k ≡ called (value (result g last) (all_moves g t)) false last
  finish_answer ts r k read a =
      let s = a.0 in
      let er = a.1 in
      let ek = a.2 in
      let z = ends g formed (lent_of m) t o w f ts read in
      let e : s.at ≡ z.fed = stopped_same s.at z.fed (sym s.stops ∙ z.feeding) in
      let d : finish_all g (lent_of m) s.at ≡ stopped last = ap (finish_all g (lent_of m)) e ∙ z.finishing in
      ◌∙◌ {b = finish_of g (record_of true s.at) (lay_all g s.at m)} (λ i. finish_of g (er i) (ek i)) (finished_call g formed m ts s.at (held ts s) last d)

  at_finish : (ts : List Leaf) (r : Record) (k : Stacks) → yield t ≡ ts → At ts false r k → At ts true (finish_of g r k).state (finish_of g r k).stacks
  at_finish ts r k read a =
      let full = finish_answer ts r k read a in
      (ap (λ (c : Called). c.state) full, ap (λ (c : Called). c.stacks) full)

  after_calls_lem : (ts us : List Leaf) (is_over : Bool) (r : Record) (k : Stacks) → CallsUnder g m ts is_over r k → yield t ≡ ts ++ us → (is_over ≡ true → us ≡ []) → At ts is_over r k
  after_calls_lem ts us is_over r k (opened e) read over = at_opening
  after_calls_lem ts us is_over r k (fed {ts = ts'} {r = r'} {m = k'} us' t h q) read over = at_feed ts' us' us r' k' (read ∙ append_assoc ts' us' us) (after_calls_lem ts' (us' ++ us) false r' k' h (read ∙ append_assoc ts' us' us) (λ e. absurd (true≢false (sym e))))
  after_calls_lem ts us is_over r k (finished {r = r'} {m = k'} h q) read over = at_finish ts r' k' (read ∙ (ap (λ (z : List Leaf). ts ++ z) (over refl) ∙ append-nil ts)) (after_calls_lem ts us false r' k' h read (λ e. absurd (true≢false (sym e))))

  -- ---- demand 3

  pub picture_always : (ts us : List Leaf) (is_over : Bool) (r : Record) (k : Stacks) → CallsUnder g m ts is_over r k → yield t ≡ ts ++ us → (is_over ≡ true → us ≡ []) → (r ≡ drawn_record g t (length ts) is_over) × (k ≡ drawn_stacks g t (length ts) is_over m)
  picture_always ts us is_over r k h read over = go is_over over (after_calls_lem ts us is_over r k h read over)
    where
      go : (b : Bool) → (b ≡ true → us ≡ []) → At ts b r k → (r ≡ drawn_record g t (length ts) b) × (k ≡ drawn_stacks g t (length ts) b m)
      go true u a =
          let e = final g formed (lent_of m) t o w f in
          let d = picture g (past_end t) t in
          let er = final_registers g formed (lent_of m) t o w f in
          let ep = final_places g formed (lent_of m) t o w f in
          let n : width t ≡ length ts = ap length (read ∙ (ap (λ (z : List Leaf). ts ++ z) (u refl) ∙ append-nil ts)) in
          (a.0 ∙ same_record g m e d er ep false (length ts) (length (walk g t)) n (final_moves g formed (lent_of m) t o w f), a.1 ∙ same_stacks g m e d er ep)
      go false u a =
          let s = a.0 in
          let d = picture g (length ts) t in
          (a.1 ∙ same_record g m s.at d s.registers s.places true (length ts) (length (walk_to (length ts) (walk g t))) s.tokens (s.moves ∙ moves_to g formed start t w (length ts)), a.2 ∙ same_stacks g m s.at d s.registers s.places)

  -- ---- demand 2: a finish answers the tree's value

  result_value : result g last ≡ value_of g t
  result_value =
      let e : synthesized_of g t ≡ values t = tree_syn g t start w ∙ ap (λ n. drop n (values t)) formed.start_alone in
      rw e (get_d_any (values t) (g.result - 1) mark (pos 0) (omega (arith, formed.result, formed.start_alone, tree_size g t start w)))

  pub answers : (ts : List Leaf) (r : Record) (k : Stacks) → CallsUnder g m ts false r k → yield t ≡ ts → (finish_of g r k).answer ≡ value (value_of g t) (length (walk g t))
  answers ts r k h read =
      let a = after_calls_lem ts [] false r k h (read ∙ sym (append-nil ts)) (λ e. refl) in
      let moves = final_moves g formed (lent_of m) t o w f in
      ◌∙◌ {b = value (result g last) (all_moves g t)} (ap (λ (c : Called). c.answer) (finish_answer ts r k read a)) (λ i. value (result_value i) (moves i))
