-- What each kind of move does to the run of the whole segment and to the node in progress.
use Rattle.std.specs.Prelude.{ℕ, suc, ◌+◌, ◌-◌, ◌≤◌, ◌<◌, ◌≡◌, refl, Bool, true, false, List, [], ◌∷◌, ◌++◌, length, drop, take, T, leb, ltb, ℤ}
use Rattle.std.proofs.Common.{arith, sym, ap, ap₂, ◌∙◌, subst, append_assoc, length-append, drop_at, take_at, lt-ltb, le-ltb, le-leb}
use Rattle.std.proofs.lemmas.List.{append_cancel_right}
use Rattle.std.proofs.lemmas.Bool.{lt-leb}
use Rattle.meaning.specs.Base.{all}
use Rattle.meaning.specs.Grammar.{Grammar, Leaf, Symbol, terminal, nonterminal, inh, att, production_at}
use Rattle.meaning.specs.Rules.{WellFormed}
use Rattle.meaning.specs.Scheme.{Instruction, add, evaluate, expect, test, remove, removed, syn_between}
use Rattle.meaning.specs.Machine.{Frame, Config, Lent, Coming, Outcome, ends, moved, blocked, Settled, stopped, waits, is_finished, next, look_at, unread, tokens_limit}
use Rattle.meaning.specs.Tree.{leaf, node, synthesized_of, is_leaf_of}
use Rattle.meaning.specs.Part.{Open, Point, closing, left, Ancestor, GoodNode, frame, syns_of, draw_below, draw_registers}
use Rattle.meaning.specs.Selectors as Selectors
use Rattle.meaning.specs.Selectors.{Due, removes}
use Rattle.theory_base.specs.Selectors.{length_syns}
use Rattle.theory_base.specs.Values.{tree_of, lefts_length, drop_over, drop_head}
use Rattle.theory_base.specs.Steps.{move_of, Result, result}
use Rattle.theory_answers.specs.Bounds.{look_free, length_parent}
use Rattle.theory_sound.specs.MovesKeepPart.{node_of, part_of, with_child, waiting_at}
use Rattle.theory_sound.specs.Return.{under, left_on}
use Rattle.theory_sheet.specs.Whole.{WhatNext, as_next, turn, turn_if, token_if, end_if, judged, run_from, Failing, run_fails, run_goes, run_done}
use Rattle.theory_sheet.specs.NodeInProgress.{Stand, stand_step, stand_ready, stays, read, predicted, removed_node}

-- the moves inside a node that need no next token
abbrev pub inside : Instruction → Bool
inside (add n) = true
inside (evaluate rs) = true
inside (test cs) = true
inside (remove n) = false
inside (expect x) = false

-- the tokens still to come
abbrev pub coming_to : Config → List Leaf → List Leaf
coming_to c tokens = drop c.tokens tokens

-- the rest of the whole run
abbrev pub rest : Grammar → Lent → List Leaf → Config → Settled
rest g lent tokens c = run_from g lent (coming_to c tokens) c

-- ---- a move that needs no next token

module _ (g : Grammar) (lent : Lent) (us : List Leaf) (c : Config) (w : waits c.frames ≡ false) (l : Coming) where
  idle_turn : (o : Outcome) → next g lent l c ≡ o → turn g lent us c ≡ as_next o
  idle_turn o h = ap (λ b. turn_if b (as_next (next g lent (look_at us) c)) (judged g c us (as_next (next g lent (look_at us) c)))) w ∙ ap as_next (look_free g lent (look_at us) l c w ∙ h)

  pub idle_stuck : (k : ℕ) → next g lent l c ≡ blocked k → Failing g lent us c c k
  idle_stuck k h = run_fails g lent us c k (idle_turn (blocked k) h)

  pub idle_goes : (d : Config) → next g lent l c ≡ moved d → run_from g lent us c ≡ run_from g lent (unread c d us) d
  idle_goes d h = run_goes g lent us c d (idle_turn (moved d) h) (look_free g lent (look_at us) l c w ∙ h)

-- ---- what comes next is looked at

-- it is a token that is let through, or the end
abbrev pub Fair : Grammar → Config → List Leaf → Type 0
Fair g c [] = is_finished c ≡ false
Fair g c (u ∷ us) = (c.tokens < tokens_limit) × (u.kind < g.terminals)

module _ (g : Grammar) (lent : Lent) (us : List Leaf) (c : Config) (w : waits c.frames ≡ true) where
  look_turn : turn g lent us c ≡ judged g c us (as_next (next g lent (look_at us) c))
  look_turn = ap (λ b. turn_if b (as_next (next g lent (look_at us) c)) (judged g c us (as_next (next g lent (look_at us) c)))) w

  fair_turn : Fair g c us → turn g lent us c ≡ as_next (next g lent (look_at us) c)
  fair_turn f = look_turn ∙ go us f (as_next (next g lent (look_at us) c))
    where
      go : (us : List Leaf) → Fair g c us → (t : WhatNext) → judged g c us t ≡ t
      go [] f t = ap (λ b. end_if b t) f
      go (u ∷ us) f t = ap₂ (λ a b. token_if a b t) (lt-leb tokens_limit c.tokens f.0) (lt-ltb u.kind g.terminals f.1)

  pub look_stuck : Fair g c us → (k : ℕ) → next g lent (look_at us) c ≡ blocked k → Failing g lent us c c k
  look_stuck f k h = run_fails g lent us c k (fair_turn f ∙ ap as_next h)

  pub look_goes : Fair g c us → (d : Config) → next g lent (look_at us) c ≡ moved d → run_from g lent us c ≡ run_from g lent (unread c d us) d
  look_goes f d h = run_goes g lent us c d (fair_turn f ∙ ap as_next h) h

  -- 01: "35 a token after 65,535", then 20
  pub look_35 : (u : Leaf) (vs : List Leaf) → us ≡ u ∷ vs → tokens_limit ≤ c.tokens → Failing g lent us c c 35
  look_35 u vs e l =
      run_fails g lent us c 35
      (look_turn ∙ (ap (λ z. judged g c z (as_next (next g lent (look_at us) c))) e ∙ ap (λ b. token_if b (ltb u.kind g.terminals) (as_next (next g lent (look_at us) c))) (le-leb tokens_limit c.tokens l)))

  pub look_20 : (u : Leaf) (vs : List Leaf) → us ≡ u ∷ vs → c.tokens < tokens_limit → g.terminals ≤ u.kind → Failing g lent us c c 20
  look_20 u vs e l k =
      run_fails g lent us c 20
      (look_turn ∙ (ap (λ z. judged g c z (as_next (next g lent (look_at us) c))) e ∙ ap₂ (λ a b. token_if a b (as_next (next g lent (look_at us) c))) (lt-leb tokens_limit c.tokens l) (le-ltb u.kind g.terminals k)))

  pub look_over : us ≡ [] → is_finished c ≡ true → run_from g lent us c ≡ stopped c
  look_over e f =
      run_done g lent us c
      (look_turn ∙ (ap (λ z. judged g c z (as_next (next g lent (look_at us) c))) e ∙ ap (λ b. end_if b (as_next (next g lent (look_at us) c))) f))

-- ---- the node in progress

some_left : {g : Grammar} {o : Open} {x : Symbol} {pt : Point} → Due g o (expect x) pt → GoodNode g o pt → length o.children < length (production_at g o.production).right
some_left {g} {o} (Selectors.waits x is xs) gn = (drop_head (length o.children) (production_at g o.production).right x (terminal 0) xs gn.1.0).0

-- the values of the attributes of a node of production q where it is left, its remove being of n registers
abbrev pub own_values : Grammar → ℕ → ℕ → List ℤ → List ℤ
own_values g q n rs = take (att g (nonterminal (production_at g q).left)) (drop (n - inh g (nonterminal (production_at g q).left)) rs)

-- what a node that is to be removed shows
record Leaving (g : Grammar) (o : Open) (bs : List Ancestor) (n : ℕ) (rs : List ℤ) : Type 0 where
  pub results : List ℤ
  pub good : GoodNode g o (closing results)
  pub size : n ≡ removed g (production_at g o.production)
  pub registers : syns_of g o.children ++ (o.inherited ++ (results ++ draw_below g bs)) ≡ rs

leaving : {g : Grammar} {o : Open} {bs : List Ancestor} {n : ℕ} {rs : List ℤ} {pt : Point} → Due g o (remove n) pt → GoodNode g o pt → draw_registers g (part_of o pt bs) ≡ rs → Leaving g o bs n rs
leaving (removes ss) gn r = record { results = ss; good = gn; size = refl; registers = r }

module _ {g : Grammar} {o : Open} {bs : List Ancestor} {n : ℕ} {rs : List ℤ} (v : Leaving g o bs n rs) where
  abbrev left_side : Symbol
  left_side = nonterminal (production_at g o.production).left

  syns_size : length (syns_of g o.children) + inh g left_side ≡ n
  syns_size =
      let q = production_at g o.production in
      let all_there : length q.right ≡ length o.children = omega (arith, drop_over (length o.children) q.right v.good.1.0, lefts_length g q o.children v.good.0.lefts) in
      let size : length (syns_of g o.children) ≡ syn_between g q 0 (length q.right) = rw all_there (length_syns g q o.children v.good.0.lefts) in
      omega (arith, size, v.size)

  own_are : own_values g o.production n rs ≡ o.inherited ++ v.results
  own_are =
      let base = draw_below g bs in
      let k : length (syns_of g o.children) ≡ n - inh g left_side = omega (arith, syns_size) in
      let size : length (o.inherited ++ v.results) ≡ att g left_side = length-append o.inherited v.results ∙ omega (arith, v.good.0.sized, v.good.1.2.sized) in
      ap (λ z. take (att g left_side) (drop (n - inh g left_side) z)) (sym v.registers)
      ∙ (ap (take (att g left_side)) (drop_at (syns_of g o.children) (o.inherited ++ (v.results ++ base)) (n - inh g left_side) k ∙ sym (append_assoc o.inherited v.results base))
      ∙ take_at (o.inherited ++ v.results) base (att g left_side) size)

  -- the values stand
  sizes : (inh g left_side ≤ n) × (n - inh g left_side + att g left_side ≤ length rs)
  sizes =
      let k = syns_size in
      let e = length-append (syns_of g o.children) (o.inherited ++ (v.results ++ draw_below g bs)) in
      let f = length-append o.inherited (v.results ++ draw_below g bs) in
      let h = length-append v.results (draw_below g bs) in
      let z = ap length v.registers in
      (omega (arith, k), omega (arith, k, e, f, h, z, v.good.0.sized, v.good.1.2.sized))

  left_over : drop n rs ≡ v.results ++ draw_below g bs
  left_over =
      let base = draw_below g bs in
      let size : length (syns_of g o.children ++ o.inherited) ≡ n = length-append (syns_of g o.children) o.inherited ∙ omega (arith, syns_size, v.good.0.sized) in
      ap (drop n) (sym v.registers ∙ sym (append_assoc (syns_of g o.children) o.inherited (v.results ++ base)))
      ∙ drop_at (syns_of g o.children ++ o.inherited) (v.results ++ base) n size

-- the values of a node that is to be removed stand in the registers
pub own_stand : (g : Grammar) → WellFormed g → {tokens : List Leaf} (p : ℕ) (is : List Instruction) (fs : List Frame) (c : Config) {o : Open} {bs : List Ancestor} → Stand g tokens o bs c → (n : ℕ) → c.frames ≡ frame p (remove n ∷ is) ∷ fs
    → (inh g (nonterminal (production_at g o.production).left) ≤ n) × (n - inh g (nonterminal (production_at g o.production).left) + att g (nonterminal (production_at g o.production).left) ≤ length c.registers)
own_stand g f p is fs c {o} {bs} s n e =
    let y = stand_ready f s p (remove n) is fs e in
    let x : Leaving g o bs n c.registers = leaving y.due y.good y.registers in
    sizes x

module _ (g : Grammar) (f : WellFormed g) (lent : Lent) (tokens : List Leaf) (known : T (all (is_leaf_of g) tokens)) {p : ℕ} {is : List Instruction} {fs : List Frame} (c : Config) where
  module _ {o : Open} {bs : List Ancestor} (s : Stand g tokens o bs c) (i : Instruction) (e : c.frames ≡ frame p (i ∷ is) ∷ fs) where
    leads : (l : Coming) (d : Config) → next g lent l c ≡ moved d → Result g lent l c (frame p (i ∷ is)) fs i d
    leads l d h = result g lent l c (frame p (i ∷ is)) fs i d (move_of g lent l c d p i is fs e h).1

    idles : inside i ≡ true → waits c.frames ≡ false
    idles k = ap waits e ∙ go i k
      where
        go : (i : Instruction) → inside i ≡ true → waits (frame p (i ∷ is) ∷ fs) ≡ false
        go (add n) k = refl
        go (evaluate rs) k = refl
        go (test cs) k = refl
        go (remove n) k = refl
        go (expect x) k = absurd (subst T (sym k) tt)

    -- add, evaluate, test: the same node goes on
    pub inside_on : inside i ≡ true → (l : Coming) (d : Config) → next g lent l c ≡ moved d → Stand g tokens o bs d × (rest g lent tokens c ≡ rest g lent tokens d)
    inside_on k l d h =
        let w = idles k in
        let same : next g lent (look_at (coming_to c tokens)) c ≡ moved d = look_free g lent (look_at (coming_to c tokens)) l c w ∙ h in
        let v = stand_step g f lent tokens known c d s same in
        let z = kept i k l d (leads l d h) in
        (stays s v (z.0 ∙ sym (ap length e)) z.1, idle_goes g lent (coming_to c tokens) c w l d h ∙ ap (λ us. run_from g lent us d) v.rest)
      where
        kept : (i : Instruction) → inside i ≡ true → (l : Coming) (d : Config) → Result g lent l c (frame p (i ∷ is)) fs i d → (length d.frames ≡ suc (length fs)) × (d.tokens ≡ c.tokens)
        kept (add n) k l d r = (sym (ap (λ z. length z.frames) r.1), sym (ap (λ z. z.tokens) r.1))
        kept (evaluate rs) k l d r = (sym (ap (λ z. length z.frames) r.1), sym (ap (λ z. z.tokens) r.1))
        kept (test cs) k l d r = (sym (ap (λ z. length z.frames) r.1), sym (ap (λ z. z.tokens) r.1))
        kept (remove n) k l d r = absurd (subst T (sym k) tt)
        kept (expect x) k l d r = absurd (subst T (sym k) tt)

    pub inside_stuck : inside i ≡ true → (l : Coming) (k : ℕ) → next g lent l c ≡ blocked k → Failing g lent (coming_to c tokens) c c k
    inside_stuck z l k h = idle_stuck g lent (coming_to c tokens) c (idles z) l k h

    -- a move that looks at what comes next, if it is let through
    expects_it : (x : Symbol) → i ≡ expect x → waits c.frames ≡ true
    expects_it x k = ap waits e ∙ ap (λ j. waits (frame p (j ∷ is) ∷ fs)) k

    pub look_on : (x : Symbol) → i ≡ expect x → Fair g c (coming_to c tokens) → (d : Config) → next g lent (look_at (coming_to c tokens)) c ≡ moved d → rest g lent tokens c ≡ rest g lent tokens d
    look_on x k fair d h = look_goes g lent (coming_to c tokens) c (expects_it x k) fair d h ∙ ap (λ us. run_from g lent us d) (stand_step g f lent tokens known c d s h).rest

    pub look_refused : (x : Symbol) → i ≡ expect x → Fair g c (coming_to c tokens) → (k : ℕ) → next g lent (look_at (coming_to c tokens)) c ≡ blocked k → Failing g lent (coming_to c tokens) c c k
    look_refused x j fair k h = look_stuck g lent (coming_to c tokens) c (expects_it x j) fair k h

    -- a token is read: it is a child
    pub read_on : (t : ℕ) → i ≡ expect (terminal t) → (d : Config) → next g lent (look_at (coming_to c tokens)) c ≡ moved d → (u : Leaf) × Stand g tokens (with_child o (leaf u)) bs d
    read_on t k d h =
        let r = subst (λ j. Result g lent (look_at (coming_to c tokens)) c (frame p (i ∷ is)) fs j d) k (leads (look_at (coming_to c tokens)) d h) in
        read s (stand_step g f lent tokens known c d s h) (sym (ap (λ z. length z.frames) r.result) ∙ sym (ap length e)) (sym (ap (λ z. z.tokens) r.result))

    -- a child is entered
    pub predict_on : (n : ℕ) → i ≡ expect (nonterminal n) → (d : Config) → next g lent (look_at (coming_to c tokens)) c ≡ moved d
        → (q : ℕ) × (vs : List ℤ) × (x : Symbol) × (xs : List Symbol) × Stand g tokens (node_of q vs []) (waiting_at o x xs ∷ bs) d
    predict_on n k d h =
        let r = subst (λ j. Result g lent (look_at (coming_to c tokens)) c (frame p (i ∷ is)) fs j d) k (leads (look_at (coming_to c tokens)) d h) in
        predicted s (stand_step g f lent tokens known c d s h) (sym (ap (λ z. length z.frames) r.result))

    -- there is a symbol left where one is expected
    pub symbol_left : (x : Symbol) → i ≡ expect x → length o.children < length (production_at g o.production).right
    symbol_left x k = let r = stand_ready f s p i is fs e in some_left (subst (λ j. Due g o j r.point) k r.due) r.good

  -- a node is left: it is its parent's child
  pub remove_on : {o : Open} {b : Ancestor} {bs : List Ancestor} → Stand g tokens o (b ∷ bs) c → (n : ℕ) → c.frames ≡ frame p (remove n ∷ is) ∷ fs → (l : Coming) (d : Config) → next g lent l c ≡ moved d
      → Stand g tokens (with_child b.node (tree_of o.production (own_values g o.production n c.registers) o.children)) bs d × (rest g lent tokens c ≡ rest g lent tokens d)
  remove_on {o} {b} {bs} s n e l d h =
      let w : waits c.frames ≡ false = ap waits e in
      let same : next g lent (look_at (coming_to c tokens)) c ≡ moved d = look_free g lent (look_at (coming_to c tokens)) l c w ∙ h in
      let v = stand_step g f lent tokens known c d s same in
      let r : Result g lent l c (frame p (remove n ∷ is)) fs (remove n) d = leads s (remove n) e l d h in
      let k = removed_node s v (ap length e ∙ ap suc (sym (length_parent fs) ∙ ap (λ z. length z.frames) r)) in
      let y = stand_ready f s p (remove n) is fs e in
      let x : Leaving g o (b ∷ bs) n c.registers = leaving y.due y.good y.registers in
      let t = tree_of o.production (o.inherited ++ k.0) o.children in
      let syns : synthesized_of g t ≡ k.0 = drop_at o.inherited k.0 (inh g (nonterminal (production_at g o.production).left)) x.good.0.sized in
      let ends : k.0 ++ under g b.node bs ≡ x.results ++ under g b.node bs = ap (λ z. z ++ under g b.node bs) (sym syns) ∙ (sym (left_on g b.node t b.ahead bs) ∙ (k.2 ∙ (sym (ap (λ z. z.registers) r) ∙ left_over x))) in
      let own : o.inherited ++ k.0 ≡ own_values g o.production n c.registers = ap (λ z. o.inherited ++ z) (append_cancel_right k.0 x.results (under g b.node bs) ends) ∙ sym (own_are x) in
      (subst (λ vs. Stand g tokens (with_child b.node (tree_of o.production vs o.children)) bs d) own k.1, idle_goes g lent (coming_to c tokens) c w l d h ∙ ap (λ us. run_from g lent us d) v.rest)

  pub remove_stuck : (n : ℕ) → c.frames ≡ frame p (remove n ∷ is) ∷ fs → (l : Coming) (k : ℕ) → next g lent l c ≡ blocked k → Failing g lent (coming_to c tokens) c c k
  remove_stuck n e l k h = idle_stuck g lent (coming_to c tokens) c (ap waits e) l k h
