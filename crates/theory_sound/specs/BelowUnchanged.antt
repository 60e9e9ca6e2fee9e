-- 01's words on the machine itself: from a predict, through any moves above it, to the move that leaves its part, the registers below are the same.
use Rattle.std.specs.Prelude.{ℕ, suc, ◌≤◌, ◌<◌, ◌-◌, ◌≡◌, refl, ◌⊎◌, length, ℤ, T}
use Rattle.std.proofs.Common.{arith, sym, ap, ◌∙◌, subst, inl, inr, length-append}
use mathlib.Core.List.{List, [], ◌∷◌, ◌++◌, append_assoc, tail-eq_of_cons-eq}
use Rattle.std.proofs.lemmas.List.{length-replicate, length-map}
use Rattle.theory_answers.specs.ShapeMoves.{IsAhead}
use Rattle.theory_answers.specs.Runs.{is_ahead, all_drop}
use Rattle.meaning.specs.Base.{all}
use Rattle.meaning.specs.Grammar.{Grammar, Symbol, terminal, nonterminal, syn, added_for, production_at, symbol_at, Production, Leaf}
use Rattle.meaning.specs.Value.{mark}
use Rattle.meaning.specs.Scheme.{Instruction, add, evaluate, expect, test, remove}
use Rattle.meaning.specs.Machine.{Frame, Config, Lent, moved, next, look_at, unread, Coming, comes, as_look}
use Rattle.meaning.specs.Tree.{Tree, synthesized_of, is_leaf_of}
use Rattle.meaning_statements.specs.Statements.{Above, nothing, and_then, PartWalked, by_read_value, by_remove, Returned}
use Rattle.meaning.specs.Rules.{WellFormed}
use Rattle.meaning.specs.Part.{Open, fresh, left, Ancestor, Part, yield_part, frame, marks, draw_frame, draw_frames, draw_registers, Good}
use Rattle.theory_base.specs.Selectors.{syn_size, leaf_size}
use Rattle.theory_base.specs.Values.{drop_head}
use Rattle.theory_base.specs.Steps.{AtHand, at_hand, Result, result, Predicted}
use Rattle.theory_answers.specs.Bounds.{length_parent}
use Rattle.theory_sound.specs.MovesKeepPart.{Grown, within, reads, predicts, removes, Moved, node_of, part_of, waiting_at, with_child}
use Rattle.theory_sound.specs.RunsShowPart.{Shows, moves_to, shows_same, shows_read}
use Rattle.theory_sound.specs.Return.{Inside, enters, moves, under, left_on, returns}

-- ---- a move to more frames is a predict

pub only_predict : (g : Grammar) (lent : Lent) (l : Coming) (c d : Config) → next g lent l c ≡ moved d → length c.frames < length d.frames → (n : ℕ) × Predicted g lent n (as_look l) c.frames c.registers c.tokens c.moves d
only_predict g lent l c d h m = go (at_hand g lent l c d h)
  where
    by : (f : Frame) (fs : List Frame) (i : Instruction) → length c.frames ≡ suc (length fs) → Result g lent l c f fs i d → (n : ℕ) × Predicted g lent n (as_look l) c.frames c.registers c.tokens c.moves d
    by f fs (add n) e r = absurd (omega (arith, m, ap (λ z. length z.frames) r.1))
    by f fs (evaluate rules) e r = absurd (omega (arith, m, ap (λ z. length z.frames) r.1))
    by f fs (test cs) e r = absurd (omega (arith, m, ap (λ z. length z.frames) r.1))
    by f fs (remove n) e r = absurd (omega (arith, m, length_parent fs, ap (λ z. length z.frames) r))
    by f fs (expect (terminal t)) e r = absurd (omega (arith, m, ap (λ z. length z.frames) r.result))
    by f fs (expect (nonterminal n)) e r = (n, r)

    go : AtHand g lent l c d → (n : ℕ) × Predicted g lent n (as_look l) c.frames c.registers c.tokens c.moves d
    go a = by (frame a.production (a.instruction ∷ a.rest)) a.below a.instruction (ap length a.frames) (result g lent l c (frame a.production (a.instruction ∷ a.rest)) a.below a.instruction d a.makes)

-- ---- moves that keep more than n frames

-- such a configuration shows a part inside
record Within (g : Grammar) (base : List Ancestor) (c : Config) : Type 0 where
  tokens : List Leaf
  shows : Shows g tokens c
  inside : Inside base shows.part

pub frames_are : (g : Grammar) (q : Part) (fs : List Frame) → draw_frames g q ≡ fs → length fs ≡ suc (length q.below)
frames_are g q fs e = sym (ap length e) ∙ ap suc (length-map q.below (draw_frame g))

-- one move on
on : (g : Grammar) → WellFormed g → (lent : Lent) (base : List Ancestor) (m : Coming) → IsAhead g m → (d e : Config) → Within g base d → next g lent m d ≡ moved e → length base < length e.frames → Within g base e
on g f lent base m ok d e w h l = go v.reading
  where
    s : Shows g w.tokens d
    s = w.shows

    v : Moved g m s.part.node s.part.below d.tokens d.moves e
    v = moves_to g f lent m ok w.tokens d e s h

    stays : Inside base v.part
    stays = moves w.inside v.grown (omega (arith, frames_are g v.part e.frames v.frames))

    go : ((d.tokens ≡ e.tokens) × (yield_part s.part ≡ yield_part v.part)) ⊎ ((t : Leaf) × (m ≡ comes t) × (suc d.tokens ≡ e.tokens) × (yield_part s.part ++ (t ∷ []) ≡ yield_part v.part)) → Within g base e
    go (inl r) = record { tokens = w.tokens; shows = shows_same g f lent m ok w.tokens d e s v r.0 r.1; inside = stays }
    go (inr r) = record { tokens = w.tokens ++ (r.0 ∷ []); shows = shows_read g f lent m ok w.tokens d e s v r.0 r.2 r.3; inside = stays }

-- the tokens still to come are as the grammar sees them
above_leaves : (g : Grammar) (lent : Lent) (n : ℕ) (us vs : List Leaf) (d e : Config) → T (all (is_leaf_of g) us) → Above g lent n us d vs e → T (all (is_leaf_of g) vs)
above_leaves g lent n us vs d e t k = go k
  where
    go : {vs : List Leaf} {e : Config} → Above g lent n us d vs e → T (all (is_leaf_of g) vs)
    go nothing = t
    go (and_then {vs = ws} {d = a} b k h l) = all_drop g (b.tokens - a.tokens) ws (go k)

nested_within : (g : Grammar) → WellFormed g → (lent : Lent) (base : List Ancestor) (us vs : List Leaf) → T (all (is_leaf_of g) us) → (d e : Config) → Within g base d → Above g lent (length base) us d vs e → Within g base e
nested_within g f lent base us vs t d e w k = go k
  where
    go : {vs : List Leaf} {e : Config} → Above g lent (length base) us d vs e → Within g base e
    go nothing = w
    go (and_then {vs = ws} {d = a} b k h l) = on g f lent base (look_at ws) (is_ahead g ws (above_leaves g lent (length base) us ws d a t k)) a b (go k) h l

-- ---- entered and left

record Opened (o : Open) (bs : List Ancestor) (q : Part) : Type 0 where
  production : ℕ
  inherited : List ℤ
  ahead : List Symbol
  symbol : Symbol
  after : List Symbol
  is_part : q ≡ part_of (node_of production inherited []) (fresh ahead) (waiting_at o symbol after ∷ bs)

opened : {m : Coming} {o : Open} {bs : List Ancestor} {q : Part} → Grown m o bs q → length bs < length q.below → Opened o bs q
opened (within l pt) h = absurd (omega arith)
opened (reads t xs) l = absurd (omega arith)
opened (predicts l p vs ys x xs) h = record { production = p; inherited = vs; ahead = ys; symbol = x; after = xs; is_part = refl }
opened (removes l ss) h = absurd (omega arith)

-- the symbol waited at
awaited : (p q : ℕ) (x y : Symbol) (is js : List Instruction) (fs gs : List Frame) → frame p (expect x ∷ is) ∷ fs ≡ frame q (expect y ∷ js) ∷ gs → x ≡ y
awaited p q x y is js fs gs e =
    let h : frame p (expect x ∷ is) ≡ frame q (expect y ∷ js) = cc in
    let r : ◌≡◌ {A = List Instruction} (expect x ∷ is) (expect y ∷ js) = ap (λ f. f.rest) h in
    cc

-- from a predict to the remove that leaves its part
by_remove_lem : (g : Grammar) → WellFormed g → (lent : Lent) (ts us vs : List Leaf) → T (all (is_leaf_of g) us) → (c d e z : Config) → Shows g ts c
    → (n : ℕ) (x : Symbol) (is : List Instruction) (fs : List Frame) → c.frames ≡ frame n (expect x ∷ is) ∷ fs
    → next g lent (look_at us) c ≡ moved d → length c.frames < length d.frames
    → Above g lent (length c.frames) (unread c d us) d vs e
    → next g lent (look_at vs) e ≡ moved z → length z.frames ≤ length c.frames
    → Returned g x c z
by_remove_lem g f lent ts us vs ok c d e z s num x is fs cf h more n j less = record {
  own = a.inherited ++ marks w;
  results = synthesized_of g t;
  below = under g o bs;
  entered = ap (λ k. k.registers) pushed.1.result ∙ (sym v.registers ∙ (ap (draw_registers g) a.is_part ∙ sym (append_assoc a.inherited (marks w) (under g o bs))));
  own_size = length-append a.inherited (marks w) ∙ omega (arith, length-replicate w mark, gd.node.0.sized, ap (added_for g) gd.stands.1, ap (added_for g) is_x);
  leaves = sym u.registers ∙ (ap (draw_registers g) back.1 ∙ left_on g o t a.after bs);
  results_size = syn_size g t (symbol_at p (suc (length o.children))) (subst (Good g) back.1 u.good).node.0.lefts.1 ∙ ap (syn g) ((drop_head (length o.children) p.right a.symbol (terminal 0) a.after gd.stands.2.1.0).1 ∙ is_x);
}
  where
    o : Open
    o = s.part.node

    bs : List Ancestor
    bs = s.part.below

    p : Production
    p = production_at g o.production

    v : Moved g (look_at us) o bs c.tokens c.moves d
    v = moves_to g f lent (look_at us) (is_ahead g us ok) ts c d s h

    deep : length c.frames ≡ suc (length bs)
    deep = frames_are g s.part c.frames s.frames

    a : Opened o bs v.part
    a = opened v.grown (omega (arith, deep, frames_are g v.part d.frames v.frames))

    gd : Good g (part_of (node_of a.production a.inherited []) (fresh a.ahead) (waiting_at o a.symbol a.after ∷ bs))
    gd = subst (Good g) a.is_part v.good

    pushed : (k : ℕ) × Predicted g lent k (as_look (look_at us)) c.frames c.registers c.tokens c.moves d
    pushed = only_predict g lent (look_at us) c d h more

    is_x : a.symbol ≡ x
    is_x =
        let drawn : draw_frames g (part_of (node_of a.production a.inherited []) (fresh a.ahead) (waiting_at o a.symbol a.after ∷ bs)) ≡ d.frames = ap (draw_frames g) (sym a.is_part) ∙ v.frames in
        let below = tail-eq_of_cons-eq (drawn ∙ sym (ap (λ k. k.frames) pushed.1.result)) in
        awaited _ _ _ _ _ _ _ _ (below ∙ cf)

    w : ℕ
    w = syn g (nonterminal (production_at g a.production).left)

    base : List Ancestor
    base = waiting_at o a.symbol a.after ∷ bs

    first : Within g base d
    first = go v.reading
      where
        here : Inside base v.part
        here = subst (Inside base) (sym a.is_part) (enters a.production a.inherited (fresh a.ahead))

        go : ((c.tokens ≡ d.tokens) × (yield_part s.part ≡ yield_part v.part)) ⊎ ((t : Leaf) × (look_at us ≡ comes t) × (suc c.tokens ≡ d.tokens) × (yield_part s.part ++ (t ∷ []) ≡ yield_part v.part)) → Within g base d
        go (inl r) = record { tokens = ts; shows = shows_same g f lent (look_at us) (is_ahead g us ok) ts c d s v r.0 r.1; inside = here }
        go (inr r) = record { tokens = ts ++ (r.0 ∷ []); shows = shows_read g f lent (look_at us) (is_ahead g us ok) ts c d s v r.0 r.2 r.3; inside = here }

    later : T (all (is_leaf_of g) (unread c d us))
    later = all_drop g (d.tokens - c.tokens) us ok

    last : Within g base e
    last = nested_within g f lent base (unread c d us) vs later d e first (subst (λ k. Above g lent k (unread c d us) d vs e) deep n)

    u : Moved g (look_at vs) last.shows.part.node last.shows.part.below e.tokens e.moves z
    u = moves_to g f lent (look_at vs) (is_ahead g vs (above_leaves g lent (length c.frames) (unread c d us) vs d e later n)) last.tokens e z last.shows j

    back : (t : Tree) × (u.part ≡ part_of (with_child o t) (left a.after) bs)
    back = returns o a.symbol a.after bs (look_at vs) last.shows.part u.part last.inside u.grown (omega (arith, deep, less, frames_are g u.part z.frames u.frames))

    t : Tree
    t = back.0

-- ---- by a token's read

by_read : (g : Grammar) (lent : Lent) (l : Coming) → IsAhead g l → (c z : Config) (n : ℕ) (x : Symbol) (is : List Instruction) (fs : List Frame) → c.frames ≡ frame n (expect x ∷ is) ∷ fs → next g lent l c ≡ moved z → length z.frames ≤ length c.frames → Returned g x c z
by_read g lent l ok c z n x is fs cf h less = go (at_hand g lent l c z h)
  where
    top_is : (f : Frame) (gs : List Frame) (i : Instruction) (js : List Instruction) → c.frames ≡ f ∷ gs → f.rest ≡ i ∷ js → i ≡ expect x
    top_is f gs i js e r =
        let t : frame n (expect x ∷ is) ≡ f = cc in
        let s : ◌≡◌ {A = List Instruction} (expect x ∷ is) (i ∷ js) = ap (λ k. k.rest) t ∙ r in
        cc

    by : (y : Symbol) (f : Frame) (gs : List Frame) → Result g lent l c f gs (expect y) z → Returned g y c z
    by (terminal t) f gs r = record { own = []; results = r.leaf.values; below = c.registers; entered = refl; own_size = refl; leaves = sym (ap (λ k. k.registers) r.result); results_size = leaf_size g r.leaf (subst (IsAhead g) r.ahead ok) ∙ ap (λ k. syn g (terminal k)) r.kind }
    by (nonterminal m) f gs r = absurd (omega (arith, less, ap (λ k. length k.frames) r.result))

    go : AtHand g lent l c z → Returned g x c z
    go a =
        let f = frame a.production (a.instruction ∷ a.rest) in
        let expects = top_is f a.below a.instruction a.rest a.frames refl in
        by x f a.below (subst (λ i. Result g lent l c f a.below i z) expects (result g lent l c f a.below a.instruction z a.makes))

pub part_returns : (g : Grammar) → WellFormed g → (lent : Lent) (ts us : List Leaf) → T (all (is_leaf_of g) us) → (c z : Config) → Shows g ts c → (n : ℕ) (x : Symbol) (is : List Instruction) (fs : List Frame) → c.frames ≡ frame n (expect x ∷ is) ∷ fs → PartWalked g lent us c z → Returned g x c z
part_returns g f lent ts us ok c z s n x is fs cf (by_read_value h less) = by_read g lent (look_at us) (is_ahead g us ok) c z n x is fs cf h less
part_returns g f lent ts us ok c z s n x is fs cf (by_remove {vs = vs} d e h more k j less) = by_remove_lem g f lent ts us vs ok c d e z s n x is fs cf h more k j less
