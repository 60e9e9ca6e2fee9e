-- The machine's stop after j tokens is the tree's picture after j tokens.
use Rattle.std.specs.Prelude.{ℕ, suc, ◌+◌, ◌-◌, ◌*◌, ◌≤◌, ◌<◌, ◌≡◌, refl, Bool, true, false, ◌&&◌, not, cond, List, [], ◌∷◌, ◌++◌, map, length, drop, replicate, ℤ}
use Rattle.std.proofs.Common.{arith, sym, ap, ◌∙◌, subst, true≢false, append_assoc, length-append, drop-cons, ltb→lt, nltb→le}
use Rattle.std.proofs.Math.Seq.{drop-append-add}
use Rattle.meaning.specs.Base.{cons_if, is_empty}
use Rattle.meaning.specs.Grammar.{Symbol, terminal, Grammar, syn, production_at, symbol_at, Leaf}
use Rattle.meaning.specs.Value.{mark}
use Rattle.meaning.specs.Scheme.{Instruction, expect, test, symbols_scheme, tests_after, scheme_end}
use Rattle.meaning.specs.Machine.{Frame, Config, Lent, waits, place_of}
use Rattle.meaning.specs.Tree.{Tree, Forest, leaf, node, no_trees, tree_and, yield, yields, width, synthesized_of, waiting, is_opened, is_left, are_left, Picture, on_place, draw, draws}
use Rattle.theory_base.specs.MoveCounts.{moves_of, moves_in}
use Rattle.meaning.specs.Rules.{WellFormed}
use Rattle.meaning.specs.Part.{config, frame, syns_of}
use Rattle.theory_base.specs.Members.{true→T}
use Rattle.theory_base.specs.Frames.{place_waits_lem}
use Rattle.theory_base.specs.Walks.{all_moves, left_moves, left_width}
use Rattle.theory_base.specs.WellFormed.{not_whole}
use Rattle.theory_complete.specs.NodeInProgressGood.{under, firsts}
use Rattle.theory_complete.specs.Run.{Steps, done, ◌then◌, restart, fitting, steps_of, ◌on◌}
use Rattle.theory_complete.specs.PredictsOfWalk.{Foreseen, Foreseens, foresee_left}
use Rattle.theory_complete.specs.SubtreeComplete.{afterward, progress, during, expecting, to_child, after_child, at_child, past_child, TreeExpected, Readies}
use Rattle.theory_complete.specs.SubtreeComplete.{node_ready, child_ready, rest_ready, node_enters, child_enters, child_leaves, drop_f_within, drop_f_child, node_registers_lem, node_evaluated, walks}

-- ---- the place of a frame that waits at a symbol

pub place_at : (g : Grammar) → WellFormed g → (p k : ℕ) → p < length g.productions → k < length (production_at g p).right → place_of g (expecting g p k) ≡ p * 256 + k
place_at g formed p k l h =
    let pr = production_at g p in
    ap (λ (b : Bool). place_of g (frame p (expect (symbol_at pr (suc k)) ∷ cons_if (not (is_empty (tests_after g pr (suc k)))) (test (tests_after g pr (suc k))) (symbols_scheme g pr (suc (suc k)) (drop (suc k) pr.right) (cond b [] (scheme_end g pr)))))) (sym (not_whole g formed p l))
    ∙ place_waits_lem g p k (symbol_at pr (suc k)) (drop (suc k) pr.right) (drop-cons pr.right k (terminal 0) h)

-- ---- a stop

-- a run to a configuration that waits for the next token and shows the picture d
pub record Stops (g : Grammar) (lent : Lent) (need : ℕ) (us : List Leaf) (c : Config) (vs : List Leaf) (n m : ℕ) (d : Picture) : Type 0 where
  pub frames : List Frame
  pub run : Steps g lent need us c vs (config frames d.registers n m)
  pub rests : waits frames ≡ true
  pub places : map (place_of g) frames ≡ d.places

module _ (g : Grammar) (lent : Lent) (need : ℕ) where
  later : {us us' vs : List Leaf} {c c' : Config} {n m n' m' : ℕ} {d d' : Picture} → Steps g lent need us c us' c' → n ≡ n' → m ≡ m' → d ≡ d' → Stops g lent need us' c' vs n m d → Stops g lent need us c vs n' m' d'
  later {us = us} {vs = vs} {c = c} {n = n} {m = m} {d = d} s a b e r =
      subst (λ (z : record { n : ℕ; m : ℕ; d : Picture }). Stops g lent need us c vs z.n z.m z.d) (λ i. record { n = a i; m = b i; d = e i })
      (record { frames = r.frames; run = s then r.run; rests = r.rests; places = r.places })

pub unopened_moves : (g : Grammar) (t : Tree) (j b : ℕ) → is_opened j b ≡ false → moves_of g j b t ≡ 0
unopened_moves g (leaf t) j b e = rw e
unopened_moves g (node p vs f) j b e = rw e

-- what lies below a tree whose symbol is expected
abbrev pub below : Grammar → List Frame → List ℤ → Picture
below g fs rs = record { places = map (place_of g) fs; registers = rs }

module _ (g : Grammar) (formed : WellFormed g) (lent : Lent) (late j : ℕ) (rest : List Leaf) where
  abbrev pub StopsIn : List Leaf → Tree → ℕ → Symbol → ℕ → List Instruction → List Frame → List ℤ → ℕ → ℕ → Type 0
  StopsIn us t b x q is fs rs n m = Stops g lent (suc late) (yield t ++ us) (config (frame q (expect x ∷ is) ∷ fs) (waiting g t ++ rs) n m) rest (n + (j - b)) (m + moves_of g j b t) (draw g j b t (below g (frame q (expect x ∷ is) ∷ fs) (waiting g t ++ rs)))

  abbrev pub StopsAmong : List Leaf → Forest → ℕ → ℕ → List ℤ → Forest → ℕ → Symbol → ℕ → List Instruction → List Frame → List ℤ → ℕ → ℕ → Type 0
  StopsAmong us f b p vs all k x q is fs rs n m =
      Stops g lent (suc late)
      (yields f ++ us) (config (progress g p k ∷ frame q (expect x ∷ is) ∷ fs) (during g p vs all rs k) n m)
      rest (n + (j - b)) (m + moves_in g j b p (suc k) f)
      (draws g j b p k (syns_of g (firsts k all)) f (below g (frame q (expect x ∷ is) ∷ fs) (during g p vs all rs 0)))

  -- how much of the stream is seen
  pub record Cut (us : List Leaf) (b : ℕ) : Type 0 where
    pub size : b + length us ≡ j + late
    pub seen : drop (j - b) us ≡ rest

  cut_child : (t : Tree) (f : Forest) (us : List Leaf) (b : ℕ) → Cut (yields (tree_and t f) ++ us) b → Cut (yield t ++ (yields f ++ us)) b
  cut_child t f us b c = record { size = rw append_assoc at c.size; seen = rw append_assoc at c.seen }

  cut_rest : (t : Tree) (us : List Leaf) (b : ℕ) → b + width t ≤ j → Cut (yield t ++ us) b → Cut us (b + width t)
  cut_rest t us b h c =
      let l = length-append (yield t) us in
      let s = c.size in
      let e : j - b ≡ length (yield t) + (j - (b + width t)) = omega arith in
      record { size = omega arith; seen = sym (drop-append-add (yield t) us (j - (b + width t))) ∙ (ap (λ (z : ℕ). drop z (yield t ++ us)) (sym e) ∙ c.seen) }

  below_opened : (b : ℕ) → is_opened j b ≡ true → b ≤ j
  below_opened b h = let l = ltb→lt b j (true→T _ h) in omega arith

  unleft : (b : ℕ) (f : Forest) → is_opened j b ≡ true → is_opened j b && are_left j b f ≡ false → are_left j b f ≡ false
  unleft b f h l = rw h at l

  node_stops : (us : List Leaf) (p : ℕ) (vs : List ℤ) (f : Forest) (b : ℕ) (x : Symbol) (q : ℕ) (is : List Instruction) (fs : List Frame) (rs : List ℤ) (n m : ℕ)
      → Foreseen g us (node p vs f) → TreeExpected fitting g lent (node p vs f) x fs rs m → Cut (yields f ++ us) b → is_opened j b ≡ true → StopsAmong us f b p vs f 0 x q is fs rs n (suc m)
      → StopsIn us (node p vs f) b x q is fs rs n m
  node_stops us p vs f b x q is fs rs n m o r c h s =
      let e = node_evaluated g formed x p vs f r.evaluated in
      let l = ltb→lt b j (true→T _ h) in
      let size = c.size in
      let time : suc m + moves_in g j b p 1 f ≡ m + moves_of g j b (node p vs f) = rw h (omega arith) in
      later g lent (suc late) (steps_of (node_enters fitting g formed lent (suc late) us p vs f x q is fs rs n m r (omega arith) o.0)) refl time
      (ap (λ (z : List ℤ). draws g j b p 0 [] f (below g (frame q (expect x ∷ is) ∷ fs) z)) (sym (node_registers_lem g p vs f rs e.size))) s

  -- what is drawn for the child at hand
  child_picture : (t : Tree) (f : Forest) (p : ℕ) (vs : List ℤ) (all : Forest) (k : ℕ) (x : Symbol) (q : ℕ) (is : List Instruction) (fs : List Frame) (rs : List ℤ) (m : ℕ)
      → Readies fitting g lent (tree_and t f) p vs all k fs rs m
      → below g (expecting g p k ∷ frame q (expect x ∷ is) ∷ fs) (waiting g t ++ during g p vs all rs k)
      ≡ on_place (p * 256 + k) (waiting g t ++ syns_of g (firsts k all)) (below g (frame q (expect x ∷ is) ∷ fs) (during g p vs all rs 0))
  child_picture t f p vs all k x q is fs rs m r =
      let pr = production_at g p in
      let base = under g pr vs all (replicate (syn g (symbol_at pr 0)) mark ++ rs) 0 in
      let within = drop_f_within g k all pr.right t f r.evaluated.children r.next in
      let place = place_at g formed p k r.listed within in
      let regs : waiting g t ++ (syns_of g (firsts k all) ++ base) ≡ (waiting g t ++ syns_of g (firsts k all)) ++ base = sym (append_assoc (waiting g t) (syns_of g (firsts k all)) base) in
      λ i. record { places = place i ∷ map (place_of g) (frame q (expect x ∷ is) ∷ fs); registers = regs i }

  more_stops : (us : List Leaf) (t : Tree) (f : Forest) (b p : ℕ) (vs : List ℤ) (all : Forest) (k : ℕ) (x : Symbol) (q : ℕ) (is : List Instruction) (fs : List Frame) (rs : List ℤ) (n m : ℕ)
      → Foreseens g us (tree_and t f) → Readies fitting g lent (tree_and t f) p vs all k fs rs m → Cut (yields (tree_and t f) ++ us) b → b ≤ j → are_left j b (tree_and t f) ≡ false
      → (is_opened j b ≡ true → is_left j b t ≡ false → StopsIn (yields f ++ us) t b (symbol_at (production_at g p) (suc k)) p (afterward g (production_at g p) k) (frame q (expect x ∷ is) ∷ fs) (during g p vs all rs k) n (at_child g p k m))
      → (is_left j b t ≡ true → b + width t ≤ j → are_left j (b + width t) f ≡ false → StopsAmong us f (b + width t) p vs all (suc k) x q is fs rs (n + width t) (past_child g p k t m))
      → (l : Bool) → is_left j b t ≡ l → (w : Bool) → is_opened j b ≡ w
      → StopsAmong us (tree_and t f) b p vs all k x q is fs rs n m
  more_stops us t f b p vs all k x q is fs rs n m o r c h a one two true l w e =
      let pr = production_at g p in
      let x₁ = symbol_at pr (suc k) in
      let gs = frame q (expect x ∷ is) ∷ fs in
      let base = under g pr vs all (replicate (syn g (symbol_at pr 0)) mark ++ rs) 0 in
      let u₀ = under g pr vs all (replicate (syn g (symbol_at pr 0)) mark ++ rs) k in
      let v = left_width t j b h l in
      let c₁ = cut_child t f us b c in
      let d : are_left j (b + width t) f ≡ false = rw l at a in
      let within = drop_f_within g k all pr.right t f r.evaluated.children r.next in
      let held : syns_of g (firsts (suc k) all) ≡ synthesized_of g t ++ syns_of g (firsts k all) = ap (λ (z : Tree). synthesized_of g z ++ syns_of g (firsts k all)) (drop_f_child k all t f r.next) in
      let time : m + to_child g pr (suc k) + all_moves g t + after_child pr (suc k) + moves_in g j (b + width t) p (suc (suc k)) f ≡ m + moves_in g j b p (suc k) (tree_and t f) = rw (l, left_moves g t j b l) (omega arith) in
      let drawn : draws g j (b + width t) p (suc k) (syns_of g (firsts (suc k) all)) f (below g gs base) ≡ draws g j b p k (syns_of g (firsts k all)) (tree_and t f) (below g gs base) = rw (l, held) in
      later g lent (suc late)
      (restart (append_assoc (yield t) (yields f) us) refl
      (steps_of (child_enters fitting g formed lent (suc late) (yield t ++ (yields f ++ us)) t f p vs all k gs fs rs n m r
      on walks fitting g formed lent (suc late) t (yields f ++ us) x₁ p (afterward g pr k) gs u₀ n (m + to_child g pr (suc k)) (foresee_left g late j t b (yields f ++ us) c₁.size l o.0) (child_ready fitting g formed lent 0 t f p vs all k (frame q (expect x ∷ is)) fs rs m r)
      on child_leaves fitting g formed lent (suc late) (yields f ++ us) t f p vs all k gs fs rs (n + width t) m r)))
      (omega arith) time drawn (two l v d)
  more_stops us t f b p vs all k x q is fs rs n m o r c h a one two false l true e =
      let pr = production_at g p in
      let gs = frame q (expect x ∷ is) ∷ fs in
      let time : m + to_child g pr (suc k) + moves_of g j b t ≡ m + moves_in g j b p (suc k) (tree_and t f) = rw l (omega arith) in
      later g lent (suc late)
      (restart (append_assoc (yield t) (yields f) us) refl (steps_of (child_enters fitting g formed lent (suc late) (yield t ++ (yields f ++ us)) t f p vs all k gs fs rs n m r)))
      refl time (rw (l, e) (ap (draw g j b t) (child_picture t f p vs all k x q is fs rs m r))) (one e l)
  more_stops us t f b p vs all k x q is fs rs n m o r c h a one two false l false e =
      let pr = production_at g p in
      let gs = frame q (expect x ∷ is) ∷ fs in
      let u₀ = under g pr vs all (replicate (syn g (symbol_at pr 0)) mark ++ rs) k in
      let no_trees = unopened_moves g t j b e in
      let over = nltb→le b j (rw e tt) in
      let zero' : j - b ≡ 0 = omega arith in
      let time : m + to_child g pr (suc k) ≡ m + moves_in g j b p (suc k) (tree_and t f) = rw l (omega arith) in
      let stream : yield t ++ (yields f ++ us) ≡ rest = ap (λ (z : ℕ). drop z (yield t ++ (yields f ++ us))) (sym zero') ∙ (cut_child t f us b c).seen in
      later g lent (suc late)
      (restart (append_assoc (yield t) (yields f) us) refl (steps_of (child_enters fitting g formed lent (suc late) (yield t ++ (yields f ++ us)) t f p vs all k gs fs rs n m r)))
      (omega arith) time (rw (l, e) (child_picture t f p vs all k x q is fs rs m r))
      (record { frames = frame p (expect (symbol_at pr (suc k)) ∷ afterward g pr k) ∷ gs; run = restart stream refl done; rests = refl; places = refl })

  mutual
    pub stops : (t : Tree) (us : List Leaf) (b : ℕ) (x : Symbol) (q : ℕ) (is : List Instruction) (fs : List Frame) (rs : List ℤ) (n m : ℕ)
        → Foreseen g us t → TreeExpected fitting g lent t x fs rs m → Cut (yield t ++ us) b → is_opened j b ≡ true → is_left j b t ≡ false → StopsIn us t b x q is fs rs n m
    stops (leaf t) us b x q is fs rs n m o r c h l = absurd (true≢false (sym h ∙ l))
    stops (node p vs f) us b x q is fs rs n m o r c h l = node_stops us p vs f b x q is fs rs n m o r c h (stops_among f us b p vs f 0 x q is fs rs n (suc m) o.1 (node_ready fitting g formed lent 0 p vs f x fs rs m r) c (below_opened b h) (unleft b f h l))

    pub stops_among : (f : Forest) (us : List Leaf) (b p : ℕ) (vs : List ℤ) (all : Forest) (k : ℕ) (x : Symbol) (q : ℕ) (is : List Instruction) (fs : List Frame) (rs : List ℤ) (n m : ℕ)
        → Foreseens g us f → Readies fitting g lent f p vs all k fs rs m → Cut (yields f ++ us) b → b ≤ j → are_left j b f ≡ false → StopsAmong us f b p vs all k x q is fs rs n m
    stops_among no_trees us b p vs all k x q is fs rs n m o r c h a = absurd (true≢false a)
    stops_among (tree_and t f) us b p vs all k x q is fs rs n m o r c h a =
        more_stops us t f b p vs all k x q is fs rs n m o r c h a
        (λ w l. stops t (yields f ++ us) b (symbol_at (production_at g p) (suc k)) p (afterward g (production_at g p) k) (frame q (expect x ∷ is) ∷ fs) (during g p vs all rs k) n
        (at_child g p k m) o.0 (child_ready fitting g formed lent 0 t f p vs all k (frame q (expect x ∷ is)) fs rs m r) (cut_child t f us b c) w l)
        (λ l v i. stops_among f us (b + width t) p vs all (suc k) x q is fs rs (n + width t) (past_child g p k t m) o.1 (rest_ready fitting g formed lent 0 t f p vs all k fs rs m r) (cut_rest t (yields f ++ us) b v (cut_child t f us b c)) v i)
        (is_left j b t) refl (is_opened j b) refl
