-- The walk of a tree has as many moves as 01 counts: after j tokens, and in all.
use Rattle.std.specs.Prelude.{ℕ, zero, suc, ◌+◌, ◌-◌, ◌<◌, ◌≡◌, refl, Bool, true, false, ◌&&◌, not, List, [], ◌∷◌, ◌++◌, length, drop, ltb}
use Rattle.std.proofs.Common.{arith, sym, ap, ◌∙◌, subst, append_assoc, append-nil, length-append, length-drop, drop-cons, ltb→lt, lt→ltb}
use Rattle.meaning.specs.Base.{cons_if, is_empty}
use Rattle.meaning.specs.Grammar.{Symbol, terminal, Grammar, inh, added_for, production_at, symbol_at, conditions_at}
use Rattle.meaning.specs.Rules.{WellFormedProduction, WellFormed}
use Rattle.meaning.specs.Scheme.{Instruction, add, evaluate, expect, test, remove, inherited_rules, synthesized_rules, tests_after, removed, symbol_scheme, symbols_scheme, scheme, scheme_end}
use Rattle.meaning.specs.Machine.{is_expect}
use Rattle.meaning.specs.Tree.{Tree, Forest, leaf, node, no_trees, tree_and, yield, yields, width, WellEvaluated, WellEvaluateds, is_opened, is_left, are_left}
use Rattle.theory_base.specs.MoveCounts.{one_if, count_if, moves_of, moves_in}
use Rattle.meaning.specs.Walk.{Act, predicts, reads, performs, before_expect, after_expect, walk, walk_on, walk_to}
use Rattle.theory_base.specs.WellFormed.{well_formed_at, evaluable}
use Rattle.theory_base.specs.Present.{inherited_present, synthesized_present, tests_present}

-- how many of the moves are made on r more tokens
abbrev made : ℕ → List Act → ℕ
made r ws = length (walk_to r ws)

-- ---- a predict and a read, b tokens before them

opened : (j b r : ℕ) → j - b ≡ suc r → is_opened j b ≡ true
opened j b r e = go (ltb b j) refl
  where
    go : (c : Bool) → ltb b j ≡ c → c ≡ true
    go true q = refl
    go false q = absurd (rw q at (lt→ltb b j (omega arith)))

unopened : (j b : ℕ) → j - b ≡ 0 → is_opened j b ≡ false
unopened j b e = go (ltb b j) refl
  where
    go : (c : Bool) → ltb b j ≡ c → c ≡ false
    go true q = let l = ltb→lt b j (rw q tt) in absurd (omega arith)
    go false q = refl

made_predict : (j b p : ℕ) (ws : List Act) → made (j - b) (predicts p ∷ ws) ≡ count_if (is_opened j b) (suc (made (j - b) ws))
made_predict j b p ws = go (j - b) refl
  where
    go : (r : ℕ) → j - b ≡ r → made r (predicts p ∷ ws) ≡ count_if (is_opened j b) (suc (made r ws))
    go zero e = rw (unopened j b e) refl
    go (suc r) e = rw (opened j b r e) refl

made_read : (j b t : ℕ) (ws : List Act) → made (j - b) (reads t ∷ ws) ≡ one_if (is_opened j b) + count_if (is_opened j b) (made (j - (b + 1)) ws)
made_read j b t ws = go (j - b) refl
  where
    go : (r : ℕ) → j - b ≡ r → made r (reads t ∷ ws) ≡ one_if (is_opened j b) + count_if (is_opened j b) (made (j - (b + 1)) ws)
    go zero e = rw (unopened j b e) refl
    go (suc r) e = let l : j - (b + 1) ≡ r = omega arith in rw (opened j b r e, l) (omega arith)

-- ---- an instruction between the children, where it is present

made_if : (r p : ℕ) (us ws : List Act) (c : Bool) (i : Instruction) (is : List Instruction) → is_expect i ≡ 0 → made r (before_expect p (cons_if c i is) us ++ ws) ≡ one_if c + made r (before_expect p is us ++ ws)
made_if r p us ws false i is e = omega arith
made_if r p us ws true (add n) is e = omega arith
made_if r p us ws true (evaluate rs) is e = omega arith
made_if r p us ws true (expect x) is e = absurd (omega arith)
made_if r p us ws true (test cs) is e = omega arith
made_if r p us ws true (remove n) is e = omega arith

after_if : (c : Bool) (i : Instruction) (is : List Instruction) → is_expect i ≡ 0 → after_expect (cons_if c i is) ≡ after_expect is
after_if false i is e = refl
after_if true (add n) is e = refl
after_if true (evaluate rs) is e = refl
after_if true (expect x) is e = absurd (omega arith)
after_if true (test cs) is e = refl
after_if true (remove n) is e = refl

walk_if : (g : Grammar) (r p : ℕ) (ws : List Act) (c : Bool) (i : Instruction) (is : List Instruction) (f : Forest) → is_expect i ≡ 0 → made r (walk_on g p (cons_if c i is) f ++ ws) ≡ one_if c + made r (walk_on g p is f ++ ws)
walk_if g r p ws c i is no_trees e = made_if r p [] ws c i is e
walk_if g r p ws c i is (tree_and t f) e = rw (after_if c i is e) (made_if r p (walk g t ++ walk_on g p (after_expect is) f) ws c i is e)

-- ---- a tree's moves, then those of what follows if the tree is left

sum_if : (a b : Bool) (k l m n o z : ℕ) → k + (l + (m + count_if a (n + (o + count_if b z)))) ≡ k + l + m + count_if a (n + o) + count_if (a && b) z
sum_if true b k l m n o z = omega arith
sum_if false b k l m n o z = omega arith

when : (a b : Bool) (n z : ℕ) → count_if a (suc (n + count_if b z)) ≡ count_if a (1 + n) + count_if (a && b) z
when true b n z = omega arith
when false b n z = refl

module _ (g : Grammar) (j : ℕ) where
  -- behind the last child: an evaluate where the left side has synthesized attributes, and the remove
  made_closing : (b p : ℕ) (ws : List Act) → WellFormedProduction g (production_at g p) → made (j - b) (walk_on g p (scheme_end g (production_at g p)) no_trees ++ ws) ≡ moves_in g j b p 1 no_trees + made (j - (b + 0)) ws
  made_closing b p ws q =
      let r = production_at g p in
      let z : b + 0 ≡ b = omega arith in
      walk_if g (j - b) p ws (not (is_empty (synthesized_rules g r))) (evaluate (synthesized_rules g r)) (remove (removed g r) ∷ []) no_trees refl
      ∙ rw (synthesized_present g r (evaluable q), z) (omega arith)

  -- one child, and the children behind it
  made_child : (b p k : ℕ) (t : Tree) (f : Forest) (is : List Instruction) (ws : List Act) (z : ℕ) → WellFormedProduction g (production_at g p) → k < length (production_at g p).right
      → ((vs : List Act) → made (j - b) (walk g t ++ vs) ≡ moves_of g j b t + count_if (is_left j b t) (made (j - (b + width t)) vs))
      → made (j - (b + width t)) (walk_on g p is f ++ ws) ≡ moves_in g j (b + width t) p (suc (suc k)) f + count_if (are_left j (b + width t) f) z
      → made (j - b) (walk_on g p (symbol_scheme g (production_at g p) (suc k) (symbol_at (production_at g p) (suc k)) is) (tree_and t f) ++ ws) ≡ moves_in g j b p (suc k) (tree_and t f) + count_if (are_left j b (tree_and t f)) z
  made_child b p k t f is ws z q l tree others =
      let r = production_at g p in
      let x = symbol_at r (suc k) in
      let rules = inherited_rules g r (suc k) in
      let tests = tests_after g r (suc k) in
      let behind = cons_if (not (is_empty tests)) (test tests) is in
      let a = walk_if g (j - b) p ws (ltb 0 (added_for g x)) (add (added_for g x)) (cons_if (not (is_empty rules)) (evaluate rules) (expect x ∷ behind)) (tree_and t f) refl in
      let e = walk_if g (j - b) p ws (not (is_empty rules)) (evaluate rules) (expect x ∷ behind) (tree_and t f) refl in
      let c = ap (made (j - b)) (append_assoc (walk g t) (walk_on g p behind f) ws) ∙ tree (walk_on g p behind f ++ ws) in
      let d = walk_if g (j - (b + width t)) p ws (not (is_empty tests)) (test tests) is f refl in
      a
      ∙ rw (e, c, d, others, inherited_present g r (evaluable q) k l, tests_present g r (suc k))
      (sum_if (is_left j b t) (are_left j (b + width t) f) (one_if (ltb 0 (added_for g x))) (one_if (ltb 0 (inh g x))) (moves_of g j b t)
      (one_if (not (is_empty (conditions_at r (suc k))))) (moves_in g j (b + width t) p (suc (suc k)) f) z)

module _ (g : Grammar) (w : WellFormed g) (j : ℕ) where
  mutual
    made_tree : (b : ℕ) (x : Symbol) (t : Tree) (ws : List Act) → WellEvaluated g t x → made (j - b) (walk g t ++ ws) ≡ moves_of g j b t + count_if (is_left j b t) (made (j - (b + width t)) ws)
    made_tree b x (leaf t) ws e = made_read j b t.kind ws
    made_tree b x (node p vs f) ws e =
        made_predict j b p (walk_on g p (scheme g (production_at g p)) f ++ ws)
        ∙ (ap (λ n. count_if (is_opened j b) (suc n)) (made_in b p 0 f (production_at g p).right ws (well_formed_at g w p e.0.listed) refl e.1)
        ∙ when (is_opened j b) (are_left j b f) (moves_in g j b p 1 f) (made (j - (b + length (yields f))) ws))

    made_in : (b p k : ℕ) (f : Forest) (xs : List Symbol) (ws : List Act) → WellFormedProduction g (production_at g p) → drop k (production_at g p).right ≡ xs → WellEvaluateds g f xs
        → made (j - b) (walk_on g p (symbols_scheme g (production_at g p) (suc k) xs (scheme_end g (production_at g p))) f ++ ws) ≡ moves_in g j b p (suc k) f + count_if (are_left j b f) (made (j - (b + length (yields f))) ws)
    made_in b p k no_trees [] ws q d e = made_closing g j b p ws q
    made_in b p k no_trees (x ∷ xs) ws q d e = absurd e
    made_in b p k (tree_and t f) [] ws q d e = absurd e
    made_in b p k (tree_and t f) (x ∷ xs) ws q d e =
        let r = production_at g p in
        let l : k < length r.right = omega (arith, length-drop k r.right, ap length d) in
        let c = drop-cons r.right k (terminal 0) l in
        let here : symbol_at r (suc k) ≡ x = cc in
        let later : drop (suc k) r.right ≡ xs = cc in
        let n : b + length (yield t ++ yields f) ≡ b + width t + length (yields f) = omega (arith, length-append (yield t) (yields f)) in
        let z = made (j - (b + length (yields (tree_and t f)))) ws in
        let is = symbols_scheme g r (suc (suc k)) xs (scheme_end g r) in
        let others = subst (λ m. made (j - (b + width t)) (walk_on g p is f ++ ws) ≡ moves_in g j (b + width t) p (suc (suc k)) f + count_if (are_left j (b + width t) f) (made (j - m) ws)) (sym n) (made_in (b + width t) p (suc k) f xs ws q later e.1) in
        subst (λ y. made (j - b) (walk_on g p (symbol_scheme g r (suc k) y is) (tree_and t f) ++ ws) ≡ moves_in g j b p (suc k) (tree_and t f) + count_if (are_left j b (tree_and t f)) z) here
        (made_child g j b p k t f is ws z q l (λ vs. made_tree b x t vs e.0) others)

-- ---- the whole walk

-- how many tokens the moves read
abbrev tokens_in : List Act → ℕ
tokens_in [] = 0
tokens_in (predicts p ∷ ws) = tokens_in ws
tokens_in (reads t ∷ ws) = suc (tokens_in ws)
tokens_in (performs p i ∷ ws) = tokens_in ws

all_made : (j : ℕ) (ws : List Act) → tokens_in ws < j → walk_to j ws ≡ ws
all_made j [] l = refl
all_made j (performs p i ∷ ws) l = ap (λ (vs : List Act). performs p i ∷ vs) (all_made j ws l)
all_made zero (predicts p ∷ ws) l = absurd (omega arith)
all_made (suc j) (predicts p ∷ ws) l = ap (λ (vs : List Act). predicts p ∷ vs) (all_made (suc j) ws l)
all_made zero (reads t ∷ ws) l = absurd (omega arith)
all_made (suc j) (reads t ∷ ws) l = ap (λ (vs : List Act). reads t ∷ vs) (all_made j ws (omega arith))

tokens_append : (vs ws : List Act) → tokens_in (vs ++ ws) ≡ tokens_in vs + tokens_in ws
tokens_append [] ws = omega arith
tokens_append (predicts p ∷ vs) ws = tokens_append vs ws
tokens_append (reads t ∷ vs) ws = omega (arith, tokens_append vs ws)
tokens_append (performs p i ∷ vs) ws = tokens_append vs ws

tokens_before_lem : (p : ℕ) (is : List Instruction) (ws : List Act) → tokens_in (before_expect p is ws) ≡ tokens_in ws
tokens_before_lem p [] ws = refl
tokens_before_lem p (expect x ∷ is) ws = refl
tokens_before_lem p (add n ∷ is) ws = tokens_before_lem p is ws
tokens_before_lem p (evaluate rs ∷ is) ws = tokens_before_lem p is ws
tokens_before_lem p (test cs ∷ is) ws = tokens_before_lem p is ws
tokens_before_lem p (remove n ∷ is) ws = tokens_before_lem p is ws

mutual
  tokens_walk : (g : Grammar) (t : Tree) → tokens_in (walk g t) ≡ width t
  tokens_walk g (leaf t) = refl
  tokens_walk g (node p vs f) = tokens_walks g p (scheme g (production_at g p)) f

  tokens_walks : (g : Grammar) (p : ℕ) (is : List Instruction) (f : Forest) → tokens_in (walk_on g p is f) ≡ length (yields f)
  tokens_walks g p is no_trees = tokens_before_lem p is []
  tokens_walks g p is (tree_and t f) =
      tokens_before_lem p is (walk g t ++ walk_on g p (after_expect is) f)
      ∙ (tokens_append (walk g t) (walk_on g p (after_expect is) f)
      ∙ omega (arith, length-append (yield t) (yields f), tokens_walk g t, tokens_walks g p (after_expect is) f))

-- ---- what 01 counts

pub moves_to : (g : Grammar) → WellFormed g → (x : Symbol) (t : Tree) → WellEvaluated g t x → (j : ℕ) → moves_of g j 0 t ≡ length (walk_to j (walk g t))
moves_to g w x t e j =
    let m : made (j - 0) (walk g t) ≡ moves_of g j 0 t + count_if (is_left j 0 t) 0 = subst (λ (vs : List Act). made (j - 0) vs ≡ moves_of g j 0 t + count_if (is_left j 0 t) 0) (append-nil (walk g t)) (made_tree g w j 0 x t [] e) in
    let z : j - 0 ≡ j = omega arith in
    let n : made j (walk g t) ≡ moves_of g j 0 t + count_if (is_left j 0 t) 0 = rw z at m in
    omega (arith, n, nothing (is_left j 0 t))
  where
    nothing : (c : Bool) → count_if c 0 ≡ 0
    nothing true = refl
    nothing false = refl

pub moves_all : (g : Grammar) → WellFormed g → (x : Symbol) (t : Tree) → WellEvaluated g t x → moves_of g (suc (width t)) 0 t ≡ length (walk g t)
moves_all g w x t e = moves_to g w x t e (suc (width t)) ∙ ap length (all_made (suc (width t)) (walk g t) (omega (arith, tokens_walk g t)))
