-- 01's walk of a whole tree: its moves, and the room it needs.
use Rattle.std.specs.Prelude.{ℕ, suc, ◌+◌, ◌≤◌, ◌<◌, ◌≡◌, refl, Bool, true, false, not, length, ltb}
use Rattle.std.proofs.Common.{zero-le, arith, length-append, lt→ltb, ltb→lt}
use Rattle.meaning.specs.Base.{is_empty}
use Rattle.meaning.specs.Grammar.{nonterminal, Grammar, inh, syn, added_for, production_at, symbol_at, conditions_at}
use Rattle.meaning.specs.Tree.{Tree, Forest, leaf, node, no_trees, tree_and, yield, yields, width, is_opened, is_left, are_left}
use Rattle.theory_base.specs.MoveCounts.{one_if, count_if, moves_of, moves_in}
use Rattle.meaning.specs.Drawn.{registers_for, registers_in}
use Rattle.theory_base.specs.Members.{T→true, true→T, both}

abbrev mutual
  pub all_moves : Grammar → Tree → ℕ
  all_moves g (leaf t) = 1
  all_moves g (node p vs f) = 1 + all_moves_in g p 1 f

  pub all_moves_in : Grammar → ℕ → ℕ → Forest → ℕ
  all_moves_in g p k no_trees = one_if (ltb 0 (syn g (nonterminal (production_at g p).left))) + 1
  all_moves_in g p k (tree_and t f) =
      one_if (ltb 0 (added_for g (symbol_at (production_at g p) k)))
      + one_if (ltb 0 (inh g (symbol_at (production_at g p) k)))
      + all_moves g t
      + (one_if (not (is_empty (conditions_at (production_at g p) k))) + all_moves_in g p (suc k) f)

-- ---- with more than its tokens opened, everything is

opened_below : (j b : ℕ) → b < j → is_opened j b ≡ true
opened_below j b h = T→true (ltb b j) (lt→ltb b j h)

mutual
  pub all_left : (t : Tree) (j b : ℕ) → b + width t < j → is_left j b t ≡ true
  all_left (leaf t) j b h = opened_below j b (omega arith)
  all_left (node p vs f) j b h = rw (opened_below j b (omega arith)) (all_lefts f j b h)

  pub all_lefts : (f : Forest) (j b : ℕ) → b + length (yields f) < j → are_left j b f ≡ true
  all_lefts no_trees j b h = refl
  all_lefts (tree_and t f) j b h =
      let l = length-append (yield t) (yields f) in
      rw (all_left t j b (omega arith)) (all_lefts f j (b + width t) (omega arith))

-- ---- what is left

mutual
  pub left_moves : (g : Grammar) (t : Tree) (j b : ℕ) → is_left j b t ≡ true → moves_of g j b t ≡ all_moves g t
  left_moves g (leaf t) j b h = rw h
  left_moves g (node p vs f) j b h =
      let o : is_opened j b ≡ true = T→true _ (both (is_opened j b) (are_left j b f) (true→T _ h)).0 in
      let a : are_left j b f ≡ true = T→true _ (both (is_opened j b) (are_left j b f) (true→T _ h)).1 in
      rw (o, left_moves_in g f j b p 1 a)

  pub left_moves_in : (g : Grammar) (f : Forest) (j b p k : ℕ) → are_left j b f ≡ true → moves_in g j b p k f ≡ all_moves_in g p k f
  left_moves_in g no_trees j b p k h = refl
  left_moves_in g (tree_and t f) j b p k h =
      let o : is_left j b t ≡ true = T→true _ (both (is_left j b t) (are_left j (b + width t) f) (true→T _ h)).0 in
      let a : are_left j (b + width t) f ≡ true = T→true _ (both (is_left j b t) (are_left j (b + width t) f) (true→T _ h)).1 in
      rw (o, left_moves g t j b o, left_moves_in g f j (b + width t) p (suc k) a)

mutual
  pub left_width : (t : Tree) (j b : ℕ) → b ≤ j → is_left j b t ≡ true → b + width t ≤ j
  left_width (leaf t) j b l h = let o = ltb→lt b j (true→T _ h) in omega arith
  left_width (node p vs f) j b l h = left_widths f j b l (T→true _ (both (is_opened j b) (are_left j b f) (true→T _ h)).1)

  pub left_widths : (f : Forest) (j b : ℕ) → b ≤ j → are_left j b f ≡ true → b + length (yields f) ≤ j
  left_widths no_trees j b l h = omega arith
  left_widths (tree_and t f) j b l h =
      let i = left_width t j b l (T→true _ (both (is_left j b t) (are_left j (b + width t) f) (true→T _ h)).0) in
      let k = left_widths f j (b + width t) i (T→true _ (both (is_left j b t) (are_left j (b + width t) f) (true→T _ h)).1) in
      let e = length-append (yield t) (yields f) in
      omega arith

-- with more than its tokens opened
pub all_moves_lem : (g : Grammar) (t : Tree) (j b : ℕ) → b + width t < j → moves_of g j b t ≡ all_moves g t
all_moves_lem g t j b h = left_moves g t j b (all_left t j b h)

-- ---- a part of the walk makes at most all of its moves

one_if_le : (b : Bool) → one_if b ≤ 1
one_if_le true = omega arith
one_if_le false = omega arith

count_if_le : (b : Bool) (n m : ℕ) → n ≤ m → count_if b n ≤ m
count_if_le true n m h = h
count_if_le false n m h = zero-le

mutual
  pub moves_le : (g : Grammar) (t : Tree) (j b : ℕ) → moves_of g j b t ≤ all_moves g t
  moves_le g (leaf t) j b = one_if_le (is_opened j b)
  moves_le g (node p vs f) j b = let i = moves_in_le g f j b p 1 in count_if_le (is_opened j b) (1 + moves_in g j b p 1 f) (1 + all_moves_in g p 1 f) (omega arith)

  pub moves_in_le : (g : Grammar) (f : Forest) (j b p k : ℕ) → moves_in g j b p k f ≤ all_moves_in g p k f
  moves_in_le g no_trees j b p k = omega arith
  moves_in_le g (tree_and t f) j b p k =
      let i = moves_le g t j b in
      let h = moves_in_le g f j (b + width t) p (suc k) in
      let c = one_if (not (is_empty (conditions_at (production_at g p) k))) in
      let l = count_if_le (is_left j b t) (c + moves_in g j (b + width t) p (suc k) f) (c + all_moves_in g p (suc k) f) (omega arith) in
      omega arith

-- ---- the room that a walk needs is at least what it begins with

mutual
  pub room : (g : Grammar) (t : Tree) (base : ℕ) → base ≤ registers_for g base t
  room g (leaf t) base = omega arith
  room g (node p vs f) base = rooms g f p 1 base

  pub rooms : (g : Grammar) (f : Forest) (p k base : ℕ) → base ≤ registers_in g p k base f
  rooms g no_trees p k base = omega arith
  rooms g (tree_and t f) p k base =
      let h = rooms g f p (suc k) (base + syn g (symbol_at (production_at g p) k)) in
      omega arith
