-- What the selectors of a move find: demand 3's second sentence, for one configuration. 01: "A selector finds its attribute if its register is the named occurrence's and, when read, holds the tree's value; where there is no such tree, the part walked so far stands for it."
use Rattle.std.specs.Prelude.{ℕ, zero, suc, ◌-◌, ◌≤◌, ◌<◌, ◌≡◌, List, [], ◌∷◌, ◌++◌, get_or, length, ℤ, pos}
use Rattle.meaning.specs.Base.{In}
use Rattle.meaning.specs.Grammar.{Grammar, Leaf, Production, Symbol, nonterminal, Occurrence, Rule, Condition, inh, syn, att, added_for, production_at, symbol_at, conditions_at}
use Rattle.meaning.specs.Rules.{Operands, Reads}
use Rattle.meaning.specs.Scheme.{Instruction, add, evaluate, expect, test, remove, removed, inherited_rules, synthesized_rules, tests_after, rules_for, select_inherited, select_after}
use Rattle.meaning.specs.Machine.{Config, read_register}
use Rattle.meaning.specs.Tree.{Tree, TreeOf}
use Rattle.meaning.specs.Part.{Open, Point, fresh, added, valued, left, closing, Ancestor, Part, value_in, yield_part, draw_frames, draw_registers, Good, PartOf}

abbrev pub occurrence : ℕ → ℕ → Occurrence
occurrence k a = record { position = k; attribute = a }

-- ---- the drawing of a part, with the occurrences' names in place of their values

-- attributes a, a + 1, .. of position k, n of them. 01: "Within a symbol the lowest attribute number lies highest."
abbrev pub names : ℕ → ℕ → ℕ → List Occurrence
names k a zero = []
names k a (suc n) = occurrence k a ∷ names k (suc a) n

-- the synthesized registers of the first n symbols, the latest on top
abbrev pub child_names : Grammar → Production → ℕ → List Occurrence
child_names g p zero = []
child_names g p (suc n) = names (suc n) (suc (inh g (symbol_at p (suc n)))) (syn g (symbol_at p (suc n))) ++ child_names g p n

abbrev pub node_names : Grammar → Production → ℕ → List Occurrence
node_names g p n = child_names g p n ++ names 0 1 (att g (nonterminal p.left))

abbrev pub point_names : Grammar → ℕ → Point → List Occurrence
point_names g n (fresh xs) = []
point_names g n (added x xs) = names (suc n) 1 (added_for g x)
point_names g n (valued x is xs) = names (suc n) 1 (added_for g x)
point_names g n (left xs) = []
point_names g n (closing ss) = []

-- of the registers that are the top node's; below them lie its ancestors'
abbrev pub part_names : Grammar → Part → List Occurrence
part_names g q = point_names g (length q.node.children) q.point ++ node_names g (production_at g q.node.production) (length q.node.children)

abbrev pub nowhere : Occurrence
nowhere = occurrence 0 0

-- ---- found

-- 01: "Register 1 is the top."
pub record FindsTarget (g : Grammar) (q : Part) (sel : ℕ) (o : Occurrence) : Type 0 where
  pub least : 1 ≤ sel
  pub most : sel ≤ length (draw_registers g q)
  pub named : get_or (part_names g q) (sel - 1) nowhere ≡ o

pub record Finds (g : Grammar) (q : Part) (sel : ℕ) (o : Occurrence) (v : ℤ) : Type 0 where
  pub register : FindsTarget g q sel o
  pub held : read_register (draw_registers g q) sel ≡ v

abbrev pub part_at : Open → Point → List Ancestor → Part
part_at o pt bs = record { node = o; point = pt; below = bs }

-- the instruction that a point shows
pub data Due (g : Grammar) (o : Open) : Instruction → Point → Type 0 where
  adds : (x : Symbol) (xs : List Symbol) → Due g o (add (added_for g x)) (fresh (x ∷ xs))
  hands : (x : Symbol) (xs : List Symbol) → Due g o (evaluate (inherited_rules g (production_at g o.production) (suc (length o.children)))) (added x xs)
  waits : (x : Symbol) (is : List ℤ) (xs : List Symbol) → Due g o (expect x) (valued x is xs)
  tests : (xs : List Symbol) → Due g o (test (tests_after g (production_at g o.production) (length o.children))) (left xs)
  closes : Due g o (evaluate (synthesized_rules g (production_at g o.production))) (fresh [])
  removes : (ss : List ℤ) → Due g o (remove (removed g (production_at g o.production))) (closing ss)

-- every selector of the instruction that the point shows; at a predict, those of the entry conditions of every production of the symbol waited at
abbrev pub Found : Grammar → Open → List Ancestor → Point → Type 0
Found g o bs (added x xs) = (r : Rule Occurrence) → In r (rules_for (production_at g o.production) (suc (length o.children)))
    → Operands (λ u. Finds g (part_at o (added x xs) bs) (select_inherited g (production_at g o.production) (suc (length o.children)) u) u (value_in o.inherited o.children u)) r.function
    × FindsTarget g (part_at o (added x xs) bs) (select_inherited g (production_at g o.production) (suc (length o.children)) r.target) r.target
Found g o bs (fresh []) = (r : Rule Occurrence) → In r (rules_for (production_at g o.production) 0)
    → Operands (λ u. Finds g (part_at o (fresh []) bs) (select_after g (production_at g o.production) (length (production_at g o.production).right) u) u (value_in o.inherited o.children u)) r.function
    × FindsTarget g (part_at o (fresh []) bs) (select_after g (production_at g o.production) (length (production_at g o.production).right) r.target) r.target
Found g o bs (left xs) = (c : Condition Occurrence) → In c (conditions_at (production_at g o.production) (length o.children))
    → Reads (λ u. Finds g (part_at o (left xs) bs) (select_after g (production_at g o.production) (length o.children) u) u (value_in o.inherited o.children u)) c
Found g o bs (valued x vs xs) = (e : ℕ) → e < length g.productions → x ≡ nonterminal (production_at g e).left → (c : Condition Occurrence) → In c (conditions_at (production_at g e) 0)
    → Reads (λ u. Finds g (part_at o (valued x vs xs) bs) (select_after g (production_at g e) 0 u) (occurrence (suc (length o.children)) u.attribute) (get_or vs (u.attribute - 1) (pos 0))) c
Found g o bs (fresh (x ∷ xs)) = Unit {0}
Found g o bs (closing ss) = Unit {0}

-- a configuration that has read ts, with us still to come, and its next instruction i: it draws a part evaluated so far whose point shows i, every selector of i finds its attribute there, and the part is one of the segment's tree, if it has one
pub record SelectorsFind (g : Grammar) (ts us : List Leaf) (c : Config) (i : Instruction) : Type 0 where
  pub node : Open
  pub point : Point
  pub below : List Ancestor
  pub good : Good g (part_at node point below)
  pub frames : draw_frames g (part_at node point below) ≡ c.frames
  pub registers : draw_registers g (part_at node point below) ≡ c.registers
  pub read : yield_part (part_at node point below) ≡ ts
  pub due : Due g node i point
  pub finds : Found g node below point
  pub of_tree : (t : Tree) → TreeOf g (ts ++ us) t → PartOf g t (part_at node point below)
