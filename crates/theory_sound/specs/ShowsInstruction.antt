-- Whatever instruction comes next, a good part that shows just that instruction has the same drawing; there every selector finds its attribute.
use Prim.Native.Nat.{ℕ, suc}
use Rattle.std.proofs.Common.{arith, sym, ap, ◌∙◌, subst, nltb→le}
use Rattle.std.specs.Prelude.{◌≡◌, Bool, true, false, not, cond, T, eqb, ltb}
use Rattle.std.proofs.Math.Path.{refl}
use mathlib.Core.List.{List, [], ◌∷◌, ◌++◌, map, head-eq_of_cons-eq, cons≢nil}
use Rattle.std.proofs.Math.ListN.{length}
use Rattle.std.proofs.Math.IntN.{ℤ}
use Rattle.meaning.specs.Base.{all, cons_if, is_empty}
use Rattle.meaning.specs.Grammar.{Grammar, Production, Symbol, nonterminal, Rule, Condition, syn, added_for, production_at, whole, Leaf}
use Rattle.meaning.specs.Value.{apply, holds, in_range}
use Rattle.meaning.specs.Scheme.{Instruction, add, evaluate, test, remove, removed, inherited_rules, synthesized_rules, tests_after, scheme_end}
use Rattle.meaning.specs.Machine.{Frame, Config, read_register, write_all}
use Rattle.meaning.specs.Tree.{Tree, TreeOf}
use Rattle.meaning.specs.Selectors.{Due, adds, hands, waits, tests, closes, removes, Found, SelectorsFind}
use Rattle.meaning.specs.Rules.{WellFormed}
use Rattle.meaning.specs.Part.{Open, Point, fresh, added, valued, left, closing, Ancestor, Part, syns_of, marks, fresh_rest, wait_rest, draw_rest, draw_below, frame, draw_frame, draw_registers, GoodNode, Stands, PartOf}
use Rattle.theory_base.specs.Grow.{Hand, hand, Close, close, passed}
use Rattle.theory_sound.specs.MovesKeepPart.{node_evaluable, listed, part_of}
use Rattle.theory_sound.specs.SelectorsFind.{finds_inherited, finds_synthesized, finds_tested, finds_entry}
use Rattle.theory_sound.specs.RunsShowPart.{Shows}

pub record ShowsInstruction (g : Grammar) (o : Open) (bs : List Ancestor) (i : Instruction) (is : List Instruction) (rs : List ℤ) : Type 0 where
  pub point : Point
  pub good : GoodNode g o point
  pub rest : draw_rest g o point ≡ i ∷ is
  pub registers : draw_registers g (part_of o point bs) ≡ rs
  pub due : Due g o i point

module _ (g : Grammar) (f : WellFormed g) (o : Open) (bs : List Ancestor) (st : Stands g o.production o.inherited bs) (i : Instruction) (is : List Instruction) where
  p : Production
  p = production_at g o.production

  ready_valued : (x : Symbol) (vs : List ℤ) (xs : List Symbol) (rs : List ℤ) → GoodNode g o (valued x vs xs) → draw_rest g o (valued x vs xs) ≡ i ∷ is → draw_registers g (part_of o (valued x vs xs) bs) ≡ rs → ShowsInstruction g o bs i is rs
  ready_valued x vs xs rs gn e r = record { point = valued x vs xs; good = gn; rest = e; registers = r; due = subst (λ j. Due g o j (valued x vs xs)) (head-eq_of_cons-eq e) (waits x vs xs) }

  ready_closing : (ss rs : List ℤ) → GoodNode g o (closing ss) → draw_rest g o (closing ss) ≡ i ∷ is → draw_registers g (part_of o (closing ss) bs) ≡ rs → ShowsInstruction g o bs i is rs
  ready_closing ss rs gn e r = record { point = closing ss; good = gn; rest = e; registers = r; due = subst (λ j. Due g o j (closing ss)) (head-eq_of_cons-eq e) (removes ss) }

  ready_added : (x : Symbol) (xs : List Symbol) (rs : List ℤ) → GoodNode g o (added x xs) → draw_rest g o (added x xs) ≡ i ∷ is → draw_registers g (part_of o (added x xs) bs) ≡ rs → ShowsInstruction g o bs i is rs
  unfolding p
  ready_added x xs rs gn e r = go (inherited_rules g p (suc n)) refl
    where
      n : ℕ
      n = length o.children

      base : List ℤ
      base = marks (syn g (nonterminal p.left)) ++ draw_below g bs

      old : List ℤ
      old = draw_registers g (part_of o (added x xs) bs)

      go : (rules : List (Rule ℕ)) → inherited_rules g p (suc n) ≡ rules → ShowsInstruction g o bs i is rs
      go [] z =
          let t : T (all (λ q. in_range (apply (read_register old) q.function)) (inherited_rules g p (suc n))) = subst (λ l. T (all (λ q. in_range (apply (read_register old) q.function)) l)) (sym z) tt in
          let k : Hand g p o.inherited o.children x (syns_of g o.children ++ (o.inherited ++ base)) = hand g p (node_evaluable g f o.production o.inherited bs st) o.inherited o.children x xs base gn.0 gn.1.0 t in
          let same : old ≡ draw_registers g (part_of o (valued x k.made xs) bs) = ap (λ l. write_all l old old) (sym z) ∙ k.registers in
          ready_valued x k.made xs rs (gn.0, (gn.1.0, gn.1.1, k.handed)) (ap (λ l. cons_if (not (is_empty l)) (evaluate l) (wait_rest g o.production n x xs)) (sym z) ∙ e) (sym same ∙ r)
      go (q ∷ qs) z =
          let a : draw_rest g o (added x xs) ≡ evaluate (inherited_rules g p (suc n)) ∷ wait_rest g o.production n x xs = ap (λ l. cons_if (not (is_empty l)) (evaluate l) (wait_rest g o.production n x xs)) z ∙ ap (λ l. evaluate l ∷ wait_rest g o.production n x xs) (sym z) in
          record { point = added x xs; good = gn; rest = e; registers = r; due = subst (λ j. Due g o j (added x xs)) (head-eq_of_cons-eq (sym a ∙ e)) (hands x xs) }

  ready_last : (rs : List ℤ) → GoodNode g o (fresh []) → draw_rest g o (fresh []) ≡ i ∷ is → draw_registers g (part_of o (fresh []) bs) ≡ rs → ShowsInstruction g o bs i is rs
  unfolding p
  ready_last rs gn e r = tail (eqb o.production whole) refl
    where
      old : List ℤ
      old = draw_registers g (part_of o (fresh []) bs)

      rules_due : eqb o.production whole ≡ false → (rules : List (Rule ℕ)) → synthesized_rules g p ≡ rules → cons_if (not (is_empty (synthesized_rules g p))) (evaluate (synthesized_rules g p)) (remove (removed g p) ∷ []) ≡ i ∷ is → ShowsInstruction g o bs i is rs
      rules_due b [] z h =
          let t : T (all (λ q. in_range (apply (read_register old) q.function)) (synthesized_rules g p)) = subst (λ l. T (all (λ q. in_range (apply (read_register old) q.function)) l)) (sym z) tt in
          let k : Close g p o.inherited o.children (draw_below g bs) = close g p (node_evaluable g f o.production o.inherited bs st) o.inherited o.children (draw_below g bs) gn.0 gn.1.0 t in
          let same : old ≡ draw_registers g (part_of o (closing k.made) bs) = ap (λ l. write_all l old old) (sym z) ∙ k.registers in
          ready_closing k.made rs (gn.0, (gn.1.0, gn.1.1, k.results, listed g o.production o.inherited bs st b)) (ap (λ l. cons_if (not (is_empty l)) (evaluate l) (remove (removed g p) ∷ [])) (sym z) ∙ h) (sym same ∙ r)
      rules_due b (q ∷ qs) z h =
          let rules = synthesized_rules g p in
          let last = remove (removed g p) ∷ [] in
          let a : cons_if (not (is_empty rules)) (evaluate rules) last ≡ evaluate rules ∷ last = ap (λ l. cons_if (not (is_empty l)) (evaluate l) last) z ∙ ap (λ l. evaluate l ∷ last) (sym z) in
          record { point = fresh []; good = gn; rest = e; registers = r; due = subst (λ j. Due g o j (fresh [])) (head-eq_of_cons-eq (sym a ∙ h)) closes }

      tail : (b : Bool) → eqb o.production whole ≡ b → ShowsInstruction g o bs i is rs
      tail true b = absurd (cons≢nil (sym (subst (λ c. cond c [] (scheme_end g p) ≡ i ∷ is) b e)))
      tail false b = rules_due b (synthesized_rules g p) refl (subst (λ c. cond c [] (scheme_end g p) ≡ i ∷ is) b e)

  ready_fresh : (xs : List Symbol) (rs : List ℤ) → GoodNode g o (fresh xs) → draw_rest g o (fresh xs) ≡ i ∷ is → draw_registers g (part_of o (fresh xs) bs) ≡ rs → ShowsInstruction g o bs i is rs
  ready_fresh [] rs gn e r = ready_last rs gn e r
  ready_fresh (x ∷ xs) rs gn e r = go (ltb 0 (added_for g x)) refl
    where
      go : (b : Bool) → ltb 0 (added_for g x) ≡ b → ShowsInstruction g o bs i is rs
      go true b =
          let a : add (added_for g x) ∷ draw_rest g o (added x xs) ≡ i ∷ is = subst (λ c. cons_if c (add (added_for g x)) (draw_rest g o (added x xs)) ≡ i ∷ is) b e in
          record { point = fresh (x ∷ xs); good = gn; rest = e; registers = r; due = subst (λ j. Due g o j (fresh (x ∷ xs))) (head-eq_of_cons-eq a) (adds x xs) }
      go false b =
          let z : added_for g x ≡ 0 = omega (arith, nltb→le 0 (added_for g x) (rw b tt)) in
          let none : marks (added_for g x) ≡ [] = ap marks z in
          ready_added x xs rs gn (subst (λ c. cons_if c (add (added_for g x)) (draw_rest g o (added x xs)) ≡ i ∷ is) b e) (ap (λ l. l ++ draw_registers g (part_of o (fresh (x ∷ xs)) bs)) none ∙ r)

  ready_left : (xs : List Symbol) (rs : List ℤ) → GoodNode g o (left xs) → draw_rest g o (left xs) ≡ i ∷ is → draw_registers g (part_of o (left xs) bs) ≡ rs → ShowsInstruction g o bs i is rs
  unfolding p
  ready_left xs rs gn e r = go (tests_after g p n) refl
    where
      n : ℕ
      n = length o.children

      old : List ℤ
      old = draw_registers g (part_of o (left xs) bs)

      go : (cs : List (Condition ℕ)) → tests_after g p n ≡ cs → ShowsInstruction g o bs i is rs
      go [] z =
          let t : T (all (holds (read_register old)) (tests_after g p n)) = subst (λ l. T (all (holds (read_register old)) l)) (sym z) tt in
          let fp = node_evaluable g f o.production o.inherited bs st in
          let base = marks (syn g (nonterminal p.left)) ++ draw_below g bs in
          let past = passed g p fp o.inherited o.children base gn.0.sized gn.0.lefts gn.1.1 t in
          ready_fresh xs rs (gn.0, (gn.1.0, past)) (ap (λ l. cons_if (not (is_empty l)) (test l) (fresh_rest g o.production n xs)) (sym z) ∙ e) r
      go (c ∷ cs) z =
          let a : draw_rest g o (left xs) ≡ test (tests_after g p n) ∷ fresh_rest g o.production n xs = ap (λ l. cons_if (not (is_empty l)) (test l) (fresh_rest g o.production n xs)) z ∙ ap (λ l. test l ∷ fresh_rest g o.production n xs) (sym z) in
          record { point = left xs; good = gn; rest = e; registers = r; due = subst (λ j. Due g o j (left xs)) (head-eq_of_cons-eq (sym a ∙ e)) (tests xs) }

  pub ready : (pt : Point) (rs : List ℤ) → GoodNode g o pt → draw_rest g o pt ≡ i ∷ is → draw_registers g (part_of o pt bs) ≡ rs → ShowsInstruction g o bs i is rs
  ready (fresh xs) rs gn e r = ready_fresh xs rs gn e r
  ready (added x xs) rs gn e r = ready_added x xs rs gn e r
  ready (valued x vs xs) rs gn e r = ready_valued x vs xs rs gn e r
  ready (left xs) rs gn e r = ready_left xs rs gn e r
  ready (closing ss) rs gn e r = ready_closing ss rs gn e r

-- ---- what is found where

pub found : (g : Grammar) → WellFormed g → (o : Open) (bs : List Ancestor) → Stands g o.production o.inherited bs → (pt : Point) → GoodNode g o pt → Found g o bs pt
found g f o bs st (added x xs) gn = finds_inherited g f o bs st x xs gn
found g f o bs st (fresh []) gn = finds_synthesized g f o bs st gn
found g f o bs st (left xs) gn = finds_tested g f o bs st xs gn
found g f o bs st (valued x vs xs) gn = finds_entry g f o bs st x vs xs gn
found g f o bs st (fresh (x ∷ xs)) gn = tt
found g f o bs st (closing ss) gn = tt

-- ---- the demand: at each move, whatever the tokens

-- every part with the node and the ancestors shown must be one of each tree of the segment
pub selectors_find : (g : Grammar) → WellFormed g → (ts us : List Leaf) (c : Config) (s : Shows g ts c)
    → ((t : Tree) → TreeOf g (ts ++ us) t → (pt : Point) → GoodNode g s.part.node pt → PartOf g t (part_of s.part.node pt s.part.below))
    → (n : ℕ) (i : Instruction) (is : List Instruction) (fs : List Frame) → c.frames ≡ frame n (i ∷ is) ∷ fs → SelectorsFind g ts us c i
selectors_find g f ts us c s k n i is fs e =
    let q : Part = s.part in
    let o : Open = q.node in
    let bs : List Ancestor = q.below in
    let h : frame o.production (draw_rest g o q.point) ≡ frame n (i ∷ is) = head-eq_of_cons-eq (s.frames ∙ e) in
    let z : draw_rest g o q.point ≡ i ∷ is = ap (λ a. a.rest) h in
    let r : ShowsInstruction g o bs i is c.registers = ready g f o bs s.good.stands i is q.point c.registers s.good.node z s.registers in
    record {
      node = o;
      point = r.point;
      below = bs;
      good = record { node = r.good; stands = s.good.stands };
      frames = ap (λ l. frame o.production l ∷ map (draw_frame g) bs) (r.rest ∙ sym z) ∙ s.frames;
      registers = r.registers;
      read = s.read;
      due = r.due;
      finds = found g f o bs s.good.stands r.point r.good;
      of_tree = λ t w. k t w r.point r.good;
    }
