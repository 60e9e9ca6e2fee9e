-- At each move from a good part, every selector finds the register of the occurrence it names, and where it is read, the part's value in it.
use Rattle.std.specs.Prelude.{ℕ, zero, suc, ◌+◌, ◌-◌, ◌≤◌, ◌<◌, ◌≡◌, refl, Bool, true, false, List, [], ◌++◌, get_or, length, drop, ℤ, pos}
use Rattle.std.proofs.Common.{arith, zero-add, sym, ap, ◌∙◌, subst, append_assoc, length-append}
use Rattle.std.proofs.Math.Decide.{dec_le}
use Rattle.std.proofs.lemmas.List.{length-replicate}
use Rattle.std.proofs.Math.ListN.{get_or-append, get_or-eq_default}
use lib.Dec.{T, eqb, eqb→eq, eqb-suc-zero}
use Rattle.meaning.specs.Base.{In}
use Rattle.meaning.specs.Grammar.{Symbol, terminal, nonterminal, Occurrence, Production, Grammar, inh, syn, added_for, production_at, symbol_at, condition_position, marked_for}
use Rattle.meaning.specs.Value.{mark}
use Rattle.meaning.specs.Scheme.{select_inherited, select_after, syn_between}
use Rattle.meaning.specs.Machine.{read_register}
use Rattle.meaning.specs.Selectors.{names, child_names, node_names, point_names, part_names, nowhere, FindsTarget, Finds, Found, occurrence}
use Rattle.meaning.specs.Rules.{InputAt, OutputAt, WellFormed}
use Rattle.meaning.specs.Part.{Open, Point, fresh, added, valued, left, closing, Ancestor, Part, value_in, syns_of, marks, draw_point, draw_results, draw_below, draw_registers, GoodNode, Stands}
use Rattle.theory_base.specs.Members.{in_keep, get_d_any}
use Rattle.theory_base.specs.WellFormed.{Available, Evaluable, evaluable_at}
use Rattle.theory_base.specs.Agree.{operands_map, reads_map, reads_available}
use Rattle.theory_base.specs.Selectors.{past, syn_none, syn_more, length_syns, found_after, found_inherited, target_inherited, inherited_at}
use Rattle.theory_base.specs.Values.{drop_head, drop_over, lefts_length, operands_available}
use Rattle.theory_sound.specs.Heights.{results_size_lem}
use Rattle.theory_sound.specs.MovesKeepPart.{node_evaluable, part_of}

-- ---- the names of a part's registers

length_names : (k a n : ℕ) → length (names k a n) ≡ n
length_names k a zero = refl
length_names k a (suc n) = ap suc (length_names k (suc a) n)

at_names : (k a n j : ℕ) → j < n → get_or (names k a n) j nowhere ≡ occurrence k (a + j)
at_names k a zero j l = absurd (omega arith)
at_names k a (suc n) zero l = ap (occurrence k) (omega arith)
at_names k a (suc n) (suc j) l = at_names k (suc a) n j (omega arith) ∙ ap (occurrence k) (omega arith)

length_children : (g : Grammar) (p : Production) (n : ℕ) → n ≤ length p.right → length (child_names g p n) ≡ syn_between g p 0 n
length_children g p zero l = sym (syn_none g p 0)
length_children g p (suc n) l =
    let x = symbol_at p (suc n) in
    length-append (names (suc n) (suc (inh g x)) (syn g x)) (child_names g p n)
    ∙ omega (arith, length_names (suc n) (suc (inh g x)) (syn g x), length_children g p n (omega arith), syn_more g p 0 n (omega arith) l)

child_named : (g : Grammar) (p : Production) (n : ℕ) → n ≤ length p.right → (i : ℕ) → i < n → (base : List Occurrence) (j : ℕ) → j < syn g (symbol_at p (suc i)) → get_or (child_names g p n ++ base) (syn_between g p (suc i) n + j) nowhere ≡ occurrence (suc i) (suc (inh g (symbol_at p (suc i))) + j)
child_named g p zero l i m base j h = absurd (omega arith)
child_named g p (suc n) l i m base j h = go (eqb i n) refl (λ k. child_named g p n (omega arith) i k base j h)
  where
    x : Symbol
    x = symbol_at p (suc n)

    own : List Occurrence
    own = names (suc n) (suc (inh g x)) (syn g x)

    go : (b : Bool) → eqb i n ≡ b → (i < n → get_or (child_names g p n ++ base) (syn_between g p (suc i) n + j) nowhere ≡ occurrence (suc i) (suc (inh g (symbol_at p (suc i))) + j))
        → get_or ((own ++ child_names g p n) ++ base) (syn_between g p (suc i) (suc n) + j) nowhere ≡ occurrence (suc i) (suc (inh g (symbol_at p (suc i))) + j)
    go true e ih =
        let q : i ≡ n = eqb→eq i n (rw e tt) in
        let z : syn_between g p (suc i) (suc n) + j ≡ j = rw q (rw (syn_none g p (suc n)) (zero-add j)) in
        let s : j < syn g x = rw q at h in
        rw (z, append_assoc, q) (get_or-append own (child_names g p n ++ base) nowhere j (rw length_names s) ∙ at_names (suc n) (suc (inh g x)) (syn g x) j s)
    go false e ih =
        let q : i ≡ n → ⊥ = λ u. subst T e (rw u (lib.Dec.eqb_refl n)) in
        let k : i < n = omega arith in
        let z : syn_between g p (suc i) (suc n) + j ≡ syn g x + (syn_between g p (suc i) n + j) = omega (arith, syn_more g p (suc i) n k l) in
        rw (z, append_assoc) (past own (child_names g p n ++ base) (syn g x) (syn_between g p (suc i) n + j) nowhere (length_names (suc n) (suc (inh g x)) (syn g x)) ∙ ih k)

-- an input up to position n, or any attribute of the left side
abbrev NameAt : Grammar → Production → ℕ → ℕ → Type 0
NameAt g p zero a = (1 ≤ a) × (a ≤ added_for g (nonterminal p.left))
NameAt g p (suc i) a = InputAt g p (suc i) a

after_named : (g : Grammar) (p : Production) (n : ℕ) → n ≤ length p.right → (k a : ℕ) → NameAt g p k a → k ≤ n → get_or (node_names g p n) (select_after g p n (occurrence k a) - 1) nowhere ≡ occurrence k a
after_named g p n l zero a h m =
    let i : syn_between g p 0 n + a - 1 ≡ syn_between g p 0 n + (a - 1) = omega arith in
    let e : 1 + (a - 1) ≡ a = omega arith in
    rw i (past (child_names g p n) (names 0 1 (added_for g (nonterminal p.left))) (syn_between g p 0 n) (a - 1) nowhere (length_children g p n l) ∙ (at_names 0 1 (added_for g (nonterminal p.left)) (a - 1) (omega arith) ∙ ap (occurrence 0) e))
after_named g p n l (suc k) a h m =
    let x : Symbol = symbol_at p (suc k) in
    let j : ℕ = a - inh g x - 1 in
    let i : syn_between g p (suc k) n + (a - inh g x) - 1 ≡ syn_between g p (suc k) n + j = omega arith in
    let e : suc (inh g x) + j ≡ a = omega arith in
    rw (eqb-suc-zero k, i) (child_named g p n l k m (names 0 1 (added_for g (nonterminal p.left))) j (omega arith) ∙ ap (occurrence (suc k)) e)

name_of_input : (g : Grammar) (p : Production) (k a : ℕ) → InputAt g p k a → NameAt g p k a
name_of_input g p zero a h = (h.0, omega arith)
name_of_input g p (suc k) a h = h

-- ---- there is one name for each of the top node's registers

point_size : (g : Grammar) (o : Open) (pt : Point) → GoodNode g o pt → length (point_names g (length o.children) pt) ≡ length (draw_point g pt)
point_size g o (fresh xs) h = refl
point_size g o (added x xs) h = length_names (suc (length o.children)) 1 (added_for g x) ∙ sym (length-replicate (added_for g x) mark)
point_size g o (valued x is xs) h = length_names (suc (length o.children)) 1 (added_for g x) ∙ omega (arith, length-append is (marks (marked_for g x)), length-replicate (marked_for g x) mark, h.1.2.sized)
point_size g o (left xs) h = refl
point_size g o (closing ss) h = refl

names_fit : (g : Grammar) (o : Open) (pt : Point) (bs : List Ancestor) → GoodNode g o pt → length (part_names g (part_of o pt bs)) + length (draw_below g bs) ≡ length (draw_registers g (part_of o pt bs))
names_fit g o pt bs h =
    let p : Production = production_at g o.production in
    let n : ℕ = length o.children in
    let a : List ℤ = draw_point g pt in
    let b : List ℤ = syns_of g o.children in
    let c : List ℤ = draw_results g o pt in
    let d : List ℤ = draw_below g bs in
    let k : ℕ = added_for g (nonterminal p.left) in
    let w = h.0.lefts in
    let rest : List ℤ = o.inherited ++ (c ++ d) in
    omega (
      arith,
      length-append (point_names g n pt) (node_names g p n),
      length-append (child_names g p n) (names 0 1 k),
      length_names 0 1 k,
      length_children g p n (lefts_length g p o.children w),
      point_size g o pt h,
      length-append a (b ++ rest),
      length-append b rest,
      length-append o.inherited (c ++ d),
      length-append c d,
      results_size_lem g o pt h,
      length_syns g p o.children w,
      h.0.sized,
    )

-- so a register that is named is one of them
registered : (g : Grammar) (o : Open) (pt : Point) (bs : List Ancestor) (sel : ℕ) (u : Occurrence) → GoodNode g o pt → 1 ≤ sel → 1 ≤ u.attribute → get_or (part_names g (part_of o pt bs)) (sel - 1) nowhere ≡ u → FindsTarget g (part_of o pt bs) sel u
registered g o pt bs sel u gn l a n = record { least = l; most = omega (arith, names_fit g o pt bs gn, inside (dec_le (length all) (sel - 1))); named = n }
  where
    all : List Occurrence
    all = part_names g (part_of o pt bs)

    inside : Dec (length all ≤ sel - 1) → sel ≤ length all
    inside (yes h) = absurd (omega (arith, a, ap (λ z. z.attribute) (sym (get_or-eq_default all nowhere h) ∙ n)))
    inside (no h) = omega arith

input_numbered : (g : Grammar) (p : Production) (k a : ℕ) → InputAt g p k a → 1 ≤ a
input_numbered g p zero a h = h.0
input_numbered g p (suc k) a h = omega (arith, h.1)

-- ---- the selectors of each move

-- evaluate the inherited attributes of the child at hand
pub finds_inherited : (g : Grammar) → WellFormed g → (o : Open) (bs : List Ancestor) → Stands g o.production o.inherited bs → (x : Symbol) (xs : List Symbol) → GoodNode g o (added x xs) → Found g o bs (added x xs)
finds_inherited g f o bs st x xs gn r i = (operands_map finds r.function (operands_available g p fp n r h.1 (omega (arith, h.0)) (λ z. absurd (omega (arith, h.0, z)))), target)
  where
    p : Production
    p = production_at g o.production

    n : ℕ
    n = length o.children

    q : Part
    q = part_of o (added x xs) bs

    fp : Evaluable g p
    fp = node_evaluable g f o.production o.inherited bs st

    h : (r.target.position ≡ suc n) × In r p.rules
    h = let a = in_keep (λ s. eqb s.target.position (suc n)) p.rules r i in (eqb→eq _ _ a.0, a.1)

    k : (n < length p.right) × (get_or p.right n (terminal 0) ≡ x) × (drop (suc n) p.right ≡ xs)
    k = drop_head n p.right x (terminal 0) xs gn.1.0

    size : length (marks (added_for g x)) ≡ added_for g (symbol_at p (suc n))
    size = length-replicate (added_for g x) mark ∙ rw k.1 refl

    nsize : length (names (suc n) 1 (added_for g x)) ≡ added_for g (symbol_at p (suc n))
    nsize = length_names (suc n) 1 (added_for g x) ∙ rw k.1 refl

    finds : (u : Occurrence) → Available g p n u → Finds g q (select_inherited g p (suc n) u) u (value_in o.inherited o.children u)
    finds u a =
        let z = inherited_at g p n u.position u.attribute a.0 a.1 in
        let j : select_inherited g p (suc n) u - 1 ≡ added_for g (symbol_at p (suc n)) + (select_after g p n u - 1) = omega (arith, z.0, z.1) in
        let few = lefts_length g p o.children gn.0.lefts in
        let named : get_or (part_names g q) (select_inherited g p (suc n) u - 1) nowhere ≡ u =
        ap (λ m. get_or (part_names g q) m nowhere) j
        ∙ (past (names (suc n) 1 (added_for g x)) (node_names g p n) (added_for g (symbol_at p (suc n))) (select_after g p n u - 1) nowhere nsize
        ∙ after_named g p n few u.position u.attribute (name_of_input g p u.position u.attribute a.0) a.1) in
        record {
          register = registered g o (added x xs) bs (select_inherited g p (suc n) u) u gn (omega (arith, z.0, z.1)) (input_numbered g p u.position u.attribute a.0) named;
          held = found_inherited g p o.children gn.0.lefts o.inherited (marks (syn g (nonterminal p.left)) ++ draw_below g bs) (marks (added_for g x)) gn.0.sized size u a;
        }

    target : FindsTarget g q (select_inherited g p (suc n) r.target) r.target
    target =
        let a : ℕ = r.target.attribute in
        let out : OutputAt g p (suc n) a = rw h.0 at (fp.targets r h.1) in
        let small : a ≤ inh g x = rw k.1 at out.2 in
        let e : 1 + (a - 1) ≡ a = omega (arith, out.1) in
        let l : a - 1 < added_for g x = omega (arith, out.1) in
        let s : select_inherited g p (suc n) (occurrence (suc n) a) ≡ a = target_inherited g p (suc n) a in
        let first = get_or-append (names (suc n) 1 (added_for g x)) (node_names g p n) nowhere (a - 1) (rw length_names l) in
        let named : get_or (part_names g q) (select_inherited g p (suc n) (occurrence (suc n) a) - 1) nowhere ≡ occurrence (suc n) a =
        rw s (first ∙ (at_names (suc n) 1 (added_for g x) (a - 1) l ∙ ap (occurrence (suc n)) e)) in
        subst (λ m. FindsTarget g q (select_inherited g p (suc n) (occurrence m a)) (occurrence m a)) (sym h.0) (registered g o (added x xs) bs (select_inherited g p (suc n) (occurrence (suc n) a)) (occurrence (suc n) a) gn (omega (arith, s, out.1)) out.1 named)

-- where no registers are added for a child: every input up to the last left child, and every attribute of the left side
module _ (g : Grammar) (o : Open) (pt : Point) (bs : List Ancestor) (gn : GoodNode g o pt) (plain : part_names g (part_of o pt bs) ≡ node_names g (production_at g o.production) (length o.children)) where
  named_after : (k a : ℕ) → NameAt g (production_at g o.production) k a → k ≤ length o.children → 1 ≤ a
      → 1 ≤ select_after g (production_at g o.production) (length o.children) (occurrence k a)
      → FindsTarget g (part_of o pt bs) (select_after g (production_at g o.production) (length o.children) (occurrence k a)) (occurrence k a)
  named_after k a h m l s =
      let p : Production = production_at g o.production in
      let n : ℕ = length o.children in
      registered g o pt bs (select_after g p n (occurrence k a)) (occurrence k a) gn s l (ap (λ z. get_or z (select_after g p n (occurrence k a) - 1) nowhere) plain ∙ after_named g p n (lefts_length g p o.children gn.0.lefts) k a h m)

  finds_after : (base : List ℤ) → draw_registers g (part_of o pt bs) ≡ syns_of g o.children ++ (o.inherited ++ base) → (u : Occurrence) → Available g (production_at g o.production) (length o.children) u
      → Finds g (part_of o pt bs) (select_after g (production_at g o.production) (length o.children) u) u (value_in o.inherited o.children u)
  finds_after base e u a =
      let p : Production = production_at g o.production in
      let n : ℕ = length o.children in
      record {
        register = named_after u.position u.attribute (name_of_input g p u.position u.attribute a.0) a.1 (input_numbered g p u.position u.attribute a.0) (inherited_at g p n u.position u.attribute a.0 a.1).1;
        held = ap (λ z. read_register z (select_after g p n u)) e ∙ found_after g p o.children gn.0.lefts o.inherited base gn.0.sized u a;
      }

-- evaluate the left side's synthesized attributes
pub finds_synthesized : (g : Grammar) → WellFormed g → (o : Open) (bs : List Ancestor) → Stands g o.production o.inherited bs → GoodNode g o (fresh []) → Found g o bs (fresh [])
finds_synthesized g f o bs st gn r i = rw all_left (operands_map (finds_after g o (fresh []) bs gn refl (marks (syn g (nonterminal p.left)) ++ draw_below g bs) refl) r.function (operands_available g p fp n r h.1 (omega (arith, h.0)) (λ z. omega (arith, all_left))), target)
  where
    p : Production
    p = production_at g o.production

    n : ℕ
    n = length o.children

    fp : Evaluable g p
    fp = node_evaluable g f o.production o.inherited bs st

    all_left : length p.right ≡ n
    all_left = omega (arith, drop_over n p.right gn.1.0, lefts_length g p o.children gn.0.lefts)

    h : (r.target.position ≡ 0) × In r p.rules
    h = let a = in_keep (λ s. eqb s.target.position 0) p.rules r i in (eqb→eq _ _ a.0, a.1)

    target : FindsTarget g (part_of o (fresh []) bs) (select_after g p n r.target) r.target
    target =
        let a : ℕ = r.target.attribute in
        let out : OutputAt g p 0 a = rw h.0 at (fp.targets r h.1) in
        let l : 1 ≤ a = omega (arith, out.0) in
        subst (λ m. FindsTarget g (part_of o (fresh []) bs) (select_after g p n (occurrence m a)) (occurrence m a)) (sym h.0) (named_after g o (fresh []) bs gn refl 0 a (l, out.1) (omega arith) l (omega (arith, l)))

-- test a left child's conditions
pub finds_tested : (g : Grammar) → WellFormed g → (o : Open) (bs : List Ancestor) → Stands g o.production o.inherited bs → (xs : List Symbol) → GoodNode g o (left xs) → Found g o bs (left xs)
finds_tested g f o bs st xs gn c i =
    let p : Production = production_at g o.production in
    let n : ℕ = length o.children in
    let h = in_keep (λ s. eqb (condition_position s) n) p.conditions c i in
    let e : condition_position c ≡ n = eqb→eq _ _ h.0 in
    reads_map (finds_after g o (left xs) bs gn refl (marks (syn g (nonterminal p.left)) ++ draw_below g bs) refl) c (reads_available g p n c (omega arith) ((node_evaluable g f o.production o.inherited bs st).reads c h.1))

-- predict: an entry condition of a production of the awaited symbol reads the inherited attributes of the child at hand
pub finds_entry : (g : Grammar) → WellFormed g → (o : Open) (bs : List Ancestor) → Stands g o.production o.inherited bs → (x : Symbol) (is : List ℤ) (xs : List Symbol) → GoodNode g o (valued x is xs) → Found g o bs (valued x is xs)
finds_entry g f o bs st x is xs gn e l named c i = reads_map (λ u a. at u.position u.attribute a.0 a.1) c (reads_available g p 0 c (omega (arith, h.0)) ((evaluable_at g f e l).reads c h.1))
  where
    p : Production
    p = production_at g e

    n : ℕ
    n = length o.children

    q : Part
    q = part_of o (valued x is xs) bs

    h : (condition_position c ≡ 0) × In c p.conditions
    h = let a = in_keep (λ s. eqb (condition_position s) 0) p.conditions c i in (eqb→eq _ _ a.0, a.1)

    held : (a : ℕ) → a - 1 < length is → get_or (draw_registers g q) (a - 1) mark ≡ get_or is (a - 1) (pos 0)
    held a v =
        let rest : List ℤ = syns_of g o.children ++ (o.inherited ++ (marks (syn g (nonterminal (production_at g o.production).left)) ++ draw_below g bs)) in
        ap (λ z. get_or z (a - 1) mark) (append_assoc is (marks (marked_for g x)) rest) ∙ (get_or-append is (marks (marked_for g x) ++ rest) mark (a - 1) v ∙ get_d_any is (a - 1) mark (pos 0) v)

    at : (k a : ℕ) → InputAt g p k a → k ≤ 0 → Finds g q (select_after g p 0 (occurrence k a)) (occurrence (suc n) a) (get_or is (a - 1) (pos 0))
    at zero a u m =
        let s : syn_between g p 0 0 + a ≡ a = omega (arith, syn_none g p 0) in
        let b : a ≤ inh g x = rw named u.1 in
        let j : 1 + (a - 1) ≡ a = omega arith in
        let y : a - 1 < added_for g x = omega arith in
        let y' : a - 1 < length is = omega (arith, gn.1.2.sized) in
        let first = get_or-append (names (suc n) 1 (added_for g x)) (node_names g (production_at g o.production) n) nowhere (a - 1) (rw length_names y) in
        let z : get_or (part_names g q) (syn_between g p 0 0 + a - 1) nowhere ≡ occurrence (suc n) a =
        ap (λ m. get_or (part_names g q) (m - 1) nowhere) s ∙ (first ∙ (at_names (suc n) 1 (added_for g x) (a - 1) y ∙ ap (occurrence (suc n)) j)) in
        record {
          register = registered g o (valued x is xs) bs (select_after g p 0 (occurrence 0 a)) (occurrence (suc n) a) gn (omega (arith, s, u.0)) u.0 z;
          held = ap (λ m. read_register (draw_registers g q) m) s ∙ held a y';
        }
    at (suc k) a u m = absurd (omega arith)
