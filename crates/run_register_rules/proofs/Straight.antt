-- Rules evaluated straight into their registers. Several, a turn at a time: values written at once, and targets marked again. And one alone.
use Prim.Native.Nat.{ℕ, ◌+◌, ◌-◌, ◌≤◌, ◌<◌}
use native.Mathlib.Omega.{arith}
use mathlib.Core.Path.{◌≡◌, refl, sym, ap, ap₂, ◌∙◌, subst}
use mathlib.Core.Logic.{inl, inr}
use mathlib.Core.Bool.{true, false, ◌&&◌, not}
use mathlib.Core.List.{List, [], ◌∷◌}
use borrow.Author.Tests.{not-true, not-false}
use lib.Dec.{T}
use lib.IntN.{ℤ}
use lib.ListN.{length, get_or, set, length-set}
use lib.Seq.{get_or-set_other}
use Rattle.meaning.specs.Base.{In}
use Rattle.meaning.specs.Grammar.{Rule, Function, const, copy, binary, addc, quot}
use Rattle.meaning.specs.Rules.{Operands}
use Rattle.meaning.specs.Value.{in_range, mark}
use Rattle.meaning.specs.Machine.{read_register, write_all}
use Rattle.meaning.specs.Calls.{lay, is_mark}
use Rattle.theory_base.specs.Agree.{apply_agree}
use Rattle.theory_base.specs.Members.{T→true}
use Rattle.theory_program.specs.Parts.{rule_target, rule_function, rule_first}
use Rattle.value.specs.Ranged.{ranged, ranged_in}
use Rattle.value.specs.Overflow.{is_mark_ranged}
use Rattle.run_registers.specs.Stack.{stack, stack_length, stack_laid, stack_write, lay_write, lay_over}
use Rattle.run_registers.specs.Read.{rule_here, rules_from, rule_value, values_fit, Valued, Evaluates, Evaluated}
use Rattle.run_registers.specs.Operand.{Applies, is_copy}
use Rattle.run_registers.proofs.Loops.{rules_turn, rules_end, evaluates_turn, target_turn, applies_turn}
use Rattle.run_register_rules.specs.Remarked.{remarked, TargetsMarked, remarked_same, remarked_written}
use Rattle.run_register_rules.specs.Straight.{Straight}

operands_map : {P Q : ℕ → Type 0} → ((k : ℕ) → P k → Q k) → (f : Function ℕ) → Operands P f → Operands Q f
operands_map h (const c) o = tt
operands_map h (copy a) o = h a o
operands_map h (binary f a b) o = (h a o.0, h b o.1)
operands_map h (addc a c) o = h a o
operands_map h (quot a c) o = h a o

-- ---- one cell of the stack written

module _ (h : ℕ) (m₀ : List ℤ) where
  pub laid_turn : (m : List ℤ) → h ≤ length m → lay h mark (stack h m) m₀ ≡ m → (t : ℕ) (v : ℤ) → 1 ≤ t → t ≤ h → lay h mark (stack h (set m (h - t) v)) m₀ ≡ set m (h - t) v
  laid_turn m l e t v a b =
      let s = stack_length h m l in
      ap (λ z. lay h mark z m₀) (stack_write mark h m l t v a b)
      ∙ (lay_write h mark (stack h m) m₀ t v a (omega arith)
      ∙ ap₂ (λ z j. set z (j - t) v) e s)

  -- another stack of the same height, laid over what lies there
  pub laid_anew : (m rs : List ℤ) → h ≤ length m → lay h mark (stack h m) m₀ ≡ m → length rs ≡ h → lay h mark rs m ≡ lay h mark rs m₀
  laid_anew m rs l e k =
      let s = stack_length h m l in
      ap (lay h mark rs) (sym e)
      ∙ (ap (λ j. lay j mark rs (lay h mark (stack h m) m₀)) (sym s)
      ∙ lay_over h mark (stack h m) rs m₀ (omega arith) (omega arith))

-- ---- marking: i of n targets are marked in m, which was m₀

pub record Remarking (ws : List ℕ) (at n h : ℕ) (m₀ rs : List ℤ) (i p : ℕ) (m : List ℤ) : Type 0 where
  pub left : Evaluates ws p (n - i) rs
  pub same_length_value : length m ≡ length m₀
  pub laid : lay h mark (stack h m) m₀ ≡ m
  pub marked : remarked (rules_from ws at n) (stack h m₀) ≡ remarked (rules_from ws p (n - i)) (stack h m)

module _ {ws : List ℕ} {at n h : ℕ} {m₀ rs : List ℤ} (low : h ≤ length m₀) (high : length rs ≡ h) where
  pub remarking_start : Evaluates ws at n rs → Remarking ws at n h m₀ rs 0 at m₀
  remarking_start v =
      let z : n - 0 ≡ n = omega arith in
      record { left = rw z v; same_length_value = refl; laid = stack_laid mark h m₀ low; marked = rw z refl }

  module _ {i p : ℕ} {m : List ℤ} (w : Remarking ws at n h m₀ rs i p m) where
    pub remarking_target : i < n → (1 ≤ rule_target (get_or ws p 0)) × (rule_target (get_or ws p 0) ≤ h)
    remarking_target l =
        let s = target_turn ws p n i rs l w.left in
        (s.0, omega (arith, s.1, high))

    pub remarking_turn : i < n → Remarking ws at n h m₀ rs (i + 1) (p + 2) (set m (h - rule_target (get_or ws p 0)) mark)
    remarking_turn l =
        let t : ℕ = rule_target (get_or ws p 0) in
        let s = remarking_target l in
        let hm : h ≤ length m = omega (arith, w.same_length_value) in
        record {
          left = evaluates_turn ws p n i rs l w.left;
          same_length_value = length-set m (h - t) mark ∙ w.same_length_value;
          laid = laid_turn h m₀ m hm w.laid t mark s.0 s.1;
          marked =
              w.marked
              ∙ (ap (λ qs. remarked qs (stack h m)) (rules_turn ws p n i l)
              ∙ ap (remarked (rules_from ws (p + 2) (n - (i + 1)))) (sym (stack_write mark h m hm t mark s.0 s.1)));
        }

    pub remarking_end : n ≤ i → m ≡ lay h mark (remarked (rules_from ws at n) (stack h m₀)) m₀
    remarking_end l = sym (ap (λ z. lay h mark z m₀) (w.marked ∙ ap (λ qs. remarked qs (stack h m)) (rules_end ws p n i l)) ∙ w.laid)

-- ---- evaluating

-- the targets of n rules marked in m
abbrev pub origin : List ℕ → ℕ → ℕ → ℕ → List ℤ → List ℤ
origin ws at n h m = lay h mark (remarked (rules_from ws at n) (stack h m)) m

module _ (ws : List ℕ) (at n h : ℕ) (m₀ : List ℤ) (low : h ≤ length m₀) (fresh : TargetsMarked (rules_from ws at n) (stack h m₀)) where
  abbrev rs : List ℤ
  rs = stack h m₀

  pub straight_start : Evaluates ws at n rs → Straight ws at n h m₀ 0 at m₀
  straight_start v =
      let z : n - 0 ≡ n = omega arith in
      record {
        left = rw z v;
        members = rw z (λ q i. i);
        answer = rw z refl;
        agree = λ k u. refl;
        restored = remarked_same (rules_from ws at n) rs fresh;
        same_length_value = refl;
        laid = stack_laid mark h m₀ low;
        written = rw z refl;
      }

  module _ {i p : ℕ} {m : List ℤ} (w : Straight ws at n h m₀ i p m) where
    pub inside_now : h ≤ length m
    inside_now = omega (arith, w.same_length_value)

    valued_now : (k : ℕ) → Valued rs k → Valued (stack h m) k
    valued_now k v = (v.0, omega (arith, v.1, stack_length h m₀ low, stack_length h m inside_now), subst (λ z. T (in_range z)) (sym (w.agree k v)) v.2)

    -- with all targets marked the stack is the one before
    laid_before : origin ws at n h m ≡ lay h mark rs m₀
    laid_before = ap (λ z. lay h mark z m) w.restored ∙ laid_anew h m₀ m rs inside_now w.laid (stack_length h m₀ low)

    module _ (l : i < n) where
      abbrev here : Rule ℕ
      here = rule_here ws p

      pub straight_applies : Applies (stack h m) (get_or ws p 0) (get_or ws (p + 1) 0)
      straight_applies =
          let a = applies_turn ws p n i rs l w.left in
          record { written = a.written; operands = operands_map valued_now here.function a.operands }

      pub straight_target : (1 ≤ rule_target (get_or ws p 0)) × (rule_target (get_or ws p 0) ≤ h)
      straight_target =
          let s = target_turn ws p n i rs l w.left in
          (s.0, omega (arith, s.1, stack_length h m₀ low))

      -- its value is that on the registers before
      same_value : rule_value (stack h m) here ≡ rule_value rs here
      same_value = apply_agree (read_register (stack h m)) (read_register rs) here.function (operands_map w.agree here.function (applies_turn ws p n i rs l w.left).operands)

      member : In here (rules_from ws at n)
      member = w.members here (rw (rules_turn ws p n i l) (inl refl))

      answer_here : values_fit (rules_from ws at n) rs ≡ in_range (rule_value rs here) && values_fit (rules_from ws (p + 2) (n - (i + 1))) rs
      answer_here = w.answer ∙ ap (λ qs. values_fit qs rs) (rules_turn ws p n i l)

      -- a register that holds a value is no target
      apart : (k : ℕ) → Valued rs k → k - 1 ≡ here.target - 1 → ⊥
      apart k v e =
          let t = straight_target in
          let z : k ≡ here.target = omega (arith, v.0, t.0) in
          subst (λ b. T (in_range b)) (ap (read_register rs) z ∙ fresh here member) v.2

      module _ (v : ℤ) (e : v ≡ ranged (rule_value (stack h m) here)) where
        marked : is_mark v ≡ not (in_range (rule_value rs here))
        marked = ap is_mark (e ∙ ap ranged same_value) ∙ is_mark_ranged (rule_value rs here)

        pub straight_turn : is_mark v ≡ false → Straight ws at n h m₀ (i + 1) (p + 2) (set m (h - rule_target (get_or ws p 0)) v)
        straight_turn f =
            let t : ℕ = rule_target (get_or ws p 0) in
            let s = straight_target in
            let fits : in_range (rule_value rs here) ≡ true = not-false _ (sym marked ∙ f) in
            let is : v ≡ rule_value rs here = e ∙ (ap ranged same_value ∙ ranged_in (rule_value rs here) fits) in
            let sw : stack h (set m (h - t) v) ≡ set (stack h m) (t - 1) v = stack_write mark h m inside_now t v s.0 s.1 in
            let rest : List (Rule ℕ) = rules_from ws (p + 2) (n - (i + 1)) in
            record {
              left = evaluates_turn ws p n i rs l w.left;
              members = λ q j. w.members q (rw (rules_turn ws p n i l) (inr j));
              answer = answer_here ∙ ap (λ b. b && values_fit rest rs) fits;
              agree = λ k u. ap (λ z. read_register z k) sw ∙ (get_or-set_other (stack h m) (t - 1) (k - 1) v mark (apart k u) ∙ w.agree k u);
              restored = ap (remarked (rules_from ws at n)) sw ∙ (remarked_written (rules_from ws at n) (stack h m) here v member ∙ w.restored);
              same_length_value = length-set m (h - t) v ∙ w.same_length_value;
              laid = laid_turn h m₀ m inside_now w.laid t v s.0 s.1;
              written =
                  w.written
                  ∙ (ap (λ qs. write_all qs rs (stack h m)) (rules_turn ws p n i l)
                  ∙ ap (λ z. write_all rest rs z) (ap (λ x. set (stack h m) (t - 1) x) (sym is) ∙ sym sw));
            }

        pub straight_stop : is_mark v ≡ true → (m' : List ℤ) → m' ≡ lay h mark (remarked (rules_from ws at n) (stack h m)) m → Evaluated (rules_from ws at n) h m₀ false m'
        straight_stop f m' k =
            let fails : in_range (rule_value rs here) ≡ false = not-true _ (sym marked ∙ f) in
            record {
              answer = sym (answer_here ∙ ap (λ b. b && values_fit (rules_from ws (p + 2) (n - (i + 1))) rs) fails);
              memory = k ∙ laid_before;
            }

      -- the rule at hand is a copy
      pub straight_copy : rule_function (get_or ws p 0) ≡ 1 → Valued (stack h m) (rule_first (get_or ws p 0)) × ((v : ℤ) → v ≡ read_register (stack h m) (rule_first (get_or ws p 0)) → Straight ws at n h m₀ (i + 1) (p + 2) (set m (h - rule_target (get_or ws p 0)) v))
      straight_copy f =
          let k = is_copy straight_applies f in
          let fits : in_range (read_register (stack h m) (rule_first (get_or ws p 0))) ≡ true = T→true _ k.0.2 in (
            k.0,
            λ v e.
                let is : v ≡ ranged (rule_value (stack h m) here) = e ∙ (sym (ranged_in _ fits) ∙ ap ranged (sym k.1)) in
                straight_turn v is (marked v is ∙ ap not (ap in_range (sym same_value ∙ k.1) ∙ fits)),
          )

    -- what stood before, by what stands now
    pub straight_origin : origin ws at n h m ≡ m₀
    straight_origin = laid_before ∙ stack_laid mark h m₀ low

    pub straight_end : n ≤ i → Evaluated (rules_from ws at n) h m₀ true m
    straight_end l =
        let none : rules_from ws p (n - i) ≡ [] = rules_end ws p n i l in
        record {
          answer = sym (w.answer ∙ ap (λ qs. values_fit qs rs) none);
          memory = sym (ap (λ z. lay h mark z m₀) (w.written ∙ ap (λ qs. write_all qs rs (stack h m)) none) ∙ w.laid);
        }

-- ---- one rule alone, whose value is v or the mark

one_rule : (ws : List ℕ) (at : ℕ) → rules_from ws at 1 ≡ rule_here ws at ∷ []
unfolding rules_from
one_rule ws at = refl

module _ (ws : List ℕ) (at h : ℕ) (m : List ℤ) (low : h ≤ length m) (e : Evaluates ws at 1 (stack h m)) (v : ℤ) (is : v ≡ ranged (rule_value (stack h m) (rule_here ws at))) where
  abbrev value : ℤ
  value = rule_value (stack h m) (rule_here ws at)

  one_marked : is_mark v ≡ not (in_range value)
  one_marked = ap is_mark is ∙ is_mark_ranged value

  one_answer : values_fit (rules_from ws at 1) (stack h m) ≡ in_range value && true
  one_answer = ap (λ qs. values_fit qs (stack h m)) (one_rule ws at)

  pub one_written : is_mark v ≡ false → Evaluated (rules_from ws at 1) h m true (set m (h - rule_target (get_or ws at 0)) v)
  one_written f =
      let t : ℕ = rule_target (get_or ws at 0) in
      let s = target_turn ws at 1 0 (stack h m) (omega arith) e in
      let high : t ≤ h = omega (arith, s.1, stack_length h m low) in
      let fits : in_range value ≡ true = not-false _ (sym one_marked ∙ f) in
      let eq : value ≡ v = sym (is ∙ ranged_in value fits) in
      let sw : set (stack h m) (t - 1) v ≡ stack h (set m (h - t) v) = sym (stack_write mark h m low t v s.0 high) in
      record {
        answer = sym (one_answer ∙ ap (λ b. b && true) fits);
        memory =
            sym
            (ap (λ z. lay h mark z m) (ap (λ qs. write_all qs (stack h m) (stack h m)) (one_rule ws at) ∙ (ap (λ x. set (stack h m) (t - 1) x) eq ∙ sw))
            ∙ laid_turn h m m low (stack_laid mark h m low) t v s.0 high);
      }

  pub one_kept : is_mark v ≡ true → Evaluated (rules_from ws at 1) h m false m
  one_kept f =
      let fails : in_range value ≡ false = not-true _ (sym one_marked ∙ f) in
      record { answer = sym (one_answer ∙ ap (λ b. b && true) fails); memory = sym (stack_laid mark h m low) }
