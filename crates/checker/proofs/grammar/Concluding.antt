-- From the outline of a table and the analysis of its grammar to the answer.
use Prim.Native.Nat.{ℕ, ◌+◌, ◌*◌, ◌<◌}
use native.Mathlib.Omega.{arith}
use mathlib.Core.Path.{◌≡◌, refl, sym, ap, ap₂, ◌∙◌, subst}
use mathlib.Core.Bool.{Bool}
use mathlib.Core.Option as Math
use mathlib.Core.Option.{none, some}
use mathlib.Core.List.{List}
use lib.ListN.{get_or, length, length-reverse}
use Rattle.meaning.specs.Limits.{nonterminals_limit}
use Rattle.meaning.specs.Base.{count_from}
use Rattle.meaning.specs.Grammar.{Grammar, nonterminal_count}
use Rattle.meaning.specs.Table.{State}
use Rattle.meaning.specs.Judgement.{rejected, counts_offset}
use Rattle.meaning.specs.Decide.{is_left_recursive, clashes, first_where, judge}
use Rattle.theory_table.specs.Places.{Places, read_places}
use Rattle.theory_sets.specs.Verdicts as Search
use Rattle.theory_sets.specs.Verdicts.{searched}
use Rattle.outline.specs.declared.Sizes.{Sizes}
use Rattle.outline.specs.Outline.{state_in, grammar_in, Productions}
use Rattle.analysis.specs.Lowest.{Lowest, found_some_lowest, found_no_lowest}
use Rattle.analysis.specs.Finding.{Finding, fine, useless, recursive, clashing, or_else, otherwise, is_useless, flaw, lowest_clash, finding_number, index_of, verdict_from, judge_is, Analysed, found_clash, found_no_clash}
use Rattle.checker.specs.grammar.Concludes.{Concludes}
use Rattle.std.specs.Prelude.{Ok, Err, Option, Some, None}
use Rattle.std.proofs.Common.{le_refl}
use Rattle.refusals.specs.Numbers.{fault_number}
use Rattle.refusals.specs.declared.TableFault.{TableFault}
use Rattle.refusals.specs.declared.TableRefusal.{TableRefusal}
use Rattle.refusals.specs.declared.TableFault.TheVariants.{TooLong, CutShort, OutOfOrder, OutsideLimits, Unknown, StartAttributes, WrongSide, NotOneRule, ReadsAhead, LowAboveHigh, Useless, LeftRecursive, Clash, NoProduction}

-- no fault has the number 0
faulty : (f : TableFault) → fault_number f ≡ 0 → ⊥
faulty TooLong e = absurd (omega arith)
faulty CutShort e = absurd (omega arith)
faulty OutOfOrder e = absurd (omega arith)
faulty OutsideLimits e = absurd (omega arith)
faulty Unknown e = absurd (omega arith)
faulty StartAttributes e = absurd (omega arith)
faulty WrongSide e = absurd (omega arith)
faulty NotOneRule e = absurd (omega arith)
faulty ReadsAhead e = absurd (omega arith)
faulty LowAboveHigh e = absurd (omega arith)
faulty Useless e = absurd (omega arith)
faulty LeftRecursive e = absurd (omega arith)
faulty Clash e = absurd (omega arith)
faulty NoProduction e = absurd (omega arith)

module _ (t : List ℕ) (sizes : Sizes) (rows offsets : List ℕ) (x : Productions t rows offsets sizes.productions) where
  abbrev s : State
  s = state_in t

  abbrev g : Grammar
  g = grammar_in t

  places : Places t s
  places = read_places t s x.is_read

  abbrev many : length g.productions ≡ sizes.productions
  many = x.rows_of.counted

  -- ---- what they find

  abbrev Known : Finding → Type 0
  Known fine = Unit {0}
  Known (useless n) = n < nonterminal_count g
  Known (recursive n) = n < nonterminal_count g
  Known (clashing p) = ⊥

  abbrev Bound : ℕ → Math.Option ℕ → Type 0
  Bound n (some i) = i < n
  Bound n none = Unit {0}

  bound_of : (f : ℕ → Bool) (n : ℕ) → Bound n (first_where f (count_from 0 n))
  bound_of f n = go (first_where f (count_from 0 n)) (searched f 0 n)
    where
      go : (o : Math.Option ℕ) → Search.Result f 0 n o → Bound n o
      go (some i) r = omega (arith, r.1)
      go none r = tt

  known : Known (flaw g)
  unfolding flaw
  known = go (first_where (is_useless g) (count_from 0 (nonterminal_count g))) (first_where (is_left_recursive g) (count_from 0 (nonterminal_count g))) (bound_of (is_useless g) (nonterminal_count g)) (bound_of (is_left_recursive g) (nonterminal_count g))
    where
      go : (a b : Math.Option ℕ) → Bound (nonterminal_count g) a → Bound (nonterminal_count g) b → Known (or_else a useless (or_else b recursive fine))
      go (some n) b u v = u
      go none (some n) u v = v
      go none none u v = tt

  counts_place : (n : ℕ) → n < nonterminal_count g → 7 + 5 * n ≡ counts_offset s n
  unfolding grammar_in
  counts_place n l = sym (places.counts_offsets n (omega (arith, length-reverse s.counts)))

  -- the verdict by the two findings
  judged_by_lem : (f h : Finding) → flaw g ≡ f → lowest_clash g ≡ h → judge s ≡ verdict_from s (otherwise f h)
  unfolding grammar_in
  judged_by_lem f h d e = judge_is s ∙ ap₂ (λ y z. verdict_from s (otherwise y z)) d e

  module _ (n i : ℕ) (sets : List ℕ) (a : Analysed g n i sets) where
    pub index_small : i < nonterminals_limit
    index_small = go (flaw g) known a.index
      where
        go : (f : Finding) → Known f → i ≡ index_of f → i < nonterminals_limit
        go fine u e = omega arith
        go (useless m) u e = omega (arith, x.rows_of.narrow)
        go (recursive m) u e = omega (arith, x.rows_of.narrow)
        go (clashing p) u e = absurd u

    pub flaw_concludes : (r : TableRefusal) → fault_number r.fault ≡ n → r.offset ≡ 7 + 5 * i → Concludes t sizes sets (Err r) (judge s)
    flaw_concludes r q o = go (flaw g) refl known
      where
        at : (m : ℕ) → m < nonterminal_count g → i ≡ m → r.offset ≡ counts_offset s m
        at m u e = o ∙ ap (λ k. 7 + 5 * k) e ∙ counts_place m u

        go : (f : Finding) → flaw g ≡ f → Known f → judge s ≡ rejected (fault_number r.fault) r.offset
        go fine e u = absurd (faulty r.fault (q ∙ a.number ∙ ap finding_number e))
        go (useless m) e u = judged_by_lem (useless m) (lowest_clash g) e refl ∙ sym (ap₂ rejected (q ∙ a.number ∙ ap finding_number e) (at m u (a.index ∙ ap index_of e)))
        go (recursive m) e u = judged_by_lem (recursive m) (lowest_clash g) e refl ∙ sym (ap₂ rejected (q ∙ a.number ∙ ap finding_number e) (at m u (a.index ∙ ap index_of e)))
        go (clashing p) e u = absurd u

    module _ (z : n ≡ 0) where
      flawless : flaw g ≡ fine
      flawless = go (flaw g) refl
        where
          go : (f : Finding) → flaw g ≡ f → f ≡ fine
          go fine e = refl
          go (useless m) e = let k : ◌≡◌ {A = ℕ} 0 11 = sym z ∙ a.number ∙ ap finding_number e in absurd (omega arith)
          go (recursive m) e = let k : ◌≡◌ {A = ℕ} 0 12 = sym z ∙ a.number ∙ ap finding_number e in absurd (omega arith)
          go (clashing m) e = let k : ◌≡◌ {A = ℕ} 0 13 = sym z ∙ a.number ∙ ap finding_number e in absurd (omega arith)

      lowest : (o : Option ℕ) → Lowest (clashes g) sizes.productions o → Lowest (clashes g) (length g.productions) o
      lowest o d = subst (λ m. Lowest (clashes g) m o) (sym many) d

      pub clash_concludes : (p : ℕ) → Lowest (clashes g) sizes.productions (Some p) → Concludes t sizes sets (Err (record { fault = Clash; offset = get_or offsets p 0 })) (judge s)
      clash_concludes p d =
          judged_by_lem fine (clashing p) flawless (found_clash g p (found_some_lowest _ _ p (lowest (Some p) d)) (omega (arith, many, d.0)))
          ∙ sym (ap (rejected 13) (x.offset p d.0))

      pub none_concludes : Lowest (clashes g) sizes.productions None → (u : Unit {0}) → Concludes t sizes sets (Ok u) (judge s)
      none_concludes d u = (judged_by_lem fine fine flawless (found_no_clash g _ (found_no_lowest _ _ (lowest None d)) (le_refl _)), λ q m. a.starting z q (omega (arith, many)))
