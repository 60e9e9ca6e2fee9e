-- FIRST, FOLLOW and FIRST-then-FOLLOW read left and right sides alone.
use Rattle.std.specs.Prelude.{ℕ, ◌≡◌, Bool, false, ◌&&◌, List, map, get_or, replicate, eqb}
use Rattle.std.proofs.Common.{ap, ap₂, ◌∙◌}
use Rattle.std.proofs.Math.Path.{fun_ext}
use Rattle.meaning.specs.Base.{count_from, keep}
use Rattle.meaning.specs.Grammar.{Symbol, Production, Grammar, production_at, nonterminal_count, Look}
use Rattle.meaning.specs.Sets.{TokenSet, rounds, empty_set, singleton, end_number, only_if, unions, ◌∪◌, has, look_number, productions_of, empty_string, nullable, first_string, first, follow_in, follow, starts}
use Rattle.meaning.specs.Machine.{is_of, alternatives}
use Rattle.meaning_house.specs.Order.{SameProduction, SameEach}
use Rattle.theory_order.specs.Each.{regrouped, each_length, any_each, map_each, keep_each, same_at}

abbrev numbers : Grammar → List ℕ
numbers g = count_from 0 (nonterminal_count g)

abbrev first_with : Grammar → List Bool → List TokenSet
first_with g e = rounds (nonterminal_count g) (λ f. map (λ n. unions (map (λ p. first_string e f p.right) (productions_of g n))) (count_from 0 (nonterminal_count g))) (replicate (nonterminal_count g) empty_set)

abbrev follow_with : Grammar → List Bool → List TokenSet → List TokenSet
follow_with g e f = rounds (nonterminal_count g) (λ w. map (λ n. only_if (eqb n g.start) (singleton end_number) ∪ unions (map (λ p. follow_in n e f (get_or w p.left empty_set) p.right) g.productions)) (count_from 0 (nonterminal_count g))) (replicate (nonterminal_count g) empty_set)

abbrev starts_with : List Bool → List TokenSet → List TokenSet → ℕ → List Symbol → TokenSet
starts_with e f w left right = first_string e f right ∪ only_if (empty_string e right) (get_or w left empty_set)

module _ (g : Grammar) (qs : List Production) (s : SameEach g.productions qs) where
  of_same : (n : ℕ) → SameEach (productions_of g n) (productions_of (regrouped g qs) n)
  of_same n = keep_each (λ p. eqb p.left n) (λ p q x. ap (λ l. eqb l n) x.left) g.productions qs s

  nullable_same : nullable g ≡ nullable (regrouped g qs)
  nullable_same =
      ap (λ f. rounds (nonterminal_count g) f (replicate (nonterminal_count g) false)) (fun_ext (λ e. ap (λ k. map k (numbers g)) (fun_ext (λ n.
      any_each (λ p. empty_string e p.right) (λ p q x. ap (empty_string e) x.right) (productions_of g n) (productions_of (regrouped g qs) n) (of_same n)))))

  first_with_lem : (e : List Bool) → first_with g e ≡ first_with (regrouped g qs) e
  first_with_lem e =
      ap (λ f. rounds (nonterminal_count g) f (replicate (nonterminal_count g) empty_set)) (fun_ext (λ f. ap (λ k. map k (numbers g)) (fun_ext (λ n.
      ap unions (map_each (λ p. first_string e f p.right) (λ p q x. ap (first_string e f) x.right) (productions_of g n) (productions_of (regrouped g qs) n) (of_same n))))))

  first_same : first g ≡ first (regrouped g qs)
  first_same = first_with_lem (nullable g) ∙ ap (first_with (regrouped g qs)) nullable_same

  follow_with_lem : (e : List Bool) (f : List TokenSet) → follow_with g e f ≡ follow_with (regrouped g qs) e f
  follow_with_lem e f =
      ap (λ k. rounds (nonterminal_count g) k (replicate (nonterminal_count g) empty_set)) (fun_ext (λ w. ap (λ k. map k (numbers g)) (fun_ext (λ n.
      ap (λ z. only_if (eqb n g.start) (singleton end_number) ∪ unions z) (map_each (λ p. follow_in n e f (get_or w p.left empty_set) p.right) (λ p q x. ap₂ (λ l r. follow_in n e f (get_or w l empty_set) r) x.left x.right) g.productions qs s)))))

  follow_same : follow g ≡ follow (regrouped g qs)
  follow_same = follow_with_lem (nullable g) (first g) ∙ ap₂ (follow_with (regrouped g qs)) nullable_same first_same

  pub starts_same : (p q : Production) → SameProduction p q → starts g p ≡ starts (regrouped g qs) q
  starts_same p q x = λ i. starts_with (nullable_same i) (first_same i) (follow_same i) (x.left i) (x.right i)

  is_of_same : (n : ℕ) (l : Look) (p : ℕ) → is_of g n l p ≡ is_of (regrouped g qs) n l p
  is_of_same n l p = let x = same_at g qs s p in ap₂ (λ k t. eqb k n && has t (look_number l)) x.left (starts_same (production_at g p) (production_at (regrouped g qs) p) x)

  pub alternatives_same : (n : ℕ) (l : Look) → alternatives g n l ≡ alternatives (regrouped g qs) n l
  alternatives_same n l = ap₂ (λ f k. keep f (count_from 0 k)) (fun_ext (is_of_same n l)) (each_length g.productions qs s)
