-- Refusals 11 to 13 of a grammar as one finding, and the verdict that a table gets from it. The analysis finds 11 and 12; 13 is found from its sets.
use Rattle.std.specs.Prelude.{ℕ, ◌≤◌, ◌<◌, ◌≡◌, refl, Bool, false, ◌&&◌, not, List, get_or, length}
use Rattle.std.proofs.Common.{arith, sym, ap₂}
use Rattle.std.proofs.Math.Path.{ap}
use Rattle.std.proofs.Math.Option.{Option, none, some}
use Rattle.meaning.specs.Base.{count_from}
use Rattle.meaning.specs.Grammar.{Grammar, production_at, nonterminal_count}
use Rattle.meaning.specs.Derivation.{Listed}
use Rattle.meaning.specs.Sets.{starts}
use Rattle.meaning.specs.Decide.{productive, reachable, is_left_recursive, clashes, first_where, judge}
use Rattle.meaning.specs.Judgement.{Verdict, accepted, rejected, counts_offset, entry_offset}
use Rattle.meaning.specs.Table.{State, grammar_of}
use Rattle.token_set.specs.SetBits.{set_of}
use Rattle.analysis.specs.Numbers.{Found, found_some, found_not}

pub data Finding : Type 0 where
  fine : Finding
  useless : ℕ → Finding
  recursive : ℕ → Finding
  clashing : ℕ → Finding

abbrev pub or_else : Option ℕ → (ℕ → Finding) → Finding → Finding
or_else (some n) f rest = f n
or_else none f rest = rest

abbrev pub is_useless : Grammar → ℕ → Bool
is_useless g n = not (get_or (reachable g) n false && get_or (productive g) n false)

-- 11 or 12
unfoldable pub flaw : Grammar → Finding
flaw g =
    or_else (first_where (is_useless g) (count_from 0 (nonterminal_count g))) useless
    (or_else (first_where (is_left_recursive g) (count_from 0 (nonterminal_count g))) recursive fine)

-- 13
unfoldable pub lowest_clash : Grammar → Finding
lowest_clash g = or_else (first_where (clashes g) (count_from 0 (length g.productions))) clashing fine

-- the first, or the second where the first is none
abbrev pub otherwise : Finding → Finding → Finding
otherwise fine f = f
otherwise (useless n) f = useless n
otherwise (recursive n) f = recursive n
otherwise (clashing p) f = clashing p

abbrev pub finding : Grammar → Finding
finding g = otherwise (flaw g) (lowest_clash g)

-- 01's number, 0 where there is none, and the nonterminal or production
abbrev pub finding_number : Finding → ℕ
finding_number fine = 0
finding_number (useless n) = 11
finding_number (recursive n) = 12
finding_number (clashing p) = 13

abbrev pub index_of : Finding → ℕ
index_of fine = 0
index_of (useless n) = n
index_of (recursive n) = n
index_of (clashing p) = p

abbrev pub verdict_from : State → Finding → Verdict
verdict_from s fine = accepted
verdict_from s (useless n) = rejected 11 (counts_offset s n)
verdict_from s (recursive n) = rejected 12 (counts_offset s n)
verdict_from s (clashing p) = rejected 13 (entry_offset s p)

pub judge_is : (s : State) → judge s ≡ verdict_from s (finding (grammar_of s))
unfolding flaw lowest_clash
judge_is s =
    go (first_where (is_useless (grammar_of s)) (count_from 0 (nonterminal_count (grammar_of s)))) (first_where (is_left_recursive (grammar_of s)) (count_from 0 (nonterminal_count (grammar_of s))))
    (first_where (clashes (grammar_of s)) (count_from 0 (length (grammar_of s).productions)))
  where
    go :
        (a b c : Option ℕ)
        → ◌≡◌ {A = Verdict} (elim a [ some n ↦ rejected 11 (counts_offset s n) | none ↦ elim b [ some n ↦ rejected 12 (counts_offset s n) | none ↦ elim c [ some p ↦ rejected 13 (entry_offset s p) | none ↦ accepted ] ] ])
        (verdict_from s (otherwise (or_else a useless (or_else b recursive fine)) (or_else c clashing fine)))
    go (some n) b c = refl
    go none (some n) c = refl
    go none none (some p) = refl
    go none none none = refl

-- what the analysis of a grammar answers: number and index of 11 or 12, and where there is none the FIRST-then-FOLLOW sets of the productions
pub record Analysed (g : Grammar) (n i : ℕ) (sets : List ℕ) : Type 0 where
  pub number : n ≡ finding_number (flaw g)
  pub index : i ≡ index_of (flaw g)
  pub starting : n ≡ 0 → (p : ℕ) → Listed g p → set_of (get_or sets p 0) ≡ starts g (production_at g p)

module _ (g : Grammar) (sets : List ℕ) where
  answer : (f : Finding) → flaw g ≡ f → (finding_number f ≡ 0 → (p : ℕ) → Listed g p → set_of (get_or sets p 0) ≡ starts g (production_at g p)) → Analysed g (finding_number f) (index_of f) sets
  answer f e k = record { number = sym (ap finding_number e); index = sym (ap index_of e); starting = k }

  two : (a b c d : Option ℕ) → a ≡ c → b ≡ d → or_else a useless (or_else b recursive fine) ≡ or_else c useless (or_else d recursive fine)
  two a b c d e f = ap₂ (λ (x y : Option ℕ). or_else x useless (or_else y recursive fine)) e f

  pub found_useless : (n : ℕ) → Found (is_useless g) (nonterminal_count g) n → n < nonterminal_count g → Analysed g 11 n sets
  unfolding flaw
  found_useless n d l =
      answer (useless n)
      (ap (λ (o : Option ℕ). or_else o useless (or_else (first_where (is_left_recursive g) (count_from 0 (nonterminal_count g))) recursive fine)) (found_some (is_useless g) (nonterminal_count g) n d l))
      (λ z. absurd (omega arith))

  module _ (u : ℕ) (all_useful : Found (is_useless g) (nonterminal_count g) u) (past : nonterminal_count g ≤ u) where
    pub found_recursive : (n : ℕ) → Found (is_left_recursive g) (nonterminal_count g) n → n < nonterminal_count g → Analysed g 12 n sets
    unfolding flaw
    found_recursive n d l =
        answer (recursive n)
        (two _ _ _ _ (found_not (is_useless g) (nonterminal_count g) u all_useful past) (found_some (is_left_recursive g) (nonterminal_count g) n d l))
        (λ z. absurd (omega arith))

    pub found_neither :
        (v : ℕ) → Found (is_left_recursive g) (nonterminal_count g) v → nonterminal_count g ≤ v
        → ((q : ℕ) → Listed g q → set_of (get_or sets q 0) ≡ starts g (production_at g q)) → Analysed g 0 0 sets
    unfolding flaw
    found_neither v d l k =
        answer fine (two _ _ _ _ (found_not (is_useless g) (nonterminal_count g) u all_useful past) (found_not (is_left_recursive g) (nonterminal_count g) v d l)) (λ _. k)

-- what the lowest clash found is
module _ (g : Grammar) (p : ℕ) (d : Found (clashes g) (length g.productions) p) where
  pub found_clash : p < length g.productions → lowest_clash g ≡ clashing p
  unfolding lowest_clash
  found_clash l = ap (λ (o : Option ℕ). or_else o clashing fine) (found_some (clashes g) (length g.productions) p d l)

  pub found_no_clash : length g.productions ≤ p → lowest_clash g ≡ fine
  unfolding lowest_clash
  found_no_clash l = ap (λ (o : Option ℕ). or_else o clashing fine) (found_not (clashes g) (length g.productions) p d l)
