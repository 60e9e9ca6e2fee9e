-- For each production the next one with the same left side, from the last production on.
use Rattle.std.specs.Prelude.{ℕ, ◌+◌, ◌-◌, ◌≤◌, ◌<◌, ◌≡◌, refl, List, length, get_or, set, drop, replicate}
use Rattle.std.proofs.Math.Decide.{ℕ_discrete}
use Rattle.std.proofs.Common.{arith, sym, ap, ap₂, ◌∙◌, length-set, get_or-set_same, get_or-set_other}
use Rattle.std.proofs.lemmas.List.{get_or-replicate}
use Rattle.meaning.specs.Limits.{nonterminals_limit, productions_limit}
use Rattle.meaning.specs.Grammar.{Grammar}
use Rattle.meaning.specs.Program.{first_of}
use Rattle.outline.specs.Images.{ImageOf, left_at}
use Rattle.program_words.specs.Records.{same_left, Nexts, next_found, next_passed, next_none}

-- those of the productions from i on, and the first production from i on of each nonterminal
pub record NextsGo (rows : List ℕ) (count i : ℕ) (nexts firsts : List ℕ) : Type 0 where
  pub size : length nexts ≡ productions_limit
  pub wide : length firsts ≡ nonterminals_limit
  pub done : (g : Grammar) → ImageOf rows count g → (p : ℕ) → i ≤ p → p < count → get_or nexts p 0 ≡ first_of (same_left (left_at rows p)) (p + 1) (drop (p + 1) g.productions)
  pub first : (g : Grammar) → ImageOf rows count g → (n : ℕ) → n < nonterminals_limit → get_or firsts n 0 ≡ first_of (same_left n) i (drop i g.productions)

module _ {rows : List ℕ} {count : ℕ} where
  pub nexts_start : NextsGo rows count count (replicate productions_limit 0) (replicate nonterminals_limit 0)
  nexts_start =
      record {
        size = refl;
        wide = refl;
        done = λ g x p l m. absurd (omega arith);
        first = λ g x n l. get_or-replicate nonterminals_limit n nought 0 l ∙ next_none x n count (omega arith);
      }
    where
      nought : ℕ
      nought = 0

  pub nexts_end : {nexts firsts : List ℕ} → NextsGo rows count 0 nexts firsts → Nexts rows count nexts
  nexts_end o p l g x = o.done g x p (omega arith) l

  module _ {p b : ℕ} {nexts firsts : List ℕ} (o : NextsGo rows count p nexts firsts) (some : 0 < p) (inside : p ≤ count) (few : count ≤ productions_limit) (e : b ≡ left_at rows (p - 1)) (small : b < nonterminals_limit) where
    again : p ≡ p - 1 + 1
    again = omega arith

    pub nexts_turn : NextsGo rows count (p - 1) (set nexts (p - 1) (get_or firsts b 0)) (set firsts b (p - 1 + 1))
    nexts_turn =
        record {
          size = length-set nexts (p - 1) (get_or firsts b 0) ∙ o.size;
          wide = length-set firsts b (p - 1 + 1) ∙ o.wide;
          done = λ g x q l m. done g x q l m (ℕ_discrete q (p - 1));
          first = λ g x n l. first g x n l (ℕ_discrete n b);
        }
      where
        done : (g : Grammar) → ImageOf rows count g → (q : ℕ) → p - 1 ≤ q → q < count → Dec (q ≡ p - 1) → get_or (set nexts (p - 1) (get_or firsts b 0)) q 0 ≡ first_of (same_left (left_at rows q)) (q + 1) (drop (q + 1) g.productions)
        done g x q l m (yes h) =
            rw h
            (get_or-set_same nexts (p - 1) (get_or firsts b 0) 0 (omega (arith, o.size))
            ∙ (o.first g x b small
            ∙ ap₂ (λ y z. first_of (same_left y) z (drop z g.productions)) e again))
        done g x q l m (no h) = get_or-set_other nexts (p - 1) q (get_or firsts b 0) 0 h ∙ o.done g x q (omega arith) m

        first : (g : Grammar) → ImageOf rows count g → (n : ℕ) → n < nonterminals_limit → Dec (n ≡ b) → get_or (set firsts b (p - 1 + 1)) n 0 ≡ first_of (same_left n) (p - 1) (drop (p - 1) g.productions)
        first g x n l (yes h) = rw h (get_or-set_same firsts b (p - 1 + 1) 0 (omega (arith, o.wide)) ∙ next_found x b (p - 1) (omega arith) b e refl)
        first g x n l (no h) =
            get_or-set_other firsts b n (p - 1 + 1) 0 h
            ∙ (o.first g x n l
            ∙ (ap (λ z. first_of (same_left n) z (drop z g.productions)) again
            ∙ sym (next_passed x n (p - 1) (omega arith) b e (λ q. h (sym q)))))
