-- The four ways of a candidate: 31, 32, a token refused, or finished; each is its evaluation.
use Rattle.std.specs.Prelude.{ℕ, ◌≤◌, ◌<◌, ◌≡◌, List, length, ℤ}
use Rattle.std.proofs.Common.{arith, sym, ap, ◌∙◌, subst}
use Rattle.meaning.specs.Grammar.{Grammar, leaves}
use Rattle.meaning.specs.Rules.{WellFormed}
use Rattle.meaning.specs.Machine.{Config, stopped, failed, opening, feed_all, finish_all}
use Rattle.meaning.specs.Calls.{Stacks, Answer, Called, lent_of, lay_all, refused, tokens_from, after_feed, after_finish_value}
use Rattle.meaning_ranking.specs.RankCall.{evaluated}
use Rattle.theory_answers.specs.Memory.{Within, lent_kept, lay_over}
use Rattle.theory_answers.specs.ShapeMoves.{ShapedAt}
use Rattle.theory_evaluating.specs.Whole.{finish_over, evaluated_31, evaluated_32, evaluated_failed, evaluated_stopped}

-- what a list of candidates looks at, and hands on
pub record Outcome : Type 0 where
  pub answer : Answer
  pub stacks : Stacks

abbrev pub outcome : Answer → Stacks → Outcome
outcome a m = record { answer = a; stacks = m }

abbrev pub outcome_of : Called → Outcome
outcome_of k = outcome k.answer k.stacks

pub data Goes (g : Grammar) (m : Stacks) (ks : List ℕ) (us : List ℤ) : Outcome → Type 0 where
  narrow : (lent_of m).max_registers < length (opening g).registers → Goes g m ks us (outcome (refused 31 0) m)
  flat : length (opening g).registers ≤ (lent_of m).max_registers → (lent_of m).max_places < 1 → Goes g m ks us (outcome (refused 32 0) m)
  failing : length (opening g).registers ≤ (lent_of m).max_registers → 1 ≤ (lent_of m).max_places → (c : Config) (k : ℕ) → feed_all g (lent_of m) (leaves g (tokens_from ks us)) (opening g) ≡ failed c k → Goes g m ks us (outcome_of (after_feed g m (failed c k)))
  ending : length (opening g).registers ≤ (lent_of m).max_registers → 1 ≤ (lent_of m).max_places → (c : Config) → feed_all g (lent_of m) (leaves g (tokens_from ks us)) (opening g) ≡ stopped c → ShapedAt g c → Goes g m ks us (outcome_of (after_finish_value g m (finish_all g (lent_of m) c)))

pub goes_evaluated : (g : Grammar) → WellFormed g → (m : Stacks) (ks : List ℕ) (us : List ℤ) → length ks ≡ length us → {x : Outcome} → Goes g m ks us x → x ≡ outcome_of (evaluated g m ks us)
goes_evaluated g f m ks us even (narrow l) = sym (ap outcome_of (evaluated_31 g m ks us l))
goes_evaluated g f m ks us even (flat r l) = sym (ap outcome_of (evaluated_32 g m ks us r l))
goes_evaluated g f m ks us even (failing r p c k q) = sym (ap outcome_of (evaluated_failed g m f r p ks us even c k q))
goes_evaluated g f m ks us even (ending r p c q s) = sym (ap outcome_of (evaluated_stopped g m f r p ks us even c q s))

-- on stacks that hold another configuration it goes the same way
module _ (g : Grammar) (d : Config) (m : Stacks) (w : Within (lent_of m) d) (ks : List ℕ) (us : List ℤ) where
  same : lent_of (lay_all g d m) ≡ lent_of m
  same = lent_kept g d m w

  pub goes_over : length (opening g).registers ≤ (lent_of m).max_registers → 1 ≤ (lent_of m).max_places → {x : Outcome} → Goes g (lay_all g d m) ks us x → Goes g m ks us x
  goes_over r p (narrow l) = absurd (let k = subst (λ n. n.max_registers < length (opening g).registers) same l in omega arith)
  goes_over r p (flat o l) = absurd (let k = subst (λ n. n.max_places < 1) same l in omega arith)
  goes_over r p (failing a b c k q) =
      subst (Goes g m ks us) (ap (outcome (refused k c.tokens)) (sym (lay_over g d c m w))) (failing r p c k (ap (λ n. feed_all g n (leaves g (tokens_from ks us)) (opening g)) (sym same) ∙ q))
  goes_over r p (ending a b c q s) =
      subst (Goes g m ks us) (ap outcome_of (sym (ap (λ n. after_finish_value g (lay_all g d m) (finish_all g n c)) same ∙ finish_over g d m w (finish_all g (lent_of m) c)))) (ending r p c (ap (λ n. feed_all g n (leaves g (tokens_from ks us)) (opening g)) (sym same) ∙ q) s)
