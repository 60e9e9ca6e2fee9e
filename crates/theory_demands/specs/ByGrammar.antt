-- A list of calls that bring the accepted table, among any that count for nothing, is a list of calls under its grammar.
use Rattle.std.specs.Prelude.{ℕ, ◌≤◌, ◌≡◌, Bool, true, false, List, [], ◌++◌, length, T}
use Rattle.std.proofs.Common.{sym, ap, ◌∙◌, subst, subst₂}
use Rattle.theory_base.specs.Feeds.{feed_leaves, even_feed, leaves_append, leaves_of}
use Rattle.meaning.specs.Grammar.{Grammar, Token, Leaf, leaves}
use Rattle.meaning.specs.Base.{all}
use Rattle.meaning.specs.Judgement.{Accepted}
use Rattle.meaning.specs.Tree.{is_leaf_of}
use Rattle.meaning.specs.Calls.{Record, Stacks, closed_record, open_of, tokens_from}
use Rattle.meaning.specs.PublicCalls.{Call, feed, finish, call_of, area_length, written, effect, opens, performs}
use Rattle.meaning_statements.specs.Statements.{History, opened, counts_for_nothing, inner_ended_value, fed, finished}
use Rattle.theory_base.specs.Members.{all_append}
use Rattle.theory_answers.specs.Called.{called_is, opened_long}
use Rattle.theory_inner.specs.Proved.{outer_kept}
use Rattle.theory_base.specs.CallsUnder as Under

-- all that is fed is as the grammar sees it
pub all_seen : {g : Grammar} {m₀ : Stacks} {ts : List Leaf} {b : Bool} {r : Record} {m : Stacks} → Under.CallsUnder g m₀ ts b r m → T (all (is_leaf_of g) ts)
all_seen (Under.opened e) = tt
all_seen {g} (Under.fed {ts = ts} us t h o) = all_append (is_leaf_of g) ts us (all_seen h) t
all_seen (Under.finished h o) = all_seen h

module _ (program : Grammar → List ℕ) (bs : List ℕ) (g : Grammar) (a : Accepted bs g) where
  pub opens_is : (area : List ℕ) (m : Stacks) → area_length ≤ length area → opens program bs area m ≡ effect (open_of g m) (written (program g) area)
  opens_is area m l = called_is program bs g a area l closed_record m (λ h. open_of h m)

  pub performs_is : (area : List ℕ) (r : Record) (m : Stacks) (c : Call) → area_length ≤ length area → performs program bs area r m c ≡ effect (call_of g r m c) (written (program g) area)
  performs_is area r m c l = called_is program bs g a area l r m (λ h. call_of h r m c)

  pub by_grammar : {m₀ : Stacks} {ts : List Token} {is_over : Bool} {r : Record} {m : Stacks} → History program bs m₀ ts is_over r m → Under.CallsUnder g m₀ (leaves g ts) is_over r m
  by_grammar {m₀} (opened area h) =
      let l = opened_long program bs area m₀ 0 h in
      let e = sym (opens_is area m₀ l) in
      subst (λ z. Under.CallsUnder g m₀ [] false z.state z.stacks) e (Under.opened (ap (λ z. z.answer) e ∙ h))
  by_grammar (counts_for_nothing other area c h x y) = by_grammar h
  by_grammar {m₀} (inner_ended_value {ts = ts} {is_over = is_over} {r = r} {m = m} outer_table inner_table area ss h e c) =
      let k = (outer_kept program outer_table inner_table area r m e ss).restored c in
      subst₂ (λ x y. Under.CallsUnder g m₀ (leaves g ts) is_over x y) (sym k.0) (sym k.1) (by_grammar h)
  by_grammar {m₀} (fed {ts = ts} {r = r} {m = m} area ks vs t e h l o) =
      let us : List Leaf = leaves g (tokens_from ks vs) in
      let made : performs program bs area r m (feed ks vs) ≡ effect (feed_leaves g r m us) (written (program g) area) = performs_is area r m (feed ks vs) l ∙ ap (λ z. effect z (written (program g) area)) (even_feed g r m ks vs e) in
      subst (λ z. Under.CallsUnder g m₀ (leaves g (ts ++ tokens_from ks vs)) false z.state z.stacks) (sym made)
      (subst (λ z. Under.CallsUnder g m₀ z false (feed_leaves g r m us).state (feed_leaves g r m us).stacks) (sym (leaves_append g ts (tokens_from ks vs))) (Under.fed us (leaves_of g ks vs t) (by_grammar h) o))
  by_grammar {m₀} (finished {ts = ts} {r = r} {m = m} area h l o) =
      subst (λ z. Under.CallsUnder g m₀ (leaves g ts) true z.state z.stacks) (sym (performs_is area r m finish l)) (Under.finished (by_grammar h) o)
