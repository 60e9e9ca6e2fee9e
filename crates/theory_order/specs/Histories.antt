-- A list of calls under a table is one under every table that is the same but for order: the same tokens, record and stacks.
use Rattle.std.specs.Prelude.{ℕ, Bool, true, false, List, [], ◌++◌}
use Rattle.std.proofs.Common.{sym, subst₂, ◌∙◌}
use Rattle.meaning.specs.Grammar.{Token, Grammar}
use Rattle.meaning.specs.Layout.{Bytes}
use Rattle.meaning.specs.Judgement.{Accepted}
use Rattle.meaning.specs.Calls.{Record, Stacks}
use Rattle.meaning.specs.PublicCalls.{feed, finish}
use Rattle.meaning_statements.specs.CallStatements.{tokens_of}
use Rattle.meaning_statements.specs.Statements.{History, opened, counts_for_nothing, inner_ended_value, fed, finished}
use Rattle.meaning_house.specs.Order.{SameButOrder, house_grammar, house_bytes}
use Rattle.theory_order.specs.Proved.{calls_same, house_accepted}

module _ (program : Grammar → List ℕ) (bs cs : List ℕ) (g h : Grammar) (b : Bytes bs) (x : Accepted bs g) (y : Accepted cs h) (s : SameButOrder g h) where
  pub history_same : {m₀ : Stacks} {ts : List Token} {is_over : Bool} {r : Record} {m : Stacks} → History program bs m₀ ts is_over r m → History program cs m₀ ts is_over r m
  history_same {m₀} (opened area a) =
      let e = (calls_same program bs cs g h area m₀ b x y s).0 in
      subst₂ (λ r m. History program cs m₀ [] false r m) (sym e.state) (sym e.stacks) (opened area (sym e.answer ∙ a))
  history_same (counts_for_nothing other area c d u v) = counts_for_nothing other area c (history_same d) u v
  history_same (inner_ended_value outer_table inner_table area ss d u v) = inner_ended_value outer_table inner_table area ss (history_same d) u v
  history_same {m₀} (fed {ts} {r} {m} area ks vs u v d l o) =
      let e = (calls_same program bs cs g h area m b x y s).1 r (feed ks vs) in
      subst₂ (λ r m. History program cs m₀ (ts ++ tokens_of (feed ks vs)) false r m) (sym e.state) (sym e.stacks) (fed area ks vs u v (history_same d) l o)
  history_same {m₀} (finished {ts} {r} {m} area d l o) =
      let e = (calls_same program bs cs g h area m b x y s).1 r finish in
      subst₂ (λ r m. History program cs m₀ ts true r m) (sym e.state) (sym e.stacks) (finished area (history_same d) l o)

pub house_history : (program : Grammar → List ℕ) (bs : List ℕ) (g : Grammar) → Bytes bs → Accepted bs g → {m₀ : Stacks} {ts : List Token} {is_over : Bool} {r : Record} {m : Stacks} → History program bs m₀ ts is_over r m → History program (house_bytes g) m₀ ts is_over r m
house_history program bs g b a d = let v = house_accepted bs g b a in history_same program bs (house_bytes g) g (house_grammar g) b a v.accepts v.same d
