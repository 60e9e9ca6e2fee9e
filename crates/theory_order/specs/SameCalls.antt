-- Grammars that are the same but for order: the same moves, and every call gives the same answer, record and stacks.
use Rattle.std.specs.Prelude.{◌≡◌, refl, List, length}
use Rattle.std.proofs.Common.{ap, subst}
use Rattle.meaning.specs.Grammar.{Grammar, Production}
use Rattle.meaning.specs.Rules.{WellFormed}
use Rattle.meaning.specs.Calls.{Record, Stacks, open_of}
use Rattle.meaning.specs.PublicCalls.{Call, call_of}
use Rattle.meaning_house.specs.Order.{SameEach, SameButOrder}
use Rattle.theory_order.specs.Each.{regrouped, regrouped_is, same_at}
use Rattle.theory_order.specs.SameSets.{alternatives_same}
use Rattle.theory_order.specs.SameSchemes.{scheme_same, entered_same}
use Rattle.theory_order.specs.SameFit.{fit_same}
use Rattle.theory_order.specs.SameMoves.{Matched, same_open_of, same_call}

matched_regrouped : (g : Grammar) → WellFormed g → (qs : List Production) → SameEach g.productions qs → Matched g (regrouped g qs)
matched_regrouped g w qs s = record {
  terminals = refl;
  carrying = refl;
  result = refl;
  registers = refl;
  schemes = scheme_same g w qs s;
  choices = alternatives_same g qs s;
  enters = entered_same g qs s;
  rights = λ n. ap length (same_at g qs s n).right;
  fits = fit_same g qs s;
}

pub matched : (g h : Grammar) → WellFormed g → SameButOrder g h → Matched g h
matched g h w s = subst (Matched g) (regrouped_is g h s) (matched_regrouped g w h.productions s.productions)

module _ (g h : Grammar) (w : WellFormed g) (s : SameButOrder g h) where
  pub open_same : (m : Stacks) → open_of g m ≡ open_of h m
  open_same = same_open_of g h (matched g h w s)

  pub call_same : (r : Record) (m : Stacks) (c : Call) → call_of g r m c ≡ call_of h r m c
  call_same = same_call g h (matched g h w s)
