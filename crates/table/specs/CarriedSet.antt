-- The word of the terminals that carry a value, by the grammar that was read.
use Rattle.std.specs.Prelude.{ℕ, ◌≡◌, false, eqb}
use Rattle.std.proofs.Common.{sym, ◌∙◌, ap, arith, ext_get_or}
use Rattle.std.proofs.lemmas.List.{length-map}
use Rattle.meaning.specs.Base.{any, count_from}
use Rattle.meaning.specs.Grammar.{Grammar, terminal, syn, attribute_if}
use Rattle.meaning.specs.Program.{carriers}
use Rattle.meaning.specs.Sets.{has}
use Rattle.theory_sets.specs.Tests.{tabled}
use Rattle.token_set.specs.SetBits.{set_of, set_of_wide}
use Rattle.outline.specs.Outline.{Carries}
use Rattle.theory_base.specs.Members.{length_count_from}

module _ (word : ℕ) (g : Grammar) (c : Carries word g.carrying) where
  -- a terminal's one attribute
  pub carried_count : (t : ℕ) → attribute_if (has (set_of word) t) ≡ syn g (terminal t)
  carried_count t = ap attribute_if (c.each t)

  -- the token set of the program's header
  pub carried_set : set_of word ≡ carriers g
  carried_set =
      ext_get_or false (set_of word) (carriers g)
      ((set_of_wide word).width ∙ sym (length-map (count_from 0 64) (λ t. any (eqb t) g.carrying) ∙ length_count_from 0 64))
      (λ t l. c.each t ∙ sym (tabled (λ u. any (eqb u) g.carrying) 64 t false (omega (arith, (set_of_wide word).width))))
