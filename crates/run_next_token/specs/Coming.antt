-- What comes next, one after the other: tokens that are fed, or the end; as a grammar sees them and as the code brings them.
use Rattle.std.specs.Prelude.{ℕ, zero, suc, ◌≤◌, ◌<◌, ◌≡◌, refl, Bool, true, false, not, List, [], ◌∷◌, length, get_or, drop, T, eqb, ltb, ℤ, pos}
use Rattle.std.proofs.Common.{arith, ap, ◌∙◌, subst}
use Rattle.meaning.specs.Sets.{end_number}
use Rattle.meaning.specs.Base.{any}
use Rattle.meaning.specs.Grammar.{Grammar, Token, carried, leaf_of}
use Rattle.meaning.specs.Rules.{four_bytes}
use Rattle.meaning.specs.Calls.{is_mark, tokens_from}
use Rattle.meaning.specs.Machine.{Config, Lent, Coming, comes, ends, Settled, stopped, failed, advance_from}
use Rattle.theory_base.specs.Members.{true→T}
use Rattle.theory_base.specs.Feeds.{leaf_of_lem}
use Rattle.theory_answers.specs.FitTest.{mark_is}
use Rattle.theory_answers.specs.ShapeMoves.{IsAhead}
use Rattle.theory_program.specs.Addresses.{Begins}
use Rattle.theory_program.specs.Records.{carrier_word}
use Rattle.run_looking.specs.Judging.{carries_at, value_if, value_at}
use Rattle.run_moves.specs.Passing.{coming_if, coming_of}

-- ---- what comes next, as a grammar sees it

-- a token of kind u and value v; 63 is the end
abbrev pub comes_if : Bool → Grammar → ℕ → ℤ → Coming
comes_if true g u v = ends
comes_if false g u v = comes (leaf_of g (record { kind = u; value = v }))

abbrev pub comes_to : Grammar → ℕ → ℤ → Coming
comes_to g u v = comes_if (eqb u end_number) g u v

not_mark : (v : ℤ) → T (four_bytes v) → is_mark v ≡ false
not_mark v h = go (is_mark v) refl
  where
    go : (b : Bool) → is_mark v ≡ b → is_mark v ≡ false
    go false e = e
    go true e = absurd (subst (λ z. T (four_bytes z)) (mark_is v (true→T (is_mark v) e)) h)

module _ {g : Grammar} {ws : List ℕ} (b : Begins g ws) (u : ℕ) (v : ℤ) (small : u < 64) (four : T (four_bytes v)) where
  carries_is : carries_at ws u ≡ any (eqb u) g.carrying
  carries_is = carrier_word b u small

  abbrev seen : Bool → Bool → Coming
  seen true c = ends
  seen false c = comes (record { kind = u; values = carried c v })

  seen_is : (e : Bool) → seen e (any (eqb u) g.carrying) ≡ comes_if e g u v
  seen_is true = refl
  seen_is false = refl

  -- what the code brings is what comes
  pub comes_is : coming_of u (value_at ws u v) ≡ comes_to g u v
  comes_is = go (eqb u end_number) (any (eqb u) g.carrying) (ap (λ z. value_if z v) carries_is) ∙ seen_is (eqb u end_number)
    where
      go : (e c : Bool) → value_at ws u v ≡ value_if c v → coming_if e u (value_at ws u v) ≡ seen e c
      go true c q = refl
      go false true q = ap (λ z. comes (record { kind = u; values = carried (not (is_mark z)) z })) q ∙ ap (λ z. comes (record { kind = u; values = carried (not z) v })) (not_mark v four)
      go false false q = ap (λ z. comes (record { kind = u; values = carried (not (is_mark z)) z })) q

  pub comes_ahead : IsAhead g (comes_to g u v)
  comes_ahead = go (eqb u end_number)
    where
      go : (e : Bool) → IsAhead g (comes_if e g u v)
      go true = tt
      go false = leaf_of_lem g (record { kind = u; value = v }) four

-- ---- with a limit on the tokens read before, and a bound on what comes next

abbrev pub chosen : Grammar → Lent → ℕ → ℤ → Config → Bool → Bool → Settled
chosen g lent u v c a b = elim a [ true ↦ failed c 35 | false ↦ elim b [ true ↦ advance_from g lent (comes_to g u v) c | false ↦ failed c 20 ] ]

abbrev pub take_look : ℕ → ℕ → Grammar → Lent → ℕ → ℤ → Config → Settled
take_look bound most g lent u v c = chosen g lent u v c (ltb most c.tokens) (ltb u bound)

abbrev pub going_on : Settled → (Config → Settled) → Settled
going_on (failed d k) f = failed d k
going_on (stopped d) f = f d

abbrev pub take_looks : ℕ → ℕ → Grammar → Lent → List Token → Config → Settled
take_looks bound most g lent [] c = stopped c
take_looks bound most g lent (t ∷ ts) c = going_on (take_look bound most g lent t.kind t.value c) (take_looks bound most g lent ts)

-- ---- a list of them

-- kinds and values beside each other
pub tokens_few : (us : List ℕ) (vs : List ℤ) → length (tokens_from us vs) ≤ length us
tokens_few [] vs = omega arith
tokens_few (u ∷ us) [] = omega arith
tokens_few (u ∷ us) (v ∷ vs) = omega (arith, tokens_few us vs)

pub tokens_turn : (us : List ℕ) (vs : List ℤ) (i : ℕ) → length us ≡ length vs → i < length us → drop i (tokens_from us vs) ≡ record { kind = get_or us i 0; value = get_or vs i (pos 0) } ∷ drop (suc i) (tokens_from us vs)
tokens_turn [] vs i e l = absurd (omega arith)
tokens_turn (u ∷ us) [] i e l = absurd (omega arith)
tokens_turn (u ∷ us) (v ∷ vs) zero e l = refl
tokens_turn (u ∷ us) (v ∷ vs) (suc i) e l = tokens_turn us vs i (omega arith) (omega arith)
