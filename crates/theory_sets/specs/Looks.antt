-- What comes next by derivations is a token of the grammar or the end, and a token set has a number of its own for it.
use Rattle.std.specs.Prelude.{ℕ, ◌<◌, ◌≡◌, refl, Bool, true, false, List, ◌∷◌, ◌++◌, T, eqb}
use Rattle.std.proofs.Common.{arith, sym, subst, inl, inr, eqb→eq, ltb→lt, lt→ltb}
use Rattle.meaning.specs.Base.{all}
use Rattle.meaning.specs.Grammar.{Symbol, terminal, nonterminal, Look, token, over, Grammar, production_at, nonterminal_count}
use Rattle.meaning.specs.Derivation.{Derives, itself, step, Listed, First, Follow, Starts, start_form}
use Rattle.meaning.specs.Sets.{end_number, Possible, look_number}
use Rattle.meaning.specs.Rules.{WellFormed}
use Rattle.theory_base.specs.Members.{and, all_append, both}
use Rattle.theory_sets.specs.Tests.{all_left, all_right}
use Rattle.theory_sets.specs.Productions.{known, symbols}

-- ---- what a number stands for

abbrev pub look_if : Bool → ℕ → Look
look_if true u = over
look_if false u = token u

abbrev pub look_of : ℕ → Look
look_of u = look_if (eqb u end_number) u

module _ {g : Grammar} (s : WellFormed g) where
  pub look_back : (l : Look) → Possible g l → look_of (look_number l) ≡ l
  look_back over p = refl
  look_back (token t) p = go (eqb t end_number) (λ h. eqb→eq t end_number h)
    where
      go : (b : Bool) → (T b → t ≡ end_number) → look_if b t ≡ token t
      go true k = let e = k tt in let m = s.terminals.1 in absurd (omega arith)
      go false k = refl

  pub number_fits : (l : Look) → Possible g l → look_number l < 64
  number_fits over p = omega arith
  number_fits (token t) p = let m = s.terminals.1 in omega arith

  -- ---- what derivations lead to

  pub derived_known : {xs ys : List Symbol} → Derives g xs ys → T (all (known g) xs) → T (all (known g) ys)
  derived_known itself t = t
  derived_known (step p b a l d) t =
      let x = nonterminal (production_at g p).left in
      derived_known d (all_append (known g) b ((production_at g p).right ++ a) (all_left (known g) b (x ∷ a) t) (all_append (known g) (production_at g p).right a (symbols s p l) (both (known g x) (all (known g) a) (all_right (known g) b (x ∷ a) t)).1))

  start_known : T (all (known g) (start_form g))
  start_known = and (known g (nonterminal g.start)) true (lt→ltb g.start (nonterminal_count g) s.start) tt

  pub First→possible : (xs : List Symbol) (u : ℕ) → T (all (known g) xs) → First g xs u → Possible g (token u)
  First→possible xs u c d = ltb→lt u g.terminals (both (known g (terminal u)) (all (known g) d.0) (derived_known d.1 c)).0

  pub Follow→possible : (n : ℕ) (l : Look) → Follow g n l → Possible g l
  Follow→possible n over r = tt
  Follow→possible n (token u) r =
      let c = all_right (known g) r.0 (nonterminal n ∷ terminal u ∷ r.1) (derived_known r.2 start_known) in
      ltb→lt u g.terminals (both (known g (terminal u)) (all (known g) r.1) (both (known g (nonterminal n)) (all (known g) (terminal u ∷ r.1)) c).1).0

  pub Starts→possible : (p : ℕ) (l : Look) → Listed g p → Starts g p l → Possible g l
  Starts→possible p over l d = tt
  Starts→possible p (token u) l (inl d) = First→possible (production_at g p).right u (symbols s p l) d
  Starts→possible p (token u) l (inr d) = Follow→possible (production_at g p).left (token u) d.1

  -- what is said of a possible token is said of what its number stands for
  pub by_number : (F : Look → Type 0) (u : ℕ) → Possible g (token u) → F (token u) → F (look_of u)
  by_number F u p f = subst F (sym (look_back (token u) p)) f
