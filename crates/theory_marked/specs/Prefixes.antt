-- Whatever was read, with what is still expected behind it, is derived from the start symbol. Every nonterminal derives a token string, so what was read begins one.
use Rattle.std.specs.Prelude.{ℕ, ◌≡◌, refl, ◌⊎◌, List, [], ◌∷◌, ◌++◌, map, length, T}
use Rattle.std.proofs.Common.{arith, sym, ap, ◌∙◌, subst, inl, inr, append_assoc, append-nil, length-append, ltb→lt, lt→ltb}
use Rattle.std.proofs.lemmas.List.{map-append}
use Rattle.meaning.specs.Base.{all}
use Rattle.meaning.specs.Grammar.{Symbol, terminal, nonterminal, Grammar, nonterminal_count, Leaf}
use Rattle.meaning.specs.Derivation.{Derives, itself, step, start_form}
use Rattle.meaning.specs.Machine.{Config, Lent, Coming, comes, moved, next, look_at, opening}
use Rattle.meaning.specs.Walk.{Act, Makes, nothing, and_then}
use Rattle.meaning.specs.Rules.{WellFormed}
use Rattle.theory_base.specs.Members.{and, both}
use Rattle.theory_sets.specs.Accepted.{Sane}
use Rattle.theory_sets.specs.Derivations.{joined, before, beside}
use Rattle.theory_sets.specs.Looks.{derived_known}
use Rattle.theory_sets.specs.Productions.{known}
use Rattle.theory_sets.specs.Tests.{all_right}
use Rattle.theory_sound.specs.KeptByCalls.{Kept, Along, kept_on}
use Rattle.meaning_statements.specs.MarkedToken.{Begins}
use Rattle.theory_marked.specs.Remaining.{kinds_of, remaining, Passes, stays, reads, predicts, passes}

-- ---- what is derived begins a token string

module _ {g : Grammar} (s : Sane g) where
  speaks : (xs : List Symbol) → T (all (known g) xs) → (us : List ℕ) × Derives g xs (map terminal us)
  speaks [] k = ([], itself)
  speaks (terminal t ∷ xs) k = let v = speaks xs (both (known g (terminal t)) (all (known g) xs) k).1 in (t ∷ v.0, before (terminal t ∷ []) v.1)
  speaks (nonterminal n ∷ xs) k =
      let c = both (known g (nonterminal n)) (all (known g) xs) k in
      let u = (s.useful n (ltb→lt n (nonterminal_count g) c.0)).1 in
      let v = speaks xs c.1 in
      (u.0 ++ v.0, subst (λ z. Derives g (nonterminal n ∷ xs) z) (sym (map-append terminal u.0 v.0)) (beside u.1 v.1))

  start_known : T (all (known g) (start_form g))
  start_known = and (known g (nonterminal g.start)) (all (known g) []) (lt→ltb g.start (nonterminal_count g) s.formed.start) tt

  pub begins : (ts : List ℕ) (xs : List Symbol) → Derives g (start_form g) (map terminal ts ++ xs) → Begins g ts
  begins ts xs d =
      let v = speaks xs (all_right (known g) (map terminal ts) xs (derived_known s.formed d start_known)) in
      (v.0, subst (λ z. Derives g (start_form g) z) (sym (map-append terminal ts v.0)) (joined d (before (map terminal ts) v.1)))

-- ---- moves

-- ts were read
pub record Ahead (g : Grammar) (ts : List Leaf) (c : Config) : Type 0 where
  pub derived : Derives g (start_form g) (map terminal (kinds_of ts) ++ remaining c.frames)
  pub tokens : length ts ≡ c.tokens

pub opening_ahead : (g : Grammar) → Ahead g [] (opening g)
opening_ahead g = record { derived = itself; tokens = refl }

abbrev Onward : Grammar → Coming → List Leaf → ℕ → List Symbol → ℕ → Type 0
Onward g l ts n ys m =
    (Derives g (start_form g) (map terminal (kinds_of ts) ++ ys) × (length ts ≡ m) × (n ≡ m))
    ⊎ ((t : Leaf) × (l ≡ comes t) × Derives g (start_form g) (map terminal (kinds_of (ts ++ (t ∷ []))) ++ ys) × (length (ts ++ (t ∷ [])) ≡ m))

onward : {g : Grammar} {l : Coming} {xs ys : List Symbol} {n m : ℕ} (ts : List Leaf) → Passes g l xs n ys m → Derives g (start_form g) (map terminal (kinds_of ts) ++ xs) → length ts ≡ n → Onward g l ts n ys m
onward ts stays d e = inl (d, e, refl)
onward {g} ts (reads t {xs} {n} h) d e =
    let k : map terminal (kinds_of ts) ++ (terminal t.kind ∷ []) ≡ map terminal (kinds_of (ts ++ (t ∷ []))) = sym (map-append terminal (kinds_of ts) (t.kind ∷ [])) ∙ ap (map terminal) (sym (map-append (λ u. u.kind) ts (t ∷ []))) in
    let j : map terminal (kinds_of ts) ++ (terminal t.kind ∷ xs) ≡ map terminal (kinds_of (ts ++ (t ∷ []))) ++ xs = sym (append_assoc (map terminal (kinds_of ts)) (terminal t.kind ∷ []) xs) ∙ ap (λ z. z ++ xs) k in
    inr (t, h, subst (λ z. Derives g (start_form g) z) j d, length-append ts (t ∷ []) ∙ omega (arith, e))
onward ts (predicts p {xs} l h) d e = inl (joined d (step p (map terminal (kinds_of ts)) xs l itself), e, refl)

pub ahead_move : (g : Grammar) → WellFormed g → (lent : Lent) (l : Coming) (ts : List Leaf) (c d : Config) → Ahead g ts c → next g lent l c ≡ moved d → Kept (Ahead g) l ts c d
ahead_move g w lent l ts c d a h = go (onward ts (passes g w lent l c d h) a.derived a.tokens)
  where
    go : Onward g l ts c.tokens (remaining d.frames) d.tokens → Kept (Ahead g) l ts c d
    go (inl v) = inl (record { derived = v.0; tokens = v.1 }, v.2)
    go (inr v) = inr (v.0, v.1, record { derived = v.2; tokens = v.3 })

-- with us to come, none of them known but by its kind
pub ahead_makes : (g : Grammar) → WellFormed g → (lent : Lent) (ts : List Leaf) {us vs : List Leaf} {c d : Config} {ws : List Act} → Makes g lent us c ws vs d → Ahead g ts c → Along (Ahead g) ts us vs d
ahead_makes g w lent ts {us} {c = c} m a = go m
  where
    go : {vs : List Leaf} {d : Config} {ws : List Act} → Makes g lent us c ws vs d → Along (Ahead g) ts us vs d
    go nothing = record { read = []; split = refl; inv = rw append-nil a }
    go (and_then {vs = vs} {d = d} p i is fs e m f h) = let r = go m in kept_on (Ahead g) (λ zs x k. k.tokens) ts us vs d e r (ahead_move g w lent (look_at vs) (ts ++ r.read) d e r.inv h)
