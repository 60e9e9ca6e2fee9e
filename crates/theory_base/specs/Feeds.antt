-- A feed as its grammar sees it: kinds and values of equal number are leaves, each with the values that its terminal has.
use Rattle.std.specs.Prelude.{ℕ, suc, ◌≤◌, ◌≡◌, refl, Bool, true, false, ◌&&◌, List, [], ◌∷◌, ◌++◌, length, T, eqb, ℤ, pos, negsuc, nat_abs}
use Rattle.std.proofs.Common.{arith, ap, leb→le, le→leb, ne_eqb, eq-eqb, SFits}
use Rattle.std.specs.Int.Signed.{le_z}
use Rattle.std.specs.Int.{w32}
use Rattle.meaning.specs.Base.{all, any}
use Rattle.meaning.specs.Grammar.{Grammar, Token, Leaf, attribute_if, carried, leaf_of, leaves}
use Rattle.meaning.specs.Rules.{four_bytes}
use Rattle.meaning.specs.Value.{in_range, lowest, highest}
use Rattle.meaning.specs.Machine.{feed_all}
use Rattle.meaning.specs.Tree.{is_leaf_of}
use Rattle.meaning.specs.Calls.{Record, Stacks, Called, refused, lent_of, config_of, after_feed, when_fit, when_even, tokens_from, feed_of, as_brought}
use Rattle.theory_base.specs.Members.{both, and}

-- a feed of leaves
abbrev pub feed_leaves : Grammar → Record → Stacks → List Leaf → Called
feed_leaves g r m us = let called = after_feed g m (feed_all g (lent_of m) us (config_of g r m)) in when_fit g r m called

-- lists of equal length are a feed of leaves
pub even_feed : (g : Grammar) (r : Record) (m : Stacks) (ks : List ℕ) (vs : List ℤ) → length ks ≡ length vs → feed_of g r m ks vs ≡ feed_leaves g r m (leaves g (tokens_from ks vs))
even_feed g r m ks vs e = ap (λ b. when_fit g r m (when_even b r m (after_feed g m (feed_all g (lent_of m) (leaves g (tokens_from ks vs)) (config_of g r m))))) (eq-eqb (length ks) (length vs) e)

pub uneven_feed : (g : Grammar) (r : Record) (m : Stacks) (ks : List ℕ) (vs : List ℤ) → (length ks ≡ length vs → ⊥) → feed_of g r m ks vs ≡ when_fit g r m (as_brought (refused 38 0) r m)
uneven_feed g r m ks vs e = ap (λ b. when_fit g r m (when_even b r m (after_feed g m (feed_all g (lent_of m) (leaves g (tokens_from ks vs)) (config_of g r m))))) (ne_eqb (length ks) (length vs) e)

-- ---- leaves

pub leaves_append : (g : Grammar) (ts us : List Token) → leaves g (ts ++ us) ≡ leaves g ts ++ leaves g us
leaves_append g [] us = refl
leaves_append g (t ∷ ts) us = ap (λ r. leaf_of g t ∷ r) (leaves_append g ts us)

pub leaves_length : (g : Grammar) (ts : List Token) → length (leaves g ts) ≡ length ts
leaves_length g [] = refl
leaves_length g (t ∷ ts) = ap suc (leaves_length g ts)

-- a signed 32-bit value has four bytes
pub four_of : (v : ℤ) → SFits w32 v → T (four_bytes v)
four_of (pos n) f = le→leb n 2147483647 (omega (arith, f.sfits))
four_of (negsuc n) f = and (le_z (negsuc 2147483647) (negsuc n)) true (le→leb n 2147483647 (omega (arith, f.sfits))) tt

-- four bytes are in range
pub four_ranged : (v : ℤ) → T (four_bytes v) → T (in_range v)
four_ranged (pos n) t = le→leb n (nat_abs highest) (let l = leb→le n 2147483647 t in omega arith)
four_ranged (negsuc n) t = and (le_z lowest (negsuc n)) true (le→leb n 999999999999 (let l = leb→le n 2147483647 (both (le_z (negsuc 2147483647) (negsuc n)) true t).0 in omega arith)) tt

-- a terminal has at most one attribute
pub attribute_most : (b : Bool) → attribute_if b ≤ 1
attribute_most true = omega arith
attribute_most false = omega arith

-- a leaf whose value is in range is one of its terminal
pub carried_leaf : (b : Bool) (v : ℤ) → T (in_range v) → T (eqb (length (carried b v)) (attribute_if b) && all in_range (carried b v))
carried_leaf true v h = and (in_range v) true h tt
carried_leaf false v h = tt

pub leaf_of_lem : (g : Grammar) (t : Token) → T (four_bytes t.value) → T (is_leaf_of g (leaf_of g t))
leaf_of_lem g t h = carried_leaf (any (eqb t.kind) g.carrying) t.value (four_ranged t.value h)

-- the leaves of signed 32-bit values
pub leaves_of : (g : Grammar) (ks : List ℕ) (vs : List ℤ) → T (all four_bytes vs) → T (all (is_leaf_of g) (leaves g (tokens_from ks vs)))
leaves_of g [] vs h = tt
leaves_of g (k ∷ ks) [] h = tt
leaves_of g (k ∷ ks) (v ∷ vs) h =
    let b = both (four_bytes v) (all four_bytes vs) h in
    and (is_leaf_of g (leaf_of g (record { kind = k; value = v }))) (all (is_leaf_of g) (leaves g (tokens_from ks vs))) (leaf_of_lem g (record { kind = k; value = v }) b.0) (leaves_of g ks vs b.1)
