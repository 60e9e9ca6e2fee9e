-- The token at which an open run is refused by 21 is the first impossible one, and what 24 says of the tokens fed. The promises after every list of calls rest on this: proofs/Marked.
use Rattle.std.specs.Prelude.{ℕ, suc, ◌≤◌, ◌<◌, ◌≡◌, refl, Bool, true, false, List, [], ◌∷◌, ◌++◌, map, length, take, ltb, ℤ, pos}
use Rattle.std.proofs.Common.{arith, sym, ap, ap₂, ◌∙◌, subst, append_assoc, append-nil, length-append, take_at, nltb→le}
use Rattle.std.proofs.lemmas.List.{map-append, length-map}
use Rattle.meaning.specs.Grammar.{Grammar, Token, Leaf, leaves}
use Rattle.meaning.specs.Table.{grammar_of}
use Rattle.meaning.specs.Machine.{Config, Lent, comes, Settled, stopped, failed, advance_from, feed_all, finish_all, opening, tokens_limit}
use Rattle.meaning.specs.Calls.{Status, running, waiting, closed, Kind, outer, inner, admitted, turned_back, gate, Record, Stacks, Called, refused, value, lent_of, lay_all, after_finish_value, as_brought, when_fit, tokens_from, stacks_fit, finish_of}
use Rattle.meaning.specs.PublicCalls.{Call, call_of, area_length, Effect, effect, written, check, usable, unusable, performs}
use Rattle.theory_answers.specs.Runs.{Leads, Anything, Fed, fed}
use Rattle.theory_sets.specs.Accepted.{Sane}
use Rattle.theory_sound.specs.CallSound.{finish_is}
use Rattle.theory_sound.specs.Histories.{OpenRun}
use Rattle.theory_sound.specs.ValueSound.{not_value}
use Rattle.meaning_statements.specs.MarkedToken.{kinds, TokenString, Begins, OneStart}
use Rattle.theory_marked.specs.Remaining.{kinds_of}
use Rattle.theory_marked.specs.Prefixes.{Ahead, opening_ahead, ahead_makes, begins}
use Rattle.theory_marked.specs.Following.{Following, opening_follows, follow_makes}
use Rattle.theory_marked.specs.Failing.{FailedAt, failed_at, by_moves, count_kept, never}
use Rattle.meaning.specs.Calls as Calls

-- ---- tokens of given kinds

abbrev with_zero : ℕ → Token
with_zero k = record { kind = k; value = pos 0 }

-- as the grammar sees them, each with 0 for its value
abbrev of_kinds : Grammar → List ℕ → List Leaf
of_kinds g ks = leaves g (map with_zero ks)

kinds_are : (g : Grammar) (ks : List ℕ) → kinds_of (of_kinds g ks) ≡ ks
kinds_are g [] = refl
kinds_are g (k ∷ ks) = ap (λ z. k ∷ z) (kinds_are g ks)

pub kinds_append : (us vs : List Leaf) → kinds_of (us ++ vs) ≡ kinds_of us ++ kinds_of vs
kinds_append us vs = map-append (λ u. u.kind) us vs

kinds_length : (us : List Leaf) → length (kinds_of us) ≡ length us
kinds_length us = length-map us (λ u. u.kind)

-- ---- a configuration that the opening leads to, whatever is to come behind ts

module _ {g : Grammar} (s : Sane g) (lent : Lent) (ts : List Leaf) (c : Config) (leads : Leads g lent Anything ts (opening g) [] c) where
  ahead : Ahead g ts c
  ahead =
      let a = ahead_makes g s.formed lent [] (leads.made [] tt) (opening_ahead g) in
      let e : a.read ≡ ts = sym (append-nil a.read) ∙ (sym a.split ∙ append-nil ts) in
      subst (λ z. Ahead g z c) e a.inv

  pub counted : length ts ≡ c.tokens
  counted = ahead.tokens

  pub first_half : Begins g (kinds_of ts)
  first_half = begins s (kinds_of ts) _ ahead.derived

  pub follows : OneStart g → (us : List Leaf) → TokenString g (kinds_of (ts ++ us)) → Following g us c
  follows one us d = follow_makes s one lent (leads.made us tt) (opening_follows g (ts ++ us) d)

-- ---- the calls on an open run

pub refused_is : {j k n m : ℕ} → refused j n ≡ refused k m → (j ≡ k) × (n ≡ m)
refused_is e = (cc, cc)

module _ {g : Grammar} (s : Sane g) (m₀ : Stacks) (ts : List Leaf) (r : Record) (m : Stacks) (o : OpenRun g m₀ ts r m) where
  few : o.config.tokens ≤ tokens_limit
  few = subst (λ n. n ≤ tokens_limit) o.stop.0.shows.tokens o.stop.2

  -- the run once the tokens before the marked one are fed
  leads_on_lem : (us : List Leaf) (d : Config) → feed_all g (lent_of m₀) us o.config ≡ stopped d → Leads g (lent_of m₀) Anything (ts ++ us) (opening g) [] d
  leads_on_lem us d q = (subst (Fed g (lent_of m₀) (opening g) (ts ++ us)) q (fed g (lent_of m₀) (opening g) us ts o.config o.leads o.stop.1 few)).0

  -- a feed refused 21 after its moves: the token at hand, and what was read before it
  pub record MarkedAt (us : List Leaf) (n : ℕ) : Type 0 where
    pub inside : n < length (kinds_of (ts ++ us))
    pub begins : Begins g (take n (kinds_of (ts ++ us)))
    pub none : OneStart g → Begins g (take (suc n) (kinds_of (ts ++ us))) → ⊥

  pub marked_at : (us : List Leaf) (e : Config) → feed_all g (lent_of m₀) us o.config ≡ failed e 21 → MarkedAt us e.tokens
  marked_at us e h = record {
    inside = omega (arith, kinds_length (ts ++ us), ap length joined, length-append xs (t ∷ f.after), size);
    begins = subst (Begins g) (sym first) (first_half s (lent_of m₀) xs d leads);
    none = λ one b. impossible one (subst (Begins g) second b);
  }
    where
      f : FailedAt g (lent_of m₀) us o.config e 21
      f = failed_at g (lent_of m₀) us o.config e 21 h

      t : Leaf
      t = f.marked

      d : Config
      d = f.config

      xs : List Leaf
      xs = ts ++ f.before

      joined : ts ++ us ≡ xs ++ (t ∷ f.after)
      joined = ap (λ z. ts ++ z) f.whole ∙ sym (append_assoc ts f.before (t ∷ f.after))

      leads : Leads g (lent_of m₀) Anything xs (opening g) [] d
      leads = leads_on_lem f.before d f.fed

      moves : advance_from g (lent_of m₀) (comes t) d ≡ failed e 21
      moves = by_moves g (lent_of m₀) t d e f.fails

      size : length xs ≡ e.tokens
      size = counted s (lent_of m₀) xs d leads ∙ sym (count_kept g (lent_of m₀) t d e moves)

      apart : kinds_of (ts ++ us) ≡ kinds_of xs ++ (t.kind ∷ kinds_of f.after)
      apart = ap kinds_of joined ∙ kinds_append xs (t ∷ f.after)

      first : take e.tokens (kinds_of (ts ++ us)) ≡ kinds_of xs
      first = ap (λ z. take e.tokens z) apart ∙ take_at (kinds_of xs) (t.kind ∷ kinds_of f.after) e.tokens (kinds_length xs ∙ size)

      second : take (suc e.tokens) (kinds_of (ts ++ us)) ≡ kinds_of xs ++ (t.kind ∷ [])
      second =
          ap (λ z. take (suc e.tokens) z) (apart ∙ sym (append_assoc (kinds_of xs) (t.kind ∷ []) (kinds_of f.after)))
          ∙ take_at (kinds_of xs ++ (t.kind ∷ [])) (kinds_of f.after) (suc e.tokens) (length-append (kinds_of xs) (t.kind ∷ []) ∙ omega (arith, kinds_length xs, size))

      impossible : OneStart g → Begins g (kinds_of xs ++ (t.kind ∷ [])) → ⊥
      impossible one b =
          let vs : List Leaf = t ∷ of_kinds g b.0 in
          let same : (kinds_of xs ++ (t.kind ∷ [])) ++ b.0 ≡ kinds_of (xs ++ vs) = append_assoc (kinds_of xs) (t.kind ∷ []) b.0 ∙ (ap (λ z. kinds_of xs ++ (t.kind ∷ z)) (sym (kinds_are g b.0)) ∙ sym (kinds_append xs vs)) in
          never s one (lent_of m₀) vs d.tokens d e refl (follows s (lent_of m₀) xs d leads one vs (subst (TokenString g) same b.1)) moves

  pub finish_begins : Begins g (kinds_of ts)
  finish_begins = first_half s (lent_of m₀) ts o.config o.leads

  pub finish_none : (n : ℕ) → (finish_of g r m).answer ≡ refused 24 n → OneStart g → TokenString g (kinds_of ts) → ⊥
  finish_none n h one k =
      let c : Config = o.config in
      let e : finish_of g r m ≡ after_finish_value g (lay_all g c m₀) (finish_all g (lent_of m₀) c) = ap₂ (λ a b. finish_of g a b) o.is_record o.is_stacks ∙ finish_is g s.formed m₀ ts c o.stop in
      go (finish_all g (lent_of m₀) c) refl (sym (ap (λ z. z.answer) e) ∙ h)
    where
      go : (k : Settled) → finish_all g (lent_of m₀) o.config ≡ k → (after_finish_value g (lay_all g o.config m₀) k).answer ≡ refused 24 n → ⊥
      go (stopped d) q h = not_value (sym h)
      go (failed d j) q h =
          let f = follows s (lent_of m₀) ts o.config o.leads one [] (subst (λ z. TokenString g (kinds_of z)) (sym (append-nil ts)) k) in
          never s one (lent_of m₀) [] o.config.tokens o.config d refl f (q ∙ ap (failed d) (refused_is h).0)

-- ---- any run, any area

-- lists of unequal length answer 33, 40, 34 or 38
pub uneven_no : (g : Grammar) (r : Record) (m : Stacks) (n : ℕ) → (when_fit g r m (as_brought (refused 38 0) r m)).answer ≡ refused 21 n → ⊥
uneven_no g r m n h = go r.status r.kind (stacks_fit g r m) h
  where
    go : (s : Status) (k : Kind) (f : Bool) → (elim (gate 34 s k) as (λ x. Called) [ turned_back j ↦ as_brought (refused j 0) r m | admitted ↦ elim f as (λ x. Called) [ false ↦ as_brought (refused 34 0) r m | true ↦ as_brought (refused 38 0) r m ] ]).answer ≡ refused 21 n → ⊥
    go closed k f h = absurd (omega (arith, (refused_is h).0))
    go waiting outer f h = absurd (omega (arith, (refused_is h).0))
    go waiting (inner a b) f h = absurd (omega (arith, (refused_is h).0))
    go running (inner a b) f h = absurd (omega (arith, (refused_is h).0))
    go running outer false h = absurd (omega (arith, (refused_is h).0))
    go running outer true h = absurd (omega (arith, (refused_is h).0))

pub kinds_of_tokens : (g : Grammar) (ts : List Token) → kinds_of (leaves g ts) ≡ kinds ts
kinds_of_tokens g [] = refl
kinds_of_tokens g (t ∷ ts) = ap (λ z. t.kind ∷ z) (kinds_of_tokens g ts)

pub kinds_of_feed : (g : Grammar) (ks : List ℕ) (vs : List ℤ) → length ks ≡ length vs → kinds_of (leaves g (tokens_from ks vs)) ≡ ks
kinds_of_feed g [] vs e = refl
kinds_of_feed g (k ∷ ks) [] e = absurd (omega (arith, e))
kinds_of_feed g (k ∷ ks) (v ∷ vs) e = ap (λ z. k ∷ z) (kinds_of_feed g ks vs (omega (arith, e)))

-- a short area answers 30
pub long_area : (program : Grammar → List ℕ) (bs area : List ℕ) (r : Record) (m : Stacks) (c : Call) (k n : ℕ) → (performs program bs area r m c).answer ≡ refused k n → (k ≡ 30 → ⊥) → area_length ≤ length area
long_area program bs area r m c k n h other = go (ltb (length area) area_length) refl h
  where
    go : (b : Bool) → ltb (length area) area_length ≡ b → (elim b as (λ z. Effect) [
      | true ↦ effect (as_brought (refused 30 0) r m) area
      | false ↦ elim (check bs) as (λ z. Effect) [ unusable j o ↦ effect (as_brought (Calls.table_refused j o) r m) area | usable st ↦ effect (call_of (grammar_of st) r m c) (written (program (grammar_of st)) area) ]
    ]).answer ≡ refused k n → area_length ≤ length area
    go true e h = absurd (other (sym (refused_is h).0))
    go false e h = nltb→le (length area) area_length (rw e tt)
