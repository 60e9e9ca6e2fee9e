-- The promises' premises are met: words and tags without its entry condition, words and tags itself, whose sets never meet, and a table whose entry conditions choose, for which the promise fails. The 21s and the 24 that they give: proofs/MarkedRows.
use Rattle.std.specs.Prelude.{ℕ, zero, suc, ◌≤◌, ◌≡◌, refl, Bool, true, false, ◌&&◌, ◌||◌, not, List, [], ◌∷◌, map, length, replicate, T, eqb, ℤ, pos}
use Rattle.std.proofs.Common.{arith, sym, ap, ◌∙◌, subst, eqb→eq}
use Rattle.std.proofs.Math.Dec.{eqb_refl}
use Rattle.meaning.specs.Base.{all, count_from}
use Rattle.meaning.specs.Grammar.{Grammar, Symbol, terminal, nonterminal, const, range, production_at}
use Rattle.meaning.specs.Examples.WordsAndTags.{occ, rule, words, p0, p1, p2, p3}
use Rattle.meaning.specs.Value.{mark}
use Rattle.meaning.specs.Table.{State, Read, well_formed, malformed, read_table, nothing_read}
use Rattle.meaning.specs.Examples.TableRows.{bytes}
use Rattle.meaning.specs.Derivation.{itself, step}
use Rattle.meaning.specs.Sets.{starts, look_number}
use Rattle.meaning.specs.Decide.{meet}
use Rattle.meaning.specs.Judgement.{accepted, Accepted}
use Rattle.meaning.specs.Calls.{is_open, Stacks, Called, more, refused, open_of}
use Rattle.meaning.specs.PublicCalls.{Call, feed, finish, call_of, area_length, written, Effect, effect, opens, performs}
use Rattle.meaning_statements.specs.CallStatements.{Lendable, Even, tokens_of}
use Rattle.meaning_statements.specs.Statements.{History, opened, fed}
use Rattle.meaning_statements.specs.MarkedToken.{TokenString, Begins, Unconditional, OneStart, MarkedWhere}
use Rattle.theory_base.specs.Members.{in_from, all_in}
use Rattle.theory_sets.specs.Accepted.{Sane, judged_is, accepted_sane}
use Rattle.theory_sets.specs.Clashes.{meet_at}
use Rattle.theory_sets.specs.StartSets.{Starts→starts}
use Rattle.theory_demands.specs.ByGrammar.{opens_is, performs_is}

-- ---- sets that never meet, by a test

abbrev apart_at : Grammar → ℕ → ℕ → Bool
apart_at g p q = eqb p q || not (eqb (production_at g p).left (production_at g q).left && meet (starts g (production_at g p)) (starts g (production_at g q)))

abbrev apart : Grammar → Bool
apart g = all (λ p. all (apart_at g p) (count_from 0 (length g.productions))) (count_from 0 (length g.productions))

one_start : (g : Grammar) → Sane g → T (apart g) → OneStart g
one_start g s t l p q lp lq e a b =
    let n : ℕ = length g.productions in
    let u : T (apart_at g p q) = all_in (apart_at g p) (count_from 0 n) (all_in (λ i. all (apart_at g i) (count_from 0 n)) (count_from 0 n) t p (in_from 0 n p (omega arith) (omega (arith, lp)))) q (in_from 0 n q (omega arith) (omega (arith, lq))) in
    let m = meet_at (starts g (production_at g p)) (starts g (production_at g q)) (look_number l) (Starts→starts s.formed p l lp a) (Starts→starts s.formed q l lq b) in
    go (eqb p q) refl (eqb (production_at g p).left (production_at g q).left) (rw e (eqb_refl (production_at g q).left)) (meet (starts g (production_at g p)) (starts g (production_at g q))) m u
  where
    go : (i : Bool) → eqb p q ≡ i → (j : Bool) → T j → (k : Bool) → T k → T (i || not (j && k)) → p ≡ q
    go true h j x k y z = eqb→eq p q (subst T (sym h) tt)
    go false h true x true y z = absurd z
    go false h true x false y z = absurd y
    go false h false x k y z = absurd x

-- ---- a run of a table

state_of : Read → State
state_of (well_formed s) = s
state_of (malformed n o) = nothing_read

abbrev pub lent : Stacks
lent = record { registers = replicate 20 mark; places = replicate 9 0 }

-- kinds, with 0 for every value
abbrev pub zeros : List ℕ → List ℤ
zeros ks = map (λ k. pos 0) ks

abbrev pub feed_kinds : List ℕ → Call
feed_kinds ks = feed ks (zeros ks)

module _ (bs : List ℕ) (g : Grammar) (a : Accepted bs g) (program : Grammar → List ℕ) (area : List ℕ) (l : area_length ≤ length area) where
  abbrev pub start : Effect
  start = opens program bs area lent

  starts_by : start ≡ effect (open_of g lent) (written (program g) area)
  starts_by = opens_is program bs g a area lent l

  abbrev pub call : Call → Effect
  call c = performs program bs area start.state start.stacks c

  pub call_by : (c : Call) → call c ≡ effect (call_of g (open_of g lent).state (open_of g lent).stacks c) (written (program g) area)
  call_by c = ap (λ z. performs program bs area z.state z.stacks c) starts_by ∙ performs_is program bs g a area (open_of g lent).state (open_of g lent).stacks c l

  abbrev last : List ℕ → Called
  last ks = call_of g (open_of g lent).state (open_of g lent).stacks (feed_kinds ks)

  -- a finish behind one feed
  pub finish_by : (ks : List ℕ) → performs program bs area (call (feed_kinds ks)).state (call (feed_kinds ks)).stacks finish ≡ effect (call_of g (last ks).state (last ks).stacks finish) (written (program g) area)
  finish_by ks = ap (λ z. performs program bs area z.state z.stacks finish) (call_by (feed_kinds ks)) ∙ performs_is program bs g a area (last ks).state (last ks).stacks finish l

  pub begun : (open_of g lent).answer ≡ more 0 → History program bs lent [] false start.state start.stacks
  begun e = opened area (ap (λ z. z.answer) starts_by ∙ e)

  pub onward : (open_of g lent).answer ≡ more 0 → is_open (open_of g lent).state ≡ true → (ks : List ℕ) → Lendable (feed_kinds ks) → Even (feed_kinds ks) → History program bs lent (tokens_of (feed_kinds ks)) false (call (feed_kinds ks)).state (call (feed_kinds ks)).stacks
  onward e o ks t even = fed area ks (zeros ks) t even (begun e) l (ap (λ z. is_open z.state) starts_by ∙ o)

-- ---- words and tags without its entry condition

abbrev pub plain : Grammar
plain = record { terminals = 3; counts = words.counts; carrying = []; start = 0; result = 1; productions = p0 ∷ p1 ∷ record { left = 1; right = p2.right; rules = p2.rules; conditions = [] } ∷ p3 ∷ [] }

unfoldable pub plain_table : List ℕ
plain_table =
    1 ∷ 0 ∷ 4 ∷ 3 ∷ 2 ∷ 0 ∷ 1
    ∷ 2 ∷ 0 ∷ 2 ∷ 0 ∷ 1
    ∷ 2 ∷ 0 ∷ 2 ∷ 1 ∷ 1
    ∷ 3 ∷ 0 ∷ 3 ∷ 0 ∷ 1 ∷ 129
    ∷ 4 ∷ 0 ∷ 7 ∷ 1 ∷ 1 ∷ 0 ∷ 0 ∷ 0 ∷ 0 ∷ 0
    ∷ 4 ∷ 0 ∷ 5 ∷ 0 ∷ 1 ∷ 1 ∷ 1 ∷ 2
    ∷ 3 ∷ 0 ∷ 4 ∷ 1 ∷ 2 ∷ 0 ∷ 129
    ∷ 4 ∷ 0 ∷ 5 ∷ 2 ∷ 1 ∷ 1 ∷ 0 ∷ 1
    ∷ 4 ∷ 0 ∷ 9 ∷ 0 ∷ 2 ∷ 7 ∷ 2 ∷ 2 ∷ 0 ∷ 0 ∷ 0 ∷ 1
    ∷ 3 ∷ 0 ∷ 6 ∷ 1 ∷ 4 ∷ 1 ∷ 129 ∷ 2 ∷ 129
    ∷ 4 ∷ 0 ∷ 9 ∷ 2 ∷ 1 ∷ 7 ∷ 0 ∷ 1 ∷ 0 ∷ 0 ∷ 0 ∷ 1
    ∷ 4 ∷ 0 ∷ 5 ∷ 4 ∷ 1 ∷ 1 ∷ 0 ∷ 1
    ∷ 4 ∷ 0 ∷ 7 ∷ 0 ∷ 2 ∷ 2 ∷ 2 ∷ 2 ∷ 4 ∷ 2
    ∷ 3 ∷ 0 ∷ 2 ∷ 1 ∷ 0
    ∷ 4 ∷ 0 ∷ 7 ∷ 0 ∷ 2 ∷ 0 ∷ 0 ∷ 0 ∷ 0 ∷ 0
    ∷ []

pub plain_accepted : Accepted plain_table plain
unfolding plain_table state_of
plain_accepted = record { state = state_of (read_table plain_table); is_read = refl; is_grammar = refl; judged = (judged_is plain_table accepted).1 refl }

pub no_entries : Unconditional plain
no_entries zero l = refl
no_entries (suc zero) l = refl
no_entries (suc (suc zero)) l = refl
no_entries (suc (suc (suc zero))) l = refl
no_entries (suc (suc (suc (suc p)))) l = absurd (omega arith)

-- ---- words and tags itself: it has an entry condition, and its sets never meet

pub words_accepted : Accepted bytes words
unfolding bytes state_of
words_accepted = record { state = state_of (read_table bytes); is_read = refl; is_grammar = refl; judged = (judged_is bytes accepted).1 refl }

pub words_apart : OneStart words
words_apart = one_start words (accepted_sane bytes words words_accepted) tt

-- ---- entry conditions that choose between alternatives of one token: L to a b where d is 0, to a c where d is 1; S enters it with d = 0

abbrev chosen : Grammar
chosen = record {
  terminals = 3;
  counts = words.counts;
  carrying = [];
  start = 0;
  result = 1;
  productions =
      p0
      ∷ record { left = 1; right = terminal 0 ∷ terminal 1 ∷ []; rules = rule (occ 0 2) (const (pos 0)) ∷ []; conditions = range (occ 0 1) (pos 0) (pos 0) ∷ [] }
      ∷ record { left = 1; right = terminal 0 ∷ terminal 2 ∷ []; rules = rule (occ 0 2) (const (pos 0)) ∷ []; conditions = range (occ 0 1) (pos 1) (pos 1) ∷ [] }
      ∷ [];
}

unfoldable chosen_table : List ℕ
chosen_table =
    1 ∷ 0 ∷ 4 ∷ 3 ∷ 2 ∷ 0 ∷ 1
    ∷ 2 ∷ 0 ∷ 2 ∷ 0 ∷ 1
    ∷ 2 ∷ 0 ∷ 2 ∷ 1 ∷ 1
    ∷ 3 ∷ 0 ∷ 3 ∷ 0 ∷ 1 ∷ 129
    ∷ 4 ∷ 0 ∷ 7 ∷ 1 ∷ 1 ∷ 0 ∷ 0 ∷ 0 ∷ 0 ∷ 0
    ∷ 4 ∷ 0 ∷ 5 ∷ 0 ∷ 1 ∷ 1 ∷ 1 ∷ 2
    ∷ 3 ∷ 0 ∷ 4 ∷ 1 ∷ 2 ∷ 0 ∷ 1
    ∷ 4 ∷ 0 ∷ 7 ∷ 0 ∷ 2 ∷ 0 ∷ 0 ∷ 0 ∷ 0 ∷ 0
    ∷ 5 ∷ 0 ∷ 11 ∷ 0 ∷ 0 ∷ 1 ∷ 0 ∷ 0 ∷ 0 ∷ 0 ∷ 0 ∷ 0 ∷ 0 ∷ 0
    ∷ 3 ∷ 0 ∷ 4 ∷ 1 ∷ 2 ∷ 0 ∷ 2
    ∷ 4 ∷ 0 ∷ 7 ∷ 0 ∷ 2 ∷ 0 ∷ 0 ∷ 0 ∷ 0 ∷ 0
    ∷ 5 ∷ 0 ∷ 11 ∷ 0 ∷ 0 ∷ 1 ∷ 0 ∷ 0 ∷ 0 ∷ 1 ∷ 0 ∷ 0 ∷ 0 ∷ 1
    ∷ []

chosen_accepted : Accepted chosen_table chosen
unfolding chosen_table state_of
chosen_accepted = record { state = state_of (read_table chosen_table); is_read = refl; is_grammar = refl; judged = (judged_is chosen_table accepted).1 refl }

-- a c is a token string, but c after a is a 21: without its premise the promise is false
premise_needed : (program : Grammar → List ℕ) (area : List ℕ) → area_length ≤ length area → MarkedWhere (λ g. Unit {0}) → ⊥
premise_needed program area l claim =
    let e = start chosen_table chosen chosen_accepted program area l in
    let c = claim program chosen_table area chosen lent [] false e.state e.stacks chosen_accepted tt (begun chosen_table chosen chosen_accepted program area l refl) in
    let v = c.0 (0 ∷ 2 ∷ []) (zeros (0 ∷ 2 ∷ [])) 1 (ap (λ z. z.answer) (call_by chosen_table chosen chosen_accepted program area l (feed_kinds (0 ∷ 2 ∷ [])))) in
    v.2 ([], step 0 [] [] (omega arith) (step 2 [] [] (omega arith) itself))

-- a 22 marks a token that can stand there, conditions aside: the fourth open
abbrev T1 : Symbol
T1 = terminal 1

abbrev T2 : Symbol
T2 = terminal 2

abbrev L : Symbol
L = nonterminal 1

module _ (program : Grammar → List ℕ) (area : List ℕ) (l : area_length ≤ length area) where
  fourth_open_lem : ((call bytes words words_accepted program area l (feed_kinds (1 ∷ 1 ∷ 1 ∷ 1 ∷ []))).answer ≡ refused 22 3) × Begins words (1 ∷ 1 ∷ 1 ∷ 1 ∷ [])
  fourth_open_lem = (ap (λ z. z.answer) (call_by bytes words words_accepted program area l (feed_kinds (1 ∷ 1 ∷ 1 ∷ 1 ∷ []))), (2 ∷ 2 ∷ 2 ∷ 2 ∷ [], nested))
    where
      nested : TokenString words (1 ∷ 1 ∷ 1 ∷ 1 ∷ 2 ∷ 2 ∷ 2 ∷ 2 ∷ [])
      nested =
          step 0 [] [] (omega arith)
          (step 2 [] [] (omega arith)
          (step 2 (T1 ∷ []) (T2 ∷ L ∷ []) (omega arith)
          (step 2 (T1 ∷ T1 ∷ []) (T2 ∷ L ∷ T2 ∷ L ∷ []) (omega arith)
          (step 2 (T1 ∷ T1 ∷ T1 ∷ []) (T2 ∷ L ∷ T2 ∷ L ∷ T2 ∷ L ∷ []) (omega arith)
          (step 3 (T1 ∷ T1 ∷ T1 ∷ T1 ∷ []) (T2 ∷ L ∷ T2 ∷ L ∷ T2 ∷ L ∷ T2 ∷ L ∷ []) (omega arith)
          (step 3 (T1 ∷ T1 ∷ T1 ∷ T1 ∷ T2 ∷ []) (T2 ∷ L ∷ T2 ∷ L ∷ T2 ∷ L ∷ []) (omega arith)
          (step 3 (T1 ∷ T1 ∷ T1 ∷ T1 ∷ T2 ∷ T2 ∷ []) (T2 ∷ L ∷ T2 ∷ L ∷ []) (omega arith)
          (step 3 (T1 ∷ T1 ∷ T1 ∷ T1 ∷ T2 ∷ T2 ∷ T2 ∷ []) (T2 ∷ L ∷ []) (omega arith)
          (step 3 (T1 ∷ T1 ∷ T1 ∷ T1 ∷ T2 ∷ T2 ∷ T2 ∷ T2 ∷ []) [] (omega arith) itself)))))))))
