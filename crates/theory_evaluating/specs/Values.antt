-- Demand 2 for each candidate, and what entries in candidate order say.
use Rattle.std.specs.Prelude.{ℕ, suc, ◌+◌, ◌≤◌, ◌<◌, ◌≡◌, refl, ◌↔◌, ◌⊎◌, true, List, [], ◌∷◌, ◌++◌, length, replicate, T, ℤ, pos}
use Rattle.std.proofs.Common.{arith, sym, ap, ◌∙◌, subst, inl, inr}
use Rattle.std.proofs.Math.Decide.{dec_lt}
use Rattle.std.proofs.lemmas.List.{length-replicate}
use Rattle.meaning.specs.Base.{In, all}
use Rattle.meaning.specs.Grammar.{Grammar, leaves}
use Rattle.meaning.specs.Rules.{four_bytes, WellFormed}
use Rattle.meaning.specs.Judgement.{Accepted}
use Rattle.meaning.specs.Machine.{Settled, stopped, failed, opening, feed_all}
use Rattle.meaning.specs.Tree.{Tree, TreeOf, value_of}
use Rattle.meaning.specs.Walk.{walk}
use Rattle.meaning.specs.Drawn.{WalkFits}
use Rattle.meaning.specs.Calls as Calls
use Rattle.meaning.specs.Calls.{Stacks, Answer, Called, lent_of, lay_all, record_of, closed_record, as_brought, refused, tokens_from, after_feed, open_of, feed_of, finish_of}
use Rattle.meaning.specs.PublicCalls.{feed, finish, area_length, opens, performs}
use Rattle.meaning_statements.specs.Statements.{fed_and_finished}
use Rattle.meaning_ranking.specs.Ranking.{RankEntry, rank_entry, number}
use Rattle.meaning_ranking.specs.RankCall.{fed_on, finished_on, evaluated, rank_entry_of}
use Rattle.meaning_ranking.specs.RankingStatements.{numbered, is_refusal, candidate_answer}
use Rattle.theory_base.specs.Feeds.{even_feed}
use Rattle.theory_table.specs.AcceptedTable.{accepted_well_formed}
use Rattle.theory_sound.specs.CallSound.{opening_sound, feed_is}
use Rattle.theory_sound.specs.ValueSound.{not_value}
use Rattle.theory_demands.specs.ByGrammar.{opens_is, performs_is}
use Rattle.theory_demands.specs.ValueWhole.{value_whole}
use Rattle.theory_evaluating.specs.Whole.{is_open, opened_31, opened_32, evaluated_31, evaluated_32}

-- ---- the value of a candidate

-- equal, or neither is a value
abbrev Alike : ℤ → ℕ → Answer → Answer → Type 0
Alike v n a b = (a ≡ b) ⊎ ((a ≡ Calls.value v n → ⊥) × (b ≡ Calls.value v n → ⊥))

alike_both : (v : ℤ) (n : ℕ) (a b : Answer) → Alike v n a b → (a ≡ Calls.value v n) ↔ (b ≡ Calls.value v n)
alike_both v n a b (inl e) = ((λ x. sym e ∙ x), (λ x. e ∙ x))
alike_both v n a b (inr z) = ((λ x. absurd (z.0 x)), (λ x. absurd (z.1 x)))

module _ (g : Grammar) (f : WellFormed g) (m : Stacks) (ks : List ℕ) (vs : List ℤ) (even : length ks ≡ length vs) (v : ℤ) (n : ℕ) where
  -- a feed and a finish, whatever the calls before answered
  abbrev fed_after : Called → Called
  fed_after o = feed_of g o.state o.stacks ks vs

  abbrev finished_after : Called → Answer
  finished_after k = (finish_of g k.state k.stacks).answer

  closed_alike : (k : ℕ) (e : evaluated g m ks vs ≡ as_brought (refused k 0) closed_record m) (o : open_of g m ≡ as_brought (refused k 0) closed_record m) → Alike v n (evaluated g m ks vs).answer (finished_after (fed_after (open_of g m)))
  closed_alike k e o =
      inr ((λ x. not_value {v = v} {n = n} (sym (ap (λ z. z.answer) e) ∙ x)), (λ x. not_value {v = v} {n = n} (sym (ap (λ z. finished_after (fed_after z)) o) ∙ x)))

  fed_alike : (s : Stacks) (o : Settled) → Alike v n (finished_on g (after_feed g s o)).answer (finished_after (after_feed g s o))
  fed_alike s (stopped c) = inl refl
  fed_alike s (failed c k) = inr ((λ x. not_value {v = v} {n = n} x), (λ x. not_value {v = v} {n = n} x))

  alike : Dec ((lent_of m).max_registers < length (opening g).registers) → Dec ((lent_of m).max_places < 1) → Alike v n (evaluated g m ks vs).answer (finished_after (fed_after (open_of g m)))
  alike (yes l) x = closed_alike 31 (evaluated_31 g m ks vs l) (opened_31 g m l)
  alike (no l) (yes x) = closed_alike 32 (evaluated_32 g m ks vs (omega arith) x) (opened_32 g m (omega arith) x)
  alike (no l) (no x) =
      let r : length (opening g).registers ≤ (lent_of m).max_registers = omega arith in
      let p : 1 ≤ (lent_of m).max_places = omega arith in
      let o = is_open g m f r p in
      let e = even_feed g (record_of true (opening g)) (lay_all g (opening g) m) ks vs even ∙ feed_is g f m [] (opening g) (opening_sound g f m r p) (leaves g (tokens_from ks vs)) in
      let a = fed_alike (lay_all g (opening g) m) (feed_all g (lent_of m) (leaves g (tokens_from ks vs)) (opening g)) in
      let b = subst (λ k. Alike v n (finished_on g k).answer (finished_after k)) (sym e) a in
      subst (λ k. Alike v n (finished_on g (fed_on g ks vs k)).answer (finished_after (fed_after k))) (sym o) b

abbrev pub HasTree : Grammar → Stacks → List ℕ → List ℤ → ℤ → Type 0
HasTree g m ks vs v = (t : Tree) × TreeOf g (leaves g (tokens_from ks vs)) t × WalkFits g (lent_of m) t × (value_of g t ≡ v)

pub value_candidate : (bs : List ℕ) (g : Grammar) (m : Stacks) (ks : List ℕ) (vs : List ℤ) → Accepted bs g → length ks ≡ length vs → T (all four_bytes vs) → (v : ℤ) → ((n : ℕ) × ((evaluated g m ks vs).answer ≡ Calls.value v n)) ↔ HasTree g m ks vs v
value_candidate bs g m ks vs a even t v = (forth, back)
  where
    area : List ℕ
    area = replicate area_length 0

    long : area_length ≤ length area
    long = omega (arith, length-replicate {A = ℕ} area_length 0)

    program : Grammar → List ℕ
    program h = []

    said : (n : ℕ) → ((evaluated g m ks vs).answer ≡ Calls.value v n) ↔ ((fed_and_finished program bs area ks vs (opens program bs area m)).answer ≡ Calls.value v n)
    said n =
        let o = opens_is program bs g a area m long in
        let p = performs_is program bs g a area (open_of g m).state (open_of g m).stacks (feed ks vs) long in
        let q = performs_is program bs g a area (feed_of g (open_of g m).state (open_of g m).stacks ks vs).state (feed_of g (open_of g m).state (open_of g m).stacks ks vs).stacks finish long in
        let e : (fed_and_finished program bs area ks vs (opens program bs area m)).answer ≡ (finish_of g (feed_of g (open_of g m).state (open_of g m).stacks ks vs).state (feed_of g (open_of g m).state (open_of g m).stacks ks vs).stacks).answer =
        ap (λ z. (fed_and_finished program bs area ks vs z).answer) o ∙ (ap (λ z. (performs program bs area z.state z.stacks finish).answer) p ∙ ap (λ z. z.answer) q) in
        let k = alike_both v n (evaluated g m ks vs).answer _ (alike g (accepted_well_formed bs g a) m ks vs even v n (dec_lt (lent_of m).max_registers (length (opening g).registers)) (dec_lt (lent_of m).max_places 1)) in
        ((λ x. e ∙ k.0 x), (λ x. k.1 (sym e ∙ x)))

    forth : (n : ℕ) × ((evaluated g m ks vs).answer ≡ Calls.value v n) → HasTree g m ks vs v
    forth x = let z = (value_whole program bs area g m ks vs a long t even v x.0).0 ((said x.0).0 x.1) in (z.0, z.1, z.2, z.3)

    back : HasTree g m ks vs v → (n : ℕ) × ((evaluated g m ks vs).answer ≡ Calls.value v n)
    back z = (length (walk g z.0), (said (length (walk g z.0))).1 ((value_whole program bs area g m ks vs a long t even v (length (walk g z.0))).1 (z.0, z.1, z.2, z.3, refl)))

-- ---- entries in candidate order

pub number_of : (i : ℕ) (a : Answer) → number (rank_entry_of i a) ≡ pos i
number_of i (Calls.value v n) = refl
number_of i (Calls.more n) = refl
number_of i (Calls.refused k n) = refl
number_of i (Calls.table_refused k o) = refl

same_pos : (i j : ℕ) → pos i ≡ pos j → i ≡ j
same_pos i j e = cc

numbered_least : (i : ℕ) (xs : List Answer) (y : RankEntry) (j : ℕ) → In y (numbered i xs) → number y ≡ pos j → i ≤ j
numbered_least i [] y j m e = absurd m
numbered_least i (x ∷ xs) y j (inl q) e = let z = same_pos i j (sym (number_of i x) ∙ (ap number (sym q) ∙ e)) in omega arith
numbered_least i (x ∷ xs) y j (inr m) e = omega (arith, numbered_least (suc i) xs y j m e)

-- the entry with number k is that of answer k
pub numbered_at : (i k : ℕ) (xs ys : List Answer) (a : Answer) (e : RankEntry) → k ≡ i + length xs → number e ≡ pos k → In e (numbered i (xs ++ (a ∷ ys))) → rank_entry_of k a ≡ e
numbered_at i k [] ys a e q n (inl p) = let z : k ≡ i = omega arith in ap (λ j. rank_entry_of j a) z ∙ sym p
numbered_at i k [] ys a e q n (inr m) = absurd (omega (arith, numbered_least (suc i) ys e k m n))
numbered_at i k (x ∷ xs) ys a e q n (inl p) = absurd (let z = same_pos i k (sym (number_of i x) ∙ (ap number (sym p) ∙ n)) in omega arith)
numbered_at i k (x ∷ xs) ys a e q n (inr m) = numbered_at (suc i) k xs ys a e (omega arith) n m

pub numbered_in : (i k : ℕ) (xs ys : List Answer) (a : Answer) → k ≡ i + length xs → In (rank_entry_of k a) (numbered i (xs ++ (a ∷ ys)))
numbered_in i k [] ys a q = let z : k ≡ i = omega arith in inl (ap (λ j. rank_entry_of j a) z)
numbered_in i k (x ∷ xs) ys a q = inr (numbered_in (suc i) k xs ys a (omega arith))

-- an entry without a refusal is a value's
pub entry_value : (k : ℕ) (a : Answer) (v : ℤ) → T (candidate_answer a) → rank_entry_of k a ≡ rank_entry (pos k) v (pos 0) → (n : ℕ) × (a ≡ Calls.value v n)
entry_value k (Calls.value w n) v t e = (n, ap (λ z. Calls.value z n) (cc))
entry_value k (Calls.refused j n) v t e = absurd (let z = same_pos j 0 (cc) in subst (λ i. T (is_refusal i)) z t)
entry_value k (Calls.more n) v t e = absurd t
entry_value k (Calls.table_refused j o) v t e = absurd t
