-- The statements of 02 (b), proved.
use Rattle.std.specs.Prelude.{ℕ, suc, ◌+◌, ◌*◌, ◌≡◌, refl, ◌↔◌, Bool, true, false, cond, List, [], ◌∷◌, ◌++◌, map, length, take, drop, T, eqb, ltb, ℤ, pos, ◌+ℤ◌}
use Rattle.std.proofs.Common.{arith, sym, ap, ap₂, ◌∙◌, subst, inl, eq-eqb}
use Rattle.std.proofs.lemmas.List.{map-append, length-map}
use Rattle.meaning.specs.Base.{In, all}
use Rattle.meaning.specs.Rules.{four_bytes, WellFormed}
use Rattle.meaning.specs.Grammar.{Grammar}
use Rattle.meaning.specs.Table.{State, grammar_of}
use Rattle.meaning_house.specs.Order.{Shuffled, through}
use Rattle.meaning.specs.Calls as Calls
use Rattle.meaning.specs.Calls.{Stacks, Answer}
use Rattle.meaning.specs.PublicCalls.{Checked, usable, unusable, check, area_length, written}
use Rattle.meaning_ranking.specs.Ranking.{RankEntry, rank_entry, value, valued, Ranks, ranking, cells_of, worth, total_of, valued_of}
use Rattle.meaning_ranking.specs.RankCall.{evaluated, rank_entry_of, evaluations, ranked, unranked, RankEffect, in_order_value, listed, rank_even, rank_under, rank_long, rank_suited, rank_of}
use Rattle.meaning_ranking.specs.RankingStatements.{Candidate, candidates_of, entries_for, CandidatesBrought, RankedExactly, RankedInFront, numbered, RankedAlone, RankedAnswers, RankedValues, unnumbered, RankedAnyOrder, RankedUntouched}
use Rattle.theory_table.specs.AcceptedTable.{accepted_well_formed}
use Rattle.theory_answers.specs.Called.{checks, long_enough}
use Rattle.theory_order.specs.Shuffles.{shuffled_sym, map_shuffled}
use Rattle.theory_ranking.specs.Cells.{length_cells}
use Rattle.theory_ranking.specs.Sorting.{ranking_ranks, ranks_one}
use Rattle.theory_ranking.specs.Report.{counted_from, counted_distinct, ranks_front, total_shuffled, valued_shuffled}
use Rattle.theory_base.specs.Members.{all_take, all_drop}
use Rattle.theory_evaluating.specs.Alone.{even_take, even_drop, alone, answers, answer_of}
use Rattle.theory_evaluating.specs.Values.{HasTree, number_of, numbered_at, numbered_in, entry_value, value_candidate}

-- ---- the entries

counted : (g : Grammar) (i : ℕ) (ns ks : List ℕ) (vs : List ℤ) (m : Stacks) → counted_from i (evaluations g i ns ks vs m).entries
counted g i [] ks vs m = tt
counted g i (n ∷ ns) ks vs m = (number_of i (evaluated g m (take n ks) (take n vs)).answer, counted g (suc i) ns (drop n ks) (drop n vs) (evaluated g m (take n ks) (take n vs)).stacks)

entries_size : (g : Grammar) (i : ℕ) (ns ks : List ℕ) (vs : List ℤ) (m : Stacks) → length (evaluations g i ns ks vs m).entries ≡ length ns
entries_size g i [] ks vs m = refl
entries_size g i (n ∷ ns) ks vs m = ap suc (entries_size g (suc i) ns (drop n ks) (drop n vs) (evaluated g m (take n ks) (take n vs)).stacks)

-- ---- the list

module _ (program : Grammar → List ℕ) (bs area : List ℕ) (g : Grammar) (lengths ks : List ℕ) (vs list : List ℤ) (m : Stacks) (b : CandidatesBrought bs area g lengths ks vs list) where
  is_listed_lem : rank_of program bs area lengths ks vs list m ≡ listed (evaluations g 0 lengths ks vs m) list (written (program g) area)
  is_listed_lem =
      ap (λ z. rank_suited program z bs area lengths ks vs list m) b.suits
      ∙ (ap (λ z. rank_long program z bs area lengths ks vs list m) (long_enough area b.long)
      ∙ (ap (λ z. rank_under program z area lengths ks vs list m) (checks bs g b.accepts)
      ∙ (ap (λ h. rank_even (eqb (length ks) (length vs)) list m (written (program h) area) (listed (evaluations h 0 lengths ks vs m) list (written (program h) area))) b.accepts.is_grammar
      ∙ ap (λ z. rank_even z list m (written (program g) area) (listed (evaluations g 0 lengths ks vs m) list (written (program g) area))) (eq-eqb (length ks) (length vs) b.even))))

pub ranked_exactly : RankedExactly
ranked_exactly program bs area g lengths ks vs list m b =
    let es = entries_for g lengths ks vs m in
    let n : length es ≡ length lengths = entries_size g 0 lengths ks vs m in
    let k : length (cells_of es) ≡ 3 * length lengths = length_cells es ∙ ap (λ z. 3 * z) n in
    let e = is_listed_lem program bs area g lengths ks vs list m b in
    record {
      order = ranking es;
      ranks = ranking_ranks es;
      only = λ rs r. ranks_one es rs (ranking es) (counted_distinct 0 es (counted g 0 lengths ks vs m)) r (ranking_ranks es);
      is_list = ap (λ z. z.list) e ∙ ap (λ j. cells_of (ranking es) ++ drop j list) k;
      report = ap (λ z. z.answer) e ∙ ap (ranked (valued_of es) (total_of es)) n;
    }

pub ranked_in_front : RankedInFront
ranked_in_front g lengths ks vs m rs r i j l h = ranks_front (entries_for g lengths ks vs m) rs i j (counted_distinct 0 (entries_for g lengths ks vs m) (counted g 0 lengths ks vs m)) r l h

-- ---- what each entry says

pub ranked_alone : RankedAlone
ranked_alone bs area g lengths ks vs list m b =
    let e = alone g (accepted_well_formed bs g b.accepts) m 0 lengths ks vs b.even b.lendable m (inl refl) in
    (ap (λ z. z.entries) e, ap (λ z. z.stacks) e)

pub ranked_answers : RankedAnswers
ranked_answers bs g m ks vs a even t = answers g (accepted_well_formed bs g a) m ks vs even t

-- each candidate has as many values as kinds, signed 32-bit ones
abbrev Proper : List Candidate → Type 0
Proper [] = Unit {0}
Proper (c ∷ cs) = ((length c.kinds ≡ length c.values) × T (all four_bytes c.values)) × Proper cs

proper : (ns ks : List ℕ) (vs : List ℤ) → length ks ≡ length vs → T (all four_bytes vs) → Proper (candidates_of ns ks vs)
proper [] ks vs e t = tt
proper (n ∷ ns) ks vs e t = ((even_take n ks vs e, all_take four_bytes n vs t), proper ns (drop n ks) (drop n vs) (even_drop n ks vs e) (all_drop four_bytes n vs t))

proper_at : (xs ys : List Candidate) (c : Candidate) → Proper (xs ++ (c ∷ ys)) → (length c.kinds ≡ length c.values) × T (all four_bytes c.values)
proper_at [] ys c p = p.0
proper_at (x ∷ xs) ys c p = proper_at xs ys c p.1

pub ranked_values : RankedValues
ranked_values bs area g lengths ks vs list m b earlier later c q v = (forth, back)
  where
    f : WellFormed g
    f = accepted_well_formed bs g b.accepts

    own : (length c.kinds ≡ length c.values) × T (all four_bytes c.values)
    own = proper_at earlier later c (subst Proper q (proper lengths ks vs b.even b.lendable))

    before : List Answer
    before = map (answer_of g f m) earlier

    behind : List Answer
    behind = map (answer_of g f m) later

    its : Answer
    its = answer_of g f m c

    size : length before ≡ length earlier
    size = length-map earlier (answer_of g f m)

    entries_are : entries_for g lengths ks vs m ≡ numbered 0 (before ++ (its ∷ behind))
    entries_are = (ranked_alone bs area g lengths ks vs list m b).0 ∙ ap (numbered 0) (ap (map (answer_of g f m)) q ∙ map-append (answer_of g f m) earlier (c ∷ later))

    has_tree : ((n : ℕ) × (its ≡ Calls.value v n)) ↔ HasTree g m c.kinds c.values v
    has_tree = value_candidate bs g m c.kinds c.values b.accepts own.0 own.1 v

    forth : In (rank_entry (pos (length earlier)) v (pos 0)) (entries_for g lengths ks vs m) → HasTree g m c.kinds c.values v
    forth i =
        let j = subst (In (rank_entry (pos (length earlier)) v (pos 0))) entries_are i in
        let e = numbered_at 0 (length earlier) before behind its (rank_entry (pos (length earlier)) v (pos 0)) (omega (arith, size)) refl j in
        has_tree.0 (entry_value (length earlier) its v (answers g f m c.kinds c.values own.0 own.1) e)

    back : HasTree g m c.kinds c.values v → In (rank_entry (pos (length earlier)) v (pos 0)) (entries_for g lengths ks vs m)
    back t =
        let x = has_tree.1 t in
        let e : rank_entry_of (length earlier) its ≡ rank_entry (pos (length earlier)) v (pos 0) = ap (rank_entry_of (length earlier)) x.1 in
        subst (In (rank_entry (pos (length earlier)) v (pos 0))) (sym entries_are) (subst (λ z. In z (numbered 0 (before ++ (its ∷ behind)))) e (numbered_in 0 (length earlier) before behind its (omega (arith, size))))

-- ---- in another order

unnumbered_of : (i : ℕ) (a : Answer) → unnumbered (rank_entry_of i a) ≡ rank_entry_of 0 a
unnumbered_of i (Calls.value v n) = refl
unnumbered_of i (Calls.more n) = refl
unnumbered_of i (Calls.refused k n) = refl
unnumbered_of i (Calls.table_refused k o) = refl

unnumbered_all : (i : ℕ) (xs : List Answer) → map unnumbered (numbered i xs) ≡ map (rank_entry_of 0) xs
unnumbered_all i [] = refl
unnumbered_all i (x ∷ xs) = ap₂ (λ y ys. y ∷ ys) (unnumbered_of i x) (unnumbered_all (suc i) xs)

total_unnumbered : (es : List RankEntry) → total_of (map unnumbered es) ≡ total_of es
unfolding total_of
total_unnumbered [] = refl
total_unnumbered (rank_entry n v r ∷ es) = ap (λ z. worth (rank_entry n v r) +ℤ z) (total_unnumbered es)

valued_unnumbered : (es : List RankEntry) → valued_of (map unnumbered es) ≡ valued_of es
unfolding valued_of
valued_unnumbered [] = refl
valued_unnumbered (rank_entry n v r ∷ es) = ap (λ z. cond (valued (rank_entry n v r)) 1 0 + z) (valued_unnumbered es)

module _ (bs area : List ℕ) (g : Grammar) (lengths ks : List ℕ) (vs list : List ℤ) (m : Stacks) (b : CandidatesBrought bs area g lengths ks vs list) (rs : List RankEntry) (r : Ranks (entries_for g lengths ks vs m) rs) where
  -- a list's values and refusals are the candidates'
  as_candidates : Shuffled (map unnumbered rs) (map (rank_entry_of 0) (map (answer_of g (accepted_well_formed bs g b.accepts) m) (candidates_of lengths ks vs)))
  as_candidates =
      subst (Shuffled (map unnumbered rs)) (ap (map unnumbered) (ranked_alone bs area g lengths ks vs list m b).0 ∙ unnumbered_all 0 (map (answer_of g (accepted_well_formed bs g b.accepts) m) (candidates_of lengths ks vs)))
      (map_shuffled unnumbered (shuffled_sym r.each))

pub ranked_any_order : RankedAnyOrder
ranked_any_order bs area g lengths ks vs list lengths' ks' vs' list' m b c s rs rs' r q =
    let x = as_candidates bs area g lengths ks vs list m b rs r in
    let y = as_candidates bs area g lengths' ks' vs' list' m c rs' q in
    let k = map_shuffled (rank_entry_of 0) (map_shuffled (λ d. (evaluated g m d.kinds d.values).answer) s) in
    let z : Shuffled (map unnumbered rs) (map unnumbered rs') = through x (through k (shuffled_sym y)) in
    (z, sym (total_unnumbered rs) ∙ (total_shuffled z ∙ total_unnumbered rs'), sym (valued_unnumbered rs) ∙ (valued_shuffled z ∙ valued_unnumbered rs'))

-- ---- refusals

-- a refusal leaves list and stacks
abbrev Kept : List ℤ → Stacks → RankEffect → Type 0
Kept list m e = (n o : ℕ) → e.answer ≡ unranked n o → (e.list ≡ list) × (e.stacks ≡ m)

pub ranked_untouched : RankedUntouched
ranked_untouched program bs area lengths ks vs list m n o e = suited (in_order_value lengths ks list) n o e
  where
    even : (s : State) (b : Bool) → Kept list m (rank_even b list m (written (program (grammar_of s)) area) (listed (evaluations (grammar_of s) 0 lengths ks vs m) list (written (program (grammar_of s)) area)))
    even s false n o e = (refl, refl)
    even s true n o e = absurd (let z : ◌≡◌ {A = ℕ} 0 1 = cc in omega arith)

    under : (c : Checked) → Kept list m (rank_under program c area lengths ks vs list m)
    under (unusable k j) n o e = (refl, refl)
    under (usable s) n o e = even s (eqb (length ks) (length vs)) n o e

    long : (b : Bool) → Kept list m (rank_long program b bs area lengths ks vs list m)
    long true n o e = (refl, refl)
    long false n o e = under (check bs) n o e

    suited : (b : Bool) → Kept list m (rank_suited program b bs area lengths ks vs list m)
    suited false n o e = (refl, refl)
    suited true n o e = long (ltb (length area) area_length) n o e
