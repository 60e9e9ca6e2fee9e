-- Candidates that are evaluated, and those that are left.
use Rattle.std.specs.Prelude.{ℕ, suc, ◌+◌, ◌-◌, ◌*◌, ◌≤◌, ◌<◌, min, ◌≡◌, refl, true, get_or, T, pos}
use native.Mathlib.Omega.{arith}
use Rattle.std.proofs.Math.Path.{sym, ap, subst}
use Rattle.std.proofs.Common.{ap₂, ◌∙◌, length-append, length-take, length-drop, take-append-drop, drop_of_length-le, drop-cons, drop-drop, drop_at}
use mathlib.Core.List.{List, [], ◌∷◌, ◌++◌, append-nil, append_assoc}
use Rattle.std.proofs.Math.ListN.{length, set, take, drop}
use Rattle.std.proofs.Math.Seq.{drop-append-add, take_at, length-take-le}
use Rattle.std.proofs.Math.IntN.{ℤ}
use Rattle.meaning.specs.Limits.{registers_limit, places_limit}
use Rattle.meaning.specs.Base.{total}
use Rattle.meaning.specs.Grammar.{Grammar}
use Rattle.meaning.specs.Value as Value
use Rattle.meaning.specs.Calls as Calls
use Rattle.meaning.specs.PublicCalls.{stacks_of}
use Rattle.meaning_ranking.specs.Ranking.{RankEntry, rank_entry, value, cells_of}
use Rattle.meaning_ranking.specs.RankCall.{evaluated, rank_entry_of, Evaluation, evaluations}
use Rattle.theory_base.specs.Members.{T→true}
use Rattle.theory_ranking.specs.Entries.{entries_of, Ranged}
use Rattle.theory_ranking.specs.Cells.{cells_append, length_cells, entries_cells, set_three}
use Rattle.theory_ranking.specs.Report.{counted_from}
use Rattle.theory_ranking.specs.Caller.{ranged_more, counted_more}
use Rattle.theory_evaluating.specs.Values.{number_of}
use Rattle.theory_evaluating.specs.Outcomes.{outcome_of}
use Rattle.records.specs.Records.{answer_is}
use Rattle.run_fit.specs.HasProgram.{HasProgram}
use Rattle.rank.specs.declared.afresh.Candidate.{Candidate}
use Rattle.rank.specs.afresh.Opening.{LentClean, clean_unknown}
use Rattle.rank.specs.evaluate.Ran.{answer_ranged, EvaluatedAs}
use Rattle.rank_report.specs.entries.Entries.{put_at}

-- what is left to evaluate after the entries es
abbrev pub after : List RankEntry → Evaluation → Evaluation
after es e = record { entries = es ++ e.entries; stacks = e.stacks }

-- parts of two lists of one length
pub same_parts : {A B : Type 0} (xs : List A) (ys : List B) (i n : ℕ) → length xs ≡ length ys → length (take n (drop i xs)) ≡ length (take n (drop i ys))
same_parts xs ys i n e = length-take n (drop i xs) ∙ (ap (min n) (length-drop i xs ∙ (ap (λ k. k - i) e ∙ sym (length-drop i ys))) ∙ sym (length-take n (drop i ys)))

pub record AllDone (ws lengths ks : List ℕ) (us l₀ vs₀ : List ℤ) (ps₀ : List ℕ) (l vs : List ℤ) (ps : List ℕ) : Type 0 where
  pub evaluation : (g : Grammar) → HasProgram g ws → record { entries = entries_of (length lengths) l; stacks = stacks_of vs ps } ≡ evaluations g 0 lengths ks us (stacks_of vs₀ ps₀)
  pub rest : drop (3 * length lengths) l ≡ drop (3 * length lengths) l₀
  pub ranged : Ranged (entries_of (length lengths) l)
  pub counted : counted_from 0 (entries_of (length lengths) l)

-- the first i are evaluated, from `at` on the tokens of the others come
pub record DoneTo (ws lengths ks : List ℕ) (us l₀ vs₀ : List ℤ) (ps₀ : List ℕ) (i at : ℕ) (l vs : List ℤ) (ps : List ℕ) (a b : ℕ) : Type 0 where
  pub entries : List RankEntry
  pub size : length entries ≡ i
  pub is_list : l ≡ cells_of entries ++ drop (3 * i) l₀
  pub rest : (g : Grammar) → HasProgram g ws → evaluations g 0 lengths ks us (stacks_of vs₀ ps₀) ≡ after entries (evaluations g i (drop i lengths) (drop at ks) (drop at us) (stacks_of vs ps))
  pub left : at + total (drop i lengths) ≡ length ks
  pub few : i ≤ length lengths
  pub clean : LentClean vs ps a b
  pub ranged : Ranged entries
  pub counted : counted_from 0 entries

module _ (ws lengths ks : List ℕ) (us l₀ vs₀ : List ℤ) (ps₀ : List ℕ) where
  pub done_start : total lengths ≡ length ks → (a b : ℕ) → a ≡ min (length vs₀) registers_limit → b ≡ min (length ps₀) places_limit → DoneTo ws lengths ks us l₀ vs₀ ps₀ 0 0 l₀ vs₀ ps₀ a b
  unfolding cells_of
  done_start e a b p q =
      let x : length (take (min (length vs₀) registers_limit) vs₀) ≡ a = length-take-le (min (length vs₀) registers_limit) vs₀ (omega arith) ∙ sym p in
      let y : length (take (min (length ps₀) places_limit) ps₀) ≡ b = length-take-le (min (length ps₀) places_limit) ps₀ (omega arith) ∙ sym q in
      record {
        entries = [];
        size = refl;
        is_list = refl;
        rest = λ g s. refl;
        left = omega arith;
        few = omega arith;
        clean = subst (λ z. LentClean vs₀ ps₀ z b) x (subst (λ z. LentClean vs₀ ps₀ (length (take (min (length vs₀) registers_limit) vs₀)) z) y (clean_unknown (take (min (length vs₀) registers_limit) vs₀) (take (min (length ps₀) places_limit) ps₀)));
        ranged = tt;
        counted = tt;
      }

  module _ {i at : ℕ} {l vs : List ℤ} {ps : List ℕ} {a b : ℕ} (k : DoneTo ws lengths ks us l₀ vs₀ ps₀ i at l vs ps a b) where
    module _ (h : i < length lengths) where
      first_left : drop i lengths ≡ get_or lengths i 0 ∷ drop (suc i) lengths
      first_left = drop-cons lengths i 0 h

      -- the next candidate's tokens stand in the lists
      pub next_left : at + get_or lengths i 0 + total (drop (suc i) lengths) ≡ length ks
      next_left = omega (arith, k.left, ap total first_left)

      pub next_inside : at + get_or lengths i 0 ≤ length ks
      next_inside = omega (arith, next_left)

      cells_size : length (cells_of k.entries) ≡ 3 * i
      cells_size = length_cells k.entries ∙ ap (λ n. 3 * n) k.size

      put_list : (e : RankEntry) → 3 * i + 3 ≤ length l → put_at l i e ≡ cells_of (k.entries ++ (e ∷ [])) ++ drop (3 * (i + 1)) l₀
      unfolding cells_of
      put_list (rank_entry n v r) m =
          let t : List ℤ = drop (3 * i) l₀ in
          let s : 3 * i + 3 ≡ 3 * (i + 1) = omega arith in
          let whole : l ≡ take (3 * i + 3) l ++ drop (3 * i + 3) l = sym (take-append-drop (3 * i + 3) l) in
          let front : take (3 * i) l ≡ cells_of k.entries = ap (take (3 * i)) k.is_list ∙ take_at (cells_of k.entries) t (3 * i) cells_size in
          let back : drop (3 * i + 3) l ≡ drop (3 * (i + 1)) l₀ =
          ap (drop (3 * i + 3)) k.is_list
          ∙ (ap (λ z. drop (z + 3) (cells_of k.entries ++ t)) (sym cells_size)
          ∙ (drop-append-add (cells_of k.entries) t 3 ∙ (drop-drop 3 (3 * i) l₀ ∙ ap (λ z. drop z l₀) s))) in
          ap (λ z. set (set (set z (3 * i) n) (3 * i + 1) v) (3 * i + 2) r) whole
          ∙ (set_three l (drop (3 * i + 3) l) (3 * i) n v r m
          ∙ (ap₂ (λ x y. x ++ (n ∷ v ∷ r ∷ y)) front back
          ∙ (sym (append_assoc (cells_of k.entries) (n ∷ v ∷ r ∷ []) (drop (3 * (i + 1)) l₀))
          ∙ ap (λ z. z ++ drop (3 * (i + 1)) l₀) (sym (cells_append k.entries (rank_entry n v r ∷ []))))))

      -- one more
      module _ (n : ℕ) (q : n ≡ get_or lengths i 0) (ks' : List ℕ) (us' : List ℤ) (x : ks' ≡ take n (drop at ks)) (y : us' ≡ take n (drop at us)) (vs' : List ℤ) (ps' : List ℕ) (r : Candidate) (d : EvaluatedAs ws ks' us' vs ps vs' ps' r) where
        one_more : (g : Grammar) → HasProgram g ws → evaluations g i (drop i lengths) (drop at ks) (drop at us) (stacks_of vs ps) ≡ after (rank_entry_of i (answer_is r.answer) ∷ []) (evaluations g (suc i) (drop (suc i) lengths) (drop (at + n) ks) (drop (at + n) us) (stacks_of vs' ps'))
        one_more g s =
            let z = d.outcome_is g s ∙ ap₂ (λ v w. outcome_of (evaluated g (stacks_of vs ps) v w)) x y in
            let c : drop n (drop at ks) ≡ drop (at + n) ks = drop-drop n at ks in
            let e : drop n (drop at us) ≡ drop (at + n) us = drop-drop n at us in
            ap (λ ns. evaluations g i ns (drop at ks) (drop at us) (stacks_of vs ps)) (first_left ∙ ap (λ j. j ∷ drop (suc i) lengths) (sym q))
            ∙ (ap (λ o. let rest = evaluations g (suc i) (drop (suc i) lengths) (drop n (drop at ks)) (drop n (drop at us)) o.stacks in record { entries = rank_entry_of i o.answer ∷ rest.entries; stacks = rest.stacks }) (sym z)
            ∙ ap₂ (λ v w. after (rank_entry_of i (answer_is r.answer) ∷ []) (evaluations g (suc i) (drop (suc i) lengths) v w (stacks_of vs' ps'))) c e)

        in_limits : (o : Calls.Answer) → T (answer_ranged o) → Value.in_range (value (rank_entry_of i o)) ≡ true
        in_limits (Calls.value v m) t = T→true (Value.in_range v) t
        in_limits (Calls.more m) t = refl
        in_limits (Calls.refused j m) t = refl
        in_limits (Calls.table_refused j m) t = refl

        pub done_turn : 3 * i + 3 ≤ length l → (l' : List ℤ) → l' ≡ put_at l i (rank_entry_of i (answer_is r.answer)) → DoneTo ws lengths ks us l₀ vs₀ ps₀ (i + 1) (at + n) l' vs' ps' r.registers r.places
        done_turn m l' e =
            let f : RankEntry = rank_entry_of i (answer_is r.answer) in
            let j : suc i ≡ i + 1 = omega arith in
            record {
              entries = k.entries ++ (f ∷ []);
              size = length-append k.entries (f ∷ []) ∙ ap (λ z. z + 1) k.size;
              is_list = e ∙ put_list f m;
              rest = λ g s.
                  k.rest g s
                  ∙ (ap (after k.entries) (one_more g s)
                  ∙ (ap (λ z. record { entries = z; stacks = (evaluations g (suc i) (drop (suc i) lengths) (drop (at + n) ks) (drop (at + n) us) (stacks_of vs' ps')).stacks })
                  (sym (append_assoc k.entries (f ∷ []) (evaluations g (suc i) (drop (suc i) lengths) (drop (at + n) ks) (drop (at + n) us) (stacks_of vs' ps')).entries))
                  ∙ ap (λ z. after (k.entries ++ (f ∷ [])) (evaluations g z (drop z lengths) (drop (at + n) ks) (drop (at + n) us) (stacks_of vs' ps'))) j));
              left = ap (λ z. at + n + total (drop z lengths)) (sym j) ∙ (ap (λ z. at + z + total (drop (suc i) lengths)) q ∙ next_left);
              few = omega arith;
              clean = d.clean;
              ranged = ranged_more k.entries f k.ranged (in_limits (answer_is r.answer) d.ranged);
              counted = counted_more k.entries f k.counted (number_of i (answer_is r.answer) ∙ ap pos (sym k.size));
            }

    -- none is left
    pub done_all : length lengths ≤ i → AllDone ws lengths ks us l₀ vs₀ ps₀ l vs ps
    done_all h =
        let z : i ≡ length lengths = omega (arith, k.few) in
        let es : entries_of (length lengths) l ≡ k.entries = ap (λ n. entries_of n l) (sym z) ∙ (ap (entries_of i) k.is_list ∙ entries_cells k.entries (drop (3 * i) l₀) i k.size) in
        record {
          evaluation = λ g s.
              ap (λ w. record { entries = w; stacks = stacks_of vs ps }) (es ∙ sym (append-nil k.entries))
              ∙ (ap (λ ns. after k.entries (evaluations g i ns (drop at ks) (drop at us) (stacks_of vs ps))) (sym (drop_of_length-le lengths {i = i} h)) ∙ sym (k.rest g s));
          rest =
              let c : length (cells_of k.entries) ≡ 3 * i = length_cells k.entries ∙ ap (λ n. 3 * n) k.size in
              ap (λ n. drop (3 * n) l) (sym z) ∙ (ap (drop (3 * i)) k.is_list ∙ (drop_at (cells_of k.entries) (drop (3 * i) l₀) (3 * i) c ∙ ap (λ n. drop (3 * n) l₀) z));
          ranged = subst Ranged (sym es) k.ranged;
          counted = subst (counted_from 0) (sym es) k.counted;
        }
