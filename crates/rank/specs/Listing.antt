-- The cases of the call.
use Rattle.std.specs.Prelude.{ℕ, ◌*◌, ◌≤◌, ◌<◌, ◌≡◌, true, false, List, ◌++◌, length, drop, eqb, ltb, ℤ}
use Rattle.std.proofs.Common.{sym, ap, ap₂, ◌∙◌, lt-ltb, le-ltb, eq-eqb, ne_eqb}
use Rattle.meaning.specs.Grammar.{Grammar}
use Rattle.meaning.specs.Table.{State, grammar_of}
use Rattle.meaning.specs.Program.{program_of}
use Rattle.meaning.specs.Calls.{Stacks}
use Rattle.meaning.specs.PublicCalls.{stacks_of, usable, unusable, check, area_length}
use Rattle.meaning_ranking.specs.Ranking.{RankEntry, ranking, cells_of, total_of, valued_of}
use Rattle.meaning_ranking.specs.RankCall.{in_order_value, evaluations, rank_effect, unranked, listed, rank_even, rank_under, rank_long, rank_suited, rank_of}
use Rattle.theory_ranking.specs.Entries.{entries_of}
use Rattle.theory_ranking.specs.Cells.{length_cells, length_entries}
use Rattle.prepare.specs.Making.{ProgramStands}
use Rattle.prepare.specs.Beginning.{standing_shown}
use Rattle.run_fit.specs.HasProgram.{HasProgram}
use Rattle.rank.specs.candidates.Each.{AllDone}
use Rattle.rank_report.specs.declared.Ranked.{Ranked}
use Rattle.rank_report.specs.declared.Ranked.TheVariants.{Done, Refused}
use Rattle.rank_report.specs.Report.{Reported}
use Rattle.rank_report.specs.Answers.{rank_answer_is, rank_is}

-- ---- under a grammar

abbrev pub ListedAs : List ℕ → List ℕ → List ℕ → List ℤ → List ℤ → List ℤ → List ℕ → List ℤ → List ℤ → List ℕ → Ranked → Type 0
ListedAs ws ns ks us l₀ vs₀ ps₀ l vs ps r =
    (g : Grammar) → HasProgram g ws → (area : List ℕ) → rank_is r l vs ps area ≡ rank_even (eqb (length ks) (length us)) l₀ (stacks_of vs₀ ps₀) area (listed (evaluations g 0 ns ks us (stacks_of vs₀ ps₀)) l₀ area)

module _ (ws ns ks : List ℕ) (us l₀ vs₀ : List ℤ) (ps₀ : List ℕ) where
  pub uneven_as : (length ks ≡ length us → ⊥) → ListedAs ws ns ks us l₀ vs₀ ps₀ l₀ vs₀ ps₀ (Refused 38 0)
  uneven_as odd g s area = sym (ap (λ b. rank_even b l₀ (stacks_of vs₀ ps₀) area (listed (evaluations g 0 ns ks us (stacks_of vs₀ ps₀)) l₀ area)) (ne_eqb (length ks) (length us) odd))

  module _ (even : length ks ≡ length us) (room : 3 * length ns ≤ length l₀) (l₁ vs : List ℤ) (ps : List ℕ) (d : AllDone ws ns ks us l₀ vs₀ ps₀ l₁ vs ps) where
    pub listed_as : (l : List ℤ) (r : Ranked) → 3 * length ns ≤ length l₁ → Reported (length ns) l₁ l r → ListedAs ws ns ks us l₀ vs₀ ps₀ l vs ps r
    listed_as l r wide p g s area =
        let es : List RankEntry = entries_of (length ns) l₁ in
        let n : length es ≡ length ns = length_entries (length ns) l₁ wide in
        let c : 3 * length ns ≡ length (cells_of es) = ap (λ k. 3 * k) (sym n) ∙ sym (length_cells es) in
        let x : l ≡ cells_of (ranking es) ++ drop (length (cells_of es)) l₀ = p.is_list ∙ ap (λ z. cells_of (ranking es) ++ z) (d.rest ∙ ap (λ k. drop k l₀) c) in
        let a : rank_answer_is r ≡ rank_answer_is (Done (valued_of es) (total_of es) (length es)) = ap rank_answer_is (p.report ∙ ap (Done (valued_of es) (total_of es)) (sym n)) in
        ap₂ (λ y z. rank_effect y z (stacks_of vs ps) area) a x
        ∙ (ap (λ e. listed e l₀ area) (d.evaluation g s)
        ∙ sym (ap (λ b. rank_even b l₀ (stacks_of vs₀ ps₀) area (listed (evaluations g 0 ns ks us (stacks_of vs₀ ps₀)) l₀ area)) (eq-eqb (length ks) (length us) even)))

-- ---- the call

module _ (t area ns ks : List ℕ) (us l : List ℤ) (m : Stacks) where
  pub rank_37 : in_order_value ns ks l ≡ false → rank_effect (unranked 37 0) l m area ≡ rank_of program_of t area ns ks us l m
  rank_37 e = sym (ap (λ b. rank_suited program_of b t area ns ks us l m) e)

  module _ (e : in_order_value ns ks l ≡ true) where
    suited : rank_of program_of t area ns ks us l m ≡ rank_long program_of (ltb (length area) area_length) t area ns ks us l m
    suited = ap (λ b. rank_suited program_of b t area ns ks us l m) e

    pub rank_30 : length area < area_length → rank_effect (unranked 30 0) l m area ≡ rank_of program_of t area ns ks us l m
    rank_30 h = sym (suited ∙ ap (λ b. rank_long program_of b t area ns ks us l m) (lt-ltb (length area) area_length h))

    module _ (h : area_length ≤ length area) where
      long : rank_of program_of t area ns ks us l m ≡ rank_under program_of (check t) area ns ks us l m
      long = suited ∙ ap (λ b. rank_long program_of b t area ns ks us l m) (le-ltb (length area) area_length h)

      pub rank_refused : (n o : ℕ) → check t ≡ unusable n o → rank_effect (unranked n o) l m area ≡ rank_of program_of t area ns ks us l m
      rank_refused n o q = sym (long ∙ ap (λ c. rank_under program_of c area ns ks us l m) q)

      pub rank_usable : (s : State) → check t ≡ usable s → rank_of program_of t area ns ks us l m ≡ rank_under program_of (usable s) area ns ks us l m
      rank_usable s q = long ∙ ap (λ c. rank_under program_of c area ns ks us l m) q

module _ {t area area' : List ℕ} {size : ℕ} (a : ProgramStands t area area' size) where
  pub standing_ranked : (ns ks : List ℕ) (us l₀ vs₀ : List ℤ) (ps₀ : List ℕ) (l vs : List ℤ) (ps : List ℕ) (r : Ranked) → in_order_value ns ks l₀ ≡ true → ListedAs area' ns ks us l₀ vs₀ ps₀ l vs ps r → rank_is r l vs ps area' ≡ rank_of program_of t area ns ks us l₀ (stacks_of vs₀ ps₀)
  standing_ranked ns ks us l₀ vs₀ ps₀ l vs ps r e k =
      let g : Grammar = grammar_of a.state in
      k g (standing_shown a) area'
      ∙ (ap (λ w. rank_even (eqb (length ks) (length us)) l₀ (stacks_of vs₀ ps₀) w (listed (evaluations g 0 ns ks us (stacks_of vs₀ ps₀)) l₀ w)) a.is_written
      ∙ sym (rank_usable t area ns ks us l₀ (stacks_of vs₀ ps₀) e a.long a.state a.is_usable))
