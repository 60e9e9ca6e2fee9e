-- Reads that follow one another, of tokens that bring no value, counted all at once: the run and the places after them.
use Rattle.std.specs.Prelude.{ℕ, zero, suc, ◌+◌, ◌-◌, ◌≤◌, ◌<◌, ◌≡◌, refl, Bool, true, false, not, List, length, get_or, set, eqb, ℤ, Ok}
use Rattle.std.proofs.Common.{arith, sym, ap, ap₂, ◌∙◌, subst, subst₂, length-set, set-set, get_or-set_same}
use Rattle.std.proofs.lemmas.List.{set-get_or}
use Rattle.meaning.specs.Machine.{moves_limit}
use Rattle.theory_base.specs.Members.{true→T}
use Rattle.meaning.specs.Program.{read_operation, test_operation}
use Rattle.theory_program.specs.Parts.{head_operation}
use Rattle.run_looking.specs.Judging.{judged_of}
use Rattle.run_moves.specs.declared.Run.{Run}
use Rattle.run_moves.specs.Held.{bounds}
use Rattle.run_moves.specs.Moves.{count_if, passed}
use Rattle.run_moves.specs.Passing.{made_read}
use Rattle.run_next_token.specs.Operations.{Running}
use Rattle.run_next_token.specs.Turns.{Turned}
use Rattle.run_next_token.specs.Reading.{Reaches, Reads, reaches_none, reaches_then, turned_reaches, turned_after, turned_plain, is_plain_read, bare_of, plain_from}

-- ---- the run and the places

-- the top place with n symbols more
abbrev pub count_by : ℕ → ℕ → List ℕ → List ℕ
count_by n h ps = set ps (h - 1) (get_or ps (h - 1) 0 + n)

-- the run after n reads
abbrev pub after_reads : Run → ℕ → Run
after_reads run n = record { tokens = run.tokens + n; moves = run.moves + n; registers = run.registers; places = run.places; at = run.at + n }

-- the places after them: the last symbol is counted unless a test follows
abbrev pub passed_by : List ℕ → Run → ℕ → List ℕ → List ℕ
passed_by ws run zero ps = ps
passed_by ws run (suc n) ps = passed ws (run.at + suc n) run.places (count_by n run.places ps)

same_run : (run : Run) {t m a : ℕ} → run.tokens ≡ t → run.moves ≡ m → run.at ≡ a → run ≡ record { tokens = t; moves = m; registers = run.registers; places = run.places; at = a }
same_run run {t} {m} {a} x y z =
    ap (λ k. record { tokens = k; moves = run.moves; registers = run.registers; places = run.places; at = run.at }) x
    ∙ (ap (λ k. record { tokens = t; moves = k; registers = run.registers; places = run.places; at = run.at }) y
    ∙ ap (λ k. record { tokens = t; moves = m; registers = run.registers; places = run.places; at = k }) z)

-- one symbol more
pub count_more : (n h : ℕ) (ps : List ℕ) → h - 1 < length ps → count_if true h (count_by n h ps) ≡ count_by (suc n) h ps
count_more n h ps l =
    let p = get_or ps (h - 1) 0 in
    set-set ps (h - 1) (p + n) (get_or (count_by n h ps) (h - 1) 0 + 1) ∙ ap (set ps (h - 1)) (ap (λ k. k + 1) (get_or-set_same ps (h - 1) (p + n) 0 l) ∙ omega arith)

-- where a read follows, all are counted
pub counted_all : (ws : List ℕ) (run : Run) (n : ℕ) (ps : List ℕ) → run.places - 1 < length ps → head_operation (get_or ws (run.at + n) 0) ≡ read_operation → passed_by ws run n ps ≡ count_by n run.places ps
counted_all ws run zero ps l e = sym (ap (set ps (run.places - 1)) (omega arith) ∙ set-get_or ps (run.places - 1) 0)
counted_all ws run (suc n) ps l e = ap (λ k. count_if (not (eqb k test_operation)) run.places (count_by n run.places ps)) e ∙ count_more n run.places ps l

-- by the top place's last count
pub passed_by_lem : (ws : List ℕ) (run : Run) (n a : ℕ) (ps : List ℕ) → 1 ≤ n → run.at + n ≡ a → passed ws a run.places (count_by (n - 1) run.places ps) ≡ passed_by ws run n ps
passed_by_lem ws run zero a ps l e = absurd (omega arith)
passed_by_lem ws run (suc n) a ps l e = sym (ap₂ (λ x y. passed ws x run.places (count_by y run.places ps)) e (omega arith))

-- the place stays a small number
pub few_passed : (ws : List ℕ) (run : Run) (n : ℕ) (ps : List ℕ) → run.places - 1 < length ps → get_or (passed_by ws run n ps) (run.places - 1) 0 < 65536 → get_or ps (run.places - 1) 0 + n ≤ 65536
few_passed ws run zero ps l s = omega arith
few_passed ws run (suc n) ps l s = go (not (eqb (head_operation (get_or ws (run.at + suc n) 0)) test_operation)) s
  where
    go : (b : Bool) → get_or (count_if b run.places (count_by n run.places ps)) (run.places - 1) 0 < 65536 → get_or ps (run.places - 1) 0 + suc n ≤ 65536
    go true z =
        let p = get_or ps (run.places - 1) 0 in
        let c = count_by n run.places ps in
        omega (arith, z, get_or-set_same ps (run.places - 1) (p + n) 0 l, get_or-set_same c (run.places - 1) (get_or c (run.places - 1) 0 + 1) 0 (omega (arith, l, length-set ps (run.places - 1) (p + n))))
    go false z = omega (arith, z, get_or-set_same ps (run.places - 1) (get_or ps (run.places - 1) 0 + n) 0 l)

-- ---- what they lead to

-- tokens and moves are left, from token i on before token till
abbrev pub Within : ℕ → List ℕ → ℕ → Run → ℕ → Type 0
Within most us i run till = (k : ℕ) → i + k < till → (i + k < length us) × (run.tokens + k ≤ most) × (run.moves + k < moves_limit)

-- n reads, whatever is held and whatever values stand beside the tokens
abbrev pub FollowBy : ℕ → ℕ → List ℕ → List ℕ → ℕ → Run → ℕ → Type 0
FollowBy bound most ws us i run n =
    (ps : List ℕ) (rs vs : List ℤ) → length us ≡ length vs → Running ws rs ps run
    → Reaches bound most ws us vs i rs ps run rs (passed_by ws run n ps) (after_reads run n) × Running ws rs (passed_by ws run n ps) (after_reads run n)

-- those up to address a
abbrev pub Follow : ℕ → ℕ → List ℕ → List ℕ → ℕ → Run → ℕ → Type 0
Follow bound most ws us i run a = (run.at ≤ a) × FollowBy bound most ws us i run (a - run.at)

module _ (bound most : ℕ) (ws us : List ℕ) (i : ℕ) (run : Run) where
  pub follow_none : FollowBy bound most ws us i run 0
  follow_none ps rs vs even r =
      let same : run ≡ after_reads run 0 = same_run run (omega arith) (omega arith) (omega arith) in
      (subst (λ x. Reaches bound most ws us vs i rs ps run rs ps x) same reaches_none, subst (Running ws rs ps) same r)

  module _ (n : ℕ) (j : Ok tt ≡ judged_of bound most us (i + n) (run.tokens + n)) (small : get_or us (i + n) 0 < 64) (b : is_plain_read ws (run.at + n) (get_or us (i + n) 0) ≡ true) (limit : run.moves + n < moves_limit) where
    abbrev here : Run
    here = after_reads run n

    on_word : head_operation (get_or ws (run.at + n) 0) ≡ read_operation
    on_word = omega (arith, (bare_of ws (run.at + n) (get_or us (i + n) 0) (true→T (is_plain_read ws (run.at + n) (get_or us (i + n) 0)) b)).0)

    pub follow_more : FollowBy bound most ws us i run n → FollowBy bound most ws us i run (suc n)
    follow_more f ps rs vs even r =
        let q = f ps rs vs even r in
        let ps' : List ℕ = passed_by ws run n ps in
        let k = bounds r.held in
        let fits : run.places - 1 < length ps = omega (arith, k.places, k.some_place) in
        let plain = plain_from ws here (get_or us (i + n) 0) b (λ z. omega (arith, z)) in
        let next : Run = record { tokens = run.tokens + n + 1; moves = run.moves + n + 1; registers = run.registers; places = run.places; at = run.at + n + 1 } in
        let qs : List ℕ = passed ws (run.at + n + 1) run.places ps' in
        let made : Turned bound most ws us vs (i + n) rs ps' here rs qs (Ok next) = turned_plain bound most ws us vs rs ps' here (i + n) even j small plain (λ value m g lent d h ok. made_read h _ value ok limit on_word refl m) in
        let at : i + n ≡ i + (here.tokens - run.tokens) = omega arith in
        let places : qs ≡ passed_by ws run (suc n) ps = ap (passed ws (run.at + n + 1) run.places) (counted_all ws run n ps fits on_word) ∙ ap (λ a. passed ws a run.places (count_by n run.places ps)) (omega arith) in
        let same : next ≡ after_reads run (suc n) = same_run next (omega arith) (omega arith) (omega arith) in
        (subst₂ (λ x y. Reaches bound most ws us vs i rs ps run rs x y) places same (reaches_then at (turned_reaches made) q.0), subst₂ (λ x y. Running ws rs x y) places same (turned_after j q.1 made).2)

  -- all of them, counted at once
  pub reads_from : (a : ℕ) (ps ps' : List ℕ) → Follow bound most ws us i run a → (a ≡ run.at → ⊥) → ps' ≡ passed ws a run.places (count_by (a - run.at - 1) run.places ps)
      → Reads bound most ws us i ps run ps' (record { tokens = run.tokens + (a - run.at); moves = run.moves + (a - run.at); registers = run.registers; places = run.places; at = a })
  reads_from a ps ps' f z e vs rs even g lent d o h left =
      let n = a - run.at in
      let at : run.at + n ≡ a = omega (arith, f.0) in
      let places : passed_by ws run n ps ≡ ps' = sym (e ∙ passed_by_lem ws run n a ps (omega (arith, f.0, z)) at) in
      let same : after_reads run n ≡ record { tokens = run.tokens + n; moves = run.moves + n; registers = run.registers; places = run.places; at = a } = ap (λ x. record { tokens = run.tokens + n; moves = run.moves + n; registers = run.registers; places = run.places; at = x }) at in
      subst₂ (λ x y. Reaches bound most ws us vs i rs ps run rs x y) places same (f.1 ps rs vs even (record { grammar = g; lent = lent; config = d; held = h })).0 g lent d o h left
