-- Moves one after the other, and reads that follow one another, of tokens that bring no value: when one is at hand, and what they lead to.
use Rattle.std.specs.Prelude.{ℕ, ◌+◌, ◌-◌, ◌≤◌, ◌<◌, ◌≡◌, refl, Bool, true, false, ◌&&◌, not, List, length, get_or, drop, T, eqb, ℤ, pos, Ok}
use Rattle.std.proofs.Common.{arith, sym, ap, ◌∙◌, subst, eqb→eq, eq-eqb, ne_eqb}
use Rattle.std.specs.Float.Ieee.Bits.{is_false}
use Rattle.meaning.specs.Sets.{end_number}
use Rattle.meaning.specs.Base.{any}
use Rattle.meaning.specs.Grammar.{Grammar, carried}
use Rattle.meaning.specs.Value.{mark}
use Rattle.meaning.specs.Calls.{is_mark, tokens_from}
use Rattle.meaning.specs.Machine.{Config, Lent, comes, Settled, next, moves_limit}
use Rattle.theory_base.specs.Members.{true→T, both}
use Rattle.theory_answers.specs.ShapeMoves.{IsAhead}
use Rattle.meaning.specs.Program.{head_of, read_operation}
use Rattle.theory_program.specs.Parts.{head_operation, head_operand}
use Rattle.theory_program.specs.Addresses.{Begins}
use Rattle.theory_program.specs.Records.{carrier_word}
use Rattle.run_looking.specs.Judging.{looks_ahead, judged_of, carries_at, value_none}
use Rattle.run_moves.specs.declared.Run.{Run}
use Rattle.run_moves.specs.Held.{Held, Made, Answers}
use Rattle.run_moves.specs.Passing.{coming_of}
use Rattle.run_next_token.specs.Operations.{Running}
use Rattle.run_next_token.specs.Coming.{comes_if, comes_to, comes_is, comes_ahead, take_looks}
use Rattle.run_next_token.specs.Turns.{Left, ahead, Turned, turned_look}

-- ---- moves one after the other, perhaps none

abbrev pub Reaches : ℕ → ℕ → List ℕ → List ℕ → List ℤ → ℕ → List ℤ → List ℕ → Run → List ℤ → List ℕ → Run → Type 0
Reaches bound most ws us vs i m ps run m' ps' run' =
    (g : Grammar) (lent : Lent) (d : Config) (o : Settled) → Held g ws lent m ps run d → Left bound most us vs g lent i d o
    → (f : Config) × Held g ws lent m' ps' run' f × (run.moves ≤ run'.moves) × (run.tokens ≤ run'.tokens) × Left bound most us vs g lent (i + (run'.tokens - run.tokens)) f o

module _ {bound most : ℕ} {ws us : List ℕ} {vs : List ℤ} {i : ℕ} {m : List ℤ} {ps : List ℕ} {run : Run} where
  pub reaches_none : Reaches bound most ws us vs i m ps run m ps run
  reaches_none g lent d o h left =
      let same : i ≡ i + (run.tokens - run.tokens) = omega arith in
      (d, h, omega arith, omega arith, subst (λ j. Left bound most us vs g lent j d o) same left)

  module _ {m' : List ℤ} {ps' : List ℕ} {run' : Run} where
    pub turned_reaches : Turned bound most ws us vs i m ps run m' ps' (Ok run') → Reaches bound most ws us vs i m ps run m' ps' run'
    turned_reaches a g lent d o h left =
        let s = a g lent d o h left in
        (s.0, s.1, omega (arith, s.2), s.3, s.4)

    -- where the token at hand is taken: what is counted, and that some configuration is held
    pub turned_after : Ok tt ≡ judged_of bound most us i run.tokens → (r : Running ws m ps run) → Turned bound most ws us vs i m ps run m' ps' (Ok run') → (run.moves < run'.moves) × (run.tokens ≤ run'.tokens) × Running ws m' ps' run'
    turned_after j r a =
        let rest = take_looks bound most r.grammar r.lent (drop i (tokens_from us vs)) r.config in
        let s = a r.grammar r.lent r.config rest r.held (ahead (j ∙ ap (judged_of bound most us i) r.held.tokens) refl) in
        (s.2, s.3, record { grammar = r.grammar; lent = r.lent; config = s.0; held = s.1 })

    module _ {j : ℕ} {m'' : List ℤ} {ps'' : List ℕ} {run'' : Run} (e : j ≡ i + (run'.tokens - run.tokens)) (b : Reaches bound most ws us vs j m' ps' run' m'' ps'' run'') where
      pub reaches_then : Reaches bound most ws us vs i m ps run m' ps' run' → Reaches bound most ws us vs i m ps run m'' ps'' run''
      reaches_then a g lent d o h left =
          let s = a g lent d o h left in
          let t = b g lent s.0 o s.1 (subst (λ k. Left bound most us vs g lent k s.0 o) (sym e) s.4) in
          let same : j + (run''.tokens - run'.tokens) ≡ i + (run''.tokens - run.tokens) = omega (arith, e, s.3, t.3) in
          (t.0, t.1, omega (arith, s.2, t.2), omega (arith, s.3, t.3), subst (λ k. Left bound most us vs g lent k t.0 o) same t.4)

      pub turned_then : Turned bound most ws us vs i m ps run m' ps' (Ok run') → Turned bound most ws us vs i m ps run m'' ps'' (Ok run'')
      turned_then a g lent d o h left =
          let s = a g lent d o h left in
          let t = b g lent s.0 o s.1 (subst (λ k. Left bound most us vs g lent k s.0 o) (sym e) s.4) in
          let same : j + (run''.tokens - run'.tokens) ≡ i + (run''.tokens - run.tokens) = omega (arith, e, s.3, t.3) in
          (t.0, t.1, omega (arith, s.2, t.2), omega (arith, s.3, t.3), subst (λ k. Left bound most us vs g lent k t.0 o) same t.4)

-- ---- the read of a token that brings no value

-- it stands at address a
abbrev pub is_plain_read : List ℕ → ℕ → ℕ → Bool
is_plain_read ws a u = eqb (get_or ws a 0) (head_of read_operation u) && not (carries_at ws u)

-- it is at hand, and a move is left for it
abbrev pub can_read_plain : List ℕ → Run → ℕ → Bool
can_read_plain ws run u = is_plain_read ws run.at u && not (eqb run.moves moves_limit)

pub bare_of : (ws : List ℕ) (a u : ℕ) → T (is_plain_read ws a u) → (get_or ws a 0 ≡ head_of read_operation u) × (carries_at ws u ≡ false)
bare_of ws a u t =
    let s = both (eqb (get_or ws a 0) (head_of read_operation u)) (not (carries_at ws u)) t in
    (eqb→eq (get_or ws a 0) (head_of read_operation u) s.0, is_false (carries_at ws u) s.1)

pub plain_of : (ws : List ℕ) (run : Run) (u : ℕ) → can_read_plain ws run u ≡ true → (get_or ws run.at 0 ≡ head_of read_operation u) × (carries_at ws u ≡ false) × (run.moves ≡ moves_limit → ⊥)
plain_of ws run u e =
    let a = both (is_plain_read ws run.at u) (not (eqb run.moves moves_limit)) (true→T (can_read_plain ws run u) e) in
    let b = bare_of ws run.at u a.0 in
    (b.0, b.1, λ z. differs (eqb run.moves moves_limit) (eq-eqb run.moves moves_limit z) a.1)
  where
    differs : (b : Bool) → b ≡ true → T (not b) → ⊥
    differs b z t = subst (λ x. T (not x)) z t

pub plain_from : (ws : List ℕ) (run : Run) (u : ℕ) → is_plain_read ws run.at u ≡ true → (run.moves ≡ moves_limit → ⊥) → can_read_plain ws run u ≡ true
plain_from ws run u e z = ap (λ b. b && not (eqb run.moves moves_limit)) e ∙ ap not (ne_eqb run.moves moves_limit z)

-- a token that brings no value is the same whatever stands beside it
same_plain : {g : Grammar} {ws : List ℕ} → Begins g ws → (u : ℕ) (v : ℤ) → u < 64 → carries_at ws u ≡ false → comes_to g u (pos 0) ≡ comes_to g u v
same_plain {g} {ws} b u v small none = go (eqb u end_number)
  where
    off : any (eqb u) g.carrying ≡ false
    off = sym (carrier_word b u small) ∙ none

    go : (x : Bool) → comes_if x g u (pos 0) ≡ comes_if x g u v
    go true = refl
    go false = ap (λ c. comes (record { kind = u; values = carried c (pos 0) })) off ∙ sym (ap (λ c. comes (record { kind = u; values = carried c v })) off)

module _ (bound most : ℕ) (ws us : List ℕ) (vs m : List ℤ) (ps : List ℕ) (run : Run) (i : ℕ) (even : length us ≡ length vs) (j : Ok tt ≡ judged_of bound most us i run.tokens) (small : get_or us i 0 < 64) (p : can_read_plain ws run (get_or us i 0) ≡ true) where
  pub turned_plain : {ps' : List ℕ} {run' : Run} → ((value : ℤ) → is_mark value ≡ true → Answers ws m ps run (coming_of (head_operand (get_or ws run.at 0)) value) m ps' (Ok run')) → Turned bound most ws us vs i m ps run m ps' (Ok run')
  turned_plain {ps'} {run'} a =
      let u = get_or us i 0 in
      let k = plain_of ws run u p in
      let o : head_operation (get_or ws run.at 0) ≡ read_operation = omega (arith, k.0) in
      let n : head_operand (get_or ws run.at 0) ≡ u = omega (arith, k.0) in
      turned_look bound most ws us vs m ps run i even j m ps' (Ok run') (ap looks_ahead o) (λ z. omega (arith, o, z))
      (λ g lent d h.
      let w = value_none ws u (pos 0) k.1 in
      let same : coming_of (head_operand (get_or ws run.at 0)) mark ≡ comes_to g u (pos 0) = ap (λ x. coming_of x mark) n ∙ (ap (coming_of u) w ∙ comes_is h.begins u (pos 0) small tt) in
      let ok = subst (IsAhead g) (sym same) (comes_ahead h.begins u (pos 0) small tt) in
      subst (λ l. Made g ws lent (next g lent l d) m ps m ps' (Ok run')) (same ∙ same_plain h.begins u (get_or vs i (pos 0)) small k.1) (a mark refl g lent d h ok))

-- the read of the token at hand, u, which is taken, or nothing
abbrev pub ReadsOn : List ℕ → List ℕ → Run → ℕ → List ℕ → Run → Type 0
ReadsOn ws ps run u ps' run' =
    (bound most : ℕ) (us : List ℕ) (vs rs : List ℤ) (i : ℕ) → length us ≡ length vs → Ok tt ≡ judged_of bound most us i run.tokens → get_or us i 0 ≡ u → Reaches bound most ws us vs i rs ps run rs ps' run'

-- reads one after the other, whatever values stand beside the tokens
abbrev pub Reads : ℕ → ℕ → List ℕ → List ℕ → ℕ → List ℕ → Run → List ℕ → Run → Type 0
Reads bound most ws us i ps run ps' run' = (vs rs : List ℤ) → length us ≡ length vs → Reaches bound most ws us vs i rs ps run rs ps' run'
