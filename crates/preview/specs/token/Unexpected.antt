-- A token that is not expected is refused by the first move that looks at it.
use Rattle.std.specs.Prelude.{ℕ, suc, ◌+◌, ◌-◌, ◌*◌, ◌<◌, ◌≡◌, refl, Bool, true, false, ◌&&◌, cond, List, [], ◌++◌, length, get_or, eqb, ltb, leb, ℤ}
use Rattle.std.proofs.Common.{arith, sym, ap, ◌∙◌, true≢false, ne_eqb, eqb-true, ltb-true, ltb-false, le-ltb}
use Rattle.std.proofs.Math.Bool.{and-false}
use Rattle.std.proofs.lemmas.Bool.{eqb-false, not-false}
use Rattle.meaning.specs.Program.{read_operation, predict_operation, nothing_operation}
use Rattle.meaning.specs.Sets.{end_number}
use Rattle.meaning.specs.Grammar.{Grammar, Leaf, leaf_of}
use Rattle.meaning.specs.Machine.{Config, Lent, comes, moved, blocked, unexpected, next, waits, is_done, Settled, stopped, failed, advance_from, feed_all, moves_limit, tokens_limit}
use Rattle.theory_base.specs.Steps.{advance_failed}
use Rattle.theory_program.specs.Parts.{head_operation, head_operand}
use Rattle.refusals.specs.declared.Refusal.TheVariants.{UnexpectedToken}
use Rattle.run_moves.specs.declared.Run.{Run}
use Rattle.run_moves.specs.Held.{Held, bounds, hand_terminal, next_is}
use Rattle.run_moves.specs.Moves.{after}
use Rattle.run_moves.specs.Passing.{look_if}
use Rattle.run_predict.specs.Entering.{directory_inside, first_zero, blocked_unexpected}
use Rattle.run_machine.specs.Advancing.{Running, blocked_over, blocked_limit}
use Rattle.preview.specs.expected.Expected.{expected_by, expected_at, Legible}
use Rattle.preview.specs.token.Passing.{is_stopped, lets_through, PassesAs}

pub legible : {ws : List ℕ} {m : List ℤ} {ps : List ℕ} {run : Run} → Running ws m ps run → (u : ℕ) → u < 64 → Legible ws run.at u
legible r u l = record { inside = (bounds r.held).inside; directory = λ o. directory_inside r.held o u l; small = l }

module _ {g : Grammar} {ws : List ℕ} {lent : Lent} {m : List ℤ} {ps : List ℕ} {run : Run} {c : Config} (h : Held g ws lent m ps run c) (v : ℤ) (u : ℕ) where
  abbrev leaf : Leaf
  leaf = leaf_of g (record { kind = u; value = v })

  abbrev number : ℕ
  number = head_operation (get_or ws run.at 0)

  abbrev operand : ℕ
  operand = head_operand (get_or ws run.at 0)

  abbrev Refuses : Type 0
  Refuses = (k : ℕ) × (next g lent (comes leaf) c ≡ blocked k)

  -- below the limit of moves
  module _ (limit : run.moves < moves_limit) where
    other_terminal : number ≡ read_operation → (operand ≡ u → ⊥) → Refuses
    other_terminal o z =
        let x = hand_terminal h o in
        let vs : List ℤ = leaf.values in
        let taken = cond (ltb lent.max_registers (length c.registers + length vs)) (blocked 31) (moved (after h x (vs ++ c.registers) (suc c.tokens))) in
        (21, next_is h (comes leaf) x limit ∙ ap (λ b. cond b taken (blocked 21)) (ne_eqb operand u z))

    no_alternative : u < end_number → number ≡ predict_operation → get_or ws (9 + 64 * operand + u) 0 ≡ 0 → Refuses
    no_alternative l o z =
        let token : eqb u end_number ≡ false = ne_eqb u end_number (λ e. omega arith) in
        (21, (blocked_unexpected h o u (omega arith) (comes leaf) (sym (ap (λ b. look_if b u) token)) limit (first_zero h o u (omega arith) z) UnexpectedToken (sym (ap (λ b. unexpected (look_if b u)) token))).0)

  -- its first move is refused: the terminal is another, no alternative holds it, nothing is left; or no move is
  refuses : u < end_number → expected_at ws run.at u ≡ false → Refuses
  refuses l = go (ltb run.moves moves_limit) (eqb number read_operation) (eqb number predict_operation) (eqb number nothing_operation) refl refl refl refl
    where
      go : (a b d s : Bool) → ltb run.moves moves_limit ≡ a → eqb number read_operation ≡ b → eqb number predict_operation ≡ d → eqb number nothing_operation ≡ s → expected_by b d s ws operand u ≡ false → Refuses
      go a false false false x y z w e = absurd (true≢false e)
      go a false false true x y z w e = (_, blocked_over h (comes leaf) (eqb-true number nothing_operation w))
      go true true d s x y z w e = other_terminal (ltb-true run.moves moves_limit x) (eqb-true number read_operation y) (eqb-false operand u e)
      go true false true s x y z w e = no_alternative (ltb-true run.moves moves_limit x) l (eqb-true number predict_operation z) (eqb-true (get_or ws (9 + 64 * operand + u) 0) 0 (not-false (eqb (get_or ws (9 + 64 * operand + u) 0) 0) e))
      go false true d s x y z w e = (35, blocked_limit h (comes leaf) (λ q. omega (arith, q, eqb-true number read_operation y)) (omega (arith, (bounds h).moves, ltb-false run.moves moves_limit x)))
      go false false true s x y z w e = (35, blocked_limit h (comes leaf) (λ q. omega (arith, q, eqb-true number predict_operation z)) (omega (arith, (bounds h).moves, ltb-false run.moves moves_limit x)))

  abbrev fed_by : Bool → Bool → Settled
  fed_by late known = elim late as (λ x. Settled) [ true ↦ failed c 35 | false ↦ elim known as (λ x. Settled) [ true ↦ advance_from g lent (comes leaf) c | false ↦ failed c 20 ] ]

  abbrev ended_by : Settled → Bool
  ended_by o = is_stopped (elim o as (λ x. Settled) [ failed d k ↦ failed d k | stopped d ↦ feed_all g lent [] d ])

  -- so it is not let through
  pub not_expected_lem : expected_at ws run.at u ≡ false → lets_through g lent c v u ≡ false
  not_expected_lem e = go (leb tokens_limit c.tokens) (ltb u g.terminals) refl
    where
      not_read : waits c.frames && is_done (comes leaf) c.tokens c ≡ false
      not_read = ap (λ b. waits c.frames && b) (le-ltb c.tokens c.tokens (omega arith)) ∙ and-false (waits c.frames)

      go : (a b : Bool) → ltb u g.terminals ≡ b → ended_by (fed_by a b) ≡ false
      go true b x = refl
      go false false x = refl
      go false true x =
          let r = refuses (omega (arith, ltb-true u g.terminals x, h.well_formed.terminals.1)) e in
          ap ended_by (advance_failed g lent (comes leaf) c.tokens (moves_limit - c.moves) c r.0 not_read r.1)

pub passes_none : {ws : List ℕ} {k : ℕ} {v : ℤ} {vs : List ℤ} {ps : List ℕ} {run : Run} → expected_at ws run.at k ≡ false → PassesAs ws k v vs ps run false
passes_none {k = k} {v = v} e = record { from = λ g lent c h. sym (not_expected_lem h v k e) }
