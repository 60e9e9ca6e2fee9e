-- Some configuration is held, and what the operation's number says of the move at hand.
use Rattle.std.specs.Prelude.{ℕ, ◌≤◌, ◌≡◌, refl, Bool, false, ◌&&◌, cond, List, [], ◌∷◌, get_or, eqb, ℤ, Err}
use Rattle.std.proofs.Common.{arith, sym, ap, ◌∙◌, le-leb}
use Rattle.std.proofs.Math.Bool.{and-false}
use Rattle.meaning.specs.Base.{is_empty}
use Rattle.meaning.specs.Grammar.{Grammar, terminal, nonterminal, whole}
use Rattle.meaning.specs.Scheme.{Instruction, add, evaluate, expect, test, remove}
use Rattle.meaning.specs.Machine.{Frame, Config, Lent, Coming, as_look, blocked, next, next_of, move, unexpected, needs_look, waits, is_finished, moves_limit}
use Rattle.meaning.specs.Part.{frame}
use Rattle.meaning.specs.Program.{nothing_operation}
use Rattle.theory_program.specs.Parts.{head_operation}
use Rattle.theory_program.specs.Code.{operation, low_operation}
use Rattle.run_looking.specs.Judging.{looks_ahead}
use Rattle.run_moves.specs.declared.Run.{Run}
use Rattle.refusals.specs.declared.Refusal.TheVariants.{LimitReached}
use Rattle.run_moves.specs.Held.{Held, Answers, AtHand, some, nothing, at_hand}

-- some configuration is held
pub record Running (ws : List ℕ) (m : List ℤ) (ps : List ℕ) (run : Run) : Type 0 where
  pub grammar : Grammar
  pub lent : Lent
  pub config : Config
  pub held : Held grammar ws lent m ps run config

-- ---- the operation's number

looks_right : (i : Instruction) (is : List Instruction) → looks_ahead (operation i) ≡ needs_look (i ∷ is)
looks_right (add n) is = refl
looks_right (evaluate rs) is = refl
looks_right (expect (terminal t)) is = refl
looks_right (expect (nonterminal n)) is = refl
looks_right (test cs) is = refl
looks_right (remove n) is = refl

not_left : (i : Instruction) → eqb (operation i) nothing_operation ≡ false
not_left (add n) = refl
not_left (evaluate rs) = refl
not_left (expect (terminal t)) = refl
not_left (expect (nonterminal n)) = refl
not_left (test cs) = refl
not_left (remove n) = refl

abbrev finished_of : List Frame → Bool
finished_of fs = elim fs as (λ x. Bool) [ [] ↦ false | f ∷ gs ↦ eqb f.production whole && is_empty f.rest ]

module _ {g : Grammar} {ws : List ℕ} {lent : Lent} {m : List ℤ} {ps : List ℕ} {run : Run} {c : Config} (h : Held g ws lent m ps run c) where
  abbrev number : ℕ
  number = head_operation (get_or ws run.at 0)

  pub number_most : number ≤ nothing_operation
  number_most = go (at_hand h)
    where
      go : AtHand h → number ≤ nothing_operation
      go (some i x o n) = omega (arith, o, low_operation i)
      go (nothing below e w l) = omega arith

  -- whether the machine waits
  pub waits_is : looks_ahead number ≡ waits c.frames
  waits_is = go (at_hand h)
    where
      go : AtHand h → looks_ahead number ≡ waits c.frames
      go (some i x o n) = ap looks_ahead o ∙ (looks_right i x.rest ∙ sym (ap waits x.frames))
      go (nothing below e w l) =
          let z : number ≡ nothing_operation = omega arith in
          ap looks_ahead z ∙ sym (ap waits e)

  -- whether the start symbol is left
  pub finished_is : eqb number nothing_operation ≡ is_finished c
  finished_is = go (at_hand h)
    where
      go : AtHand h → eqb number nothing_operation ≡ is_finished c
      go (some i x o n) = ap (λ k. eqb k nothing_operation) o ∙ (not_left i ∙ sym (ap finished_of x.frames ∙ and-false (eqb x.production whole)))
      go (nothing below e w l) =
          let z : number ≡ nothing_operation = omega arith in
          ap (λ k. eqb k nothing_operation) z ∙ sym (ap finished_of e)

  -- nothing is left
  pub blocked_over : (look : Coming) → number ≡ nothing_operation → next g lent look c ≡ blocked (unexpected (as_look look))
  blocked_over look z = go (at_hand h)
    where
      go : AtHand h → next g lent look c ≡ blocked (unexpected (as_look look))
      go (some i x o n) = absurd (omega (arith, o, low_operation i))
      go (nothing below e w l) = ap (next_of g lent look c) e

  -- 01: "35 .. a move after 4,294,967,295"
  pub blocked_limit : (look : Coming) → (number ≡ nothing_operation → ⊥) → run.moves ≡ moves_limit → next g lent look c ≡ blocked 35
  blocked_limit look z e = go (at_hand h)
    where
      go : AtHand h → next g lent look c ≡ blocked 35
      go (some i x o n) = ap (next_of g lent look c) x.frames ∙ ap (λ b. cond b (blocked 35) (move g lent look c (frame x.production (i ∷ x.rest)) x.below i)) (le-leb moves_limit c.moves (omega (arith, h.moves)))
      go (nothing below y w l) = absurd (z (omega arith))

-- for whatever comes
pub limit_answers : {ws : List ℕ} {m : List ℤ} {ps : List ℕ} {run : Run} → (head_operation (get_or ws run.at 0) ≡ nothing_operation → ⊥) → run.moves ≡ moves_limit → (look : Coming) → Answers ws m ps run look m ps (Err LimitReached)
limit_answers z e look g lent c h ok = (blocked_limit h look z e, refl, refl)
