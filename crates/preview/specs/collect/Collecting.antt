-- The set of tokens that are let through, token by token.
use Rattle.std.specs.Prelude.{ℕ, ◌+◌, ◌≤◌, ◌<◌, ◌≡◌, Bool, true, false, List, length, get_or, ℤ}
use Rattle.std.proofs.Common.{arith, sym, ap, ◌∙◌}
use Rattle.meaning.specs.Limits.{terminals_limit}
use Rattle.meaning.specs.Grammar.{Grammar}
use Rattle.meaning.specs.Sets.{TokenSet, singleton, ◌∪◌}
use Rattle.meaning.specs.Machine.{Config, Lent}
use Rattle.theory_program.specs.Records.{segment_words_lem}
use Rattle.theory_program.specs.WordsStand.{stands_within}
use Rattle.theory_program.specs.Addresses.{segment_at}
use Rattle.theory_preview.specs.Tokens.{passing, passing_none, passing_not, passing_more}
use Rattle.token_set.specs.SetBits.{set_of, set_empty}
use Rattle.run_moves.specs.declared.Run.{Run}
use Rattle.run_moves.specs.Held.{Held}
use Rattle.run_machine.specs.Advancing.{Running}
use Rattle.preview.specs.token.Passing.{lets_through, PassesAs}

-- with one token more, where it is let through
abbrev pub grown_by : TokenSet → ℕ → Bool → TokenSet
grown_by s t true = s ∪ singleton t
grown_by s t false = s

-- the tokens below n that are let through
pub record CollectedTo (ws : List ℕ) (v : ℤ) (vs : List ℤ) (ps : List ℕ) (run : Run) (n : ℕ) (set : ℕ) : Type 0 where
  pub from : (g : Grammar) (lent : Lent) (c : Config) → Held g ws lent vs ps run c → set_of set ≡ passing (lets_through g lent c v) n

pub record Collected (ws : List ℕ) (v : ℤ) (vs : List ℤ) (ps : List ℕ) (run : Run) (set : ℕ) : Type 0 where
  pub from : (g : Grammar) (lent : Lent) (c : Config) → Held g ws lent vs ps run c → set_of set ≡ passing (lets_through g lent c v) g.terminals

module _ {ws : List ℕ} {v : ℤ} {vs : List ℤ} {ps : List ℕ} {run : Run} where
  pub collected_none : CollectedTo ws v vs ps run 0 0
  collected_none = record { from = λ g lent c h. set_empty ∙ sym (passing_none (lets_through g lent c v)) }

  pub collected_more : {n set : ℕ} → CollectedTo ws v vs ps run n set → n < 64 → (b : Bool) → PassesAs ws n v vs ps run b → (next : ℕ) → set_of next ≡ grown_by (set_of set) n b → CollectedTo ws v vs ps run (n + 1) next
  collected_more {n} {set} k small true p next e = record { from = λ g lent c h. e ∙ (ap (λ s. s ∪ singleton n) (k.from g lent c h) ∙ sym (passing_more (lets_through g lent c v) n small (sym (p.from g lent c h)))) }
  collected_more {n} {set} k small false p next e = record { from = λ g lent c h. e ∙ (k.from g lent c h ∙ sym (passing_not (lets_through g lent c v) n (sym (p.from g lent c h)))) }

  pub collected_all : {n set : ℕ} → CollectedTo ws v vs ps run n set → n ≤ get_or ws 3 0 → get_or ws 3 0 ≤ n → Collected ws v vs ps run set
  collected_all {n} {set} k a b = record {
    from = λ g lent c h.
        let e : n ≡ g.terminals = omega (arith, (segment_words_lem h.begins).terminals) in
        k.from g lent c h ∙ ap (passing (lets_through g lent c v)) e;
  }

-- T is at most 63
pub few_terminals : {ws : List ℕ} {vs : List ℤ} {ps : List ℕ} {run : Run} → Running ws vs ps run → get_or ws 3 0 ≤ terminals_limit
few_terminals r = omega (arith, (segment_words_lem r.held.begins).terminals, r.held.well_formed.terminals.1)

pub program_long : {ws : List ℕ} {vs : List ℤ} {ps : List ℕ} {run : Run} → Running ws vs ps run → 3 < length ws
program_long r = omega (arith, stands_within (segment_at r.held.begins))
