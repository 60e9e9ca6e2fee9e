-- Demand 2 for tables: accepted exactly where 01's rules are met, and one verdict for every list of bytes.
use Rattle.std.specs.Prelude.{refl}
use Rattle.std.proofs.Common.{sym, subst}
use Rattle.meaning.specs.Grammar.{Grammar}
use Rattle.meaning.specs.Table.{State, grammar_of}
use Rattle.meaning.specs.Judgement.{Accepted, accepted, JudgedGrammar, meets, AllUseful, NoneRecursive, NoneClash}
use Rattle.meaning.specs.Decide.{verdict_of}
use Rattle.meaning_statements.specs.Statements.{Meets, AcceptedExactly, JudgedOnce}
use Rattle.theory_table.specs.Exactly.{well_formed_exactly}
use Rattle.theory_sets.specs.Accepted.{judged_is}

-- 11 to 13 do not apply
abbrev LaterRules : Grammar → Type 0
LaterRules g = AllUseful g × NoneRecursive g × NoneClash g

later_rules : (s : State) → JudgedGrammar s accepted → LaterRules (grammar_of s)
later_rules s (meets u r c) = (u, r, c)

pub accepted_exactly : AcceptedExactly
accepted_exactly bs b g = (forth, back)
  where
    forth : Accepted bs g → Meets bs g
    forth a =
        let w = (well_formed_exactly bs b g).0 (a.state, a.is_read, a.is_grammar) in
        let l : LaterRules g = subst LaterRules a.is_grammar (later_rules a.state a.judged) in
        record { short = w.2; laid_out = w.0; well_formed = w.1; useful = l.0; no_recursion = l.1; no_clash = l.2 }

    back : Meets bs g → Accepted bs g
    back m =
        let r = (well_formed_exactly bs b g).1 (m.laid_out, m.well_formed, m.short) in
        let l : LaterRules (grammar_of r.0) = subst LaterRules (sym r.2) (m.useful, m.no_recursion, m.no_clash) in
        record { state = r.0; is_read = r.1; is_grammar = r.2; judged = meets l.0 l.1 l.2 }

pub judged_once : JudgedOnce
judged_once bs = ((judged_is bs (verdict_of bs)).1 refl, λ v j. sym ((judged_is bs v).0 j))
