-- Sheets from other tools, judged on the grammar of words and tags: one word, whose sheet has 76 bytes.
use Rattle.std.specs.Prelude.{ℕ, ◌≤◌, ◌≡◌, refl, List, [], ◌∷◌, ◌++◌, length, take, drop, replicate, pos}
use Rattle.std.proofs.Common.{sym, ap, ◌∙◌, subst, lit<}
use Rattle.meaning.specs.Grammar.{Grammar}
use Rattle.meaning.specs.Judgement as Judgement
use Rattle.meaning.specs.Judgement.{Accepted}
use Rattle.meaning.specs.Decide.{verdict_of}
use Rattle.meaning.specs.Table.{State, Read, well_formed, malformed, nothing_read, read_table, grammar_of}
use Rattle.meaning.specs.Calls as Calls
use Rattle.meaning.specs.PublicCalls.{area_length}
use Rattle.meaning.specs.Examples.WordsAndTags.{words}
use Rattle.meaning.specs.Examples.TableRows.{bytes}
use Rattle.theory_sets.specs.Accepted.{verdict→accepted}
use Rattle.theory_complete.specs.CompleteUnique.{only}
use Rattle.meaning_sheet.specs.SheetCalls.{stacks_for, stack_run_value}
use Rattle.meaning_judge.specs.Judge.{Describes, worth, turned_back, JudgedAs}
use Rattle.meaning_judge.specs.JudgeStatements.{segment_answer}
use Rattle.meaning_judge.specs.JudgeRows.{one_word, one_tree, one_sheet, one_tree_lem, described, trailing, other_value, other_before}
use Rattle.theory_judge.specs.JudgeProved.{accepted_sheets, refused_sheets, run_answered, refused_segments}

abbrev state_in : Read → State
state_in (well_formed s) = s
state_in (malformed n o) = nothing_read

read_words : grammar_of (state_in (read_table bytes)) ≡ words
unfolding bytes
read_words = refl

verdict : verdict_of bytes ≡ Judgement.accepted
unfolding bytes
verdict = refl

words_table : Accepted bytes words
words_table =
    let a = verdict→accepted bytes verdict in
    subst (Accepted bytes) (sym a.1.is_grammar ∙ (ap (λ r. grammar_of (state_in r)) (sym a.1.is_read) ∙ read_words)) a.1

accepted : JudgedAs bytes (0 ∷ []) (pos 5 ∷ []) one_sheet (worth (pos 1))
accepted = (accepted_sheets bytes words (0 ∷ []) (pos 5 ∷ []) one_sheet words_table refl (pos 1)).1 (one_tree, described, refl)

-- a sheet that is not that of the one tree
refused : (bs : List ℕ) → (Describes words one_word bs one_tree → ⊥) → JudgedAs bytes (0 ∷ []) (pos 5 ∷ []) bs (turned_back 43 0)
refused bs f = (refused_sheets.0 bytes words (0 ∷ []) (pos 5 ∷ []) bs words_table refl).1 (λ t h. f (subst (Describes words one_word bs) (only bytes words words_table one_word t one_tree h.tree one_tree_lem) h))

-- "and nothing after it"
one_more : JudgedAs bytes (0 ∷ []) (pos 5 ∷ []) (one_sheet ++ (0 ∷ [])) (turned_back 43 0)
one_more = refused (one_sheet ++ (0 ∷ [])) trailing

-- the root's n is 2, which the rule for it does not give
another_value : JudgedAs bytes (0 ∷ []) (pos 5 ∷ []) (take 19 one_sheet ++ (2 ∷ drop 20 one_sheet)) (turned_back 43 0)
another_value = refused (take 19 one_sheet ++ (2 ∷ drop 20 one_sheet)) (other_value (take 19 one_sheet ++ (2 ∷ drop 20 one_sheet)) refl)

-- the last node has one token before it, not none
another_before : JudgedAs bytes (0 ∷ []) (pos 5 ∷ []) (take 55 one_sheet ++ (0 ∷ drop 56 one_sheet)) (turned_back 43 0)
another_before = refused (take 55 one_sheet ++ (0 ∷ drop 56 one_sheet)) (other_before (take 55 one_sheet ++ (0 ∷ drop 56 one_sheet)) refl)

-- ---- segments that are refused, on stacks of so many cells

module _ (program : Grammar → List ℕ) (area : List ℕ) (l : area_length ≤ length area) where
  -- a word, then an end that nothing opened: 21 after one token
  abbrev unopened : List ℕ
  unopened = 0 ∷ 2 ∷ []

  refused_21 : segment_answer program bytes area (stacks_for 8 5) unopened (replicate 2 (pos 0)) ≡ Calls.refused 21 1
  refused_21 = let run : stack_run_value words (stacks_for 8 5) unopened (replicate 2 (pos 0)) ≡ Calls.refused 21 1 = refl in run_answered program bytes area words (stacks_for 8 5) unopened (replicate 2 (pos 0)) words_table l ∙ run

  all_43_for_21 : (bs : List ℕ) → JudgedAs bytes unopened (replicate 2 (pos 0)) bs (turned_back 43 0)
  all_43_for_21 bs = refused_segments program bytes area words (stacks_for 8 5) unopened (replicate 2 (pos 0)) bs 21 1 words_table l tt refl refused_21 (lit< tt, lit< tt)

  -- four tags open: 22 after three tokens
  abbrev too_deep : List ℕ
  too_deep = replicate 4 1

  refused_22 : segment_answer program bytes area (stacks_for 12 6) too_deep (replicate 4 (pos 0)) ≡ Calls.refused 22 3
  refused_22 = let run : stack_run_value words (stacks_for 12 6) too_deep (replicate 4 (pos 0)) ≡ Calls.refused 22 3 = refl in run_answered program bytes area words (stacks_for 12 6) too_deep (replicate 4 (pos 0)) words_table l ∙ run

  all_43_for_22 : (bs : List ℕ) → JudgedAs bytes too_deep (replicate 4 (pos 0)) bs (turned_back 43 0)
  all_43_for_22 bs = refused_segments program bytes area words (stacks_for 12 6) too_deep (replicate 4 (pos 0)) bs 22 3 words_table l tt refl refused_22 (lit< tt, lit< tt)

  -- one word on too few registers, or too few places: 31 and 32 do not tell that it has no tree, and its sheet is accepted
  refused_31 : (segment_answer program bytes area (stacks_for 2 6) (0 ∷ []) (pos 5 ∷ []) ≡ Calls.refused 31 0) × JudgedAs bytes (0 ∷ []) (pos 5 ∷ []) one_sheet (worth (pos 1))
  refused_31 = let run : stack_run_value words (stacks_for 2 6) (0 ∷ []) (pos 5 ∷ []) ≡ Calls.refused 31 0 = refl in (run_answered program bytes area words (stacks_for 2 6) (0 ∷ []) (pos 5 ∷ []) words_table l ∙ run, accepted)

  refused_32 : (segment_answer program bytes area (stacks_for 8 2) (0 ∷ []) (pos 5 ∷ []) ≡ Calls.refused 32 0) × JudgedAs bytes (0 ∷ []) (pos 5 ∷ []) one_sheet (worth (pos 1))
  refused_32 = let run : stack_run_value words (stacks_for 8 2) (0 ∷ []) (pos 5 ∷ []) ≡ Calls.refused 32 0 = refl in (run_answered program bytes area words (stacks_for 8 2) (0 ∷ []) (pos 5 ∷ []) words_table l ∙ run, accepted)
