-- The promises at words and tags, with and without its entry condition: 21 and 24 are given where they are due. The tables and the runs stand in specs/MarkedRows.
use Rattle.std.specs.Prelude.{ℕ, ◌≤◌, refl, false, List, [], ◌∷◌, length}
use Rattle.std.proofs.Common.{ap}
use Rattle.meaning.specs.Grammar.{Grammar}
use Rattle.meaning.specs.Examples.WordsAndTags.{words}
use Rattle.meaning.specs.Examples.TableRows.{bytes}
use Rattle.meaning.specs.PublicCalls.{area_length}
use Rattle.meaning_statements.specs.CallStatements.{tokens_of}
use Rattle.meaning_statements.specs.MarkedToken.{FirstImpossible, Unfinished}
use Rattle.theory_marked.proofs.Marked.{marked_token, marked_by_start}
use Rattle.theory_marked.specs.MarkedRows.{zeros, feed_kinds, lent, start, begun, call, call_by, onward, finish_by, plain, plain_table, plain_accepted, no_entries, words_accepted, words_apart}

-- ---- words and tags without its entry condition

module _ (program : Grammar → List ℕ) (area : List ℕ) (l : area_length ≤ length area) where
  -- word, close, word: 21 with one read
  word_close_lem : FirstImpossible plain (0 ∷ 2 ∷ 0 ∷ []) 1
  word_close_lem =
      let e = start plain_table plain plain_accepted program area l in
      let m = marked_token program plain_table area plain lent [] false e.state e.stacks plain_accepted no_entries (begun plain_table plain plain_accepted program area l refl) in
      m.0 (0 ∷ 2 ∷ 0 ∷ []) (zeros (0 ∷ 2 ∷ 0 ∷ [])) 1 (ap (λ z. z.answer) (call_by plain_table plain plain_accepted program area l (feed_kinds (0 ∷ 2 ∷ 0 ∷ []))))

  -- word, open, and the end: 24
  word_open_lem : Unfinished plain (0 ∷ 1 ∷ [])
  word_open_lem =
      let e = call plain_table plain plain_accepted program area l (feed_kinds (0 ∷ 1 ∷ [])) in
      let h = onward plain_table plain plain_accepted program area l refl refl (0 ∷ 1 ∷ []) tt refl in
      (marked_token program plain_table area plain lent (tokens_of (feed_kinds (0 ∷ 1 ∷ []))) false e.state e.stacks plain_accepted no_entries h).1 2 (ap (λ z. z.answer) (finish_by plain_table plain plain_accepted program area l (0 ∷ 1 ∷ [])))

-- ---- words and tags itself

module _ (program : Grammar → List ℕ) (area : List ℕ) (l : area_length ≤ length area) where
  -- open, close, close: 21 with two read
  close_close : FirstImpossible words (1 ∷ 2 ∷ 2 ∷ []) 2
  close_close =
      let e = start bytes words words_accepted program area l in
      let m = marked_by_start program bytes area words lent [] false e.state e.stacks words_accepted words_apart (begun bytes words words_accepted program area l refl) in
      m.0 (1 ∷ 2 ∷ 2 ∷ []) (zeros (1 ∷ 2 ∷ 2 ∷ [])) 2 (ap (λ z. z.answer) (call_by bytes words words_accepted program area l (feed_kinds (1 ∷ 2 ∷ 2 ∷ []))))
