-- The cases that 01 marks with a star, each from the table's bytes through the calls on memory, under one theorem.
use Rattle.std.specs.Prelude.{ℕ, ◌≤◌, ◌≡◌, refl, List, [], ◌∷◌, length, replicate, ℤ, pos}
use Rattle.std.proofs.Common.{ap, ◌∙◌}
use Rattle.meaning.specs.Grammar.{Grammar}
use Rattle.meaning.specs.Value.{mark}
use Rattle.meaning.specs.Judgement.{accepted, rejected}
use Rattle.meaning.specs.Calls.{running, outer, Called, Stacks, Answer, more, value, refused}
use Rattle.meaning.specs.PublicCalls.{area_length, Effect, printed}
use Rattle.meaning.specs.Examples.TableRows.{bytes}
use Rattle.meaning.specs.Examples.WordsAndTags.{words}
use Rattle.meaning.specs.Examples.ListingRows.{codes, listing_of_words}
use Rattle.theory_stars.specs.Ranges.{two_ranges, Verdicts, verdicts, apart, touching}
use Rattle.theory_stars.specs.Runs.{fed, finished, fed_by, finished_by, fed_words, finished_words}

-- stacks of these lengths, which held v in every register and p in every place
abbrev pub lent : ℕ → ℕ → ℤ → ℕ → Stacks
lent rs ps v p = record { registers = replicate rs v; places = replicate ps p }

abbrev pub without_area : Effect → Called
without_area e = record { answer = e.answer; state = e.state; stacks = e.stacks }

-- for every program, every area that is long enough, and whatever v and p the stacks held
abbrev pub Always : ((Grammar → List ℕ) → List ℕ → ℤ → ℕ → Type 0) → Type 0
Always P = (program : Grammar → List ℕ) (area : List ℕ) → area_length ≤ length area → (v : ℤ) (p : ℕ) → P program area v p

-- the grammar of words and tags on stacks of so many registers and places: the answer to a feed of these tokens, and to a finish after it
abbrev pub Feeding : ℕ → ℕ → List ℕ → Answer → Type 0
Feeding rs ps ts a = Always (λ program area v p. (fed program bytes area (lent rs ps v p) ts).answer ≡ a)

abbrev pub Finishing : ℕ → ℕ → List ℕ → Answer → Type 0
Finishing rs ps ts a = Always (λ program area v p. (finished program bytes area (lent rs ps v p) ts).answer ≡ a)

-- tokens: 0 word, 1 open, 2 close
pub record Starred : Type 0 where
  -- the table itself
  pub table : Verdicts bytes accepted
  -- 01: "no tokens: 0, 8 moves"; "with 3 registers and 3 places accepted, 2 registers: 31, 2 places: 32"
  pub no_tokens : Finishing 4096 1024 [] (value (pos 0) 8)
  pub three_and_three : Finishing 3 3 [] (value (pos 0) 8)
  pub two_registers : Finishing 2 3 [] (refused 31 0)
  pub two_places : Finishing 3 2 [] (refused 32 0)
  -- "Word open word close: 2"
  pub word_open_word_close : Finishing 9 6 (0 ∷ 1 ∷ 0 ∷ 2 ∷ []) (value (pos 2) 32)
  -- "Stopped after word open, registers from the top: 1, mark, 0, mark, 0, mark, mark; places from the bottom 32768, 0, 257, 513": here both from the bottom, the rest cleared, with answer and record
  pub word_open : Always (λ program area v p. without_area (fed program bytes area (lent 9 6 v p) (0 ∷ 1 ∷ [])) ≡ record {
    answer = more 11;
    state = record { status = running; kind = outer; tokens = 2; moves = 11; register_height = 7; place_height = 4 };
    stacks = record { registers = mark ∷ mark ∷ pos 0 ∷ mark ∷ pos 0 ∷ mark ∷ pos 1 ∷ mark ∷ mark ∷ []; places = 32768 ∷ 0 ∷ 257 ∷ 513 ∷ 0 ∷ 0 ∷ [] };
  })
  -- "Three opens nested pass, a fourth: 22 after 3"
  pub three_opens : Feeding 9 6 (1 ∷ 1 ∷ 1 ∷ []) (more 15)
  pub three_opens_closed : Finishing 15 6 (1 ∷ 1 ∷ 1 ∷ 2 ∷ 2 ∷ 2 ∷ []) (value (pos 0) 44)
  pub fourth_open : Feeding 9 6 (1 ∷ 1 ∷ 1 ∷ 1 ∷ []) (refused 22 3)
  -- "Word close: 21 after 1"; "One open: 24 after 1"
  pub word_close : Feeding 9 6 (0 ∷ 2 ∷ []) (refused 21 1)
  pub one_open : Finishing 9 6 (1 ∷ []) (refused 24 1)
  -- "Ranges 0 to 4 and 5 to 9 don't clash; 0 to 5 and 5 to 9 do"
  pub ranges_apart : Verdicts (two_ranges 0 4 5 9) accepted
  pub ranges_touch : Verdicts (two_ranges 0 5 5 9) (rejected 13 71)
  -- the listing, whole
  pub listing : printed bytes ≡ codes "0 A1 2\n0 E1 1 const 0\n0 E0 2 copy 1\n0 R 1\n1 A2 2\n1 E2 1 copy 3\n1 E0 3 addc 1 1\n1 R 2\n2 P0 range 1 0 2\n2 A2 2\n2 E2 1 addc 3 1\n2 A4 2\n2 E4 1 copy 4\n2 E0 4 sum 2 1\n2 R 3\n3 E0 2 const 0\n3 R 1\n"

feeding : (rs ps : ℕ) (ts : List ℕ) (a : Answer) → ((v : ℤ) (p : ℕ) → (fed_by words (lent rs ps v p) ts).answer ≡ a) → Feeding rs ps ts a
feeding rs ps ts a e program area l v p = ap (λ x. x.answer) (fed_words program area l (lent rs ps v p) ts) ∙ e v p

finishing : (rs ps : ℕ) (ts : List ℕ) (a : Answer) → ((v : ℤ) (p : ℕ) → (finished_by words (lent rs ps v p) ts).answer ≡ a) → Finishing rs ps ts a
finishing rs ps ts a e program area l v p = ap (λ x. x.answer) (finished_words program area l (lent rs ps v p) ts) ∙ e v p

its_table : Verdicts bytes accepted
unfolding bytes
its_table = verdicts bytes accepted refl

pub starred : Starred
starred = record {
  table = its_table;
  no_tokens = finishing 4096 1024 [] _ (λ v p. refl);
  three_and_three = finishing 3 3 [] _ (λ v p. refl);
  two_registers = finishing 2 3 [] _ (λ v p. refl);
  two_places = finishing 3 2 [] _ (λ v p. refl);
  word_open_word_close = finishing 9 6 (0 ∷ 1 ∷ 0 ∷ 2 ∷ []) _ (λ v p. refl);
  word_open = λ program area l v p. ap without_area (fed_words program area l (lent 9 6 v p) (0 ∷ 1 ∷ []));
  three_opens = feeding 9 6 (1 ∷ 1 ∷ 1 ∷ []) _ (λ v p. refl);
  three_opens_closed = finishing 15 6 (1 ∷ 1 ∷ 1 ∷ 2 ∷ 2 ∷ 2 ∷ []) _ (λ v p. refl);
  fourth_open = feeding 9 6 (1 ∷ 1 ∷ 1 ∷ 1 ∷ []) _ (λ v p. refl);
  word_close = feeding 9 6 (0 ∷ 2 ∷ []) _ (λ v p. refl);
  one_open = finishing 9 6 (1 ∷ []) _ (λ v p. refl);
  ranges_apart = apart;
  ranges_touch = touching;
  listing = listing_of_words;
}
