-- The call of 02 (b): any bytes as a table, any program area, stacks, list, kinds, values and lengths. 37 first of all, then 30, the table, 38, the candidates.
use Rattle.std.specs.Prelude.{ℕ, suc, ◌/◌, Bool, true, false, ◌&&◌, List, [], ◌∷◌, ◌++◌, length, take, drop, eqb, ltb, leb, ℤ, pos}
use Rattle.meaning.specs.Limits.{candidates_limit}
use Rattle.meaning.specs.Base.{total}
use Rattle.meaning.specs.Grammar.{Grammar, TableBytes, Area, ProgramBuilder, TokenKinds, TokenValues}
use Rattle.meaning.specs.Table.{grammar_of}
use Rattle.meaning.specs.Calls.{Stacks, Answer, more, value, refused, table_refused, Called, open_of, feed_of, finish_of}
use Rattle.meaning.specs.PublicCalls.{Checked, usable, unusable, check, area_length, written}
use Rattle.meaning_ranking.specs.Ranking.{RankEntry, rank_entry, ranking, cells_of, total_of, valued_of}

-- ---- one candidate

-- d where c answers more
abbrev pub onward : Answer → Called → Called → Called
onward (more n) c d = d
onward (value v n) c d = c
onward (refused k n) c d = c
onward (table_refused k o) c d = c

abbrev pub fed_on : Grammar → TokenKinds → TokenValues → Called → Called
fed_on g ks vs c = onward c.answer c (feed_of g c.state c.stacks ks vs)

abbrev pub finished_on : Grammar → Called → Called
finished_on g c = onward c.answer c (finish_of g c.state c.stacks)

-- 02: "evaluate each in turn on stacks opened afresh": an opening, one feed and, where that answers more, a finish
abbrev pub evaluated : Grammar → Stacks → TokenKinds → TokenValues → Called
evaluated g m ks vs = finished_on g (fed_on g ks vs (open_of g m))

-- 02: "an entry is its number, counted from 0, its value or else 0, its refusal or else 0". (The last call of a candidate never answers more, nor a table's refusal)
abbrev pub rank_entry_of : ℕ → Answer → RankEntry
rank_entry_of i (value v n) = rank_entry (pos i) v (pos 0)
rank_entry_of i (refused k n) = rank_entry (pos i) (pos 0) (pos k)
rank_entry_of i (more n) = rank_entry (pos i) (pos 0) (pos 0)
rank_entry_of i (table_refused k o) = rank_entry (pos i) (pos 0) (pos k)

-- ---- all of them

-- the entries in candidate order, and the stacks that the last candidate left
pub record Evaluation : Type 0 where
  pub entries : List RankEntry
  pub stacks : Stacks

abbrev pub and_then : ℕ → Called → Evaluation → Evaluation
and_then i c rest = record { entries = rank_entry_of i c.answer ∷ rest.entries; stacks = rest.stacks }

-- 02: "Candidates come as one token list and their lengths"
abbrev pub Lengths : Type 0
Lengths = List ℕ

-- the candidates from number i on, on stacks m
abbrev pub evaluations : Grammar → ℕ → Lengths → TokenKinds → TokenValues → Stacks → Evaluation
evaluations g i [] ks vs m = record { entries = []; stacks = m }
evaluations g i (n ∷ ns) ks vs m = and_then i (evaluated g m (take n ks) (take n vs)) (evaluations g (suc i) ns (drop n ks) (drop n vs) (evaluated g m (take n ks) (take n vs)).stacks)

-- ---- the call

pub data RankAnswer : Type 0 where
  -- how many were valued, the total of their values, the number of entries written
  ranked : ℕ → ℤ → ℕ → RankAnswer
  -- 37, 30 or 38 with 0; or one of the table's numbers with its offset
  unranked : ℕ → ℕ → RankAnswer

-- 02: "a list buffer with fewer entries than candidates": the cells of a lent list
abbrev pub ListBuffer : Type 0
ListBuffer = List ℤ

pub record RankEffect : Type 0 where
  pub answer : RankAnswer
  pub list : ListBuffer
  pub stacks : Stacks
  pub area : Area

abbrev pub rank_effect : RankAnswer → ListBuffer → Stacks → Area → RankEffect
rank_effect a list m area = record { answer = a; list = list; stacks = m; area = area }

-- 02: "More than 512 of them, lengths that don't add up to the list, or a list buffer with fewer entries than candidates, are turned back as 37"
abbrev pub in_order_value : Lengths → TokenKinds → ListBuffer → Bool
in_order_value lengths ks list = leb (length lengths) candidates_limit && eqb (total lengths) (length ks) && leb (length lengths) (length list / 3)

-- the list in order, and past it the cells as they were
abbrev pub listed : Evaluation → ListBuffer → Area → RankEffect
listed e list area = rank_effect (ranked (valued_of e.entries) (total_of e.entries) (length e.entries)) (cells_of (ranking e.entries) ++ drop (length (cells_of e.entries)) list) e.stacks area

-- 02 (e): 38 "after the table's refusals where no record is brought", "with no list or sheet written"
abbrev pub rank_even : Bool → ListBuffer → Stacks → Area → RankEffect → RankEffect
rank_even false list m area done = rank_effect (unranked 38 0) list m area
rank_even true list m area done = done

abbrev pub rank_under : ProgramBuilder → Checked → Area → Lengths → TokenKinds → TokenValues → ListBuffer → Stacks → RankEffect
rank_under program (unusable n o) area lengths ks vs list m = rank_effect (unranked n o) list m area
rank_under program (usable s) area lengths ks vs list m =
    let g = grammar_of s in
    let area' = written (program g) area in
    rank_even (eqb (length ks) (length vs)) list m area' (listed (evaluations g 0 lengths ks vs m) list area')

abbrev pub rank_long : ProgramBuilder → Bool → TableBytes → Area → Lengths → TokenKinds → TokenValues → ListBuffer → Stacks → RankEffect
rank_long program true bs area lengths ks vs list m = rank_effect (unranked 30 0) list m area
rank_long program false bs area lengths ks vs list m = rank_under program (check bs) area lengths ks vs list m

abbrev pub rank_suited : ProgramBuilder → Bool → TableBytes → Area → Lengths → TokenKinds → TokenValues → ListBuffer → Stacks → RankEffect
rank_suited program false bs area lengths ks vs list m = rank_effect (unranked 37 0) list m area
rank_suited program true bs area lengths ks vs list m = rank_long program (ltb (length area) area_length) bs area lengths ks vs list m

-- 02: 37 "before 30 is judged; on this and on 30 or the table's refusals the list buffer is not written"
abbrev pub rank_of : ProgramBuilder → TableBytes → Area → Lengths → TokenKinds → TokenValues → ListBuffer → Stacks → RankEffect
rank_of program bs area lengths ks vs list m = rank_suited program (in_order_value lengths ks list) bs area lengths ks vs list m
