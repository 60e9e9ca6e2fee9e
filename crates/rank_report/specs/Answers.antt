-- 02's numbers and values for the answers of the code.
use Rattle.std.specs.Prelude.{ℕ, List, ℤ}
use Rattle.meaning.specs.PublicCalls.{stacks_of}
use Rattle.meaning_ranking.specs.RankCall.{RankAnswer, ranked, unranked, RankEffect, rank_effect}
use Rattle.rank_report.specs.declared.Ranked.{Ranked}
use Rattle.rank_report.specs.declared.Ranked.TheVariants.{Done, Refused}

abbrev pub rank_answer_is : Ranked → RankAnswer
rank_answer_is (Done valued total entries) = ranked valued total entries
rank_answer_is (Refused number offset) = unranked number offset

-- with the list, the stacks and the program area
abbrev pub rank_is : Ranked → List ℤ → List ℤ → List ℕ → List ℕ → RankEffect
rank_is r list vs ps area = rank_effect (rank_answer_is r) list (stacks_of vs ps) area
