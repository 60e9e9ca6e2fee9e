use mathlib.Core.Path.{◌≡◌, sym, ap, ◌∙◌}
use lib.IntN.{pos}
use mir.Syntax.{w64}
use mir.Val.{to_z, of_z}
use Rattle.meaning_ranking.specs.Ranking.{rank_entry}
use Rattle.meaning_ranking.specs.RankCall.{rank_entry_of}
use Rattle.records.specs.Records.{answer_is}
use Rattle.rank_report.specs.entries.Entries.{put_at}
use borrow.Author.Rules.{rules}
use Rattle.rank_report.proofs.entries.put.Goals as goal

pub returns-in-Value : goal.returns-in-Value
returns-in-Value c =
    let s = c in
    let v : to_z w64 (of_z w64 c.in-Value.value) ≡ c.in-Value.value = search rules in
    c.put_cells.ensures ∙ (ap (λ z. put_at s.args.list.now s.args.i (rank_entry (pos s.args.i) z (pos 0))) v ∙ ap (λ z. put_at s.args.list.now s.args.i (rank_entry_of s.args.i (answer_is z))) (sym c.in-Value.is))

pub returns-in-Refused : goal.returns-in-Refused
returns-in-Refused c =
    let s = c in
    c.put_cells-in-Refused.ensures ∙ ap (λ z. put_at s.args.list.now s.args.i (rank_entry_of s.args.i (answer_is z))) (sym c.in-Refused.is)

pub returns-in-TableRefused : goal.returns-in-TableRefused
returns-in-TableRefused c =
    let s = c in
    c.put_cells-in-TableRefused.ensures ∙ ap (λ z. put_at s.args.list.now s.args.i (rank_entry_of s.args.i (answer_is z))) (sym c.in-TableRefused.is)

pub returns-in-More : goal.returns-in-More
returns-in-More c =
    let s = c in
    c.put_cells-in-More.ensures ∙ ap (λ z. put_at s.args.list.now s.args.i (rank_entry_of s.args.i (answer_is z))) (sym c.in-More.is)
