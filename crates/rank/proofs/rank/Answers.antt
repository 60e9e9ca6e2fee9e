use mathlib.Core.Path.{sym, ap, ◌∙◌}
use Rattle.meaning.specs.PublicCalls.{stacks_of}
use Rattle.meaning_ranking.specs.RankCall.{unranked, rank_effect}
use Rattle.prepare.proofs.Cases.{short_made, refused_made, written_made}
use Rattle.prepare.specs.Beginning.{standing_readable}
use Rattle.rank.specs.Listing.{rank_37, rank_30, rank_refused, standing_ranked}
use Rattle.rank.proofs.rank.Goals as goal

pub rank_under-requires : goal.rank_under-requires
rank_under-requires c =
    let p = c.program_of in
    let if1 = c.if-in_order in
    let in_order = c.in_order in
    (standing_readable (written_made p.ensures.cases c.in-Written.length c.in-Written.is), sym in_order.ensures ∙ if1.true)

pub returns-in-Short : goal.returns-in-Short
returns-in-Short c =
    let p = c.program_of in
    let z = short_made p.ensures.cases c.in-Short.is in
    let if1 = c.if-in_order in
    let in_order = c.in_order in
    let list = c.args.list.now in
    let registers = c.args.registers.now in
    let places = c.args.places.now in
    ap (rank_effect (unranked 30 0) list (stacks_of registers places)) z.1 ∙ rank_30 c.args.table.now c.args.program.now c.args.lengths.now c.args.kinds.now c.args.values.now list (stacks_of registers places) (sym in_order.ensures ∙ if1.true) z.0

pub returns-in-Refused : goal.returns-in-Refused
returns-in-Refused c =
    let p = c.program_of in
    let z = refused_made p.ensures.cases c.in-Refused.number c.in-Refused.offset c.in-Refused.is in
    let if1 = c.if-in_order in
    let in_order = c.in_order in
    let list = c.args.list.now in
    let registers = c.args.registers.now in
    let places = c.args.places.now in
    ap (rank_effect (unranked c.in-Refused.number c.in-Refused.offset) list (stacks_of registers places)) z.2 ∙ rank_refused c.args.table.now c.args.program.now c.args.lengths.now c.args.kinds.now
    c.args.values.now list (stacks_of registers places) (sym in_order.ensures ∙ if1.true) z.0 c.in-Refused.number c.in-Refused.offset z.1

pub returns-in-Written : goal.returns-in-Written
returns-in-Written c =
    let p = c.program_of in
    let r = c.rank_under in
    let if1 = c.if-in_order in
    let in_order = c.in_order in
    standing_ranked (written_made p.ensures.cases c.in-Written.length c.in-Written.is) c.args.lengths.now c.args.kinds.now c.args.values.now c.args.list.now c.args.registers.now
    c.args.places.now r.new.list r.new.registers r.new.places r.result (sym in_order.ensures ∙ if1.true) r.ensures

pub returns : goal.returns
returns c =
    rank_37 c.args.table.now c.args.program.now c.args.lengths.now c.args.kinds.now c.args.values.now c.args.list.now (stacks_of c.args.registers.now c.args.places.now) (sym c.in_order.ensures ∙ c.if-in_order.false)
