use Rattle.std.proofs.Common.{ap}
use Rattle.prepare.proofs.Cases.{not_short, refused_made, written_made}
use Rattle.listing_first.proofs.Printing.{shows_as, lines_refused, lines_listing}
use Rattle.listing_first.proofs.first_page.Goals as goal

pub returns-in-Short : goal.returns-in-Short
returns-in-Short c = absurd (not_short c.program_of.ensures.cases c.requires.0 c.in-Short.is)

pub returns-in-Refused : goal.returns-in-Refused
returns-in-Refused c =
    let made = c.program_of.ensures in
    let refused = refused_made made.cases _ _ c.in-Refused.is in
    record { shows = shows_as (lines_refused c.args.table.now _ _ refused.1) c.refusal-in-Refused.ensures; area = ap (λ m. m.area) made.said }

pub returns-in-Written : goal.returns-in-Written
returns-in-Written c =
    let made = c.program_of.ensures in
    let stands = written_made made.cases _ c.in-Written.is in
    record { shows = shows_as (lines_listing _ stands c.first.ensures) c.next_page.ensures.shows; area = ap (λ m. m.area) made.said }
