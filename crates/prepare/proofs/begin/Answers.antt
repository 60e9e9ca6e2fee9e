use Rattle.prepare.proofs.Beginning.{begun_short, begun_refused, begun_ready}
use Rattle.prepare.proofs.begin.Goals as goal

pub returns-in-Short : goal.returns-in-Short
returns-in-Short c = begun_short c.program_of.ensures.cases c.in-Short.is

pub returns-in-Refused : goal.returns-in-Refused
returns-in-Refused c = begun_refused c.program_of.ensures.cases _ _ c.in-Refused.is

pub returns-in-Written : goal.returns-in-Written
returns-in-Written c = begun_ready c.program_of.ensures.cases _ c.in-Written.is
