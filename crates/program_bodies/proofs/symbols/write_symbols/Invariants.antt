use Rattle.program_body_words.specs.Schemes as S
use Rattle.program_bodies.proofs.symbols.write_symbols.Given as goal

abbrev pub invariant-loop-k : goal.invariant-loop-k
invariant-loop-k l = S.SymbolsGo l.row l.fields l.inherited l.synthesized l.marks l.links l.levels l.initial.area l.address l.expects l.k l.area l.to
