use Rattle.run_predict.proofs.alternatives.enters.Goals as goal

pub test-requires : goal.test-requires
test-requires c = let b = c.requires in (b.0, rw (c.word_at-scheme.ensures.0, c.word_at-count.ensures.0) b.1.tested)

pub returns : goal.returns
returns c = rw (c.word_at-scheme.ensures.0, c.word_at-count.ensures.0) at c.test.ensures
