use Rattle.engine.proofs.in_place.feed_in_place.Goals as goal

pub returns : goal.returns
returns c = c.feed-called.ensures
