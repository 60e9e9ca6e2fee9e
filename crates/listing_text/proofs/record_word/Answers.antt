use Rattle.listing_text.proofs.record_word.Goals as goal

pub returns : goal.returns
returns c = cc
