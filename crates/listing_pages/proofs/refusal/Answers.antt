use Rattle.meaning.specs.Listing.{refusal_line}
use mathlib.Core.Path.{refl}
use Rattle.listing_pages.proofs.Paging.{shows_one}
use Rattle.listing_pages.proofs.refusal.Goals as goal

pub returns : goal.returns
returns c =
    let w = c.refusal_line-length.ensures in
    shows_one (refusal_line c.args.number c.args.offset) _ _ _ _ c.requires w.2 w.1 w.0 refl
