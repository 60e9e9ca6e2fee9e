use Rattle.listing_pages.proofs.Paging.{onward_on}
use Rattle.listing.proofs.print_rest.Goals as goal

pub loop-c-smaller : goal.loop-c-smaller
loop-c-smaller g c = onward_on _ _ c.next_page-page.result c.if-page.false c.next_page-page.ensures.onward
