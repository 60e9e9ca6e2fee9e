use mathlib.Core.Bool.{true, false}
use Rattle.host.proofs.Listing.{listed_short, listed_narrow, listed_page}
use Rattle.host.proofs.tables.segment_list.Goals as goal

pub returns-then-program-lt-AREA : goal.returns-then-program-lt-AREA
returns-then-program-lt-AREA c = listed_short c.args.table.now _ _ c.if-program-lt-AREA.true

pub returns-then-out-lt-LINE : goal.returns-then-out-lt-LINE
returns-then-out-lt-LINE c = listed_narrow c.args.table.now _ _ c.if-program-lt-AREA.false c.if-out-lt-LINE.true

pub returns-then-page : goal.returns-then-page
returns-then-page c =
    let a = c.args in
    let page = c.first_page-page in
    let long = c.if-program-lt-AREA.false in
    let room = c.if-out-lt-LINE.false in
    listed_page a.table.now a.program.now a.out.now long room _ _ page.result true c.if-page.true page.ensures.shows page.ensures.area

pub returns-else-page : goal.returns-else-page
returns-else-page c =
    let a = c.args in
    let page = c.first_page-page in
    let long = c.if-program-lt-AREA.false in
    let room = c.if-out-lt-LINE.false in
    listed_page a.table.now a.program.now a.out.now long room _ _ page.result false c.if-page.false page.ensures.shows page.ensures.area
