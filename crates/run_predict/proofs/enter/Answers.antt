use mathlib.Core.Path.{refl}
use lib.ListN.{length}
use borrow.Author.Tests.{eq-eqb, ne_eqb}
use Rattle.run_predict.proofs.enter.Goals as goal

pub returns-then-height-places : goal.returns-then-height-places
returns-then-height-places c =
    let a = c.args in
    let e = eq-eqb a.run.places (length a.places.now) c.if-height-places.true in
    rw (e) (refl, refl)

pub returns : goal.returns
returns c =
    let p = c.before.before.before.before in
    let k = p.before.before in
    let a = k.args in
    let e = ne_eqb a.run.places (length a.places.now) k.if-height-places.false in
    rw (e, c.counted-next.ensures, p.push.ensures) (refl, refl)
