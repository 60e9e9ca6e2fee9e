use Prim.Native.Nat.{min}
use native.Mathlib.Omega.{arith}
use mathlib.Core.Path.{refl}
use Rattle.meaning.specs.Limits.{registers_limit, places_limit}
use Rattle.sheet.specs.Calling.{walks_as}
use Rattle.sheet.proofs.walk.Goals as goal

pub segment-requires : goal.segment-requires
segment-requires c =
    (c.requires.0, record { registers = refl; places = refl; few = omega (arith, c.smaller-n.ensures); little = omega (arith, c.smaller-k.ensures) }, c.requires.1, c.requires.2)

pub returns : goal.returns
returns c =
    let n = c.smaller-n in
    let k = c.smaller-k in
    let g = c.segment in
    walks_as c.args.program.now c.args.kinds.now c.args.values.now n.result k.result (min c.args.registers registers_limit) (min c.args.places places_limit) c.args.sheet.now g.new.sheet g.result n.ensures k.ensures g.ensures
