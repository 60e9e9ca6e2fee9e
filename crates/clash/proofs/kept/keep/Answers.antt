use mathlib.Core.Path.{◌≡◌, refl, sym, ap, ◌∙◌, subst}
use mathlib.Core.Bool.{true, false}
use lib.Dec.{T}
use lib.ListN.{set}
use Rattle.clash.specs.Kept.{stored_as}
use Rattle.clash.proofs.Laws.{stretch_slice}
use Rattle.clash.proofs.kept.keep.Goals as goal

pub returns-then-not-wanted : goal.returns-then-not-wanted
returns-then-not-wanted c =
    let n = c.if-not-wanted.true in
    record { taken = λ e. let z : true ≡ false = sym e ∙ n in absurd (subst T z tt); passed = λ e. (refl, refl, refl) }

pub narrow_by-requires : goal.narrow_by-requires
narrow_by-requires c = (_, stretch_slice c.requires.1 _ refl)

pub returns : goal.returns
returns c =
    let x = stretch_slice c.requires.1 _ refl in
    let n = c.narrow_by.ensures in
    let y = c.if-not-wanted.false in
    record {
      taken = λ _. record { low = stored_as (n.low _ x) c.store.ensures; high = stored_as (n.high _ x) c.store-2.ensures; rank = ap (set c.args.kept.now.ranks c.args.p) (c.rank.ensures ∙ n.said _ x) };
      passed = λ e. let z : true ≡ false = sym y ∙ e in absurd (subst T z tt);
    }
