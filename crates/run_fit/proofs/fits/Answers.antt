use native.Mathlib.Omega.{arith}
use mathlib.Core.Path.{refl, sym, ◌∙◌}
use borrow.Author.Tests.{le-leb, lt-leb}
use lib.ListN.{length}
use lib.Seq.{length-take-le}
use Rattle.meaning.specs.Machine.{tokens_limit, moves_limit}
use Rattle.run_fit.specs.Cut.{numbers, fits_by}
use Rattle.run_fit.proofs.fits.Goals as goal

pub returns-then-tokens-gt-TOKENS_LIMIT : goal.returns-then-tokens-gt-TOKENS_LIMIT
returns-then-tokens-gt-TOKENS_LIMIT c =
    let a = c.args in
    λ g h. sym (fits_by g h.formed (numbers a.tokens a.moves a.register_height a.place_height) a.registers.now a.places.now
    c.requires.0 c.requires.1
    (lt-leb a.tokens tokens_limit (omega arith))
    refl refl refl refl refl refl)

pub returns-then-moves-gt-MOVES_LIMIT : goal.returns-then-moves-gt-MOVES_LIMIT
returns-then-moves-gt-MOVES_LIMIT c =
    let a = c.args in
    λ g h. sym (fits_by g h.formed (numbers a.tokens a.moves a.register_height a.place_height) a.registers.now a.places.now
    c.requires.0 c.requires.1
    (le-leb a.tokens tokens_limit (omega arith))
    (lt-leb a.moves moves_limit (omega arith))
    refl refl refl refl refl)

pub returns-then-registers-height : goal.returns-then-registers-height
returns-then-registers-height c =
    let a = c.args in
    λ g h. sym (fits_by g h.formed (numbers a.tokens a.moves a.register_height a.place_height) a.registers.now a.places.now
    c.requires.0 c.requires.1
    (le-leb a.tokens tokens_limit (omega arith))
    (le-leb a.moves moves_limit (omega arith))
    (lt-leb a.register_height (length a.registers.now) (omega arith))
    refl refl refl refl)

pub returns-then-places-top : goal.returns-then-places-top
returns-then-places-top c =
    let a = c.args in
    λ g h. sym (fits_by g h.formed (numbers a.tokens a.moves a.register_height a.place_height) a.registers.now a.places.now
    c.requires.0 c.requires.1
    (le-leb a.tokens tokens_limit (omega arith))
    (le-leb a.moves moves_limit (omega arith))
    (le-leb a.register_height (length a.registers.now) (omega arith))
    (lt-leb a.place_height (length a.places.now) (omega arith))
    refl refl refl)

pub slice_bounds-stand-end : goal.slice_bounds-stand-end
slice_bounds-stand-end c = sym (length-take-le _ _ (omega arith))

pub slice_bounds-stand-end-2 : goal.slice_bounds-stand-end-2
slice_bounds-stand-end-2 c = sym (length-take-le _ _ (omega arith))

pub returns-then-not-stand : goal.returns-then-not-stand
returns-then-not-stand c =
    let a = c.args in
    λ g h. sym (fits_by g h.formed (numbers a.tokens a.moves a.register_height a.place_height) a.registers.now a.places.now
    c.requires.0 c.requires.1
    (le-leb a.tokens tokens_limit (omega arith))
    (le-leb a.moves moves_limit (omega arith))
    (le-leb a.register_height (length a.registers.now) (omega arith))
    (le-leb a.place_height (length a.places.now) (omega arith))
    (sym (c.stand.ensures g h) ∙ c.if-not-stand.true)
    refl refl)

pub returns-then-not-all_marked : goal.returns-then-not-all_marked
returns-then-not-all_marked c =
    let a = c.args in
    λ g h. sym (fits_by g h.formed (numbers a.tokens a.moves a.register_height a.place_height) a.registers.now a.places.now
    c.requires.0 c.requires.1
    (le-leb a.tokens tokens_limit (omega arith))
    (le-leb a.moves moves_limit (omega arith))
    (le-leb a.register_height (length a.registers.now) (omega arith))
    (le-leb a.place_height (length a.places.now) (omega arith))
    (sym (c.stand.ensures g h) ∙ c.if-not-stand.false)
    (sym c.all_marked.ensures ∙ c.if-not-all_marked.true)
    refl)

pub returns : goal.returns
returns c =
    let a = c.args in
    λ g h. sym (fits_by g h.formed (numbers a.tokens a.moves a.register_height a.place_height) a.registers.now a.places.now
    c.requires.0 c.requires.1
    (le-leb a.tokens tokens_limit (omega arith))
    (le-leb a.moves moves_limit (omega arith))
    (le-leb a.register_height (length a.registers.now) (omega arith))
    (le-leb a.place_height (length a.places.now) (omega arith))
    (sym (c.stand.ensures g h) ∙ c.if-not-stand.false)
    (sym c.all_marked.ensures ∙ c.if-not-all_marked.false)
    (sym c.all_zero.ensures))
