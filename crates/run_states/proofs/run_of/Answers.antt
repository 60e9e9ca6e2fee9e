use Rattle.records.specs.Records.{state_is}
use Rattle.run_states.specs.Starting.{Stood}
use Rattle.theory_program.specs.Resuming.{place_address}
use native.Mathlib.Omega.{arith}
use mathlib.Core.Path.{sym, ap, ◌∙◌, subst}
use Rattle.run_states.specs.Starting.{some_place_lem, low, top_stands, held_start}
use Rattle.run_states.proofs.run_of.Goals as goal

pub overflow_sub-height : goal.overflow_sub-height
overflow_sub-height c = some_place_lem c.requires.1.begins c.requires.1.well_formed c.requires.0 c.args.places.now (state_is c.args.brought) c.requires.1.fits

pub word_at-place-requires : goal.word_at-place-requires
word_at-place-requires c =
    let places = c.args.places.now in
    omega (arith, some_place_lem c.requires.1.begins c.requires.1.well_formed c.requires.0 places (state_is c.args.brought) c.requires.1.fits, low c.requires.1.begins c.requires.1.well_formed c.requires.0 places (state_is c.args.brought) c.requires.1.fits)

pub address_of-requires : goal.address_of-requires
address_of-requires c =
    record {
      grammar = c.requires.1.grammar;
      begins = c.requires.1.begins;
      well_formed = c.requires.1.well_formed;
      stood = subst (Stood c.requires.1.grammar) (sym c.word_at-place.ensures.0)
          (top_stands c.requires.1.begins c.requires.1.well_formed c.requires.0 c.args.places.now (state_is c.args.brought) c.requires.1.fits);
    }

pub returns : goal.returns
returns c =
    let places = c.args.places.now in
    λ g vs s w few little f.
    held_start s w vs places (state_is c.args.brought) f few little c.address_of.result
    (c.address_of.ensures g s w (subst (Stood g) (sym c.word_at-place.ensures.0) (top_stands s w vs places (state_is c.args.brought) f)) ∙ ap (place_address g) c.word_at-place.ensures.0)
