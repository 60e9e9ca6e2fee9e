use Prim.Native.Nat.{ℕ, ◌+◌, ◌*◌, ◌<◌}
use mathlib.Core.List.{List}
use native.Mathlib.Omega.{arith}
use mathlib.Core.Path.{◌≡◌, sym, ap, ◌∙◌}
use lib.ListN.{get_or, length}
use Rattle.meaning.specs.Limits.{symbols_limit}
use Rattle.meaning.specs.Grammar.{place_production, place_passed}
use Rattle.run_fit.specs.HasProgram.{Readable, RowsAt, word_address, word_inside, wait_unlisted, wait_passed_lem, wait_word_lem}
use Rattle.run_fit.proofs.wait_word.Goals as goal

pub returns-then-rows-production : goal.returns-then-rows-production
returns-then-rows-production c =
    let a = c.args in
    sym (wait_unlisted a.program.now a.place (omega (arith, c.requires.1.productions, c.production-production.ensures, c.if-rows-production.true)))

pub returns-then-passed-ge-WAIT_WORDS : goal.returns-then-passed-ge-WAIT_WORDS
returns-then-passed-ge-WAIT_WORDS c =
    let a = c.args in
    sym (wait_passed_lem a.program.now a.place (omega (arith, c.passed-passed.ensures, c.if-passed-ge-WAIT_WORDS.true)))

-- the production and the symbols passed have a word: where it stands
placed : {ws : List ℕ} {count begin production passed : ℕ} (place : ℕ) → Readable ws → RowsAt ws count begin → production ≡ place_production place → passed ≡ place_passed place → production < count → passed < symbols_limit
    → (begin + symbols_limit * production + passed ≡ word_address ws place) × (word_address ws place < length ws) × (place_production place < get_or ws 6 0) × (place_passed place < symbols_limit)
placed {ws} place r rows e d k l =
    let listed : place_production place < get_or ws 6 0 = omega (arith, rows.productions) in
    let few : place_passed place < symbols_limit = omega arith in
    (omega (arith, rows.address), word_inside r.shown place listed few, listed, few)

pub overflow_add-rows : goal.overflow_add-rows
overflow_add-rows c =
    let w = placed c.args.place c.requires.0 c.requires.1 c.production-production.ensures c.passed-passed.ensures c.if-rows-production.false c.if-passed-ge-WAIT_WORDS.false in
    omega (arith, w.0, w.1)

pub overflow_add-rows-2 : goal.overflow_add-rows-2
overflow_add-rows-2 c =
    let w = placed c.args.place c.requires.0 c.requires.1 c.production-production.ensures c.passed-passed.ensures c.if-rows-production.false c.if-passed-ge-WAIT_WORDS.false in
    omega (arith, w.0, w.1)

pub word_at-requires : goal.word_at-requires
word_at-requires c =
    let w = placed c.args.place c.requires.0 c.requires.1 c.production-production.ensures c.passed-passed.ensures c.if-rows-production.false c.if-passed-ge-WAIT_WORDS.false in
    omega (arith, w.0, w.1)

pub returns : goal.returns
returns c =
    let ws = c.args.program.now in
    let w = placed c.args.place c.requires.0 c.requires.1 c.production-production.ensures c.passed-passed.ensures c.if-rows-production.false c.if-passed-ge-WAIT_WORDS.false in
    c.word_at.ensures.0 ∙ (ap (λ j. get_or ws j 0) w.0 ∙ sym (wait_word_lem ws c.args.place w.2 w.3))
