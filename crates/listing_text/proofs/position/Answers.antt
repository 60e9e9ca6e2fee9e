use Rattle.listing_text.specs.Cursors.{record_word}
use borrow.Author.Tests.{lt-ltb, le-ltb}
use mathlib.Core.Path.{refl}
use native.Mathlib.Numerals.{add-one}
use native.Mathlib.Omega.{arith}
use Rattle.listing_text.proofs.position.Goals as goal

pub returns-then-passed-record_word : goal.returns-then-passed-record_word
returns-then-passed-record_word c = let s = c.args in rw (lt-ltb s.c.passed (record_word s.program.now s.c.production 7) (omega arith)) (add-one s.c.passed)

pub returns : goal.returns
returns c = let s = c.args in rw (le-ltb s.c.passed (record_word s.program.now s.c.production 7) (omega arith)) refl
