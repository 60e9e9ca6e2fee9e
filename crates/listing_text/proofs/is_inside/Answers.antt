use Rattle.listing_text.specs.Tests.{outside_last, outside_area, inside_area}
use lib.Dec.{T}
use mathlib.Core.Path.{sym, subst}
use native.Mathlib.Omega.{arith}
use Rattle.listing_text.proofs.is_inside.Goals as goal

pub returns-then-word_or_zero-c : goal.returns-then-word_or_zero-c
returns-then-word_or_zero-c c = let s = c.args in (outside_last s.program.now s.c (omega arith), λ e. absurd (subst T (sym e) tt))

pub returns-then-c-ge-AREA : goal.returns-then-c-ge-AREA
returns-then-c-ge-AREA c = let s = c.args in (outside_area s.program.now s.c (omega arith) (omega arith), λ e. absurd (subst T (sym e) tt))

pub returns : goal.returns
returns c = let s = c.args in (inside_area s.program.now s.c (omega arith) (omega arith), λ e. omega arith)
