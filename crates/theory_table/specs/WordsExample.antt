-- 01's grammar of words and tags: its table is a layout of it, by computation, and it meets the rules.
use Rattle.std.proofs.Common.{arith, ap, subst}
use Rattle.std.specs.Prelude.{◌≡◌, refl, drop, pos}
use Rattle.meaning.specs.Grammar.{const, copy, binary, sum, addc, range}
use Rattle.meaning.specs.Rules.{WellFormed}
use Rattle.meaning.specs.Layout.{LaidOut}
use Rattle.meaning.specs.Layout as Layout
use Rattle.meaning.specs.Table.{Read, well_formed, malformed, read_table}
use Rattle.meaning.specs.Examples.WordsAndTags.{occ, rule, p0, p1, p2, p3, words}
use Rattle.meaning.specs.Examples.TableRows.{bytes, grammar, read}
use Rattle.theory_table.specs.ReadWellFormed.{read_well_formed}

pub words_laid_out : LaidOut words bytes
unfolding bytes
words_laid_out = record {
  rest = drop 17 bytes;
  productions =
      Layout.production p0 (Layout.rule (rule (occ 1 1) (const (pos 0))) (Layout.rule (rule (occ 0 1) (copy (occ 1 2))) Layout.nothing))
      (Layout.production p1 (Layout.rule (rule (occ 2 1) (copy (occ 0 1))) (Layout.rule (rule (occ 0 2) (addc (occ 2 2) (pos 1))) Layout.nothing))
      (Layout.production p2 (Layout.rule (rule (occ 2 1) (addc (occ 0 1) (pos 1))) (Layout.rule (rule (occ 4 1) (copy (occ 0 1))) (Layout.rule (rule (occ 0 2) (binary sum (occ 2 2) (occ 4 2))) (Layout.condition (range (occ 0 1) (pos 0) (pos 2)) Layout.nothing))))
      (Layout.production p3 (Layout.rule (rule (occ 0 2) (const (pos 0))) Layout.nothing)
      Layout.nothing)));
  is_table = refl;
}

formed_read : (r : Read) → read_table bytes ≡ r → grammar r ≡ words → WellFormed words
unfolding grammar
formed_read (well_formed s) e q = subst WellFormed q (read_well_formed bytes s e)
formed_read (malformed n o) e q = absurd (omega (arith, ap (λ g. g.terminals) q))

pub words_well_formed : WellFormed words
words_well_formed = formed_read (read_table bytes) refl read
