-- The productions of a table that is read stand at their offsets.
use Rattle.std.specs.Prelude.{ℕ, suc, ◌≤◌, ◌<◌, ◌≡◌, List, [], ◌∷◌, reverse, T, get_or, length, drop}
use Rattle.std.proofs.Common.{arith, sym, subst, inl, inr}
use Rattle.meaning.specs.Limits.{attributes_limit}
use Rattle.meaning.specs.Base.{all}
use Rattle.meaning.specs.Grammar.{Grammar, nonterminal, production_at, inh, no_counts}
use Rattle.meaning.specs.Derivation.{Listed}
use Rattle.meaning.specs.Layout.{Bytes}
use Rattle.meaning.specs.Rules.{WellFormed}
use Rattle.meaning.specs.Table.{Entry, no_entry, production_of}
use Rattle.meaning.specs.Decide.{entry_conditions}
use Rattle.theory_base.specs.Members.{get_d_in}
use Rattle.theory_base.specs.WellFormed.{well_formed_at}
use Rattle.theory_sets.specs.EntryRanges.{entries_fit}
use Rattle.theory_sets.specs.Intervals.{entry, entry_wider}
use Rattle.theory_sets.specs.Tests.{all_map}
use Rattle.theory_table.specs.Places.{Places, read_places}
use Rattle.theory_table.specs.ReadLaidOut.{read_stretch}
use Rattle.clash_entries.specs.conditions.EntryConditions.{at_entry, entry_is, Stretch}
use Rattle.outline.specs.Outline.{state_in, grammar_in, Productions, entries_are}

-- a slice of bytes
pub bytes_of : (l : List ℕ) → ((i : ℕ) → get_or l i 0 < 256) → Bytes l
bytes_of [] h b i = absurd i
bytes_of (x ∷ xs) h b (inl e) = rw e (h 0)
bytes_of (x ∷ xs) h b (inr i) = bytes_of xs (λ k. h (suc k)) b i

-- entry conditions read inherited attributes, of which there are at most 8
module _ (g : Grammar) (formed : WellFormed g) (p : ℕ) (l : Listed g p) where
  inherited_few : inh g (nonterminal (production_at g p).left) ≤ attributes_limit
  inherited_few =
      let m = (well_formed_at g formed p l).left in
      let k = formed.attributes (get_or g.counts (production_at g p).left no_counts) (get_d_in g.counts (production_at g p).left no_counts m) in
      omega arith

  fits_at : T (all (entry attributes_limit) (at_entry (production_at g p).conditions))
  fits_at =
      subst (λ cs. T (all (entry attributes_limit) cs)) (entry_is (production_at g p))
      (all_map (entry (inh g (nonterminal (production_at g p).left))) (entry attributes_limit) (entry_wider _ attributes_limit inherited_few) (entry_conditions (production_at g p)) (entries_fit g formed p l))

-- production p of a table stands at its offset
pub record Placed (t offsets : List ℕ) (p : ℕ) : Type 0 where
  pub inside : get_or offsets p 0 ≤ length t
  pub stretch : Stretch (drop (get_or offsets p 0) t) (production_at (grammar_in t) p)
  pub few : inh (grammar_in t) (nonterminal (production_at (grammar_in t) p).left) ≤ attributes_limit
  pub fits : T (all (entry (inh (grammar_in t) (nonterminal (production_at (grammar_in t) p).left))) (entry_conditions (production_at (grammar_in t) p)))

module _ {t rows offsets : List ℕ} {count : ℕ} (x : Productions t rows offsets count) (bytes : Bytes t) (p : ℕ) (l : p < count) where
  abbrev e : Entry
  e = get_or (reverse (state_in t).entries) p no_entry

  entered : p < length (state_in t).entries
  entered = omega (arith, entries_are x)

  listed : Listed (grammar_in t) p
  listed = omega (arith, x.rows_of.counted)

  places : Places t (state_in t)
  places = read_places t (state_in t) x.is_read

  production_is : production_at (grammar_in t) p ≡ production_of e
  unfolding grammar_in
  production_is = places.is_production p entered

  own_stretch : Stretch (drop e.offset t) (production_of e)
  own_stretch =
      let y = read_stretch t (state_in t) bytes x.is_read p entered in
      record {
        body = y.body;
        rest = y.rest;
        own = y.own;
        is_here = y.is_here;
        over = y.over;
        fits = subst (λ q. T (all (entry attributes_limit) (at_entry q.conditions))) production_is (fits_at (grammar_in t) x.rows_of.sound p listed);
      }

  pub placed_at : Placed t offsets p
  placed_at = record {
    few = inherited_few (grammar_in t) x.rows_of.sound p listed;
    fits = entries_fit (grammar_in t) x.rows_of.sound p listed;
    inside = omega (arith, x.offset p l, places.below p entered);
    stretch = subst (λ n. Stretch (drop n t) (production_at (grammar_in t) p)) (sym (x.offset p l)) (subst (Stretch (drop e.offset t)) (sym production_is) own_stretch);
  }
