-- From the reader's answer to the answer on the table.
use Prim.Native.Nat.{ℕ}
use mathlib.Core.Path.{◌≡◌, refl, ap, ◌∙◌, subst}
use mathlib.Core.List.{List}
use Rattle.meaning.specs.Table.{State, Read, well_formed, malformed, read_table}
use Rattle.meaning.specs.Judgement as Judgement
use Rattle.meaning.specs.Judgement.{accepted, rejected}
use Rattle.meaning.specs.Decide.{judge}
use Rattle.meaning.specs.PublicCalls.{Checked, unusable, checked_as, check}
use Rattle.outline.specs.declared.Sizes.{Sizes}
use Rattle.std.specs.Prelude.{Result, Ok, Err}
use Rattle.refusals.specs.Numbers.{fault_number}
use Rattle.refusals.specs.declared.TableRefusal.{TableRefusal}
use Rattle.outline.specs.Outline.{state_in, Outline}
use Rattle.table.specs.Answer.{Answers, Worded}
use Rattle.set_words.specs.Views.{right_by}
use Rattle.set_words.specs.Growth.{SetsTo}
use Rattle.checker.specs.grammar.Concludes.{Concludes}
use Rattle.checker.specs.Judging.{Judges}

checked_not : (t : List ℕ) (n o : ℕ) → read_table t ≡ malformed n o → check t ≡ unusable n o
checked_not t n o e = go (read_table t) e
  where
    go : (x : Read) → x ≡ malformed n o → ◌≡◌ {A = Checked} (elim x [ malformed n o ↦ unusable n o | well_formed s ↦ checked_as s (judge s) ]) (unusable n o)
    go x e = rw e refl

checked_read : (t : List ℕ) (s : State) → read_table t ≡ well_formed s → check t ≡ checked_as s (judge s)
checked_read t s e = go (read_table t) e
  where
    go : (x : Read) → x ≡ well_formed s → ◌≡◌ {A = Checked} (elim x [ malformed n o ↦ unusable n o | well_formed s ↦ checked_as s (judge s) ]) (checked_as s (judge s))
    go x e = rw e refl

-- the words of the right sides
pub read_words : (rows words : List ℕ) (q : Result Sizes TableRefusal) → Worded q rows words → (sizes : Sizes) → q ≡ Ok sizes → SetsTo (right_by rows) sizes.productions words
read_words rows words q w sizes e = subst (λ z. Worded z rows words) e w

module _ (t inh syn rows offsets : List ℕ) (q : Result Sizes TableRefusal) (ans : Answers q inh syn rows offsets (read_table t)) where
  pub read_malformed : (r : TableRefusal) → q ≡ Err r → read_table t ≡ malformed (fault_number r.fault) r.offset
  read_malformed r e = subst (λ z. Answers z inh syn rows offsets (read_table t)) e ans

  pub read_refused : (sets : List ℕ) (r : TableRefusal) → q ≡ Err r → Judges t inh syn rows offsets sets (Err r)
  unfolding Judges
  read_refused sets r e = checked_not t (fault_number r.fault) r.offset (read_malformed r e)

  module _ (sizes : Sizes) (e : q ≡ Ok sizes) where
    pub read_outline : Outline t sizes inh syn rows offsets
    read_outline = subst (λ z. Answers z inh syn rows offsets (read_table t)) e ans t refl

    checked : (d : Judgement.Verdict) → judge (state_in t) ≡ d → check t ≡ checked_as (state_in t) d
    checked d j = checked_read t (state_in t) read_outline.productions.is_read ∙ ap (checked_as (state_in t)) j

    module _ (sets : List ℕ) (r : Result (Unit {0}) TableRefusal) (k : Concludes t sizes sets r (judge (state_in t))) where
      pub read_accepted : (u : Unit {0}) → r ≡ Ok u → Judges t inh syn rows offsets sets (Ok sizes)
      unfolding Judges
      read_accepted u i =
          let c = subst (λ z. Concludes t sizes sets z (judge (state_in t))) i k in
          record { is_usable = checked accepted c.0; outlined = record { outline = read_outline; starting = c.1 } }

      pub read_rejected : (f : TableRefusal) → r ≡ Err f → Judges t inh syn rows offsets sets (Err f)
      unfolding Judges
      read_rejected f i = checked (rejected (fault_number f.fault) f.offset) (subst (λ z. Concludes t sizes sets z (judge (state_in t))) i k)
