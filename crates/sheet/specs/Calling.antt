-- The call from a table's bytes: the table's refusal, or what is done under its grammar.
use Rattle.std.specs.Prelude.{ℕ, ◌+◌, ◌≤◌, ◌<◌, ◌≡◌, refl, List, length, get_or, T, ℤ, pos}
use Rattle.std.proofs.Common.{arith, sym, subst}
use Rattle.std.proofs.Math.Decide.{dec_lt}
use Rattle.meaning.specs.Base.{all}
use Rattle.meaning.specs.Rules.{four_bytes}
use Rattle.theory_base.specs.Members.{at_all}
use Rattle.meaning.specs.Table.{grammar_of}
use Rattle.meaning.specs.PublicCalls.{area_length}
use Rattle.meaning_sheet.specs.SheetCalls.{Sheets, WhenChecked}
use Rattle.theory_answers.specs.Called.{usable_accepted}
use Rattle.theory_complete.specs.CompleteUnique.{only}
use Rattle.prepare.specs.declared.Made as Made
use Rattle.prepare.specs.declared.Made.TheVariants as M
use Rattle.prepare.specs.Making.{MadeAs, Case, ProgramStands}
use Rattle.sheet.specs.tree.moves.NodeInMemory.{tokens_as}
use Rattle.sheet_answers.specs.declared.Answer as Answer
use Rattle.sheet_answers.specs.declared.Answer.TheVariants.{TableRefused}
use Rattle.sheet_answers.specs.Answers.{sheet_is}
use Rattle.sheet.specs.Segments.{SegmentDone, Under}

-- ---- values, one after the other

-- the first i of them are 32-bit numbers
abbrev pub FourTo : List ℤ → ℕ → Type 0
FourTo vs i = (j : ℕ) → j < i → T (four_bytes (get_or vs j (pos 0)))

pub four_none : (vs : List ℤ) → FourTo vs 0
four_none vs j l = absurd (omega arith)

pub four_more : (vs : List ℤ) (i : ℕ) → FourTo vs i → T (four_bytes (get_or vs i (pos 0))) → FourTo vs (i + 1)
four_more vs i h t j l = go (dec_lt j i)
  where
    go : Dec (j < i) → T (four_bytes (get_or vs j (pos 0)))
    go (yes k) = h j k
    go (no k) = let e : i ≡ j = omega arith in subst (λ n. T (four_bytes (get_or vs n (pos 0)))) e t

pub four_all : (vs : List ℤ) (i : ℕ) → FourTo vs i → length vs ≤ i → T (all four_bytes vs)
four_all vs i h l = at_all four_bytes (pos 0) vs (λ j k. h j (omega (arith, k, l)))

pub walks_as : (ws ks : List ℕ) (vs : List ℤ) (a b a' b' : ℕ) (before after : List ℕ) (r : Answer.Answer) → a ≡ a' → b ≡ b' → SegmentDone ws ks vs a b before after r → SegmentDone ws ks vs a' b' before after r
walks_as ws ks vs a b a' b' before after r e f w = subst (λ x. SegmentDone ws ks vs a' x before after r) f (subst (λ x. SegmentDone ws ks vs x b before after r) e w)

-- ---- an accepted table

-- ---- by what was made of the table

module _ {t area area' : List ℕ} (m : Made.Made) (k : MadeAs t area area' m) where
  pub never_short : {A : Type 0} → m ≡ M.Short → area_length ≤ length area → A
  never_short e l = let c : Case t area area' M.Short = subst (Case t area area') e k.case in absurd (omega (arith, c.0, l))

  pub table_refused_lem : (number offset : ℕ) → m ≡ M.Refused number offset → (r p : ℕ) (ks : List ℕ) (vs : List ℤ) (out : List ℕ) → Sheets t r p ks vs out (sheet_is (TableRefused number offset) out)
  table_refused_lem number offset e r p ks vs out = let c : Case t area area' (M.Refused number offset) = subst (Case t area area') e k.case in subst (λ x. WhenChecked x r p ks vs out (sheet_is (TableRefused number offset) out)) (sym c.1) refl

  pub stands : (size : ℕ) → m ≡ M.Written size → ProgramStands t area area' size
  stands size e = subst (Case t area area') e k.case

module _ {t area area' : List ℕ} {size : ℕ} (s : ProgramStands t area area' size) where
  pub under_table : (r p : ℕ) (ks : List ℕ) (vs : List ℤ) (out sheet : List ℕ) (a : Answer.Answer) → Under area' ks vs r p out sheet a → Sheets t r p ks vs out (sheet_is a sheet)
  under_table r p ks vs out sheet a u =
      let g = grammar_of s.state in
      subst (λ x. WhenChecked x r p ks vs out (sheet_is a sheet)) (sym s.is_usable) (u g s.begins s.formed (only t g (usable_accepted t s.state s.is_usable) (tokens_as g ks vs)))
