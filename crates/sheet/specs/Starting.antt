-- A segment walked over cells of which the first ones are lent.
use Rattle.std.specs.Prelude.{ℕ, ◌≤◌, ◌<◌, ◌≡◌, refl, true, false, List, [], ◌∷◌, length, get_or, take, T, ℤ}
use Rattle.std.proofs.Common.{arith, sym, ◌∙◌, subst, length-take-le}
use Rattle.std.proofs.Math.Decide.{dec_lt}
use Rattle.meaning.specs.Limits.{registers_limit, places_limit}
use Rattle.meaning.specs.Base.{all}
use Rattle.meaning.specs.Rules.{four_bytes}
use Rattle.run_fit.specs.HasProgram.{Readable}
use Rattle.sheet.specs.tree.steps.Numbers.{run_in, walked_in, low, Fits, kept_fits}
use Rattle.sheet.specs.tree.steps.Cycle.{NodeAt, NodeDone}
use Rattle.sheet.specs.tree.steps.Walks.{NodeIn, NodeOut}
use Rattle.sheet_answers.specs.declared.Answer as Answer
use Rattle.sheet_answers.specs.declared.Answer.TheVariants.{Refused}
use Rattle.sheet.specs.Opening.{first_run}
use Rattle.sheet.specs.Segments.{Cells, Opens, Ended, Ends, SegmentDone, segment_31, segment_32, first_at, segment_failed, segment_ended, segment_over}

-- the numbers of an opening
abbrev pub first_numbers : ℕ → ℕ → ℕ → List ℕ
first_numbers count n k = 0 ∷ (0 ∷ (count ∷ (1 ∷ (0 ∷ (0 ∷ (n ∷ (k ∷ [])))))))

-- 31 where fewer registers are lent than the start symbol's results, else 32 where no place is, else 0
abbrev pub Lacking : ℕ → ℕ → ℕ → ℕ → Type 0
Lacking count n k r = (n < count → r ≡ 31) × (count ≤ n → k ≡ 0 → r ≡ 32) × (count ≤ n → 1 ≤ k → r ≡ 0)

pub room_left : (count n k r : ℕ) → Lacking count n k r → r ≡ 0 → (count ≤ n) × (1 ≤ k)
room_left count n k r x z = go (dec_lt n count) (dec_lt 0 k)
  where
    go : Dec (n < count) → Dec (0 < k) → (count ≤ n) × (1 ≤ k)
    go (yes l) d = absurd (omega (arith, z, x.0 l))
    go (no l) (yes j) = (omega (arith, l), omega (arith, j))
    go (no l) (no j) = absurd (omega (arith, z, x.1 (omega (arith, l)) (omega (arith, j))))

module _ (ws ks : List ℕ) (vs m₀ : List ℤ) (ps₀ : List ℕ) (n k : ℕ) (x : Cells m₀ ps₀ n k) (out : List ℕ) where
  many : length (take n m₀) ≡ n
  many = length-take-le n m₀ (omega (arith, x.registers, x.few))

  many_places : length (take k ps₀) ≡ k
  many_places = length-take-le k ps₀ (omega (arith, x.places, x.little))

  few : length (take n m₀) ≤ registers_limit
  few = omega (arith, many, x.few)

  little : length (take k ps₀) ≤ places_limit
  little = omega (arith, many_places, x.little)

  -- as many are lent
  counted : (sheet : List ℕ) (a : Answer.Answer) → SegmentDone ws ks vs (length (take n m₀)) (length (take k ps₀)) out sheet a → SegmentDone ws ks vs n k out sheet a
  counted sheet a d = subst (λ i. SegmentDone ws ks vs n i out sheet a) many_places (subst (λ i. SegmentDone ws ks vs i (length (take k ps₀)) out sheet a) many d)

  whole_31 : n < get_or ws 4 0 → SegmentDone ws ks vs n k out out (Refused 31 0)
  whole_31 l = counted out (Refused 31 0) (segment_31 ws ks vs (take n m₀) (take k ps₀) out few little out (omega (arith, l, many)))

  module _ (r : get_or ws 4 0 ≤ n) where
    wide : get_or ws 4 0 ≤ length (take n m₀)
    wide = omega (arith, r, many)

    whole_32 : k ≡ 0 → SegmentDone ws ks vs n k out out (Refused 32 0)
    whole_32 z = counted out (Refused 32 0) (segment_32 ws ks vs (take n m₀) (take k ps₀) out few little wide out (omega (arith, z, many_places)))

  pub whole_lacking : (count r : ℕ) → count ≡ get_or ws 4 0 → Lacking count n k r → (r ≡ 0 → ⊥) → SegmentDone ws ks vs n k out out (Refused r 0)
  whole_lacking count r w q f = go (dec_lt n count) (dec_lt 0 k)
    where
      refused : (j : ℕ) → r ≡ j → SegmentDone ws ks vs n k out out (Refused j 0) → SegmentDone ws ks vs n k out out (Refused r 0)
      refused j e = subst (λ z. SegmentDone ws ks vs n k out out (Refused z 0)) (sym e)

      go : Dec (n < count) → Dec (0 < k) → SegmentDone ws ks vs n k out out (Refused r 0)
      go (yes l) d = refused 31 (q.0 l) (whole_31 (omega (arith, l, w)))
      go (no l) (yes j) = absurd (f (q.2 (omega (arith, l)) (omega (arith, j))))
      go (no l) (no j) = refused 32 (q.1 (omega (arith, l)) (omega (arith, j))) (whole_32 (omega (arith, l, w)) (omega (arith, j)))

  module _ (r : get_or ws 4 0 ≤ n) where
    module _ (p : 1 ≤ k) (even : length ks ≡ length vs) (four : T (all four_bytes vs)) (m₁ : List ℤ) (ps₁ : List ℕ) (o : Opens ws n k m₀ ps₀ m₁ ps₁) where
      some : 1 ≤ length (take k ps₀)
      some = omega (arith, p, many_places)

      same : length (take n m₁) ≡ length (take n m₀)
      same = length-take-le n m₁ (omega (arith, x.registers, x.few, o.long)) ∙ sym many

      same_places : length (take k ps₁) ≡ length (take k ps₀)
      same_places = length-take-le k ps₁ (omega (arith, x.places, x.little, o.long_places)) ∙ sym many_places

      fits : (count : ℕ) → Fits m₁ ps₁ (first_numbers count n k)
      fits count = record { eight = refl; registers = omega (arith, x.registers, x.few, o.long); places = omega (arith, x.places, x.little, o.long_places) }

      pub whole_in : (count : ℕ) → count ≡ get_or ws 4 0 → Readable ws → NodeIn ws ks vs m₁ ps₁ (first_numbers count n k)
      whole_in count w read = record { ready = subst (λ i. NodeAt ws ks vs (take n m₁) (take k ps₁) (first_run i) 0) (sym w) (first_at ws ks vs (take n m₀) (take k ps₀) out few little (wide r) some even four (take n m₁) (take k ps₁) same same_places o.opened read); fits = fits count }

      module _ (count : ℕ) (w : count ≡ get_or ws 4 0) (m : List ℤ) (ps sheet s : List ℕ) where
        pub whole_failed : NodeOut ws ks vs m₁ ps₁ (first_numbers count n k) out m ps sheet false s → SegmentDone ws ks vs n k out sheet (Refused (get_or s 5 0) (get_or s 0 0))
        whole_failed q =
            let done = subst (λ i. NodeDone ws ks vs (take n m₁) (take k ps₁) (first_run i) 0 out (low 6 s m) (low 7 s ps) sheet (walked_in false s)) w q.done in
            counted sheet (Refused (get_or s 5 0) (get_or s 0 0)) (segment_failed ws ks vs (take n m₀) (take k ps₀) out few little (wide r) some even four (take n m₁) (take k ps₁) same same_places o.opened (low 6 s m) (low 7 s ps) sheet (run_in s) (get_or s 5 0) done)

        module _ (q : NodeOut ws ks vs m₁ ps₁ (first_numbers count n k) out m ps sheet true s) where
          done : NodeDone ws ks vs (take n m₁) (take k ps₁) (first_run (get_or ws 4 0)) 0 out (low 6 s m) (low 7 s ps) sheet (walked_in true s)
          done = subst (λ i. NodeDone ws ks vs (take n m₁) (take k ps₁) (first_run i) 0 out (low 6 s m) (low 7 s ps) sheet (walked_in true s)) w q.done

          pub whole_ended : Readable ws → Ended ws (low 6 s m) (run_in s) × (get_or s 6 0 ≤ length m)
          whole_ended read = (segment_ended ws ks vs (take n m₀) (take k ps₀) out few little (wide r) some even four (take n m₁) (take k ps₁) same same_places o.opened (low 6 s m) (low 7 s ps) sheet (run_in s) (get_or s 5 0) done q.rests read, (kept_fits (fits count) q.kept).registers)

          pub whole_over : (a : Answer.Answer) → Ends ws ks (low 6 s m) (run_in s) (get_or s 5 0) a → SegmentDone ws ks vs n k out sheet a
          whole_over a z = counted sheet a (segment_over ws ks vs (take n m₀) (take k ps₀) out few little (wide r) some even four (take n m₁) (take k ps₁) same same_places o.opened (low 6 s m) (low 7 s ps) sheet (run_in s) (get_or s 5 0) done q.rests a z)
