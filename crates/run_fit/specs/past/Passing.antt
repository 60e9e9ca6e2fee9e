-- Registers passed from the bottom up, a stretch at a time.
use Rattle.std.specs.Prelude.{ℕ, zero, suc, ◌+◌, ◌-◌, ◌≤◌, ◌<◌, ◌≡◌, Bool, ◌&&◌, take, drop, replicate, ℤ}
use Rattle.std.proofs.Common.{add-one, arith, ap, ◌∙◌, length-append, drop-drop}
use Rattle.std.proofs.Math.Path.{refl, sym}
use Rattle.std.proofs.Math.Bool.{true, false, and-false, and_assoc}
use mathlib.Core.List.{List, [], ◌∷◌, ◌++◌, append_assoc, append-nil}
use borrow.Author.Tests.{le-leb, lt-leb, leb-true, leb-false, eq-eqb, ne_eqb}
use Rattle.std.proofs.Math.ListN.{length, length-drop}
use Rattle.std.proofs.lemmas.List.{length-replicate}
use Rattle.std.proofs.Math.Dec.{eqb, leb}
use Rattle.meaning.specs.Base.{all}
use Rattle.theory_program.specs.Parts.{wait_passed, wait_marked, wait_inherited}
use Rattle.meaning.specs.Calls.{Cell, valued, marked, cell_fits, cells_fit}

-- ---- stretches of cells of one kind

pub unfit : (cs : List Cell) (vs : List ℤ) → (length cs ≡ length vs → ⊥) → cells_fit cs vs ≡ false
unfit [] [] h = absurd (h refl)
unfit [] (v ∷ vs) h = refl
unfit (c ∷ cs) [] h = refl
unfit (c ∷ cs) (v ∷ vs) h = rw (unfit cs vs (λ e. h (ap suc e))) (and-false (cell_fits c v))

fit_stretch : (c : Cell) (n : ℕ) (ds : List Cell) (vs : List ℤ) → n ≤ length vs → cells_fit (replicate n c ++ ds) vs ≡ all (cell_fits c) (take n vs) && cells_fit ds (drop n vs)
fit_stretch c zero ds vs l = refl
fit_stretch c (suc n) ds [] l = absurd (omega arith)
fit_stretch c (suc n) ds (v ∷ vs) l = ap (λ b. cell_fits c v && b) (fit_stretch c n ds vs (omega arith)) ∙ sym (and_assoc (cell_fits c v) (all (cell_fits c) (take n vs)) (cells_fit ds (drop n vs)))

fit_short : (cs ds : List Cell) (vs : List ℤ) → length vs < length cs → cells_fit (cs ++ ds) vs ≡ false
fit_short cs ds vs l = unfit (cs ++ ds) vs (λ e. omega (arith, length-append cs ds))

-- the registers from `at` on are those of the cells; past the end none are
unfoldable pub fits_from : List ℤ → ℕ → List Cell → Bool
fits_from vs at cs = leb at (length vs) && cells_fit cs (drop at vs)

-- cells cs, from `at` on, are passed at r; past the end where they do not fit
pub record Passes (vs : List ℤ) (cs : List Cell) (at r : ℕ) : Type 0 where
  pub inside : r ≤ length vs + 1
  pub same : (ds : List Cell) → fits_from vs at (cs ++ ds) ≡ fits_from vs r ds

module _ (vs : List ℤ) where
  pub past_end : (at : ℕ) (cs : List Cell) → length vs < at → fits_from vs at cs ≡ false
  unfolding fits_from
  past_end at cs l = rw (lt-leb at (length vs) l) refl

  pub from_end : (at : ℕ) → fits_from vs at [] ≡ eqb at (length vs)
  unfolding fits_from
  from_end at = by (leb at (length vs)) refl (drop at vs) (length-drop at vs)
    where
      by : (b : Bool) → leb at (length vs) ≡ b → (ws : List ℤ) → length ws ≡ length vs - at → b && cells_fit [] ws ≡ eqb at (length vs)
      by true e [] d = sym (eq-eqb at (length vs) (omega (arith, leb-true at (length vs) e)))
      by true e (w ∷ ws) d = sym (ne_eqb at (length vs) (λ q. omega arith))
      by false e ws d = sym (ne_eqb at (length vs) (λ q. omega (arith, leb-false at (length vs) e)))

  pub from_start : (cs : List Cell) → cells_fit cs vs ≡ fits_from vs 0 cs
  unfolding fits_from
  from_start cs = rw (le-leb 0 (length vs) (omega arith)) refl

  -- more cells than registers
  module _ (cs : List Cell) (at : ℕ) (l : length vs < at + length cs) where
    out : (ds : List Cell) → fits_from vs at (cs ++ ds) ≡ false
    unfolding fits_from
    out ds = by (leb at (length vs)) refl
      where
        by : (b : Bool) → leb at (length vs) ≡ b → b && cells_fit (cs ++ ds) (drop at vs) ≡ false
        by true e = fit_short cs ds (drop at vs) (omega (arith, length-drop at vs, leb-true at (length vs) e))
        by false e = refl

    pub passes_out : Passes vs cs at (length vs + 1)
    passes_out = record { inside = omega arith; same = λ ds. out ds ∙ sym (past_end (length vs + 1) ds (omega arith)) }

  module _ (c : Cell) (at n : ℕ) where
    pub passes_met : at + n ≤ length vs → all (cell_fits c) (take n (drop at vs)) ≡ true → Passes vs (replicate n c) at (at + n)
    unfolding fits_from
    passes_met l e =
        record {
          inside = omega arith;
          same = λ ds. rw (le-leb at (length vs) (omega arith), le-leb (at + n) (length vs) l, fit_stretch c n ds (drop at vs) (omega (arith, length-drop at vs)), e) (ap (cells_fit ds) (drop-drop n at vs));
        }

    pub passes_not : at + n ≤ length vs → all (cell_fits c) (take n (drop at vs)) ≡ false → Passes vs (replicate n c) at (length vs + 1)
    unfolding fits_from
    passes_not l e =
        record {
          inside = omega arith;
          same = λ ds. rw (lt-leb (length vs + 1) (length vs) (omega arith), fit_stretch c n ds (drop at vs) (omega (arith, length-drop at vs)), e) (and-false (leb at (length vs)));
        }

    pub passes_short : length vs < at + n → Passes vs (replicate n c) at (length vs + 1)
    passes_short l = passes_out (replicate n c) at (omega (arith, length-replicate n c))

  pub passes_then : {cs ds : List Cell} {at r s : ℕ} → Passes vs cs at r → Passes vs ds r s → Passes vs (cs ++ ds) at s
  passes_then {cs} {ds} p q = record { inside = q.inside; same = λ es. ap (fits_from vs _) (append_assoc cs ds es) ∙ (p.same (ds ++ es) ∙ q.same es) }

-- registers with values, and marked ones above them
abbrev pub valued_then_marked : ℕ → ℕ → List Cell
valued_then_marked a b = replicate a valued ++ replicate b marked

pub both_length : (a b : ℕ) → length (valued_then_marked a b) ≡ a + b
both_length a b = omega (arith, length-append (replicate a valued) (replicate b marked), length-replicate a valued, length-replicate b marked)

-- the registers from those that a symbol waited at inherits, by the word v of the place that waits, up to the marked ones of the place above, by its word w
abbrev pub cells_between : ℕ → ℕ → List Cell
cells_between v w = valued_then_marked (wait_inherited v + wait_passed w) (wait_marked w)

-- the same cells several times over
unfoldable pub repeated : ℕ → List Cell → List Cell
repeated zero cs = []
repeated (suc n) cs = repeated n cs ++ cs

pub repeated_front : (n : ℕ) (cs : List Cell) → cs ++ repeated n cs ≡ repeated n cs ++ cs
unfolding repeated
repeated_front zero cs = append-nil cs
repeated_front (suc n) cs = sym (append_assoc cs (repeated n cs) cs) ∙ ap (λ z. z ++ cs) (repeated_front n cs)

module _ (vs : List ℤ) (cs : List Cell) (at : ℕ) where
  pub repeated_none : at ≤ length vs + 1 → Passes vs (repeated 0 cs) at at
  unfolding repeated
  repeated_none l = record { inside = l; same = λ ds. refl }

  pub repeated_more : (k : ℕ) {r s : ℕ} → Passes vs (repeated k cs) at r → Passes vs cs r s → Passes vs (repeated (k + 1) cs) at s
  unfolding repeated
  repeated_more k p q = rw (add-one k) (passes_then vs p q)
