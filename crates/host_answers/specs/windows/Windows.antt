-- A window's answer and a finish's answer as the numbers that a host lends.
use Rattle.std.specs.Prelude.{ℕ, ◌≡◌, cond, List, eqb, ℤ, pos}
use Rattle.std.proofs.Common.{ap, ◌∙◌}
use Rattle.meaning.specs.Calls.{Answer, value, refused}
use Rattle.meaning_window.specs.Window.{WindowAnswer, totals, empty, turned_back, window_number, Outcome, outcome}

-- ---- a finish's answer, from the numbers that the host's finish hands out

abbrev pub finished_as : ℕ → ℤ → ℕ → Answer
finished_as n v k = cond (eqb n 0) (value v k) (refused n k)

-- ---- a window's answer as four numbers: 42 or 0, the total, the largest, and 1 or 0 where there is none

abbrev pub total_of : WindowAnswer → ℤ
total_of (totals sum top) = sum
total_of empty = pos 0
total_of turned_back = pos 0

abbrev pub largest_of : WindowAnswer → ℤ
largest_of (totals sum top) = top
largest_of empty = pos 0
largest_of turned_back = pos 0

abbrev pub has_largest : WindowAnswer → ℕ
has_largest (totals sum top) = 1
has_largest empty = 0
has_largest turned_back = 0

abbrev pub NumbersOf : WindowAnswer → ℕ → ℤ → ℤ → ℕ → Type 0
NumbersOf a n t l h = (n ≡ window_number a) × (t ≡ total_of a) × (l ≡ largest_of a) × (h ≡ has_largest a)

-- n, t, l and h are the answer's numbers, b the buffer afterwards
pub record WindowPassedOn (o : Outcome) (b : List ℤ) (n : ℕ) (t l : ℤ) (h : ℕ) : Type 0 where
  pub numbers : NumbersOf o.answer n t l h
  pub buffer : b ≡ o.buffer

pub window_passed_on : (a : WindowAnswer) (b : List ℤ) (o : Outcome) → outcome a b ≡ o → (n : ℕ) (t l : ℤ) (h : ℕ) → NumbersOf a n t l h → WindowPassedOn o b n t l h
window_passed_on a b o e n t l h q = record {
  numbers = (q.0 ∙ ap (λ x. window_number x.answer) e, q.1 ∙ ap (λ x. total_of x.answer) e, q.2 ∙ ap (λ x. largest_of x.answer) e, q.3 ∙ ap (λ x. has_largest x.answer) e);
  buffer = ap (λ x. x.buffer) e;
}
