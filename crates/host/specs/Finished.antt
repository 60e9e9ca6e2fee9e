-- What a finish hands out as numbers is brought to a window as its answer.
use Rattle.std.specs.Prelude.{ℕ, ◌<◌, ◌≡◌, refl, cond, List, ℤ, pos}
use Rattle.std.proofs.Common.{arith, ap, ne_eqb}
use Rattle.meaning.specs.Calls.{value, refused, table_refused}
use Rattle.meaning_window.specs.Window.{brings_answer}
use Rattle.host_numbers.specs.Lent.{answer_number, answer_count, answer_value}
use Rattle.host_answers.specs.windows.Windows.{finished_as}

pub brought_value : (v : ℤ) (k : ℕ) (b : List ℤ) → brings_answer (finished_as (answer_number (value v k)) (answer_value (value v k)) (answer_count (value v k))) b ≡ brings_answer (value v k) b
brought_value v k b = refl

pub brought_refusal : (n k : ℕ) → 0 < n → (b : List ℤ) → brings_answer (finished_as (answer_number (refused n k)) (answer_value (refused n k)) (answer_count (refused n k))) b ≡ brings_answer (refused n k) b
brought_refusal n k l b = ap (λ t. brings_answer (cond t (value (pos 0) k) (refused n k)) b) (ne_eqb n 0 (λ z. omega arith))

pub brought_table : (n k : ℕ) → 0 < n → (b : List ℤ) → brings_answer (finished_as (answer_number (table_refused n k)) (answer_value (table_refused n k)) (answer_count (table_refused n k))) b ≡ brings_answer (table_refused n k) b
brought_table n k l b = ap (λ t. brings_answer (cond t (value (pos 0) k) (refused n k)) b) (ne_eqb n 0 (λ z. omega arith))
