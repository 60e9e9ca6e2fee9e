-- The numbers of a walk in eight cells: the run's five; where the sheet goes on, or the number that refuses; how many registers and places are lent. And what a walk comes to.
use Rattle.std.specs.Prelude.{ℕ, zero, suc, ◌≤◌, ◌<◌, ◌≡◌, refl, Bool, true, false, List, [], ◌∷◌, ◌++◌, length, get_or, set, take, drop, Ok, Err}
use Rattle.std.proofs.Common.{arith, ap, ◌∙◌, length-set, length-append, length-take, length-drop, length-take-le, get_or-set_other, get_or-set_same}
use Rattle.theory_program.specs.Parts.{head_operation}
use Rattle.run_moves.specs.declared.Run.{Run}
use Rattle.refusals.specs.Numbers.{refusal_number}
use Rattle.run_machine.specs.declared.Failed as M
use Rattle.run_machine.specs.Advancing.{Ended}
use Rattle.sheet.specs.tree.moves.NodeInMemory.{is_inside}

-- a node or a list of children is left, and so far does the sheet go; or a number refuses the move at hand
pub data Walked : Type 0 where
  Left : Run → ℕ → Walked
  Failed : Run → ℕ → Walked

abbrev pub run_in : List ℕ → Run
run_in s = record { tokens = get_or s 0 0; moves = get_or s 1 0; registers = get_or s 2 0; places = get_or s 3 0; at = get_or s 4 0 }

abbrev pub walked_in : Bool → List ℕ → Walked
walked_in true s = Left (run_in s) (get_or s 5 0)
walked_in false s = Failed (run_in s) (get_or s 5 0)

abbrev pub walked_as : Ended → ℕ → Walked
walked_as (Ok run) end = Left run end
walked_as (Err f) end = Failed f.run (refusal_number f.refusal)

-- what is at hand is no add, evaluate or test
abbrev pub Rests : List ℕ → Walked → Type 0
Rests ws (Left run end) = is_inside (head_operation (get_or ws run.at 0)) ≡ false
Rests ws (Failed run j) = Unit {0}

-- a number that refuses has four bytes
abbrev pub Small : Bool → List ℕ → Type 0
Small true s = Unit {0}
Small false s = get_or s 5 0 < 4294967296

-- the cells that are lent
abbrev pub low : {A : Type 0} → ℕ → List ℕ → List A → List A
low i s xs = take (get_or s i 0) xs

pub record Fits {A : Type 0} (m : List A) (ps s : List ℕ) : Type 0 where
  pub eight : length s ≡ 8
  pub registers : get_or s 6 0 ≤ length m
  pub places : get_or s 7 0 ≤ length ps

-- after a call
pub record Kept {A : Type 0} (m₀ : List A) (ps₀ s₀ : List ℕ) (m : List A) (ps s : List ℕ) : Type 0 where
  pub eight : length s ≡ 8
  pub registers : get_or s 6 0 ≡ get_or s₀ 6 0
  pub places : get_or s 7 0 ≡ get_or s₀ 7 0
  pub long : length m ≡ length m₀
  pub long_places : length ps ≡ length ps₀

module _ {A : Type 0} {m₀ m₁ : List A} {ps₀ ps₁ s₀ s₁ : List ℕ} where
  pub kept_fits : Fits m₀ ps₀ s₀ → Kept m₀ ps₀ s₀ m₁ ps₁ s₁ → Fits m₁ ps₁ s₁
  kept_fits f k = record { eight = k.eight; registers = omega (arith, f.registers, k.registers, k.long); places = omega (arith, f.places, k.places, k.long_places) }

  -- as many cells are lent
  pub kept_low : Fits m₀ ps₀ s₀ → Kept m₀ ps₀ s₀ m₁ ps₁ s₁ → (length (low 6 s₁ m₁) ≡ length (low 6 s₀ m₀)) × (length (low 7 s₁ ps₁) ≡ length (low 7 s₀ ps₀))
  kept_low f k =
      let a = length-take (get_or s₁ 6 0) m₁ in
      let b = length-take (get_or s₀ 6 0) m₀ in
      let c = length-take (get_or s₁ 7 0) ps₁ in
      let d = length-take (get_or s₀ 7 0) ps₀ in
      (omega (arith, a, b, k.registers, k.long), omega (arith, c, d, k.places, k.long_places))

pub kept_on : {A : Type 0} {m₀ m₁ m₂ : List A} {ps₀ ps₁ ps₂ s₀ s₁ s₂ : List ℕ} → Kept m₀ ps₀ s₀ m₁ ps₁ s₁ → Kept m₁ ps₁ s₁ m₂ ps₂ s₂ → Kept m₀ ps₀ s₀ m₂ ps₂ s₂
kept_on k l = record { eight = l.eight; registers = l.registers ∙ k.registers; places = l.places ∙ k.places; long = l.long ∙ k.long; long_places = l.long_places ∙ k.long_places }

pub fits_low : {A : Type 0} {m : List A} {ps s : List ℕ} → Fits m ps s → (length (low 6 s m) ≡ get_or s 6 0) × (length (low 7 s ps) ≡ get_or s 7 0)
fits_low {m = m} {ps = ps} {s = s} f = (length-take-le (get_or s 6 0) m f.registers, length-take-le (get_or s 7 0) ps f.places)

-- what was written over the first cells
pub low_written : {A : Type 0} (n : ℕ) (xs ys : List A) → length xs ≡ n → take n (xs ++ drop n ys) ≡ xs
low_written {A = A} n xs ys e = go n xs (drop n ys) e
  where
    go : (n : ℕ) (xs zs : List A) → length xs ≡ n → take n (xs ++ zs) ≡ xs
    go zero [] [] e = refl
    go zero [] (z ∷ zs) e = refl
    go zero (x ∷ xs) zs e = absurd (omega arith)
    go (suc n) [] zs e = absurd (omega arith)
    go (suc n) (x ∷ xs) zs e = ap (λ l. x ∷ l) (go n xs zs (omega arith))

pub long_written : {A : Type 0} (n : ℕ) (xs ys : List A) → length xs ≡ length (take n ys) → n ≤ length ys → length (xs ++ drop n ys) ≡ length ys
long_written n xs ys e l = length-append xs (drop n ys) ∙ omega (arith, e, length-take n ys, length-drop n ys)

-- ---- the run written into the cells

abbrev pub stored : List ℕ → Run → List ℕ
stored s run = set (set (set (set (set s 0 run.tokens) 1 run.moves) 2 run.registers) 3 run.places) 4 run.at

-- the cell where the sheet goes on is no part of the run
pub run_apart : (s : List ℕ) (v : ℕ) → run_in (set s 5 v) ≡ run_in s
run_apart s v =
    let a = get_or-set_other s 5 0 v 0 (λ e. omega (arith, e)) in
    let b = get_or-set_other s 5 1 v 0 (λ e. omega (arith, e)) in
    let c = get_or-set_other s 5 2 v 0 (λ e. omega (arith, e)) in
    let d = get_or-set_other s 5 3 v 0 (λ e. omega (arith, e)) in
    let e = get_or-set_other s 5 4 v 0 (λ e. omega (arith, e)) in
    λ i. record { tokens = a i; moves = b i; registers = c i; places = d i; at = e i }

pub kept_apart : {A : Type 0} (m : List A) (ps s : List ℕ) (v : ℕ) → length s ≡ 8 → Kept m ps s m ps (set s 5 v)
kept_apart m ps s v e = record { eight = length-set s 5 v ∙ e; registers = get_or-set_other s 5 6 v 0 (λ q. omega (arith, q)); places = get_or-set_other s 5 7 v 0 (λ q. omega (arith, q)); long = refl; long_places = refl }

pub stored_as : (s : List ℕ) (run : Run) → length s ≡ 8 → (run_in (stored s run) ≡ run) × (get_or (stored s run) 5 0 ≡ get_or s 5 0) × (get_or (stored s run) 6 0 ≡ get_or s 6 0) × (get_or (stored s run) 7 0 ≡ get_or s 7 0) × (length (stored s run) ≡ 8)
stored_as [] run l = absurd (omega arith)
stored_as (a ∷ []) run l = absurd (omega arith)
stored_as (a ∷ (b ∷ [])) run l = absurd (omega arith)
stored_as (a ∷ (b ∷ (c ∷ []))) run l = absurd (omega arith)
stored_as (a ∷ (b ∷ (c ∷ (d ∷ [])))) run l = absurd (omega arith)
stored_as (a ∷ (b ∷ (c ∷ (d ∷ (e ∷ []))))) run l = absurd (omega arith)
stored_as (a ∷ (b ∷ (c ∷ (d ∷ (e ∷ (f ∷ [])))))) run l = absurd (omega arith)
stored_as (a ∷ (b ∷ (c ∷ (d ∷ (e ∷ (f ∷ (g ∷ []))))))) run l = absurd (omega arith)
stored_as (a ∷ (b ∷ (c ∷ (d ∷ (e ∷ (f ∷ (g ∷ (h ∷ t)))))))) run l = (refl, refl, refl, refl, l)

-- what a call of the moves answered, written into the cells
pub record AnswerWritten (s : List ℕ) (ended : Ended) (r : Bool) (s' : List ℕ) : Type 0 where
  pub walked : walked_in r s' ≡ walked_as ended (get_or s 5 0)
  pub eight : length s' ≡ 8
  pub registers : get_or s' 6 0 ≡ get_or s 6 0
  pub places : get_or s' 7 0 ≡ get_or s 7 0
  pub small : Small r s'

pub end_stopped : (s : List ℕ) (run : Run) → length s ≡ 8 → AnswerWritten s (Ok run) true (stored s run)
end_stopped s run l =
    let x = stored_as s run l in
    record { walked = (λ i. Left (x.0 i) (x.1 i)); eight = x.4; registers = x.2; places = x.3; small = tt }

pub end_failed : (s : List ℕ) (f : M.Failed) → refusal_number f.refusal < 4294967296 → length s ≡ 8 → AnswerWritten s (Err f) false (set (stored s f.run) 5 (refusal_number f.refusal))
end_failed s f few l =
    let run : Run = f.run in
    let j : ℕ = refusal_number f.refusal in
    let x = stored_as s run l in
    let t = stored s run in
    let y : run_in (set t 5 j) ≡ run = run_apart t j ∙ x.0 in
    let z : get_or (set t 5 j) 5 0 ≡ j = get_or-set_same t 5 j 0 (omega (arith, x.4)) in
    record { walked = (λ i. Failed (y i) (z i)); eight = length-set t 5 j ∙ x.4; registers = get_or-set_other t 5 6 j 0 (λ q. omega (arith, q)) ∙ x.2; places = get_or-set_other t 5 7 j 0 (λ q. omega (arith, q)) ∙ x.3; small = omega (arith, z, few) }
