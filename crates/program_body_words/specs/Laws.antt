-- The definitions of specs/ by the tests that the code makes.
use Rattle.std.specs.Prelude.{ℕ, ◌+◌, ◌-◌, ◌*◌, ◌≤◌, ◌<◌, ◌≡◌, Bool, List, [], ◌∷◌, length, set, get_or}
use Rattle.std.proofs.Common.{arith, sym, ap, ◌∙◌, lt-ltb, le-ltb, eq-eqb, ne_eqb}
use Rattle.std.proofs.Math.ListN.{get_or-eq_default}
use Rattle.meaning.specs.Program.{head_of, read_operation, predict_operation, add_operation}
use Rattle.meaning.specs.Grammar.{nonterminal_base}
use Rattle.program_block_words.specs.Items.{item_size}
use Rattle.program_block_words.specs.Patch.{patch, Wrote, wrote_none, wrote_one, patch_swap}
use Rattle.program_body_words.specs.SchemeWords.{add_words, add_size, block_size}
use Rattle.program_body_words.specs.OfProduction.{expect_head}

pub past_end : (l : List ℕ) (i : ℕ) → length l ≤ i → 0 ≡ get_or l i 0
past_end l i h = sym (get_or-eq_default l 0 {n = i} h)

pub head_terminal : (b : ℕ) → b < nonterminal_base → head_of read_operation b ≡ expect_head b
unfolding expect_head
head_terminal b l = rw (lt-ltb b nonterminal_base l)

pub head_nonterminal : (b : ℕ) → nonterminal_base ≤ b → head_of predict_operation (b - nonterminal_base) ≡ expect_head b
unfolding expect_head
head_nonterminal b l = rw (le-ltb b nonterminal_base l)

pub add_some : (n : ℕ) → (n ≡ 0 → ⊥) → 1 ≡ add_size n
unfolding add_size
add_some n e = rw (ne_eqb n 0 e)

pub add_not_written : (area : List ℕ) (a n : ℕ) → n ≡ 0 → Wrote area area a a (add_words n)
unfolding add_words
add_not_written area a n e = rw (eq-eqb n 0 e) (wrote_none area a)

pub add_written : (area : List ℕ) (a n w : ℕ) → (n ≡ 0 → ⊥) → w ≡ head_of add_operation n → Wrote area (set area a w) a (a + 1) (add_words n)
unfolding add_words
add_written area a n w e ew =
    let f : w ≡ 8 * n = omega (arith, ew) in
    rw (ne_eqb n 0 e, sym f) (wrote_one area a w)

pub size_some : (rules : Bool) (n : ℕ) → (n ≡ 0 → ⊥) → 1 + item_size rules * n ≡ block_size rules n
unfolding block_size
size_some rules n e = rw (ne_eqb n 0 e)

-- ---- words that stand before those written

module _ {old new : List ℕ} {a next : ℕ} {ws : List ℕ} where
  pub patch_beside : (i : ℕ) (vs : List ℕ) → i + length vs ≤ a → Wrote old new a next ws → Wrote (patch old i vs) (patch new i vs) a next ws
  patch_beside i vs l w = record { memory = ap (λ m. patch m i vs) w.memory ∙ sym (patch_swap old i vs a ws l); address = w.address }

  pub set_beside : (i v : ℕ) → i < a → Wrote old new a next ws → Wrote (set old i v) (set new i v) a next ws
  unfolding patch
  set_beside i v l w = patch_beside i (v ∷ []) (omega arith) w
