-- A field by its offset: its size, its body, and what is read from it on.
use Rattle.std.specs.Prelude.{ℕ, suc, ◌+◌, ◌-◌, ◌*◌, ◌≤◌, ◌<◌, ◌≡◌, true, false, List, length, take, drop, eqb}
use Rattle.meaning.specs.Table.{byte, State, Read, malformed, read_all}

-- the length that a field's second and third byte tell, big-endian
unfoldable pub length_at : List ℕ → ℕ → ℕ
length_at t at = byte t (at + 1) * 256 + byte t (at + 2)

-- the field at an offset is whole, with a body of this size
pub record Whole (t : List ℕ) (at size : ℕ) : Type 0 where
  pub size_is : size ≡ length_at t at
  pub inside : at + 3 + size ≤ length t

-- the field at an offset is cut short
abbrev pub Short : List ℕ → ℕ → Type 0
Short t at = length t < at + 3 + length_at t at

-- the body of the field at an offset, of a size
abbrev pub body_at : List ℕ → ℕ → ℕ → List ℕ
body_at t at size = take size (drop (at + 3) t)

-- what reading the table from an offset on gives, where s was read before
unfoldable pub rest : List ℕ → State → ℕ → Read
rest t s at = read_all (suc (length t - at)) s at (drop at t)

-- a refusal by number and offset, or, with number 0, what follows
unfoldable pub judged : ℕ → ℕ → Read → Read
judged number offset after = elim (eqb number 0) [ false ↦ malformed number offset | true ↦ after ]
