-- A table judged: accepted, with what the calls take from it, or refused.
use Rattle.std.specs.Prelude.{ℕ, ◌≡◌, List, Result, Ok, Err}
use Rattle.meaning.specs.PublicCalls.{usable, unusable, check}
use Rattle.refusals.specs.Numbers.{fault_number}
use Rattle.refusals.specs.declared.TableRefusal.{TableRefusal}
use Rattle.outline.specs.declared.Sizes.{Sizes}
use Rattle.outline.specs.Outline.{state_in, Outlined}

pub record Accepts (t : List ℕ) (sizes : Sizes) (inherited synthesized rows offsets sets : List ℕ) : Type 0 where
  pub is_usable : check t ≡ usable (state_in t)
  pub outlined : Outlined t sizes inherited synthesized rows offsets sets

-- the answer, with the lent lists
unfoldable pub Judges : List ℕ → List ℕ → List ℕ → List ℕ → List ℕ → List ℕ → Result Sizes TableRefusal → Type 0
Judges t inherited synthesized rows offsets sets (Ok sizes) = Accepts t sizes inherited synthesized rows offsets sets
Judges t inherited synthesized rows offsets sets (Err r) = check t ≡ unusable (fault_number r.fault) r.offset
