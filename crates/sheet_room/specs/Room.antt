-- 41, or 0 where a sheet has room.
use Rattle.std.specs.Prelude.{ℕ, ◌≤◌, ◌<◌, ◌≡◌, true, false, ltb}
use Rattle.std.proofs.Common.{arith, sym, ◌∙◌}
use Rattle.std.proofs.Math.Decide.{dec_lt}
use Rattle.std.proofs.Math.Path.{refl}
use borrow.Author.Tests.{lt-ltb, le-ltb}
use Rattle.refusals.specs.Numbers.{refusal_number}
use Rattle.refusals.specs.declared.Refusal.{Refusal}
use Rattle.refusals.specs.declared.Refusal.TheVariants.{UnknownToken, UnexpectedToken, ConditionFalse, ValueOutside, OverTooEarly, AreaShort, NoRegister, NoPlace, Closed, Unfit, LimitReached, BufferShort, Unsuited, UnequalLists, ScratchShort, Waiting, SheetShort, WindowUnfit, SheetWrong}

-- 0 is no refusal's number
pub refusal_some : (r : Refusal) → refusal_number r ≡ 0 → ⊥
refusal_some UnknownToken e = omega arith
refusal_some UnexpectedToken e = omega arith
refusal_some ConditionFalse e = omega arith
refusal_some ValueOutside e = omega arith
refusal_some OverTooEarly e = omega arith
refusal_some AreaShort e = omega arith
refusal_some NoRegister e = omega arith
refusal_some NoPlace e = omega arith
refusal_some Closed e = omega arith
refusal_some Unfit e = omega arith
refusal_some LimitReached e = omega arith
refusal_some BufferShort e = omega arith
refusal_some Unsuited e = omega arith
refusal_some UnequalLists e = omega arith
refusal_some ScratchShort e = omega arith
refusal_some Waiting e = omega arith
refusal_some SheetShort e = omega arith
refusal_some WindowUnfit e = omega arith
refusal_some SheetWrong e = omega arith

unfoldable pub refusal_for : ℕ → ℕ → ℕ
refusal_for room size = elim (ltb room size) [ true ↦ 41 | false ↦ 0 ]

module _ (room size : ℕ) where
  pub refuses : room < size → 41 ≡ refusal_for room size
  unfolding refusal_for
  refuses l = rw (refusal_for, lt-ltb room size l) refl

  pub allows : size ≤ room → 0 ≡ refusal_for room size
  unfolding refusal_for
  allows l = rw (refusal_for, le-ltb room size l) refl

  module _ (r : ℕ) (e : r ≡ refusal_for room size) where
    pub is_short_lem : (r ≡ 0 → ⊥) → (room < size) × (r ≡ 41)
    is_short_lem z = go (dec_lt room size)
      where
        go : Dec (room < size) → (room < size) × (r ≡ 41)
        go (yes l) = (l, e ∙ sym (refuses l))
        go (no l) = absurd (z (e ∙ sym (allows (omega arith))))

    pub has_room : r ≡ 0 → size ≤ room
    has_room z = go (dec_lt room size)
      where
        go : Dec (room < size) → size ≤ room
        go (yes l) = let k : ◌≡◌ {A = ℕ} 0 41 = sym z ∙ e ∙ sym (refuses l) in absurd (omega arith)
        go (no l) = omega arith
