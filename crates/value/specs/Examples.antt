-- Rows: what the definitions say of some numbers.
use Rattle.std.specs.Prelude.{◌≡◌, ℕ, [], ◌∷◌, map, pos, negsuc, refl}
use Rattle.meaning.specs.Table.{signed, constant_at}
use Rattle.meaning.specs.Value.{lowest, highest, mark, quotient, floored}
use Rattle.value.specs.Ranged.{ranged}
use Rattle.value.specs.Computed.{computed}

-- const, copy, sum, diff, prod, max, min, addc and quot of -7 and 2, and a function that 01 does not have
seven : map (λ (f : ℕ). ranged (computed f (negsuc 6) (pos 2))) (0 ∷ 1 ∷ 2 ∷ 3 ∷ 4 ∷ 5 ∷ 6 ∷ 7 ∷ 8 ∷ 9 ∷ [])
    ≡ negsuc 6 ∷ negsuc 6 ∷ negsuc 4 ∷ negsuc 8 ∷ negsuc 13 ∷ pos 2 ∷ negsuc 6 ∷ negsuc 4 ∷ negsuc 2 ∷ pos 0 ∷ []
unfolding quotient floored
seven = refl

-- of -3 and -5
both_negative : map (λ (f : ℕ). ranged (computed f (negsuc 2) (negsuc 4))) (2 ∷ 3 ∷ 4 ∷ 5 ∷ 6 ∷ 7 ∷ [])
    ≡ negsuc 7 ∷ pos 2 ∷ pos 15 ∷ negsuc 2 ∷ negsuc 4 ∷ negsuc 7 ∷ []
both_negative = refl

quotient_up : ranged (computed 8 (pos 7) (pos 2)) ≡ pos 4
unfolding quotient floored
quotient_up = refl

quotient_small : ranged (computed 8 (negsuc 0) (pos 1000000)) ≡ pos 0
unfolding quotient floored
quotient_small = refl

-- ---- the limits

highest_sum : ranged (computed 2 (pos 999999999993) (pos 7)) ≡ highest
highest_sum = refl

sum_out : ranged (computed 2 highest (pos 1)) ≡ mark
sum_out = refl

lowest_difference : ranged (computed 3 (negsuc 999999999998) (pos 1)) ≡ lowest
lowest_difference = refl

difference_out : ranged (computed 3 lowest (pos 1)) ≡ mark
difference_out = refl

lowest_product : ranged (computed 4 (pos 1000000) (negsuc 999999)) ≡ lowest
lowest_product = refl

highest_product : ranged (computed 4 lowest (negsuc 0)) ≡ highest
highest_product = refl

-- one past the limit, 10001 * 99990001, and its opposite
product_out : map (λ b. ranged (computed 4 (pos 10001) b)) (pos 99990001 ∷ negsuc 99990000 ∷ []) ≡ mark ∷ mark ∷ []
product_out = refl

-- 02 (d): "a product too large for 64 bits is still a 23"; 2 ^ 32 * 2 ^ 32 would be 0 there
product_past_64_bits : ranged (computed 4 (pos 4294967296) (pos 4294967296)) ≡ mark
product_past_64_bits = refl

-- an exact product may be the mark's own number, and is no value
product_at_mark : computed 4 (pos 2147483648) (negsuc 4294967295) ≡ mark
product_at_mark = refl

lowest_squared : ranged (computed 4 lowest lowest) ≡ mark
lowest_squared = refl

addc_out : ranged (computed 7 lowest (negsuc 0)) ≡ mark
addc_out = refl

-- ---- constants

constants : map signed (0 ∷ 2147483647 ∷ 2147483648 ∷ 4294967295 ∷ []) ≡ pos 0 ∷ pos 2147483647 ∷ negsuc 2147483647 ∷ negsuc 0 ∷ []
constants = refl

constant_read : constant_at (9 ∷ 255 ∷ 255 ∷ 255 ∷ 254 ∷ []) 1 ≡ negsuc 1
constant_read = refl

-- bytes past the end are 0
constant_cut_short : constant_at (1 ∷ 2 ∷ []) 0 ≡ pos 16908288
constant_cut_short = refl
