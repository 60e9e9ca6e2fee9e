-- Values: the range and its ends, the mark, each function with negative operands, the two kinds of condition.
use Rattle.std.specs.Prelude.{ℕ, ◌-◌, ◌*◌, ◌≡◌, refl, true, false, [], ◌∷◌, map, get_or, replicate, ℤ, pos, negsuc}
use Rattle.std.proofs.Math.Option.{none}
use Rattle.meaning.specs.Grammar.{Function, const, copy, binary, sum, diff, prod, maxi, mini, addc, quot, range, atmost}
use Rattle.meaning.specs.Value.{lowest, highest, in_range, mark, nearest, floored, quotient, apply, holds}

-- negsuc n is -(n + 1)
range_ends : map in_range (negsuc 1000000000000 ∷ negsuc 999999999999 ∷ negsuc 0 ∷ pos 0 ∷ pos 1000000000000 ∷ pos 1000000000001 ∷ []) ≡ false ∷ true ∷ true ∷ true ∷ true ∷ false ∷ []
range_ends = refl

-- the lowest 64-bit number, -2^63, and it is no value
mark_is : mark ≡ negsuc (2147483648 * 4294967296 - 1)
mark_is = refl

mark_out_of_range : in_range mark ≡ false
mark_out_of_range = refl

-- the operands by number
vals : ℕ → ℤ
vals k = get_or (pos 7 ∷ negsuc 6 ∷ pos 2 ∷ negsuc 1 ∷ []) k (pos 0)

-- on 7, -7, 2, -2
computed : Function ℕ → ℤ
computed f = apply vals f

constants : map computed (const (pos 5) ∷ const (negsuc 4) ∷ copy 0 ∷ copy 1 ∷ []) ≡ pos 5 ∷ negsuc 4 ∷ pos 7 ∷ negsuc 6 ∷ []
unfolding vals computed
constants = refl

sums : map computed (binary sum 0 2 ∷ binary sum 0 3 ∷ binary sum 1 2 ∷ binary sum 1 3 ∷ binary sum 0 1 ∷ []) ≡ pos 9 ∷ pos 5 ∷ negsuc 4 ∷ negsuc 8 ∷ pos 0 ∷ []
unfolding vals computed
sums = refl

differences : map computed (binary diff 0 2 ∷ binary diff 2 0 ∷ binary diff 0 3 ∷ binary diff 1 2 ∷ binary diff 1 3 ∷ binary diff 0 0 ∷ []) ≡ pos 5 ∷ negsuc 4 ∷ pos 9 ∷ negsuc 8 ∷ negsuc 4 ∷ pos 0 ∷ []
unfolding vals computed
differences = refl

products : map computed (binary prod 0 2 ∷ binary prod 0 3 ∷ binary prod 1 2 ∷ binary prod 1 3 ∷ []) ≡ pos 14 ∷ negsuc 13 ∷ negsuc 13 ∷ pos 14 ∷ []
unfolding vals computed
products = refl

greatest : map computed (binary maxi 0 2 ∷ binary maxi 2 0 ∷ binary maxi 1 2 ∷ binary maxi 1 3 ∷ binary maxi 3 1 ∷ binary maxi 0 0 ∷ []) ≡ pos 7 ∷ pos 7 ∷ pos 2 ∷ negsuc 1 ∷ negsuc 1 ∷ pos 7 ∷ []
unfolding vals computed
greatest = refl

least : map computed (binary mini 0 2 ∷ binary mini 2 0 ∷ binary mini 1 2 ∷ binary mini 1 3 ∷ binary mini 3 1 ∷ binary mini 0 0 ∷ []) ≡ pos 2 ∷ pos 2 ∷ negsuc 6 ∷ negsuc 6 ∷ negsuc 6 ∷ pos 7 ∷ []
unfolding vals computed
least = refl

additions : map computed (addc 0 (pos 3) ∷ addc 0 (negsuc 9) ∷ addc 1 (pos 3) ∷ addc 1 (negsuc 0) ∷ []) ≡ pos 10 ∷ negsuc 2 ∷ negsuc 3 ∷ negsuc 7 ∷ []
unfolding vals computed
additions = refl

-- to the nearest, halves upward, on 7 and -7
quotients : map computed (quot 0 (pos 2) ∷ quot 1 (pos 2) ∷ quot 0 (pos 1) ∷ quot 1 (pos 1) ∷ quot 0 (pos 7) ∷ quot 1 (pos 7) ∷ quot 0 (pos 8) ∷ quot 1 (pos 1000000) ∷ []) ≡ pos 4 ∷ negsuc 2 ∷ pos 7 ∷ negsuc 6 ∷ pos 1 ∷ negsuc 0 ∷ pos 1 ∷ pos 0 ∷ []
unfolding vals computed quotient floored
quotients = refl

-- 02 (f): "so 5 by 2 is 3 and minus 5 by 2 is minus 2": of 1 to 4 only 3, of -4 to -1 only -2
five_halves : map (nearest (pos 5) 2) (pos 1 ∷ pos 2 ∷ pos 3 ∷ pos 4 ∷ []) ≡ false ∷ false ∷ true ∷ false ∷ []
five_halves = refl

minus_five_halves : map (nearest (negsuc 4) 2) (negsuc 3 ∷ negsuc 2 ∷ negsuc 1 ∷ negsuc 0 ∷ []) ≡ false ∷ false ∷ true ∷ false ∷ []
minus_five_halves = refl

-- 5, -5, 1, -1, 3 and -3 by 2
halves : map (λ a. quotient a (pos 2)) (pos 5 ∷ negsuc 4 ∷ pos 1 ∷ negsuc 0 ∷ pos 3 ∷ negsuc 2 ∷ []) ≡ pos 3 ∷ negsuc 1 ∷ pos 1 ∷ pos 0 ∷ pos 2 ∷ negsuc 0 ∷ []
unfolding quotient floored
halves = refl

-- 1, -1, 2 and -2 by 3
thirds : map (λ a. quotient a (pos 3)) (pos 1 ∷ negsuc 0 ∷ pos 2 ∷ negsuc 1 ∷ []) ≡ pos 0 ∷ pos 0 ∷ pos 1 ∷ negsuc 0 ∷ []
unfolding quotient floored
thirds = refl

-- both limits by 1, by 2 and by 1,000,000; one short of them by 2 and by 1,000,000
lowest_divided : map (quotient lowest) (pos 1 ∷ pos 2 ∷ pos 1000000 ∷ []) ≡ lowest ∷ negsuc 499999999999 ∷ negsuc 999999 ∷ []
unfolding quotient floored
lowest_divided = refl

highest_divided : map (quotient highest) (pos 1 ∷ pos 2 ∷ pos 1000000 ∷ []) ≡ highest ∷ pos 500000000000 ∷ pos 1000000 ∷ []
unfolding quotient floored
highest_divided = refl

short_divided : map (λ a. map (quotient a) (pos 2 ∷ pos 1000000 ∷ [])) (negsuc 999999999998 ∷ pos 999999999999 ∷ []) ≡ (negsuc 499999999998 ∷ negsuc 999999 ∷ []) ∷ (pos 500000000000 ∷ pos 1000000 ∷ []) ∷ []
unfolding quotient floored
short_divided = refl

-- the limits and some numbers whose products they are: 10001 * 99990001 is 1,000,000,000,001
limits : ℕ → ℤ
limits k = get_or (lowest ∷ highest ∷ pos 1 ∷ negsuc 0 ∷ pos 1000000 ∷ negsuc 999999 ∷ pos 10001 ∷ pos 99990001 ∷ negsuc 99990000 ∷ []) k (pos 0)

-- 1,000,000 by 1,000,000 and -1,000,000,000,000 by -1, and their opposites; the limits themselves
at_limits : map (apply limits) (binary prod 4 4 ∷ binary prod 0 3 ∷ binary prod 4 5 ∷ binary prod 1 3 ∷ copy 1 ∷ copy 0 ∷ []) ≡ highest ∷ highest ∷ lowest ∷ lowest ∷ highest ∷ lowest ∷ []
unfolding limits
at_limits = refl

-- exact, in range or not: one past each limit by sum, diff, prod and addc
past_highest : map (apply limits) (binary sum 1 2 ∷ binary diff 1 3 ∷ binary prod 6 7 ∷ addc 1 (pos 1) ∷ []) ≡ replicate 4 (pos 1000000000001)
unfolding limits
past_highest = refl

past_lowest : map (apply limits) (binary sum 0 3 ∷ binary diff 0 2 ∷ binary prod 6 8 ∷ addc 0 (negsuc 0) ∷ []) ≡ replicate 4 (negsuc 1000000000000)
unfolding limits
past_lowest = refl

-- 10^24 and -10^24, past 64 bits
products_of_limits : map (apply limits) (binary prod 0 0 ∷ binary prod 0 1 ∷ []) ≡ pos 1000000000000000000000000 ∷ negsuc 999999999999999999999999 ∷ []
unfolding limits
products_of_limits = refl

-- both bounds belong to a range
ranges : map (holds vals) (range 0 (pos 7) (pos 7) ∷ range 0 (pos 0) (pos 6) ∷ range 0 (pos 8) (pos 9) ∷ range 1 (negsuc 6) (pos 0) ∷ range 1 (negsuc 5) (pos 0) ∷ range 1 (negsuc 9) (negsuc 6) ∷ range 1 (negsuc 9) (negsuc 7) ∷ []) ≡ true ∷ false ∷ false ∷ true ∷ false ∷ true ∷ false ∷ []
unfolding vals
ranges = refl

-- the first at most the second
comparisons : map (holds vals) (atmost 0 0 none ∷ atmost 0 1 none ∷ atmost 1 0 none ∷ atmost 2 0 none ∷ atmost 0 2 none ∷ atmost 1 3 none ∷ atmost 3 1 none ∷ []) ≡ true ∷ false ∷ true ∷ true ∷ false ∷ true ∷ false ∷ []
unfolding vals
comparisons = refl
