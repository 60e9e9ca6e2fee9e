use Rattle.listing_bytes.proofs.+digits.Given as goal

-- a tenth of the number each time
abbrev pub decreases-digits : goal.decreases-digits
decreases-digits l = l.n
