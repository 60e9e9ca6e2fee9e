-- Addresses, words taken apart and searches in the program of 01's grammar of words and tags.
use Rattle.std.specs.Prelude.{◌≡◌, refl, [], ◌∷◌, pos, negsuc}
use Rattle.meaning.specs.Grammar.{addc, copy, const, range, token, over}
use Rattle.meaning.specs.Sets.{end_number}
use Rattle.meaning.specs.Program.{first_alternative}
use Rattle.meaning.specs.Examples.WordsAndTags.{words}
use Rattle.theory_program.specs.Addresses.{record_address, body_address, entry_address, scheme_address, expect_address}
use Rattle.theory_program.specs.Unpacked.{rule_from, condition_from}
use Rattle.theory_program.specs.Search.{next_word, found}
use Rattle.theory_program.specs.Resuming.{place_address}

-- L to open L close L is production 2
record2 : record_address words 2 ≡ 153
record2 = refl

body2 : body_address words 2 ≡ 239
body2 = refl

entry2 : entry_address words 2 ≡ 243
entry2 = refl

scheme2 : scheme_address words 2 ≡ 246
scheme2 = refl

close2 : expect_address words 2 2 ≡ 252
close2 = refl

-- the same as a place; the whole segment's place
place2 : place_address words 514 ≡ 252
place2 = refl

place_whole : place_address words 32768 ≡ 0
place_whole = refl

-- evaluate 3 addc 1 1; evaluate 2 copy 1; a constant below 0
rule1 : rule_from 2947 1 ≡ record { target = 3; function = addc 1 (pos 1) }
rule1 = refl

rule0 : rule_from 2178 0 ≡ record { target = 2; function = copy 1 }
rule0 = refl

rule_below : rule_from 1 4294967295 ≡ record { target = 1; function = const (negsuc 0) }
rule_below = refl

-- the entry test range 1 0 2
test2 : condition_from 1 0 2 ≡ range 1 (pos 0) (pos 2)
test2 = refl

-- from L to word L to L to open L close L, from there to L to nothing, then to none
next1 : next_word words 1 ≡ 3
next1 = refl

next2 : next_word words 2 ≡ 4
next2 = refl

next3 : next_word words 3 ≡ 0
next3 = refl

-- open at depth 2 and at depth 3; the end
search_open : found words (pos 2 ∷ []) 1 (token 1) (first_alternative words 1 1) ≡ 3
search_open = refl

search_deep : found words (pos 3 ∷ []) 1 (token 1) (first_alternative words 1 1) ≡ 0
search_deep = refl

search_end : found words (pos 0 ∷ []) 1 over (first_alternative words 1 end_number) ≡ 4
search_end = refl
