-- Fields, by computation.
use Rattle.std.specs.Prelude.{◌≡◌, ℕ, true, false, List, [], ◌∷◌, map, pos, negsuc, slice_set, refl}
use Rattle.std.proofs.Math.Option.{none, some}
use Rattle.meaning.specs.Grammar.{range, atmost}
use Rattle.clash_entries.specs.conditions.BoundWords.{biased}
use Rattle.clash_entries.specs.conditions.EntryConditions.{rank_by, raise_by, lowest, after, field_size, entry_here, condition_here, offset_here, after_field}

-- the field of a range 1 to 258 of attribute 2 at position 0, at position 3, and a rule
abbrev condition : ℕ → List ℕ
condition k = 5 ∷ 0 ∷ 11 ∷ 0 ∷ k ∷ 2 ∷ 0 ∷ 0 ∷ 0 ∷ 1 ∷ 0 ∷ 0 ∷ 1 ∷ 2 ∷ []

fields_entry : map entry_here (condition 0 ∷ condition 3 ∷ (4 ∷ 0 ∷ 5 ∷ 0 ∷ 0 ∷ 1 ∷ 0 ∷ 1 ∷ []) ∷ []) ≡ true ∷ false ∷ false ∷ []
unfolding entry_here
fields_entry = refl

field_sized : field_size (condition 0) ≡ 14
unfolding field_size
field_sized = refl

low_raised : after_field raise_by (condition 0) lowest ≡ slice_set lowest 1 2147483649
unfolding after_field entry_here condition_here biased
low_raised = refl

-- comparisons at position 0, with another position, and of kind 2: attribute 2 at most attribute 1 less 3
abbrev comparison : ℕ → List ℕ
comparison k = 5 ∷ 0 ∷ 5 ∷ 1 ∷ 0 ∷ 2 ∷ k ∷ 1 ∷ []

comparisons_entry : map entry_here (comparison 0 ∷ comparison 3 ∷ []) ≡ true ∷ false ∷ []
unfolding entry_here
comparisons_entry = refl

comparisons_read : map condition_here (comparison 0 ∷ (5 ∷ 0 ∷ 9 ∷ 2 ∷ 0 ∷ 2 ∷ 0 ∷ 1 ∷ 255 ∷ 255 ∷ 255 ∷ 253 ∷ []) ∷ []) ≡ atmost 2 1 none ∷ atmost 2 1 (some (negsuc 2)) ∷ []
unfolding condition_here offset_here
comparisons_read = refl

ranks : map (λ cs. after rank_by cs 0) ([] ∷ (range 1 (pos 0) (pos 4) ∷ []) ∷ (atmost 2 1 none ∷ range 1 (pos 0) (pos 4) ∷ []) ∷ []) ≡ 0 ∷ 1 ∷ 2 ∷ []
ranks = refl
