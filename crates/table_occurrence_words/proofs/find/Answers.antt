use Rattle.std.specs.Prelude.{IfSome, Option, Some, None}
use Rattle.table_occurrence_words.proofs.find.Goals as goal

-- of what is found for all counts, what is found for some
for_some : {A : Type 0} {P Q : A → Type 0} (o : Option A) → ((x : A) → P x → Q x) → IfSome o P → IfSome o Q
for_some (Some x) f p = f x p
for_some None f p = tt

pub returns-then-symbol-lt128-clause-found : goal.returns-then-symbol-lt128-clause-found
returns-then-symbol-lt128-clause-found c = for_some c.find_token.result (λ f p. (p.0 _ _, p.1)) c.find_token.ensures.found
