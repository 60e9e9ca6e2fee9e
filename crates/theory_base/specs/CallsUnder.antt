-- Lists of calls under one grammar: those of meaning's History without their tables and areas, and without the calls that count for nothing.
use Rattle.std.specs.Prelude.{◌≡◌, Bool, true, false, List, [], ◌++◌, T}
use Rattle.meaning.specs.Base.{all}
use Rattle.meaning.specs.Grammar.{Grammar, Leaf}
use Rattle.meaning.specs.Tree.{is_leaf_of}
use Rattle.meaning.specs.Calls.{is_open, Record, Stacks, more, open_of, finish_of}
use Rattle.theory_base.specs.Feeds.{feed_leaves}

-- from an opening on stacks m₀: the tokens fed, as the grammar sees them, whether a finish counted, the record and the stacks now
pub data CallsUnder (g : Grammar) (m₀ : Stacks) : List Leaf → Bool → Record → Stacks → Type 0 where
  opened : (open_of g m₀).answer ≡ more 0 → CallsUnder g m₀ [] false (open_of g m₀).state (open_of g m₀).stacks
  fed : {ts : List Leaf} {r : Record} {m : Stacks} (us : List Leaf) → T (all (is_leaf_of g) us) → CallsUnder g m₀ ts false r m → is_open r ≡ true → CallsUnder g m₀ (ts ++ us) false (feed_leaves g r m us).state (feed_leaves g r m us).stacks
  finished : {ts : List Leaf} {r : Record} {m : Stacks} → CallsUnder g m₀ ts false r m → is_open r ≡ true → CallsUnder g m₀ ts true (finish_of g r m).state (finish_of g r m).stacks
