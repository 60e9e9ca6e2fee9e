-- For every accepted table: one tree, the picture after any calls under its grammar, and the value that a finish answers.
use Rattle.std.specs.Prelude.{ℕ, ◌≡◌, Bool, true, false, List, [], ◌++◌, length}
use Rattle.meaning.specs.Grammar.{Grammar, nonterminal, Leaf}
use Rattle.meaning.specs.Calls.{Record, Stacks, lent_of, value, finish_of}
use Rattle.meaning.specs.Derivation.{itself}
use Rattle.meaning.specs.Tree.{Tree, TreeOf, value_of}
use Rattle.meaning.specs.Walk.{walk}
use Rattle.meaning.specs.Judgement.{Accepted}
use Rattle.meaning.specs.Drawn.{WalkFits, drawn_record, drawn_stacks}
use Rattle.meaning_statements.specs.Statements.{OnlyTree}
use Rattle.theory_base.specs.CallsUnder.{CallsUnder}
use Rattle.theory_sets.specs.Accepted.{Sane, accepted_sane}
use Rattle.theory_complete.specs.PredictsOfWalk.{Foreseen}
use Rattle.theory_complete.specs.Predicting.{foresees}
use Rattle.theory_complete.specs.Unique.{only_tree}
use Rattle.theory_complete.specs.CallsComplete.{picture_always, answers}

pub foreseen : (g : Grammar) → Sane g → (ts : List Leaf) (t : Tree) → TreeOf g ts t → Foreseen g [] t
foreseen g s ts t w = foresees g s t (nonterminal g.start) [] w.evaluated ([], itself)

pub only : OnlyTree
only bs g a ts t u = only_tree g (accepted_sane bs g a) ts t u

module _ (bs : List ℕ) (g : Grammar) (a : Accepted bs g) (m₀ : Stacks) (ts : List Leaf) (r : Record) (m : Stacks) (t : Tree) (f : WalkFits g (lent_of m₀) t) where
  pub pictured : (us : List Leaf) (is_over : Bool) → CallsUnder g m₀ ts is_over r m → TreeOf g (ts ++ us) t → (is_over ≡ true → us ≡ []) → (r ≡ drawn_record g t (length ts) is_over) × (m ≡ drawn_stacks g t (length ts) is_over m₀)
  pictured us is_over h w over =
      let s = accepted_sane bs g a in
      picture_always g s.formed m₀ t (foreseen g s (ts ++ us) t w) w.evaluated f ts us is_over r m h w.read over

  pub valued : CallsUnder g m₀ ts false r m → TreeOf g ts t → (finish_of g r m).answer ≡ value (value_of g t) (length (walk g t))
  valued h w =
      let s = accepted_sane bs g a in
      answers g s.formed m₀ t (foreseen g s ts t w) w.evaluated f ts r m h w.read
