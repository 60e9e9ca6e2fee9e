-- Demands 2 and 3 over every list of calls: the picture, the value, and no second tree.
use Rattle.std.specs.Prelude.{ℕ, ◌≡◌, Bool, true, false, List, [], ◌++◌, length, ℤ}
use Rattle.std.proofs.Common.{sym, ap, ap₂, ◌∙◌, subst, inl, inr}
use Rattle.meaning.specs.Grammar.{Grammar, Token, Leaf, leaves}
use Rattle.meaning.specs.Judgement.{Accepted}
use Rattle.meaning.specs.Tree.{Tree, TreeOf, value_of}
use Rattle.meaning.specs.Walk.{walk}
use Rattle.meaning.specs.Calls.{closed, gate, Record, Stacks, value, lent_of, finish_of}
use Rattle.meaning.specs.PublicCalls.{finish}
use Rattle.meaning.specs.Drawn.{WalkFits, drawn_record, drawn_stacks}
use Rattle.meaning_statements.specs.Statements.{History, OnlyTree, PictureAlways, ValueAlways}
use Rattle.theory_base.specs.Feeds.{leaves_append, leaves_length}
use Rattle.theory_table.specs.AcceptedTable.{accepted_well_formed}
use Rattle.theory_answers.specs.TurnedBack.{by_gate_lem}
use Rattle.theory_sound.specs.Histories.{Run, runs}
use Rattle.theory_sound.specs.ValueSound.{finish_sound, not_value}
use Rattle.theory_complete.specs.CompleteUnique.{only, pictured, valued}
use Rattle.theory_demands.specs.ByGrammar.{performs_is, by_grammar}

pub only_tree : OnlyTree
only_tree = only

-- whatever is still to come, as the grammar sees it
pub picture_leaves : (program : Grammar → List ℕ) (bs : List ℕ) (g : Grammar) (m₀ : Stacks) (ts : List Token) (us : List Leaf) (is_over : Bool) (r : Record) (m : Stacks) (t : Tree)
    → Accepted bs g → History program bs m₀ ts is_over r m → TreeOf g (leaves g ts ++ us) t → WalkFits g (lent_of m₀) t → (is_over ≡ true → us ≡ [])
    → (r ≡ drawn_record g t (length ts) is_over) × (m ≡ drawn_stacks g t (length ts) is_over m₀)
picture_leaves program bs g m₀ ts us is_over r m t a h k f over =
    let d = pictured bs g a m₀ (leaves g ts) r m t f us is_over (by_grammar program bs g a h) k over in
    let n = leaves_length g ts in
    (d.0 ∙ ap (λ j. drawn_record g t j is_over) n, d.1 ∙ ap (λ j. drawn_stacks g t j is_over m₀) n)

pub picture_always : PictureAlways
picture_always program bs g m₀ ts us is_over r m t a h k f over = picture_leaves program bs g m₀ ts (leaves g us) is_over r m t a h (subst (λ z. TreeOf g z t) (leaves_append g ts us) k) f (λ e. ap (leaves g) (over e))

-- ---- the value

closed_no : (g : Grammar) (r : Record) (m : Stacks) (v : ℤ) (n : ℕ) → r.status ≡ closed → (finish_of g r m).answer ≡ value v n → ⊥
closed_no g r m v n e h = not_value (sym (ap (λ k. k.answer) (by_gate_lem g r m 33 finish (ap (λ s. gate 34 s r.kind) e))) ∙ h)

module _ (bs : List ℕ) (g : Grammar) (a : Accepted bs g) (m₀ : Stacks) (ts : List Leaf) (r : Record) (m : Stacks) (v : ℤ) (n : ℕ) where
  forth : Run g m₀ ts r m → (finish_of g r m).answer ≡ value v n → (t : Tree) × TreeOf g ts t × WalkFits g (lent_of m₀) t × (value_of g t ≡ v) × (length (walk g t) ≡ n)
  forth (inl o) h =
      let e = ap₂ (λ x y. (finish_of g x y).answer) o.is_record o.is_stacks in
      let s = finish_sound g (accepted_well_formed bs g a) m₀ ts o.config o.stop v n (sym e ∙ h) in
      (s.tree, s.is_tree, s.fits, s.is_value, s.moves)
  forth (inr o) h = absurd (closed_no g r m v n (ap (λ z. z.status) o.is_record) h)

pub value_always : ValueAlways
value_always program bs area g m₀ ts r m a l h v n =
    let e = ap (λ z. z.answer) (performs_is program bs g a area r m finish l) in
    let c = by_grammar program bs g a h in (
      (λ x. forth bs g a m₀ (leaves g ts) r m v n (runs g (accepted_well_formed bs g a) m₀ (leaves g ts) false r m c) (sym e ∙ x)),
      (λ x. e ∙ (valued bs g a m₀ (leaves g ts) r m x.0 x.2 c x.1 ∙ ap₂ value x.3 x.4)),
    )
