-- Demand 3, move by move: where a segment has a tree, the moves that a list of calls made are the tree's walk.
use Rattle.std.specs.Prelude.{ℕ, zero, suc, ◌≡◌, refl, Bool, true, false, List, [], ◌∷◌, ◌++◌, length, take, T}
use Rattle.std.proofs.Common.{arith, sym, ap, ◌∙◌, subst, inl, inr, append-nil, length-append, take_at}
use Rattle.std.proofs.Math.Seq.{take-length}
use Rattle.meaning.specs.Base.{all}
use Rattle.theory_base.specs.Feeds.{leaves_append, leaves_length}
use Rattle.theory_complete.specs.SegmentComplete.{leaves_known}
use Rattle.meaning.specs.Grammar.{Grammar, Leaf, leaves, nonterminal}
use Rattle.meaning.specs.Judgement.{Accepted}
use Rattle.meaning.specs.Machine.{Config, Lent, opening}
use Rattle.meaning.specs.Tree.{Tree, TreeOf, is_leaf_of}
use Rattle.meaning.specs.Walk.{Act, predicts, reads, performs, walk, walk_to, Makes}
use Rattle.meaning.specs.Calls.{is_open, lent_of, lay_all, record_of}
use Rattle.meaning.specs.Drawn.{drawn_moves, drawn_record}
use Rattle.meaning_statements.specs.Statements.{WalkAlways}
use Rattle.theory_base.specs.Members.{no_elements}
use Rattle.theory_table.specs.AcceptedTable.{accepted_well_formed}
use Rattle.theory_answers.specs.Memory.{by_its_status}
use Rattle.theory_sound.specs.Histories.{Run, runs}
use Rattle.theory_moves.specs.SelectorsAlways.{accepted_made}
use Rattle.theory_demands.specs.ByGrammar.{by_grammar}
use Rattle.theory_demands.specs.Pictures.{picture_always}
use Rattle.theory_demands.specs.Reaching.{counted}

-- ---- what is drawn is a first part of the walk

walk_first : (j : ℕ) (ws : List Act) → take (length (walk_to j ws)) ws ≡ walk_to j ws
walk_first j [] = refl
walk_first j (performs p i ∷ ws) = ap (λ z. performs p i ∷ z) (walk_first j ws)
walk_first zero (predicts p ∷ ws) = refl
walk_first (suc j) (predicts p ∷ ws) = ap (λ z. predicts p ∷ z) (walk_first (suc j) ws)
walk_first zero (reads t ∷ ws) = refl
walk_first (suc j) (reads t ∷ ws) = ap (λ z. reads t ∷ z) (walk_first j ws)

drawn_first : (g : Grammar) (t : Tree) (j : ℕ) (is_over : Bool) → take (length (drawn_moves g t j is_over)) (walk g t) ≡ drawn_moves g t j is_over
drawn_first g t j true = take-length (walk g t)
drawn_first g t j false = walk_first j (walk g t)

-- ---- what the opening leads to

module _ (bs : List ℕ) (g : Grammar) (a : Accepted bs g) (lent : Lent) (stream : List Leaf) where
  -- a segment that has a tree is made of leaves
  pub tree_known : (t : Tree) → TreeOf g stream t → T (all (is_leaf_of g) stream)
  tree_known t w = subst (λ z. T (all (is_leaf_of g) z)) w.read (leaves_known g (accepted_well_formed bs g a) t (nonterminal g.start) w.evaluated)

  -- so many moves as are drawn are the moves drawn
  pub moves_drawn : (t : Tree) → TreeOf g stream t → (j : ℕ) (is_over : Bool) {ws : List Act} {us : List Leaf} {c : Config} → Makes g lent stream (opening g) ws us c → c.moves ≡ length (drawn_moves g t j is_over) → ws ≡ drawn_moves g t j is_over
  moves_drawn t w j is_over {ws} {us} {c} m n =
      let k = (accepted_made bs g a lent stream (tree_known t w) m).walked t w in
      let size : length ws ≡ length (drawn_moves g t j is_over) = omega (arith, counted g lent m, n) in
      sym (take_at ws _ (length ws) refl) ∙ (ap (take (length ws)) k ∙ (ap (λ z. take z (walk g t)) size ∙ drawn_first g t j is_over))

-- ---- the whole list

pub walk_always : WalkAlways
walk_always program bs g m₀ ts us is_over r m t a h k f over = go is_over over (picture_always program bs g m₀ ts us is_over r m t a h k f over).0 (runs g (accepted_well_formed bs g a) m₀ (leaves g ts) is_over r m (by_grammar program bs g a h))
  where
    -- as the grammar sees them
    us' : List Leaf
    us' = leaves g us

    all : List Leaf
    all = leaves g (ts ++ us)

    joined : leaves g ts ++ us' ≡ all
    joined = sym (leaves_append g ts us)

    Found : Bool → Type 0
    Found b = (c : Config) × Makes g (lent_of m₀) all (opening g) (drawn_moves g t (length ts) b) us' c × (r ≡ record_of (is_open r) c) × (m ≡ lay_all g c m₀)

    at : (b : Bool) (ws : List Act) (c : Config) → r ≡ drawn_record g t (length ts) b → (o : Bool) → r ≡ record_of o c → m ≡ lay_all g c m₀ → Makes g (lent_of m₀) (leaves g ts ++ us') (opening g) ws us' c → Found b
    at b ws c d o e x z =
        let y : Makes g (lent_of m₀) all (opening g) ws us' c = subst (λ q. Makes g (lent_of m₀) q (opening g) ws us' c) joined z in
        let n : c.moves ≡ length (drawn_moves g t (length ts) b) = ap (λ z. z.moves) (sym e ∙ d) in
        (c, subst (λ z. Makes g (lent_of m₀) all (opening g) z us' c) (moves_drawn bs g a (lent_of m₀) all t k (length ts) b y n) y, by_its_status o c e, x)

    go : (b : Bool) → (b ≡ true → us ≡ []) → r ≡ drawn_record g t (length ts) b → Run g m₀ (leaves g ts) r m → Found b
    go b u d (inl o) = at b o.leads.moves o.config d true o.is_record o.is_stacks (o.leads.made us' tt)
    go true u d (inr o) =
        let none : o.unread ≡ [] = no_elements o.unread (omega (arith, ap length o.joined, leaves_length g ts, length-append o.before o.unread, o.held.shows.tokens, ap (λ z. z.tokens) (sym o.is_record ∙ d))) in
        let e : us' ≡ [] = ap (leaves g) (u refl) in
        let ws = o.led.moves in
        let c = o.config in
        let all_read = subst (λ z. Makes g (lent_of m₀) (leaves g ts) (opening g) ws z c) none o.led.made in
        let no_more = subst (λ z. Makes g (lent_of m₀) z (opening g) ws [] c) (sym (append-nil (leaves g ts))) all_read in
        at true ws c d false o.is_record o.is_stacks (subst (λ z. Makes g (lent_of m₀) (leaves g ts ++ z) (opening g) ws z c) (sym e) no_more)
    go false u d (inr o) = absurd (subst T (ap is_open (sym d ∙ o.is_record)) tt)
