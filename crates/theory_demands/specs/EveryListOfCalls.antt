-- Demand 3 as one claim: what holds after a list of calls, whatever tokens are still to come.
use Rattle.std.specs.Prelude.{ℕ, ◌≤◌, ◌<◌, ◌≡◌, refl, Bool, true, false, List, [], ◌∷◌, ◌++◌, length, take, drop, T}
use Rattle.std.proofs.Common.{arith, sym, ap, ap₂, ◌∙◌, subst, subst₂, inl, inr, append-nil, length-append, take-append-drop, take_at, take_all, length-take-le}
use Rattle.std.proofs.Math.Decide.{dec_le}
use Rattle.std.proofs.lemmas.List.{take-append-le}
use Rattle.meaning.specs.Grammar.{Grammar, Symbol, Token, Leaf, leaves}
use Rattle.meaning.specs.Base.{all}
use Rattle.meaning.specs.Rules.{WellFormed}
use Rattle.meaning.specs.Judgement.{Accepted}
use Rattle.meaning.specs.Scheme.{Instruction, expect}
use Rattle.meaning.specs.Machine.{Frame, Config, Lent, Settled, stopped, failed, opening, waits, unread, feed_all, tokens_limit}
use Rattle.meaning.specs.Tree.{Tree, TreeOf, is_leaf_of}
use Rattle.meaning.specs.Walk.{Act, act_by, Makes, nothing, and_then}
use Rattle.meaning.specs.Calls.{is_open, Record, Stacks, lent_of, record_of, lay_all, after_feed}
use Rattle.meaning.specs.Drawn.{drawn_record, drawn_stacks, drawn_moves}
use Rattle.meaning.specs.Part.{frame}
use Rattle.meaning.specs.Selectors.{SelectorsFind}
use Rattle.meaning_statements.specs.Statements.{History, PartWalked, Returned, PictureAlways, WalkAlways}
use Rattle.meaning_statements.specs.Claim.{Passed, MayCome, Pictured, EveryListOfCalls}
use Rattle.theory_base.specs.Members.{no_elements, all_append}
use Rattle.theory_base.specs.Feeds.{feed_leaves, leaves_append, leaves_length}
use Rattle.theory_base.specs.CallsUnder as Under
use Rattle.theory_table.specs.AcceptedTable.{accepted_well_formed}
use Rattle.theory_answers.specs.Memory.{lay_over}
use Rattle.theory_answers.specs.Runs.{Leads, Anything, Fed, fed}
use Rattle.theory_sound.specs.CallSound.{feed_is}
use Rattle.theory_sound.specs.Histories.{OpenRun, Run, runs, open_run_lem}
use Rattle.theory_moves.specs.SelectorsAlways.{accepted_made, selectors_always, returns_always}
use Rattle.theory_demands.specs.ByGrammar.{all_seen, by_grammar}
use Rattle.theory_demands.specs.Pictures.{picture_leaves}
use Rattle.theory_demands.specs.Reaching.{counted}
use Rattle.theory_demands.specs.Walking.{tree_known, moves_drawn}

-- ---- the run of a list, whatever comes behind the tokens fed

record Ran (g : Grammar) (m₀ : Stacks) (ts : List Leaf) (is_over : Bool) (r : Record) (m : Stacks) : Type 0 where
  unread : List Leaf
  config : Config
  leads : Leads g (lent_of m₀) (MayCome is_over) ts (opening g) unread config
  is_record : r ≡ record_of (is_open r) config
  is_stacks : m ≡ lay_all g config m₀
  all_read : is_open r ≡ true → (unread ≡ []) × T (waits config.frames)

module _ (g : Grammar) (w : WellFormed g) (m₀ : Stacks) where
  any : (is_over : Bool) {ts us : List Leaf} {c : Config} → Leads g (lent_of m₀) Anything ts (opening g) us c → Leads g (lent_of m₀) (MayCome is_over) ts (opening g) us c
  any is_over l = record { moves = l.moves; made = λ us b. l.made us tt; few = l.few }

  while_open : (ts : List Leaf) (is_over : Bool) (r : Record) (m : Stacks) → OpenRun g m₀ ts r m → Ran g m₀ ts is_over r m
  while_open ts is_over r m o = record {
    unread = [];
    config = o.config;
    leads = any is_over o.leads;
    is_record = o.is_record ∙ ap (λ b. record_of b o.config) (sym (ap is_open o.is_record));
    is_stacks = o.is_stacks;
    all_read = λ e. (refl, o.stop.1);
  }

  after_feed_lem : (ts vs : List Leaf) (is_over : Bool) (r : Record) (m : Stacks) → OpenRun g m₀ ts r m → Ran g m₀ (ts ++ vs) is_over (feed_leaves g r m vs).state (feed_leaves g r m vs).stacks
  after_feed_lem ts vs is_over r m o = subst (λ z. Ran g m₀ (ts ++ vs) is_over z.state z.stacks) (sym e) (go (feed_all g (lent_of m₀) vs c) fed_from_lem)
    where
      c : Config
      c = o.config

      e : feed_leaves g r m vs ≡ after_feed g (lay_all g c m₀) (feed_all g (lent_of m₀) vs c)
      e = ap₂ (λ a b. feed_leaves g a b vs) o.is_record o.is_stacks ∙ feed_is g w m₀ ts c o.stop vs

      fed_from_lem : Fed g (lent_of m₀) (opening g) (ts ++ vs) (feed_all g (lent_of m₀) vs c)
      fed_from_lem = fed g (lent_of m₀) (opening g) vs ts c o.leads o.stop.1 (subst (λ n. n ≤ tokens_limit) o.stop.0.shows.tokens o.stop.2)

      go : (k : Settled) → Fed g (lent_of m₀) (opening g) (ts ++ vs) k → Ran g m₀ (ts ++ vs) is_over (after_feed g (lay_all g c m₀) k).state (after_feed g (lay_all g c m₀) k).stacks
      go (stopped d) f = record { unread = []; config = d; leads = any is_over f.0; is_record = refl; is_stacks = lay_over g c d m₀ o.stop.0.within; all_read = λ q. (refl, f.1) }
      go (failed d j) f = record { unread = f.0; config = d; leads = any is_over f.1; is_record = refl; is_stacks = lay_over g c d m₀ o.stop.0.within; all_read = λ q. absurd (subst T (sym q) tt) }

  after_finish : (ts : List Leaf) (r : Record) (m : Stacks) → Run g m₀ ts r m → Ran g m₀ ts true r m
  after_finish ts r m (inl o) = while_open ts true r m o
  after_finish ts r m (inr o) =
      let is_closed : is_open r ≡ false = ap is_open o.is_record in
      let behind : (xs us : List Leaf) → us ≡ [] → xs ≡ xs ++ us = λ xs us e. sym (append-nil xs) ∙ ap (λ z. xs ++ z) (sym e) in
      record {
        unread = o.unread;
        config = o.config;
        leads = record { moves = o.led.moves; made = λ us b. subst₂ (λ x y. Makes g (lent_of m₀) x (opening g) o.led.moves y o.config) (behind ts us (b refl)) (behind o.unread us (b refl)) o.led.made; few = o.led.few };
        is_record = o.is_record ∙ ap (λ b. record_of b o.config) (sym is_closed);
        is_stacks = o.is_stacks;
        all_read = λ q. absurd (subst T (sym q ∙ is_closed) tt);
      }

  ran : (ts : List Leaf) (is_over : Bool) (r : Record) (m : Stacks) → Under.CallsUnder g m₀ ts is_over r m → Ran g m₀ ts is_over r m
  ran ts is_over r m (Under.opened e) = while_open [] false _ _ (open_run_lem g w m₀ e)
  ran ts is_over r m (Under.fed {ts = ts'} {r = r'} {m = m'} vs t h o) = go (runs g w m₀ ts' false r' m' h)
    where
      go : Run g m₀ ts' r' m' → Ran g m₀ (ts' ++ vs) false (feed_leaves g r' m' vs).state (feed_leaves g r' m' vs).stacks
      go (inl b) = after_feed_lem ts' vs false r' m' b
      go (inr b) = absurd (subst T (sym o ∙ ap is_open b.is_record) tt)
  ran ts is_over r m (Under.finished h o) = after_finish ts r m (runs g w m₀ ts true r m (Under.finished h o))

-- ---- the first of its moves

makes_first : {g : Grammar} {lent : Lent} {us vs : List Leaf} {c d : Config} {ws : List Act} (n : ℕ) → Makes g lent us c ws vs d → n ≤ length ws → (vs' : List Leaf) × (e : Config) × Makes g lent us c (take n ws) vs' e
makes_first {g} {lent} {us} {c = c} n m l = by m l
  where
    by : {vs : List Leaf} {d : Config} {ws : List Act} → Makes g lent us c ws vs d → n ≤ length ws → (vs' : List Leaf) × (e : Config) × Makes g lent us c (take n ws) vs' e
    by nothing l = (us, c, subst (λ z. Makes g lent us c z us c) (sym (take_all n [] (omega arith))) nothing)
    by (and_then {ws = ws} {vs = vs} {d = d} p i is fs e k f h) l = go (dec_le n (length ws)) (λ q. by k q)
      where
        whole : List Act
        whole = ws ++ (act_by p i e ∷ [])

        go : Dec (n ≤ length ws) → (n ≤ length ws → (vs' : List Leaf) × (d' : Config) × Makes g lent us c (take n ws) vs' d') → (vs' : List Leaf) × (d' : Config) × Makes g lent us c (take n whole) vs' d'
        go (yes q) ih = let r = ih q in (r.0, r.1, subst (λ z. Makes g lent us c z r.0 r.1) (sym (take-append-le n ws (act_by p i e ∷ []) q)) r.2)
        go (no q) ih = (unread d e vs, e, subst (λ z. Makes g lent us c z (unread d e vs) e) (sym (take_all n whole (omega (arith, length-append ws (act_by p i e ∷ []))))) (and_then p i is fs e k f h))

module _ (bs : List ℕ) (g : Grammar) (a : Accepted bs g) (lent : Lent) (stream : List Leaf) (seen : T (all (is_leaf_of g) stream)) where
  passed : {ws : List Act} {vs : List Leaf} {d : Config} → Makes g lent stream (opening g) ws vs d → (first later : List Act) → ws ≡ first ++ later → Passed g lent stream first
  passed {ws} k first later e =
      let n : length first ≤ length ws = omega (arith, ap length e, length-append first later) in
      let s : take (length first) ws ≡ first = ap (take (length first)) e ∙ take_at first later (length first) refl in
      let f = makes_first (length first) k n in
      let m : Makes g lent stream (opening g) first f.0 f.1 = subst (λ z. Makes g lent stream (opening g) z f.0 f.1) s f.2 in
      let read = accepted_made bs g a lent stream seen m in
      let j : Makes g lent (read.read ++ f.0) (opening g) first f.0 f.1 = subst (λ z. Makes g lent z (opening g) first f.0 f.1) read.split m in
      let known : T (all (is_leaf_of g) (read.read ++ f.0)) = subst (λ z. T (all (is_leaf_of g) z)) read.split seen in
      record {
        config = f.1;
        read = read.read;
        to_come = f.0;
        is_split = read.split;
        made = m;
        finds = selectors_always bs g a lent first read.read f.0 f.1 known j;
        returns = λ p x is fs z q. returns_always bs g a lent first read.read f.0 f.1 z known j p x is fs q;
      }

-- ---- the claim

pub every_list_of_calls : EveryListOfCalls
every_list_of_calls program bs g m₀ ts is_over r m a h =
    record {
      moves = o.leads.moves;
      unread = o.unread;
      config = o.config;
      made = o.leads.made;
      counted = omega (arith, ap (λ z. z.moves) o.is_record, counted g (lent_of m₀) (o.leads.made [] (λ e. refl)));
      is_record = o.is_record;
      is_stacks = o.is_stacks;
      all_read = o.all_read;
      pictured = λ us b t k f. pictured us b t (picture_leaves program bs g m₀ ts us is_over r m t a h k f b) k;
      each = λ us b k. passed bs g a (lent_of m₀) (leaves g ts ++ us) (all_append (is_leaf_of g) (leaves g ts) us (all_seen c) k) (o.leads.made us b);
    }
  where
    c : Under.CallsUnder g m₀ (leaves g ts) is_over r m
    c = by_grammar program bs g a h

    o : Ran g m₀ (leaves g ts) is_over r m
    o = ran g (accepted_well_formed bs g a) m₀ (leaves g ts) is_over r m c

    -- as many tokens are read as were fed
    none : (us read : List Leaf) → leaves g ts ++ us ≡ read ++ (o.unread ++ us) → length read ≡ length ts → o.unread ≡ []
    none us read e n = no_elements o.unread (omega (arith, n, ap length e, length-append (leaves g ts) us, leaves_length g ts, length-append read (o.unread ++ us), length-append o.unread us))

    pictured : (us : List Leaf) → MayCome is_over us → (t : Tree) → (r ≡ drawn_record g t (length ts) is_over) × (m ≡ drawn_stacks g t (length ts) is_over m₀) → TreeOf g (leaves g ts ++ us) t → Pictured g m₀ t ts is_over r m o.leads.moves o.unread
    pictured us b t d k =
        let here : record_of (is_open r) o.config ≡ drawn_record g t (length ts) is_over = sym o.is_record ∙ d.0 in
        let made = accepted_made bs g a (lent_of m₀) (leaves g ts ++ us) (tree_known bs g a (lent_of m₀) (leaves g ts ++ us) t k) (o.leads.made us b) in
        record {
          is_record = d.0;
          is_stacks = d.1;
          is_walk = moves_drawn bs g a (lent_of m₀) (leaves g ts ++ us) t k (length ts) is_over (o.leads.made us b) (ap (λ z. z.moves) here);
          is_read = none us made.read made.split (made.shows.tokens ∙ ap (λ z. z.tokens) here);
        }

-- ---- the claim gives its parts back

picture_again : EveryListOfCalls → PictureAlways
picture_again claim program bs g m₀ ts us is_over r m t a h k f over = let p = (claim program bs g m₀ ts is_over r m a h).pictured (leaves g us) (λ e. ap (leaves g) (over e)) t (subst (λ z. TreeOf g z t) (leaves_append g ts us) k) f in (p.is_record, p.is_stacks)

walk_again : EveryListOfCalls → WalkAlways
walk_again claim program bs g m₀ ts us is_over r m t a h k f over =
    let l = claim program bs g m₀ ts is_over r m a h in
    let vs : List Leaf = leaves g us in
    let none : is_over ≡ true → vs ≡ [] = λ e. ap (leaves g) (over e) in
    let p = l.pictured vs none t (subst (λ z. TreeOf g z t) (leaves_append g ts us) k) f in
    let made = subst₂ (λ x y. Makes g (lent_of m₀) (leaves g ts ++ vs) (opening g) x (y ++ vs) l.config) p.is_walk p.is_read (l.made vs none) in
    (l.config, subst (λ z. Makes g (lent_of m₀) z (opening g) (drawn_moves g t (length ts) is_over) vs l.config) (sym (leaves_append g ts us)) made, l.is_record, l.is_stacks)

-- at every move that the calls made: the next instruction's selectors, and a part that is entered there and left
selectors_again : EveryListOfCalls
    → (program : Grammar → List ℕ) (bs : List ℕ) (g : Grammar) (m₀ : Stacks) (ts : List Token) (is_over : Bool) (r : Record) (m : Stacks) (a : Accepted bs g) (h : History program bs m₀ ts is_over r m)
    → (n : ℕ) → n < r.moves
    → (first : List Act) × (c : Config) × (read to_come : List Leaf) × (length first ≡ n) × (leaves g ts ≡ read ++ to_come) × Makes g (lent_of m₀) (leaves g ts) (opening g) first to_come c
    × ((p : ℕ) (i : Instruction) (is : List Instruction) (fs : List Frame) → c.frames ≡ frame p (i ∷ is) ∷ fs → SelectorsFind g read to_come c i)
    × ((p : ℕ) (x : Symbol) (is : List Instruction) (fs : List Frame) (z : Config) → c.frames ≡ frame p (expect x ∷ is) ∷ fs → PartWalked g (lent_of m₀) to_come c z → Returned g x c z)
selectors_again claim program bs g m₀ ts is_over r m a h n k =
    let l = claim program bs g m₀ ts is_over r m a h in
    let first : List Act = take n l.moves in
    let p = l.each [] (λ e. refl) tt first (drop n l.moves) (sym (take-append-drop n l.moves)) in
    let all : leaves g ts ++ [] ≡ leaves g ts = append-nil (leaves g ts) in (
      first,
      p.config,
      p.read,
      p.to_come,
      length-take-le n l.moves (omega (arith, k, l.counted)),
      sym all ∙ p.is_split,
      subst (λ x. Makes g (lent_of m₀) x (opening g) first p.to_come p.config) all p.made,
      p.finds,
      p.returns,
    )
