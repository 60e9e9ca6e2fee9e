-- What is said of a call's moves determines its effect.
use Rattle.std.specs.Prelude.{ℕ, suc, ◌+◌, ◌-◌, ◌≤◌, ◌<◌, ◌≡◌, refl, ◌⊎◌, Bool, true, false, ◌&&◌, List, [], ◌∷◌, ◌++◌, length, take, drop, T, eqb, ℤ, pos}
use Rattle.std.proofs.Common.{arith, sym, ap, ap₂, ◌∙◌, subst, subst₂, inl, inr, append-nil, take-append-drop, drop-drop}
use Rattle.std.proofs.lemmas.List.{append_cancel_right}
use Rattle.std.proofs.Math.ListN.{get_or-eq_default}
use Rattle.std.proofs.Math.Seq.{drop-nil}
use Rattle.meaning.specs.Base.{all, In, count_from, is_empty}
use Rattle.meaning.specs.Grammar.{Grammar, Leaf, token, leaf_of, leaves, Symbol, terminal, nonterminal, production_at, whole}
use Rattle.meaning.specs.Rules.{WellFormed}
use Rattle.meaning.specs.Scheme.{Instruction, add, evaluate, expect, test, remove}
use Rattle.meaning.specs.Sets.{starts, has}
use Rattle.meaning.specs.Machine.{Frame, Config, Lent, Coming, comes, moved, blocked, waits, is_finished, next, look_at, unread, is_of, alternatives, entered, tokens_limit}
use Rattle.meaning.specs.Machine as Machine
use Rattle.meaning.specs.Tree.{is_leaf_of}
use Rattle.meaning.specs.Walk.{Act, act_by, Makes, nothing, and_then}
use Rattle.meaning.specs.Part.{frame}
use Rattle.meaning.specs.Calls.{Stacks, Answer, more, value, refused, table_refused, lent_of, record_of, lay_all, config_of, tokens_from}
use Rattle.meaning.specs.PublicCalls.{Call, feed, finish, Effect, performs}
use Rattle.meaning_statements.specs.CallStatements.{Lendable, call_answer, tokens_of, stays_open, Unseen, Refuses, too_many, not_token, at_token, at_end, between, Says, MovesTo, MovesOnce}
use Rattle.theory_base.specs.Members.{both, and, all_append, in_keep, in_right}
use Rattle.theory_base.specs.Feeds.{leaf_of_lem, leaves_of}
use Rattle.theory_base.specs.Steps.{at_hand, moved_is, not_moved, Result}
use Rattle.theory_base.specs.Steps as Steps
use Rattle.theory_base.specs.WellFormed.{well_formed_at}
use Rattle.theory_sets.specs.Widths.{starts_wide}
use Rattle.theory_table.specs.AcceptedTable.{accepted_well_formed}
use Rattle.theory_base.specs.Frames.{top_rest}
use Rattle.theory_answers.specs.Bounds.{counts}
use Rattle.theory_answers.specs.Shape.{StandsOnFrames, segment, inside, Due, adds, hands, tests, closes, removes, ends}
use Rattle.theory_answers.specs.Shape as Shape
use Rattle.theory_answers.specs.ShapeMoves.{ShapedAt, shape_move}
use Rattle.theory_answers.specs.Runs.{makes_leaves, makes_keep_leaves}
use Rattle.theory_answers.specs.Answers.{fits_shaped, calls_move, always_answers}

-- ---- moves from one configuration

module _ (g : Grammar) (lent : Lent) where
  -- the first of them
  pub data First (us : List Leaf) (c : Config) (vs : List Leaf) (d : Config) : Type 0 where
    none : vs ≡ us → d ≡ c → First us c vs d
    one : (e : Config) (ws : List Act) → next g lent (look_at us) c ≡ moved e → Makes g lent (unread c e us) e ws vs d → First us c vs d

  first : {us vs : List Leaf} {c d : Config} {ws : List Act} → Makes g lent us c ws vs d → First us c vs d
  first {us} {c = c} k = by k
    where
      by : {vs : List Leaf} {d : Config} {ws : List Act} → Makes g lent us c ws vs d → First us c vs d
      by nothing = none refl refl
      by (and_then {ws = ws} {vs = vs} {d = d} p i is fs e m f h) = go (by m)
        where
          go : First us c vs d → First us c (unread d e vs) e
          go (none x y) = one e [] (subst₂ (λ v b. next g lent (look_at v) b ≡ moved e) x y h) (subst₂ (λ v b. Makes g lent (unread c e us) e [] (unread b e v) e) (sym x) (sym y) nothing)
          go (one e' zs h' m') = one e' _ h' (and_then p i is fs e m' f h)

  -- of two sequences one continues the other
  compare : {us vs vs' : List Leaf} {c d d' : Config} {ws ws' : List Act} → Makes g lent us c ws vs d → Makes g lent us c ws' vs' d' → ((zs : List Act) × Makes g lent vs d zs vs' d') ⊎ ((zs : List Act) × Makes g lent vs' d' zs vs d)
  compare {us} {vs' = vs'} {c = c} {d' = d'} k n = by k
    where
      by : {vs : List Leaf} {d : Config} {ws : List Act} → Makes g lent us c ws vs d → ((zs : List Act) × Makes g lent vs d zs vs' d') ⊎ ((zs : List Act) × Makes g lent vs' d' zs vs d)
      by nothing = inl (_, n)
      by (and_then {vs = vs} {d = d} p i is fs e m f h) = go (by m)
        where
          on : First vs d vs' d' → ((zs : List Act) × Makes g lent (unread d e vs) e zs vs' d') ⊎ ((zs : List Act) × Makes g lent vs' d' zs (unread d e vs) e)
          on (none x y) = inr (_, subst₂ (λ v b. Makes g lent v b (act_by p i e ∷ []) (unread d e vs) e) (sym x) (sym y) (and_then p i is fs e nothing f h))
          on (one e' zs h' m') = inl (zs, subst (λ z. Makes g lent (unread d z vs) z zs vs' d') (moved_is e' e (sym h' ∙ h)) m')

          go : ((zs : List Act) × Makes g lent vs d zs vs' d') ⊎ ((zs : List Act) × Makes g lent vs' d' zs vs d) → ((zs : List Act) × Makes g lent (unread d e vs) e zs vs' d') ⊎ ((zs : List Act) × Makes g lent vs' d' zs (unread d e vs) e)
          go (inl k) = on (first k.1)
          go (inr k) = inr (_, and_then p i is fs e k.1 f h)

  -- tokens and moves grow, and what is unread are the tokens after those read
  record Grows (us : List Leaf) (c : Config) (vs : List Leaf) (d : Config) : Type 0 where
    pub tokens : c.tokens ≤ d.tokens
    pub moves : c.moves ≤ d.moves
    pub rest : vs ≡ drop (d.tokens - c.tokens) us

  grows : {us vs : List Leaf} {c d : Config} {ws : List Act} → Makes g lent us c ws vs d → Grows us c vs d
  grows {us} {c = c} m = by m
    where
      by : {vs : List Leaf} {d : Config} {ws : List Act} → Makes g lent us c ws vs d → Grows us c vs d
      by nothing = let z : 0 ≡ c.tokens - c.tokens = omega arith in record { tokens = omega arith; moves = omega arith; rest = ap (λ n. drop n us) z }
      by (and_then {vs = vs} {d = d} p i is fs e m f h) =
          let k = by m in
          let q = counts g lent (look_at vs) d e h in
          let up : d.tokens ≤ e.tokens = read_up q.tokens in
          let sum : (d.tokens - c.tokens) + (e.tokens - d.tokens) ≡ e.tokens - c.tokens = omega (arith, k.tokens, up) in
          record { tokens = omega (arith, k.tokens, up); moves = omega (arith, k.moves, q.moves); rest = ap (drop (e.tokens - d.tokens)) k.rest ∙ (drop-drop (e.tokens - d.tokens) (d.tokens - c.tokens) us ∙ ap (λ n. drop n us) sum) }
        where
          read_up : {l : Coming} → (e.tokens ≡ d.tokens) ⊎ ((t : Leaf) × (l ≡ comes t) × (e.tokens ≡ suc d.tokens)) → d.tokens ≤ e.tokens
          read_up (inl z) = omega (arith, z)
          read_up (inr z) = omega (arith, z.2)

-- ---- what may be read and predicted

leaf_is : (a b : Leaf) → comes a ≡ comes b → a ≡ b
leaf_is a b q = cc

-- 64 is no token of any grammar
abbrev stranger : Grammar → Leaf
stranger g = leaf_of g (record { kind = 64; value = pos 0 })

-- what a call brings, as the grammar sees it, is made of leaves, with the stranger behind too
abbrev fed_leaves : Grammar → List ℕ → List ℤ → List Leaf
fed_leaves g ks ns = leaves g (tokens_from ks ns)

abbrev Known : Grammar → List Leaf → Type 0
Known g us = T (all (is_leaf_of g) us)

known_behind : (g : Grammar) (us : List Leaf) → Known g us → Known g (us ++ (stranger g ∷ []))
known_behind g us k = all_append (is_leaf_of g) us (stranger g ∷ []) k (and (is_leaf_of g (stranger g)) true (leaf_of_lem g (record { kind = 64; value = pos 0 }) tt) tt)

module _ (g : Grammar) (wf : WellFormed g) (lent : Lent) where
  expected : {p k : ℕ} {rest : List Instruction} {top results : List ℤ} → Due g p k rest top results → (x : Symbol) (is : List Instruction) → rest ≡ expect x ∷ is → In x (production_at g p).right
  expected (adds y ys e) x is q = absurd (let z : ◌≡◌ {A = ℕ} 0 1 = cc in omega arith)
  expected (hands y ys e) x is q = absurd (let z : ◌≡◌ {A = ℕ} 0 1 = cc in omega arith)
  expected {p} {k} (Shape.waits y ys vs e v) x is q =
      let same : y ≡ x = cc in
      subst (λ z. In z (production_at g p).right) same (subst (In y) (take-append-drop k (production_at g p).right) (in_right y (take k (production_at g p).right) (drop k (production_at g p).right) (subst (In y) (sym e) (inl refl))))
  expected (tests ys e) x is q = absurd (let z : ◌≡◌ {A = ℕ} 0 1 = cc in omega arith)
  expected (closes e w) x is q = absurd (let z : ◌≡◌ {A = ℕ} 0 1 = cc in omega arith)
  expected (removes rs e w v) x is q = absurd (let z : ◌≡◌ {A = ℕ} 0 1 = cc in omega arith)
  expected (ends e w) x is q = absurd (let z : ◌≡◌ {A = ℕ} 0 1 = cc in omega arith)

  known : {p : ℕ} {fs : List Frame} {base : List ℤ} → StandsOnFrames g p fs base → (t : ℕ) → In (terminal t) (production_at g p).right → t < g.terminals
  known segment t (inl e) = absurd (let z : ◌≡◌ {A = ℕ} 0 1 = cc in omega arith)
  known segment t (inr i) = absurd i
  known (inside {p} q k xs vs ss l e n s) t i = (well_formed_at g wf p l).symbols (terminal t) i

  -- a terminal expected is one of the grammar's
  terminal_known : (d : Config) → ShapedAt g d → (p t : ℕ) (is : List Instruction) (fs : List Frame) → d.frames ≡ frame p (expect (terminal t) ∷ is) ∷ fs → t < g.terminals
  terminal_known d s p t is fs e =
      let q : frame s.production s.rest ∷ s.below ≡ frame p (expect (terminal t) ∷ is) ∷ fs = s.is_frames ∙ e in
      known s.stands t (expected s.due (terminal t) is (ap top_rest q))

  -- so only such a token is read
  read_by : (t : Leaf) (d e : Config) → ShapedAt g d → e.tokens ≡ suc d.tokens → (p : ℕ) (i : Instruction) (is : List Instruction) (fs : List Frame) → d.frames ≡ frame p (i ∷ is) ∷ fs → Result g lent (comes t) d (frame p (i ∷ is)) fs i e → t.kind < g.terminals
  read_by t d e s up p (add n) is fs f r = absurd (omega (arith, up, ap (λ z. z.tokens) r.1))
  read_by t d e s up p (evaluate rules) is fs f r = absurd (omega (arith, up, ap (λ z. z.tokens) r.1))
  read_by t d e s up p (test cs) is fs f r = absurd (omega (arith, up, ap (λ z. z.tokens) r.1))
  read_by t d e s up p (remove n) is fs f r = absurd (omega (arith, up, ap (λ z. z.tokens) r))
  read_by t d e s up p (expect (terminal u)) is fs f r = subst (λ z. z < g.terminals) (sym (ap (λ z. z.kind) (leaf_is t r.leaf r.ahead) ∙ r.kind)) (terminal_known d s p u is fs f)
  read_by t d e s up p (expect (nonterminal n)) is fs f r = absurd (omega (arith, up, ap (λ z. z.tokens) r.result))

  read_known : (t : Leaf) (d e : Config) → ShapedAt g d → next g lent (comes t) d ≡ moved e → e.tokens ≡ suc d.tokens → t.kind < g.terminals
  read_known t d e s h up =
      let a = at_hand g lent (comes t) d e h in
      read_by t d e s up a.production a.instruction a.rest a.below a.frames (Steps.result g lent (comes t) d (frame a.production (a.instruction ∷ a.rest)) a.below a.instruction e a.makes)

  -- it is in no set: where the next move needs one, none is made
  foreign_by : (d e : Config) → ShapedAt g d → T (waits d.frames) → (p : ℕ) (i : Instruction) (is : List Instruction) (fs : List Frame) → d.frames ≡ frame p (i ∷ is) ∷ fs → Result g lent (comes (stranger g)) d (frame p (i ∷ is)) fs i e → ⊥
  foreign_by d e s w p (add n) is fs f r = subst (λ z. T (waits z)) f w
  foreign_by d e s w p (evaluate rules) is fs f r = subst (λ z. T (waits z)) f w
  foreign_by d e s w p (test cs) is fs f r = subst (λ z. T (waits z)) f w
  foreign_by d e s w p (remove n) is fs f r = subst (λ z. T (waits z)) f w
  foreign_by d e s w p (expect (terminal u)) is fs f r = absurd (omega (arith, wf.terminals.1, terminal_known d s p u is fs f, ap (λ z. z.kind) (leaf_is (stranger g) r.leaf r.ahead) ∙ r.kind))
  foreign_by d e s w p (expect (nonterminal n)) is fs f r =
      let q : ℕ = r.production in
      let a = in_keep (entered g d.registers) (alternatives g n (token 64)) q r.among in
      let b = in_keep (is_of g n (token 64)) (count_from 0 (length g.productions)) q a.1 in
      let k = (both (eqb (production_at g q).left n) (has (starts g (production_at g q)) 64) b.0).1 in
      subst T (get_or-eq_default (starts g (production_at g q)) false {n = 64} (omega (arith, (starts_wide g (production_at g q)).width))) k

  foreign : (d e : Config) → ShapedAt g d → T (waits d.frames) → next g lent (comes (stranger g)) d ≡ moved e → ⊥
  foreign d e s w h =
      let a = at_hand g lent (comes (stranger g)) d e h in
      foreign_by d e s w a.production a.instruction a.rest a.below a.frames (Steps.result g lent (comes (stranger g)) d (frame a.production (a.instruction ∷ a.rest)) a.below a.instruction e a.makes)

  -- a token that is none of the grammar's is never read
  never_read_on : (t : Leaf) → g.terminals ≤ t.kind → {us vs : List Leaf} {d e : Config} {ws : List Act} → Known g (t ∷ us) → Makes g lent (t ∷ us) d ws vs e → ShapedAt g d → e.tokens ≡ d.tokens
  never_read_on t b {us = us} {d = d} o k s = on k
    where
      on : {vs : List Leaf} {e : Config} {ws : List Act} → Makes g lent (t ∷ us) d ws vs e → e.tokens ≡ d.tokens
      on nothing = refl
      on (and_then {vs = vs} {d = d'} p i is fs e m f h) = step (on m)
        where
          by : next g lent (comes t) d' ≡ moved e → d'.tokens ≡ d.tokens → (e.tokens ≡ d'.tokens) ⊎ ((u : Leaf) × (comes t ≡ comes u) × (e.tokens ≡ suc d'.tokens)) → e.tokens ≡ d.tokens
          by h' same (inl q) = q ∙ same
          by h' same (inr q) = absurd (omega (arith, read_known t d' e (makes_keep_leaves g lent (ShapedAt g) (λ l z x y k n. shape_move g wf lent l z x y k n) o m s) h' q.2))

          step : d'.tokens ≡ d.tokens → e.tokens ≡ d.tokens
          step same =
              let z : d'.tokens - d.tokens ≡ 0 = omega (arith, same) in
              let h' = subst (λ v. next g lent (look_at v) d' ≡ moved e) ((grows g lent m).rest ∙ ap (λ n. drop n (t ∷ us)) z) h in
              by h' same (counts g lent (comes t) d' e h').tokens

-- ---- lists

not_empty : {A B : Type 0} {left us : List A} {u : A} → left ≡ u ∷ us → left ≡ [] → B
not_empty l e = absurd (omega (arith, ap length (sym l ∙ e)))

same_head : {left us vs : List Leaf} {u v : Leaf} → left ≡ u ∷ us → left ≡ v ∷ vs → u ≡ v
same_head l e = let q = sym l ∙ e in cc

pub blocked_is : {j k : ℕ} → blocked j ≡ blocked k → j ≡ k
blocked_is e = cc

-- ---- where a feed ends

module _ (g : Grammar) (wf : WellFormed g) (lent : Lent) (c : Config) where
  abbrev Stuck : Config → List Leaf → Type 0
  Stuck d vs = (e : Config) → next g lent (look_at vs) d ≡ moved e → ⊥

  -- at a token that is not let through
  record Waiting (ts : List Leaf) (ws : List Act) (left : List Leaf) (d : Config) : Type 0 where
    pub at : Leaf
    pub rest : List Leaf
    pub is_left : left ≡ at ∷ rest
    pub waiting : T (waits d.frames)
    pub unseen : Unseen g lent ts c ws left d
    pub why : (d.tokens ≡ tokens_limit) ⊎ (g.terminals ≤ at.kind)

  module _ (ks : List ℕ) (ns : List ℤ) (ws : List Act) (left : List Leaf) (d : Config) where
    abbrev ts : List Leaf
    ts = fed_leaves g ks ns

    refused_end : (k : ℕ) → Refuses g lent (λ us. Unit {0}) ts c ws left d k → Stuck d (left ++ (stranger g ∷ [])) ⊎ Waiting ts ws left d
    refused_end k (too_many q t us l n w u) = inr (record { at = t; rest = us; is_left = l; waiting = w; unseen = u; why = inl n })
    refused_end k (not_token q t us l n f w u) = inr (record { at = t; rest = us; is_left = l; waiting = w; unseen = u; why = inr f })
    refused_end k (at_token t us l n f h) = inl (λ e m. not_moved (sym (ap (λ z. next g lent (look_at (z ++ (stranger g ∷ []))) d) l ∙ h) ∙ m))
    refused_end k (at_end l z f h) = not_empty refl (f (stranger g ∷ []) tt)
    refused_end k (between v u h) = inl (λ e m. not_moved (sym (h (look_at (left ++ (stranger g ∷ [])))) ∙ m))

    feed_end : (a : Answer) → ShapedAt g d → T (call_answer (feed ks ns) a) → Says g lent (feed ks ns) c ws left d a → Stuck d (left ++ (stranger g ∷ [])) ⊎ Waiting ts ws left d
    feed_end (more n) s k x = inl (λ e h. foreign g wf lent d e s x.1 (subst (λ z. next g lent (look_at (z ++ (stranger g ∷ []))) d ≡ moved e) x.0 h))
    feed_end (value v n) s k x = absurd k
    feed_end (refused k o) s q x = refused_end k x.1
    feed_end (table_refused k o) s q x = absurd x

    -- the next token is unseen, or it was let through
    refused_seen : (k : ℕ) (t : Leaf) (rest : List Leaf) → left ≡ t ∷ rest → Refuses g lent (λ us. Unit {0}) ts c ws left d k → Unseen g lent ts c ws left d ⊎ ((d.tokens < tokens_limit) × (t.kind < g.terminals))
    refused_seen k t rest e (too_many q u us l n w y) = inl y
    refused_seen k t rest e (not_token q u us l n f w y) = inl y
    refused_seen k t rest e (at_token u us l n f h) = inr (n, subst (λ z. z.kind < g.terminals) (same_head l e) f)
    refused_seen k t rest e (at_end l z f h) = not_empty e l
    refused_seen k t rest e (between v y h) = inl y

    feed_seen : (a : Answer) (t : Leaf) (rest : List Leaf) → left ≡ t ∷ rest → T (call_answer (feed ks ns) a) → Says g lent (feed ks ns) c ws left d a → Unseen g lent ts c ws left d ⊎ ((d.tokens < tokens_limit) × (t.kind < g.terminals))
    feed_seen (more n) t rest e k x = not_empty e x.0
    feed_seen (value v n) t rest e k x = absurd k
    feed_seen (refused k o) t rest e q x = refused_seen k t rest e x.1
    feed_seen (table_refused k o) t rest e q x = absurd x

  -- ---- two feeds

  -- one that ends at a token not let through is not continued by the other
  further : (ks : List ℕ) (ns : List ℤ) (xw yw : List Act) (xl yl : List Leaf) (xd yd : Config) (a : Answer) → ShapedAt g xd → Known g (xl ++ (stranger g ∷ [])) → Waiting (fed_leaves g ks ns) xw xl xd → yd.tokens ≤ tokens_limit → T (call_answer (feed ks ns) a) → Says g lent (feed ks ns) c yw yl yd a
      → {zs : List Act} → Makes g lent (xl ++ (stranger g ∷ [])) xd zs (yl ++ (stranger g ∷ [])) yd → xd.moves < yd.moves → ⊥
  further ks ns xw yw xl yl xd yd a s o w few k says {zs} m more_moves = seen (feed_seen ks ns yw yl yd a w.at w.rest (same ∙ w.is_left) k says)
    where
      tokens : (xd.tokens ≡ tokens_limit) ⊎ (g.terminals ≤ w.at.kind) → yd.tokens ≡ xd.tokens
      tokens (inl n) = omega (arith, (grows g lent m).tokens)
      tokens (inr f) = never_read_on g wf lent w.at f (subst (λ z. Known g (z ++ (stranger g ∷ []))) w.is_left o) (subst (λ z. Makes g lent (z ++ (stranger g ∷ [])) xd zs (yl ++ (stranger g ∷ [])) yd) w.is_left m) s

      same : yl ≡ xl
      same =
          let z : yd.tokens - xd.tokens ≡ 0 = omega (arith, tokens w.why) in
          append_cancel_right yl xl (stranger g ∷ []) ((grows g lent m).rest ∙ ap (λ n. drop n (xl ++ (stranger g ∷ []))) z)

      compared : ((zs : List Act) × Makes g lent (stranger g ∷ []) xd zs (stranger g ∷ []) yd) ⊎ ((zs : List Act) × Makes g lent (stranger g ∷ []) yd zs (stranger g ∷ []) xd) → ⊥
      compared (inr n) = absurd (omega (arith, (grows g lent n.1).moves))
      compared (inl n) = go (first g lent n.1)
        where
          go : First g lent (stranger g ∷ []) xd (stranger g ∷ []) yd → ⊥
          go (none x y) = absurd (omega (arith, ap (λ z. z.moves) y))
          go (one e zs h n) = foreign g wf lent xd e s w.waiting h

      barred : (xd.tokens ≡ tokens_limit) ⊎ (g.terminals ≤ w.at.kind) → yd.tokens < tokens_limit → w.at.kind < g.terminals → ⊥
      barred (inl n) x y = absurd (omega (arith, (grows g lent m).tokens))
      barred (inr f) x y = absurd (omega arith)

      seen : Unseen g lent (fed_leaves g ks ns) c yw yl yd ⊎ ((yd.tokens < tokens_limit) × (w.at.kind < g.terminals)) → ⊥
      seen (inr n) = barred w.why n.0 n.1
      seen (inl u) =
          let reads : u.read ≡ w.unseen.read = append_cancel_right u.read w.unseen.read xl (ap (λ z. u.read ++ z) (sym same) ∙ (sym u.split ∙ w.unseen.split)) in
          compared (compare g lent (w.unseen.made (stranger g ∷ [])) (subst (λ z. Makes g lent (z ++ (stranger g ∷ [])) c yw (stranger g ∷ []) yd) reads (u.made (stranger g ∷ []))))

  onward : (ks : List ℕ) (ns : List ℤ) (xw yw : List Act) (xl yl : List Leaf) (xd yd : Config) (a b : Answer) → ShapedAt g xd → Known g (xl ++ (stranger g ∷ [])) → yd.tokens ≤ tokens_limit
      → T (call_answer (feed ks ns) a) → Says g lent (feed ks ns) c xw xl xd a → T (call_answer (feed ks ns) b) → Says g lent (feed ks ns) c yw yl yd b
      → {zs : List Act} → Makes g lent (xl ++ (stranger g ∷ [])) xd zs (yl ++ (stranger g ∷ [])) yd → (xd ≡ yd) × (xl ≡ yl)
  onward ks ns xw yw xl yl xd yd a b s o few p x q y m = go (first g lent m)
    where
      go : First g lent (xl ++ (stranger g ∷ [])) xd (yl ++ (stranger g ∷ [])) yd → (xd ≡ yd) × (xl ≡ yl)
      go (none u v) = (sym v, sym (append_cancel_right yl xl (stranger g ∷ []) u))
      go (one e zs h n) = by (feed_end ks ns xw xl xd a s p x)
        where
          by : Stuck xd (xl ++ (stranger g ∷ [])) ⊎ Waiting (fed_leaves g ks ns) xw xl xd → (xd ≡ yd) × (xl ≡ yl)
          by (inl no_move) = absurd (no_move e h)
          by (inr w) = absurd (further ks ns xw yw xl yl xd yd b s o w few q y m (omega (arith, (counts g lent (look_at (xl ++ (stranger g ∷ []))) xd e h).moves, (grows g lent n).moves)))

  -- ---- the answer

  both_refused : {Behind : List Leaf → Type 0} {ts left : List Leaf} {xw yw : List Act} {d : Config} {k j : ℕ} → Refuses g lent Behind ts c xw left d k → Refuses g lent Behind ts c yw left d j → k ≡ j
  both_refused (too_many q t us l n w u) (too_many q' t' us' l' n' w' u') = q ∙ sym q'
  both_refused (too_many q t us l n w u) (not_token q' t' us' l' n' f' w' u') = absurd (omega (arith, n, n'))
  both_refused (too_many q t us l n w u) (at_token t' us' l' n' f' h') = absurd (omega (arith, n, n'))
  both_refused (too_many q t us l n w u) (at_end l' z' f' h') = not_empty l l'
  both_refused (too_many q t us l n w u) (between v' u' h') = absurd (subst T v' w)
  both_refused (not_token q t us l n f w u) (too_many q' t' us' l' n' w' u') = absurd (omega (arith, n, n'))
  both_refused (not_token q t us l n f w u) (not_token q' t' us' l' n' f' w' u') = q ∙ sym q'
  both_refused (not_token q t us l n f w u) (at_token t' us' l' n' f' h') = absurd (omega (arith, ap (λ z. z.kind) (same_head l l'), f, f'))
  both_refused (not_token q t us l n f w u) (at_end l' z' f' h') = not_empty l l'
  both_refused (not_token q t us l n f w u) (between v' u' h') = absurd (subst T v' w)
  both_refused (at_token t us l n f h) (too_many q' t' us' l' n' w' u') = absurd (omega (arith, n, n'))
  both_refused (at_token t us l n f h) (not_token q' t' us' l' n' f' w' u') = absurd (omega (arith, ap (λ z. z.kind) (same_head l l'), f, f'))
  both_refused {d = d} (at_token t us l n f h) (at_token t' us' l' n' f' h') = blocked_is (sym h ∙ (ap (λ z. next g lent (comes z) d) (same_head l l') ∙ h'))
  both_refused (at_token t us l n f h) (at_end l' z' f' h') = not_empty l l'
  both_refused (at_token t us l n f h) (between v' u' h') = blocked_is (sym h ∙ h' (comes t))
  both_refused (at_end l z f h) (too_many q' t' us' l' n' w' u') = not_empty l' l
  both_refused (at_end l z f h) (not_token q' t' us' l' n' f' w' u') = not_empty l' l
  both_refused (at_end l z f h) (at_token t' us' l' n' f' h') = not_empty l' l
  both_refused (at_end l z f h) (at_end l' z' f' h') = blocked_is (sym h ∙ h')
  both_refused (at_end l z f h) (between v' u' h') = blocked_is (sym h ∙ h' Machine.ends)
  both_refused (between v u h) (too_many q' t' us' l' n' w' u') = absurd (subst T v w')
  both_refused (between v u h) (not_token q' t' us' l' n' f' w' u') = absurd (subst T v w')
  both_refused (between v u h) (at_token t' us' l' n' f' h') = blocked_is (sym (h (comes t')) ∙ h')
  both_refused (between v u h) (at_end l' z' f' h') = blocked_is (sym (h Machine.ends) ∙ h')
  both_refused (between v u h) (between v' u' h') = blocked_is (sym (h Machine.ends) ∙ h' Machine.ends)

  -- where a feed stops it is not refused
  stops_not : {ts left : List Leaf} {ws : List Act} {d : Config} {k : ℕ} {A : Type 0} → left ≡ [] → T (waits d.frames) → Refuses g lent (λ us. Unit {0}) ts c ws left d k → A
  stops_not e w (too_many q t us l n v u) = not_empty l e
  stops_not e w (not_token q t us l n f v u) = not_empty l e
  stops_not e w (at_token t us l n f h) = not_empty l e
  stops_not e w (at_end l z f h) = not_empty refl (f (stranger g ∷ []) tt)
  stops_not e w (between v u h) = absurd (subst T v w)

  -- where the start symbol is left a finish is not refused
  ends_not : {ts left : List Leaf} {ws : List Act} {d : Config} {k : ℕ} {A : Type 0} → left ≡ [] → T (is_finished d) → T (waits d.frames) → Refuses g lent (λ us. us ≡ []) ts c ws left d k → A
  ends_not e x w (too_many q t us l n v u) = not_empty l e
  ends_not e x w (not_token q t us l n f v u) = not_empty l e
  ends_not e x w (at_token t us l n f h) = not_empty l e
  ends_not e x w (at_end l z f h) = absurd (subst T z x)
  ends_not e x w (between v u h) = absurd (subst T v w)

  -- ---- two finishes

  finished_waits : (d : Config) → T (is_finished d) → T (waits d.frames)
  finished_waits d x = go d.frames x
    where
      rests : (p : ℕ) (is : List Instruction) (fs : List Frame) → T (eqb p whole && is_empty is) → T (waits (frame p is ∷ fs))
      rests p [] fs x = tt
      rests p (i ∷ is) fs x = absurd (both (eqb p whole) false x).1

      go : (fs : List Frame) → T (elim fs as (λ z. Bool) [ [] ↦ false | f ∷ fs ↦ eqb f.production whole && is_empty f.rest ]) → T (waits fs)
      go [] x = absurd x
      go (f ∷ fs) x = rests f.production f.rest fs x

  -- where the start symbol is left no move is made
  finished_stuck : (d e : Config) → T (is_finished d) → next g lent Machine.ends d ≡ moved e → ⊥
  finished_stuck d e x h =
      let a = at_hand g lent Machine.ends d e h in
      (both (eqb a.production whole) false (subst (λ (fs : List Frame). T (elim fs as (λ z. Bool) [ [] ↦ false | f ∷ fs ↦ eqb f.production whole && is_empty f.rest ])) a.frames x)).1

  refused_stuck : {ts left : List Leaf} {ws : List Act} {d e : Config} {k : ℕ} → left ≡ [] → Refuses g lent (λ us. us ≡ []) ts c ws left d k → next g lent Machine.ends d ≡ moved e → ⊥
  refused_stuck e (too_many q t us l n v u) m = not_empty l e
  refused_stuck e (not_token q t us l n f v u) m = not_empty l e
  refused_stuck e (at_token t us l n f h) m = not_empty l e
  refused_stuck e (at_end l z f h) m = not_moved (sym h ∙ m)
  refused_stuck e (between v u h) m = not_moved (sym (h Machine.ends) ∙ m)

  finish_stuck : (a : Answer) (ws : List Act) (left : List Leaf) (d e : Config) → left ≡ [] → T (call_answer finish a) → Says g lent finish c ws left d a → next g lent Machine.ends d ≡ moved e → ⊥
  finish_stuck (more n) ws left d e l k x m = absurd k
  finish_stuck (value v n) ws left d e l k x m = finished_stuck d e x.0 m
  finish_stuck (refused k o) ws left d e l q x m = refused_stuck l x.1 m
  finish_stuck (table_refused k o) ws left d e l q x m = absurd x

  -- nothing is left after a finish
  left_none : {ws : List Act} {left : List Leaf} {d : Config} → Makes g lent [] c ws (left ++ []) d → left ≡ []
  left_none {left = left} {d = d} m = sym (append-nil left) ∙ ((grows g lent m).rest ∙ drop-nil (d.tokens - c.tokens))

  finish_onward : (xw : List Act) (xl yl : List Leaf) (xd yd : Config) (a : Answer) → xl ≡ [] → yl ≡ [] → T (call_answer finish a) → Says g lent finish c xw xl xd a → {zs : List Act} → Makes g lent (xl ++ []) xd zs (yl ++ []) yd → xd ≡ yd
  finish_onward xw xl yl xd yd a l k p x m = go (first g lent m)
    where
      go : First g lent (xl ++ []) xd (yl ++ []) yd → xd ≡ yd
      go (none u v) = sym v
      go (one e zs h n) = absurd (finish_stuck a xw xl xd e l p x (subst (λ z. next g lent (look_at (z ++ [])) xd ≡ moved e) l h))

  -- ---- one answer

  one_answer : (call : Call) (a b : Answer) (xw yw : List Act) (left : List Leaf) (d : Config) → (call ≡ finish → left ≡ []) → T (call_answer call a) → T (call_answer call b) → Says g lent call c xw left d a → Says g lent call c yw left d b → a ≡ b
  one_answer (feed ks ns) (more n) (more k) xw yw left d l p q x y = ap more (x.2 ∙ sym y.2)
  one_answer (feed ks ns) (more n) (refused k o) xw yw left d l p q x y = stops_not x.0 x.1 y.1
  one_answer (feed ks ns) (refused k o) (more n) xw yw left d l p q x y = stops_not y.0 y.1 x.1
  one_answer (feed ks ns) (refused k o) (refused j i) xw yw left d l p q x y = ap₂ refused (both_refused x.1 y.1) (x.0 ∙ sym y.0)
  one_answer (feed ks ns) (value v n) b xw yw left d l p q x y = absurd p
  one_answer (feed ks ns) (table_refused k o) b xw yw left d l p q x y = absurd x
  one_answer (feed ks ns) (more n) (value v k) xw yw left d l p q x y = absurd q
  one_answer (feed ks ns) (more n) (table_refused k o) xw yw left d l p q x y = absurd y
  one_answer (feed ks ns) (refused k o) (value v n) xw yw left d l p q x y = absurd q
  one_answer (feed ks ns) (refused k o) (table_refused j i) xw yw left d l p q x y = absurd y
  one_answer finish (value v n) (value w k) xw yw left d l p q x y = ap₂ value (x.1 ∙ sym y.1) (x.2 ∙ sym y.2)
  one_answer finish (value v n) (refused k o) xw yw left d l p q x y = ends_not (l refl) x.0 (finished_waits d x.0) y.1
  one_answer finish (refused k o) (value v n) xw yw left d l p q x y = ends_not (l refl) y.0 (finished_waits d y.0) x.1
  one_answer finish (refused k o) (refused j i) xw yw left d l p q x y = ap₂ refused (both_refused x.1 y.1) (x.0 ∙ sym y.0)
  one_answer finish (more n) b xw yw left d l p q x y = absurd p
  one_answer finish (table_refused k o) b xw yw left d l p q x y = absurd x
  one_answer finish (value v n) (more k) xw yw left d l p q x y = absurd q
  one_answer finish (value v n) (table_refused k o) xw yw left d l p q x y = absurd y
  one_answer finish (refused k o) (more n) xw yw left d l p q x y = absurd q
  one_answer finish (refused k o) (table_refused j i) xw yw left d l p q x y = absurd y

-- ---- one effect

module _ (program : Grammar → List ℕ) (area : List ℕ) (g : Grammar) (wf : WellFormed g) (m : Stacks) (c : Config) (s : ShapedAt g c) where
  reached : {us vs : List Leaf} {d : Config} {ws : List Act} → Known g us → Makes g (lent_of m) us c ws vs d → ShapedAt g d
  reached o k = makes_keep_leaves g (lent_of m) (ShapedAt g) (λ l z x y a b. shape_move g wf (lent_of m) l z x y a b) o k s

  finish_left : (call : Call) (e : Effect) (x : MovesTo program area g m c call e) → call ≡ finish → x.left ≡ []
  finish_left (feed ks ns) e x q = absurd (let z : ◌≡◌ {A = ℕ} 0 1 = cc in omega arith)
  finish_left finish e x q = left_none g wf (lent_of m) c (x.made [] refl)

  same_end : (call : Call) → Known g (leaves g (tokens_of call)) → (e f : Effect) (x : MovesTo program area g m c call e) (y : MovesTo program area g m c call f) → T (call_answer call e.answer) → T (call_answer call f.answer) → (x.to ≡ y.to) × (x.left ≡ y.left)
  same_end (feed ks ns) o e f x y p q = go (compare g (lent_of m) (x.made (stranger g ∷ []) tt) (y.made (stranger g ∷ []) tt))
    where
      behind : Known g (fed_leaves g ks ns ++ (stranger g ∷ []))
      behind = known_behind g (fed_leaves g ks ns) o

      go : ((zs : List Act) × Makes g (lent_of m) (x.left ++ (stranger g ∷ [])) x.to zs (y.left ++ (stranger g ∷ [])) y.to) ⊎ ((zs : List Act) × Makes g (lent_of m) (y.left ++ (stranger g ∷ [])) y.to zs (x.left ++ (stranger g ∷ [])) x.to) → (x.to ≡ y.to) × (x.left ≡ y.left)
      go (inl k) = onward g wf (lent_of m) c ks ns x.moves y.moves x.left y.left x.to y.to e.answer f.answer (reached behind (x.made (stranger g ∷ []) tt)) (makes_leaves g (lent_of m) behind (x.made (stranger g ∷ []) tt)) y.few p x.says q y.says k.1
      go (inr k) =
          let z = onward g wf (lent_of m) c ks ns y.moves x.moves y.left x.left y.to x.to f.answer e.answer (reached behind (y.made (stranger g ∷ []) tt)) (makes_leaves g (lent_of m) behind (y.made (stranger g ∷ []) tt)) x.few q y.says p x.says k.1 in
          (sym z.0, sym z.1)
  same_end finish o e f x y p q = (go (compare g (lent_of m) (x.made [] refl) (y.made [] refl)), finish_left finish e x refl ∙ sym (finish_left finish f y refl))
    where
      go : ((zs : List Act) × Makes g (lent_of m) (x.left ++ []) x.to zs (y.left ++ []) y.to) ⊎ ((zs : List Act) × Makes g (lent_of m) (y.left ++ []) y.to zs (x.left ++ []) x.to) → x.to ≡ y.to
      go (inl k) = finish_onward g wf (lent_of m) c x.moves x.left y.left x.to y.to e.answer (finish_left finish e x refl) (finish_left finish f y refl) p x.says k.1
      go (inr k) = sym (finish_onward g wf (lent_of m) c y.moves y.left x.left y.to x.to f.answer (finish_left finish f y refl) (finish_left finish e x refl) q y.says k.1)

  one_effect : (call : Call) → Known g (leaves g (tokens_of call)) → (e f : Effect) → MovesTo program area g m c call e → MovesTo program area g m c call f → T (call_answer call e.answer) → T (call_answer call f.answer) → e ≡ f
  one_effect call o e f x y p q =
      let z = same_end call o e f x y p q in
      let says : Says g (lent_of m) call c y.moves x.left x.to f.answer = subst₂ (λ l d. Says g (lent_of m) call c y.moves l d f.answer) (sym z.1) (sym z.0) y.says in
      let a : e.answer ≡ f.answer = one_answer g wf (lent_of m) c call e.answer f.answer x.moves y.moves x.left x.to (finish_left call e x) p q x.says says in
      let r : e.state ≡ f.state = x.is_record ∙ (ap₂ (λ b d. record_of (stays_open b) d) a z.0 ∙ sym y.is_record) in
      let t : e.stacks ≡ f.stacks = x.is_stacks ∙ (ap (λ d. lay_all g d m) z.0 ∙ sym y.is_stacks) in
      let w : e.area ≡ f.area = x.is_area ∙ sym y.is_area in
      λ i. record { answer = a i; state = r i; stacks = t i; area = w i }

called_known : (g : Grammar) (c : Call) → Lendable c → Known g (leaves g (tokens_of c))
called_known g (feed ks ns) t = leaves_of g ks ns t
called_known g finish t = tt

pub moves_once : MovesOnce
moves_once program bs area g r m c t even met e p x =
    let wf : WellFormed g = accepted_well_formed bs g met.accepts in
    one_effect program area g wf m (config_of g r m) (fits_shaped g wf r m met.fits) c (called_known g c t) e (performs program bs area r m c) x (calls_move program bs area g r m c t even met) p (always_answers.1 program bs area r m c)
