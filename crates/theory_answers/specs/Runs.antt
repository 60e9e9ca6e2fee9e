-- Feeds and finishes as moves: whatever the tokens, what a call leads to is reached by moves, and one of 01's refusals stops it.
use Rattle.std.specs.Prelude.{ℕ, zero, suc, ◌+◌, ◌-◌, ◌≤◌, ◌<◌, ◌≡◌, refl, ◌⊎◌, Bool, true, false, ◌&&◌, List, [], ◌∷◌, ◌++◌, drop, T, eqb, ltb, leb}
use Rattle.std.proofs.Common.{arith, sym, ap, ap₂, ◌∙◌, subst, subst₂, inl, inr, append-nil, append_assoc, ltb→lt, lt→ltb, nltb→le, leb→le}
use Rattle.std.proofs.Math.Bool.{and-false}
use Rattle.std.proofs.Math.Dec.{nleb→lt}
use Rattle.meaning.specs.Grammar.{Grammar, whole, Leaf}
use Rattle.meaning.specs.Base.{all, is_empty}
use Rattle.meaning.specs.Scheme.{Instruction}
use Rattle.meaning.specs.Machine.{Frame, Config, Lent, Coming, comes, ends, Outcome, moved, blocked, Settled, stopped, failed, needs_look, waits, next, look_at, unread, is_done, is_finished, advance, advance_from, feed_token, feed_all, finish_all, tokens_limit, moves_limit}
use Rattle.meaning.specs.Tree.{is_leaf_of}
use Rattle.meaning.specs.Walk.{Act, act_by, Makes, nothing, and_then}
use Rattle.meaning.specs.PublicCalls.{feed, finish}
use Rattle.meaning_statements.specs.CallStatements.{Follows, Unseen, Refuses, too_many, not_token, at_token, at_end, between}
use Rattle.theory_base.specs.Members.{T→true, both, left_false}
use Rattle.theory_base.specs.Steps.{at_hand}
use Rattle.theory_answers.specs.ShapeMoves.{IsAhead}
use Rattle.theory_answers.specs.Bounds.{counts, look_free, no_read, Blocks, blocks}

-- what every move keeps, moves keep
pub makes_keep : (g : Grammar) (lent : Lent) (Inv : Config → Type 0) → ((l : Coming) (c d : Config) → Inv c → next g lent l c ≡ moved d → Inv d)
    → {us vs : List Leaf} {c d : Config} {ws : List Act} → Makes g lent us c ws vs d → Inv c → Inv d
makes_keep g lent Inv keeps {us} {c = c} m s = go m
  where
    go : {vs : List Leaf} {d : Config} {ws : List Act} → Makes g lent us c ws vs d → Inv d
    go nothing = s
    go (and_then {vs = vs} {d = d} p i is fs e m f h) = keeps (look_at vs) d e (go m) h

-- ---- what a grammar sees of the tokens to come

pub all_drop : (g : Grammar) (n : ℕ) (us : List Leaf) → T (all (is_leaf_of g) us) → T (all (is_leaf_of g) (drop n us))
all_drop g zero us h = h
all_drop g (suc n) [] h = h
all_drop g (suc n) (u ∷ us) h = all_drop g n us (both (is_leaf_of g u) (all (is_leaf_of g) us) h).1

pub is_ahead : (g : Grammar) (us : List Leaf) → T (all (is_leaf_of g) us) → IsAhead g (look_at us)
is_ahead g [] h = tt
is_ahead g (u ∷ us) h = (both (is_leaf_of g u) (all (is_leaf_of g) us) h).0

pub makes_leaves : (g : Grammar) (lent : Lent) {us vs : List Leaf} {c d : Config} {ws : List Act} → T (all (is_leaf_of g) us) → Makes g lent us c ws vs d → T (all (is_leaf_of g) vs)
makes_leaves g lent {us} {c = c} t m = go m
  where
    go : {vs : List Leaf} {d : Config} {ws : List Act} → Makes g lent us c ws vs d → T (all (is_leaf_of g) vs)
    go nothing = t
    go (and_then {vs = vs} {d = d} p i is fs e m f h) = all_drop g (e.tokens - d.tokens) vs (go m)

-- what every move on such tokens keeps, moves keep
pub makes_keep_leaves : (g : Grammar) (lent : Lent) (Inv : Config → Type 0) → ((l : Coming) → IsAhead g l → (c d : Config) → Inv c → next g lent l c ≡ moved d → Inv d)
    → {us vs : List Leaf} {c d : Config} {ws : List Act} → T (all (is_leaf_of g) us) → Makes g lent us c ws vs d → Inv c → Inv d
makes_keep_leaves g lent Inv keeps {us} {c = c} t m s = go m
  where
    go : {vs : List Leaf} {d : Config} {ws : List Act} → Makes g lent us c ws vs d → Inv d
    go nothing = s
    go (and_then {vs = vs} {d = d} p i is fs e m f h) = keeps (look_at vs) (is_ahead g vs (makes_leaves g lent t m)) d e (go m) h

-- ---- the tokens to come while one is at hand

-- n were read before the token at hand: it is still to come or just read
abbrev ToCome : Coming → ℕ → List Leaf → ℕ → Type 0
ToCome (comes t) n us k = ((us ≡ t ∷ []) × (k ≡ n)) ⊎ ((us ≡ []) × (k ≡ suc n))
ToCome ends n us k = (us ≡ []) × (k ≡ n)

-- at the end nothing comes behind
abbrev Last : (List Leaf → Type 0) → Coming → Type 0
Last Behind (comes t) = Unit {0}
Last Behind ends = (us : List Leaf) → Behind us → us ≡ []

pub unread_same : (c d : Config) (us : List Leaf) → d.tokens ≡ c.tokens → unread c d us ≡ us
unread_same c d us e = let z : d.tokens - c.tokens ≡ 0 = omega (arith, e) in ap (λ n. drop n us) z

unread_one : (c d : Config) (t : Leaf) (us ts : List Leaf) → us ≡ t ∷ ts → d.tokens ≡ suc c.tokens → unread c d us ≡ ts
unread_one c d t us ts e h =
    let z : d.tokens - c.tokens ≡ 1 = omega (arith, h) in
    ap (λ n. drop n us) z ∙ ap (λ l. drop 1 l) e

pub look_is : (vs : List Leaf) (c : Leaf) → look_at vs ≡ comes c → vs ≡ c ∷ drop 1 vs
look_is [] c e = let z : ◌≡◌ {A = ℕ} 0 1 = cc in absurd (omega arith)
look_is (u ∷ vs) c e = let z : u ≡ c = cc in ap (λ n. n ∷ vs) z

over_token : {A : Type 0} (t : Leaf) → ends ≡ comes t → A
over_token t e = absurd (let z : ◌≡◌ {A = ℕ} 0 1 = cc in omega arith)

-- once the token at hand is read, what is still to do needs no next one
idle : (t : Leaf) (n : ℕ) (c : Config) → c.tokens ≡ suc n → waits c.frames && is_done (comes t) n c ≡ false → waits c.frames ≡ false
idle t n c e w = left_false (waits c.frames) (ltb n c.tokens) (T→true (ltb n c.tokens) (lt→ltb n c.tokens (omega (arith, e)))) w

-- a start symbol that is left waits
unfinished : (c : Config) → waits c.frames && is_finished c ≡ false → is_finished c ≡ false
unfinished c w = go c.frames w
  where
    rests : (p : ℕ) (is : List Instruction) → needs_look is && (eqb p whole && is_empty is) ≡ false → eqb p whole && is_empty is ≡ false
    rests p [] w = w
    rests p (i ∷ is) w = and-false (eqb p whole)

    go : (fs : List Frame) → waits fs && (elim fs as (λ z. Bool) [ [] ↦ false | f ∷ fs ↦ eqb f.production whole && is_empty f.rest ]) ≡ false → (elim fs as (λ z. Bool) [ [] ↦ false | f ∷ fs ↦ eqb f.production whole && is_empty f.rest ]) ≡ false
    go [] w = refl
    go (f ∷ fs) w = rests f.production f.rest w

-- what one move leaves of the tokens to come, whatever comes behind
record MoveLeaves (l : Coming) (n : ℕ) (us : List Leaf) (c d : Config) : Type 0 where
  pub left : List Leaf
  pub coming : ToCome l n left d.tokens
  pub rest : (ws : List Leaf) → unread c d (us ++ ws) ≡ left ++ ws

module _ (g : Grammar) (lent : Lent) where
  passed : (l : Coming) (n : ℕ) (us : List Leaf) (c d : Config) → ToCome l n us c.tokens → waits c.frames && is_done l n c ≡ false → next g lent l c ≡ moved d → MoveLeaves l n us c d
  passed ends n us c d s w h = go (counts g lent ends c d h).tokens
    where
      go : (d.tokens ≡ c.tokens) ⊎ ((t : Leaf) × (ends ≡ comes t) × (d.tokens ≡ suc c.tokens)) → MoveLeaves ends n us c d
      go (inl e) = record { left = us; coming = (s.0, e ∙ s.1); rest = λ ws. unread_same c d (us ++ ws) e }
      go (inr v) = over_token v.0 v.1
  passed (comes t) n us c d (inl s) w h = go (counts g lent (comes t) c d h).tokens
    where
      go : (d.tokens ≡ c.tokens) ⊎ ((u : Leaf) × (comes t ≡ comes u) × (d.tokens ≡ suc c.tokens)) → MoveLeaves (comes t) n us c d
      go (inl e) = record { left = us; coming = inl (s.0, e ∙ s.1); rest = λ ws. unread_same c d (us ++ ws) e }
      go (inr v) = record { left = []; coming = inr (refl, omega (arith, v.2, s.1)); rest = λ ws. unread_one c d t (us ++ ws) ws (ap (λ x. x ++ ws) s.0) v.2 }
  passed (comes t) n us c d (inr s) w h =
      let e = no_read g lent (comes t) c d (idle t n c s.1 w) h in
      record { left = us; coming = inr (s.0, e ∙ s.1); rest = λ ws. unread_same c d (us ++ ws) e }

  -- what is at hand is what comes next
  same_look : (Behind : List Leaf → Type 0) (l : Coming) (n : ℕ) (us : List Leaf) (c : Config) → Last Behind l → ToCome l n us c.tokens → waits c.frames && is_done l n c ≡ false → (ws : List Leaf) → Behind ws → next g lent (look_at (us ++ ws)) c ≡ next g lent l c
  same_look Behind ends n us c z s w ws b = ap₂ (λ x y. next g lent (look_at (x ++ y)) c) s.0 (z ws b)
  same_look Behind (comes t) n us c z (inl s) w ws b = ap (λ x. next g lent (look_at (x ++ ws)) c) s.0
  same_look Behind (comes t) n us c z (inr s) w ws b = look_free g lent (look_at (us ++ ws)) (comes t) c (idle t n c s.1 w)

-- what stops a feed at e
pub data FeedBlocks (e : Config) : ℕ → Type 0 where
  many_tokens : e.tokens ≡ tokens_limit → FeedBlocks e 35
  unknown_token : FeedBlocks e 20
  blocked_move : {k : ℕ} (t : Leaf) → Blocks (comes t) e k → FeedBlocks e k

-- ---- the moves from c₀

-- they lead to c, with us to come
pub record Led (g : Grammar) (lent : Lent) (us₀ : List Leaf) (c₀ : Config) (us : List Leaf) (c : Config) : Type 0 where
  pub moves : List Act
  pub made : Makes g lent us₀ c₀ moves us c
  pub few : c.moves ≤ moves_limit

-- and whatever comes behind, the same moves do
pub record Leads (g : Grammar) (lent : Lent) (Behind : List Leaf → Type 0) (us₀ : List Leaf) (c₀ : Config) (us : List Leaf) (c : Config) : Type 0 where
  pub moves : List Act
  pub made : (ws : List Leaf) → Behind ws → Makes g lent (us₀ ++ ws) c₀ moves (us ++ ws) c
  pub few : c.moves ≤ moves_limit

-- behind the tokens of a feed anything may come, behind a finish nothing
abbrev pub Anything : List Leaf → Type 0
Anything = Follows (feed [] [])

abbrev pub Nothing : List Leaf → Type 0
Nothing = Follows finish

module _ (g : Grammar) (lent : Lent) (us₀ : List Leaf) (c₀ : Config) (us : List Leaf) (c : Config) where
  pub with_nothing : Leads g lent Nothing us₀ c₀ us c → Led g lent us₀ c₀ us c
  with_nothing s = record { moves = s.moves; made = subst₂ (λ x y. Makes g lent x c₀ s.moves y c) (append-nil us₀) (append-nil us) (s.made [] refl); few = s.few }

  pub with_end : Leads g lent Anything us₀ c₀ us c → Leads g lent Nothing us₀ c₀ us c
  with_end s = record { moves = s.moves; made = λ ws b. s.made ws tt; few = s.few }

  -- ts more to come
  abbrev pub with_more : (ts all : List Leaf) → us₀ ++ ts ≡ all → Leads g lent Anything us₀ c₀ us c → Leads g lent Anything all c₀ (us ++ ts) c
  with_more ts all e s = record { moves = s.moves; made = λ ws b. subst₂ (λ x y. Makes g lent x c₀ s.moves y c) (sym (append_assoc us₀ ts ws) ∙ ap (λ z. z ++ ws) e) (sym (append_assoc us ts ws)) (s.made (ts ++ ws) tt); few = s.few }

-- ---- the loop

module _ (g : Grammar) (lent : Lent) (Behind : List Leaf → Type 0) (us₀ : List Leaf) (c₀ : Config) where
  record Going (l : Coming) (n : ℕ) (c : Config) : Type 0 where
    pub left : List Leaf
    pub leads : Leads g lent Behind us₀ c₀ left c
    pub coming : ToCome l n left c.tokens

  abbrev Advanced : Coming → ℕ → Settled → Type 0
  Advanced l n (stopped e) = Going l n e × T (waits e.frames) × T (is_done l n e)
  Advanced l n (failed e k) = Going l n e × (next g lent l e ≡ blocked k) × (waits e.frames && is_done l n e ≡ false)

  module _ (l : Coming) (n : ℕ) (z : Last Behind l) where
    going_on : (c d : Config) → Going l n c → waits c.frames && is_done l n c ≡ false → next g lent l c ≡ moved d → Going l n d
    going_on c d s w h =
        let p = passed g lent l n s.left c d s.coming w h in
        let a = at_hand g lent l c d h in
        let ws : List Act = s.leads.moves ++ (act_by a.production a.instruction d ∷ []) in
        let one : (vs : List Leaf) → Behind vs → Makes g lent (us₀ ++ vs) c₀ ws (unread c d (s.left ++ vs)) d =
        λ vs b. and_then a.production a.instruction a.rest a.below d (s.leads.made vs b) a.frames (same_look g lent Behind l n s.left c z s.coming w vs b ∙ h) in
        let led : Leads g lent Behind us₀ c₀ p.left d = record { moves = ws; made = λ vs b. subst (λ x. Makes g lent (us₀ ++ vs) c₀ ws x d) (p.rest vs) (one vs b); few = omega (arith, a.limit, (counts g lent l c d h).moves) } in
        record { left = p.left; leads = led; coming = p.coming }

    stops : (c : Config) → Going l n c → waits c.frames && is_done l n c ≡ true → Going l n c × T (waits c.frames) × T (is_done l n c)
    stops c s w =
        let t : T (waits c.frames && is_done l n c) = rw w tt in
        (s, (both (waits c.frames) (is_done l n c) t).0, (both (waits c.frames) (is_done l n c) t).1)

    advanced : (left : ℕ) (c : Config) → left + c.moves ≡ moves_limit → Going l n c → Advanced l n (advance left g lent l n c)
    advanced zero c m s = ready (waits c.frames && is_done l n c) refl (next g lent l c) refl
      where
        ready : (b : Bool) → waits c.frames && is_done l n c ≡ b → (o : Outcome) → next g lent l c ≡ o → Advanced l n (elim b [ true ↦ stopped c | false ↦ elim o [ blocked k ↦ failed c k | moved d ↦ failed c 35 ] ])
        ready true w o h = stops c s w
        ready false w (blocked k) h = (s, h, w)
        -- at the limit no move is made
        ready false w (moved d) h = absurd (omega (arith, (at_hand g lent l c d h).limit))
    advanced (suc left) c m s = ready (waits c.frames && is_done l n c) refl (next g lent l c) refl (λ d e t. advanced left d e t)
      where
        ready : (b : Bool) → waits c.frames && is_done l n c ≡ b → (o : Outcome) → next g lent l c ≡ o
            → ((d : Config) → left + d.moves ≡ moves_limit → Going l n d → Advanced l n (advance left g lent l n d))
            → Advanced l n (elim b [ true ↦ stopped c | false ↦ elim o [ blocked k ↦ failed c k | moved d ↦ advance left g lent l n d ] ])
        ready true w o h ih = stops c s w
        ready false w (blocked k) h ih = (s, h, w)
        ready false w (moved d) h ih = ih d (omega (arith, (counts g lent l c d h).moves)) (going_on c d s w h)

  advanced_from : (l : Coming) → Last Behind l → (c : Config) → Going l c.tokens c → Advanced l c.tokens (advance_from g lent l c)
  advanced_from l z c s = advanced l c.tokens z (moves_limit - c.moves) c (omega (arith, s.leads.few)) s

-- ---- a feed

module _ (g : Grammar) (lent : Lent) (c₀ : Config) where
  -- of the last of the tokens us
  abbrev pub Fed : List Leaf → Settled → Type 0
  Fed us (stopped e) = Leads g lent Anything us c₀ [] e × T (waits e.frames) × (e.tokens ≤ tokens_limit)
  Fed us (failed e k) = (vs : List Leaf) × (s : Leads g lent Anything us c₀ vs e) × (e.tokens ≤ tokens_limit) × FeedBlocks e k × Refuses g lent Anything us c₀ s.moves vs e k

  -- read were read before t, and ts come after it
  module _ (read : List Leaf) (t : Leaf) (ts : List Leaf) (c : Config) (s : Leads g lent Anything read c₀ [] c) (w : T (waits c.frames)) (m : c.tokens ≤ tokens_limit) where
    abbrev FedToken : Settled → Type 0
    FedToken (stopped e) = Fed (read ++ (t ∷ [])) (stopped e)
    FedToken (failed e k) = Fed (read ++ (t ∷ ts)) (failed e k)

    unseen : Unseen g lent (read ++ (t ∷ ts)) c₀ s.moves (t ∷ ts) c
    unseen = record { read = read; split = refl; made = λ us. s.made us tt }

    turned_back_lem : (k : ℕ) → FeedBlocks c k → Refuses g lent Anything (read ++ (t ∷ ts)) c₀ s.moves (t ∷ ts) c k → FedToken (failed c k)
    turned_back_lem k b r = (t ∷ ts, with_more g lent read c₀ [] c (t ∷ ts) (read ++ (t ∷ ts)) refl s, m, b, r)

    module _ (few : c.tokens < tokens_limit) (below : t.kind < g.terminals) where
      abbrev Gone : Config → Type 0
      Gone e = Going g lent Anything (read ++ (t ∷ [])) c₀ (comes t) c.tokens e

      count : (us : List Leaf) (k : ℕ) → ToCome (comes t) c.tokens us k → k ≤ tokens_limit
      count us k (inl v) = omega (arith, v.1)
      count us k (inr v) = omega (arith, v.1)

      behind : (us : List Leaf) (e : Config) → Leads g lent Anything (read ++ (t ∷ [])) c₀ us e → ToCome (comes t) c.tokens us e.tokens → c.tokens < e.tokens → Leads g lent Anything (read ++ (t ∷ [])) c₀ [] e
      behind us e r (inl v) d = absurd (omega (arith, v.1))
      behind us e r (inr v) d = subst (λ z. Leads g lent Anything (read ++ (t ∷ [])) c₀ z e) v.0 r

      -- blocked at t, or, once it is read, at a move that needs no next one
      refuses : (e : Config) (k : ℕ) (r : Gone e) → next g lent (comes t) e ≡ blocked k → waits e.frames && is_done (comes t) c.tokens e ≡ false → ToCome (comes t) c.tokens r.left e.tokens
          → Refuses g lent Anything (read ++ (t ∷ ts)) c₀ r.leads.moves (r.left ++ ts) e k
      refuses e k r h x (inl v) = at_token t ts (ap (λ z. z ++ ts) v.0) (omega (arith, v.1)) below h
      refuses e k r h x (inr v) =
          let split : read ++ (t ∷ ts) ≡ (read ++ (t ∷ [])) ++ (r.left ++ ts) = sym (append_assoc read (t ∷ []) ts) ∙ ap (λ z. (read ++ (t ∷ [])) ++ (z ++ ts)) (sym v.0) in
          let made : (us : List Leaf) → Makes g lent ((read ++ (t ∷ [])) ++ us) c₀ r.leads.moves us e = λ us. subst (λ z. Makes g lent ((read ++ (t ∷ [])) ++ us) c₀ r.leads.moves (z ++ us) e) v.0 (r.leads.made us tt) in
          let quiet = idle t c.tokens e v.1 x in
          between quiet (record { read = read ++ (t ∷ []); split = split; made = made }) (λ l. look_free g lent l (comes t) e quiet ∙ h)

      advances : (o : Settled) → Advanced g lent Anything (read ++ (t ∷ [])) c₀ (comes t) c.tokens o → FedToken o
      advances (stopped e) v = (behind v.0.left e v.0.leads v.0.coming (ltb→lt c.tokens e.tokens v.2), v.1, count v.0.left e.tokens v.0.coming)
      advances (failed e k) v =
          let r : Gone e = v.0 in
          let whole = with_more g lent (read ++ (t ∷ [])) c₀ r.left e ts (read ++ (t ∷ ts)) (append_assoc read (t ∷ []) ts) r.leads in
          (r.left ++ ts, whole, count r.left e.tokens r.coming, blocked_move t (blocks g lent (comes t) e k v.1), refuses e k r v.1 v.2 r.coming)

    fed_token : FedToken (feed_token g lent t c)
    fed_token = limited (leb tokens_limit c.tokens) refl (ltb t.kind g.terminals) refl
      where
        limited : (b : Bool) → leb tokens_limit c.tokens ≡ b → (k : Bool) → ltb t.kind g.terminals ≡ k → FedToken (elim b [ true ↦ failed c 35 | false ↦ elim k [ true ↦ advance_from g lent (comes t) c | false ↦ failed c 20 ] ])
        limited true q k p =
            let all : c.tokens ≡ tokens_limit = omega (arith, leb→le tokens_limit c.tokens (rw q tt)) in
            turned_back_lem 35 (many_tokens all) (too_many refl t ts refl all w unseen)
        limited false q true p =
            let few = nleb→lt tokens_limit c.tokens (rw q tt) in
            let below = ltb→lt t.kind g.terminals (rw p tt) in
            advances few below (advance_from g lent (comes t) c) (advanced_from g lent Anything (read ++ (t ∷ [])) c₀ (comes t) tt c (record { left = t ∷ []; leads = with_more g lent read c₀ [] c (t ∷ []) (read ++ (t ∷ [])) refl s; coming = inl (refl, refl) }))
        limited false q false p = turned_back_lem 20 unknown_token (not_token refl t ts refl (nleb→lt tokens_limit c.tokens (rw q tt)) (nltb→le t.kind g.terminals (rw p tt)) w unseen)

  pub fed : (ts read : List Leaf) (c : Config) → Leads g lent Anything read c₀ [] c → T (waits c.frames) → c.tokens ≤ tokens_limit → Fed (read ++ ts) (feed_all g lent ts c)
  fed [] read c s w m = (subst (λ z. Leads g lent Anything z c₀ [] c) (sym (append-nil read)) s, w, m)
  fed (t ∷ ts) read c s w m = then (λ d r v k. fed ts (read ++ (t ∷ [])) d r v k) (feed_token g lent t c) (fed_token read t ts c s w m)
    where
      then : ((d : Config) → Leads g lent Anything (read ++ (t ∷ [])) c₀ [] d → T (waits d.frames) → d.tokens ≤ tokens_limit → Fed ((read ++ (t ∷ [])) ++ ts) (feed_all g lent ts d))
          → (o : Settled) → FedToken read t ts c s w m o → Fed (read ++ (t ∷ ts)) (elim o [ failed d k ↦ failed d k | stopped d ↦ feed_all g lent ts d ])
      then ih (failed d k) v = v
      then ih (stopped d) v = subst (λ z. Fed z (feed_all g lent ts d)) (append_assoc read (t ∷ []) ts) (ih d v.0 v.1 v.2)

  -- ---- a finish

  -- after n tokens
  abbrev pub Finished : List Leaf → ℕ → Settled → Type 0
  Finished us n (stopped e) = Leads g lent Nothing us c₀ [] e × T (is_finished e) × (e.tokens ≡ n)
  Finished us n (failed e k) = (s : Leads g lent Nothing us c₀ [] e) × Blocks ends e k × Refuses g lent Nothing us c₀ s.moves [] e k × (e.tokens ≡ n)

  pub finished : (read : List Leaf) (c : Config) → Leads g lent Anything read c₀ [] c → Finished read c.tokens (finish_all g lent c)
  finished read c s = go (finish_all g lent c) (advanced_from g lent Nothing read c₀ ends (λ us b. b) c (record { left = []; leads = with_end g lent read c₀ [] c s; coming = (refl, refl) }))
    where
      go : (o : Settled) → Advanced g lent Nothing read c₀ ends c.tokens o → Finished read c.tokens o
      go (stopped e) v = (subst (λ z. Leads g lent Nothing read c₀ z e) v.0.coming.0 v.0.leads, v.2, v.0.coming.1)
      go (failed e k) v =
          let r = v.0 in
          let by : Refuses g lent Nothing read c₀ r.leads.moves r.left e k = at_end r.coming.0 (unfinished e v.2) (λ us b. b) v.1 in
          subst (λ z. (a : Leads g lent Nothing read c₀ z e) × Blocks ends e k × Refuses g lent Nothing read c₀ a.moves z e k × (e.tokens ≡ c.tokens)) r.coming.0 (r.leads, blocks g lent ends e k v.1, by, r.coming.1)
