-- Two grammars whose schemes, sets and entry conditions agree: corresponding configurations move to corresponding ones, and each call gives the same answer, record and stacks.
use Rattle.std.specs.Prelude.{ℕ, zero, suc, ◌+◌, ◌-◌, ◌*◌, ◌≡◌, refl, Bool, true, false, ◌&&◌, List, [], ◌∷◌, ◌++◌, map, reverse, eqb, ltb, leb, ℤ}
use Rattle.std.proofs.Common.{ap, ap₂, subst, ◌∙◌}
use Rattle.std.proofs.Math.Path.{fun_ext}
use lib.ListN.{length, drop, take, replicate}
use Rattle.meaning.specs.Base.{any, keep, is_empty}
use Rattle.meaning.specs.Grammar.{terminal, nonterminal, Token, Leaf, Grammar, production_at, syn, carried, leaves, Look, whole, place_production, place_passed}
use Rattle.meaning.specs.Value.{mark}
use Rattle.meaning.specs.Scheme.{Instruction, expect}
use Rattle.meaning.specs.Machine.{Coming, comes, ends, as_look, Frame, Config, Lent, Outcome, moved, blocked, Settled, stopped, failed, scheme_at, alternatives, entered, push, predict, accept}
use Rattle.meaning.specs.Machine.{move, next, moves_limit, tokens_limit, waits, is_done, advance, advance_from, feed_token, feed_all, finish_all, opening, place_of, unexpected, write_all}
use Rattle.meaning.specs.Calls.{outer, status_of, admitted, turned_back, gate, Record, Stacks, Called, Answer, lent_of, lay, lay_all, frame_of, config_of, record_of, stacks_fit, result, open_of, after_feed, after_finish_value, tokens_from, when_even, feed_of, finish_of, as_brought, closed_record, refused, more, value}
use Rattle.meaning.specs.PublicCalls.{Call, feed, finish, call_of}
use Rattle.meaning.specs.Part.{frame, config}
use Rattle.theory_order.specs.Alike.{Alike, adds, evaluates, awaits, tests, removes, AlikeAll, ended, followed, AlikeFrames, bottom, on, AlikeConfig, alike}
use Rattle.theory_order.specs.Alike.{AlikeOutcome, moves, blocks, AlikeSettled, stops, fails, alike_by, choose_alike, choose_by, alike_height, alike_parent, alike_stop, alike_expects, alike_pending, alike_from}

pub record Matched (g h : Grammar) : Type 0 where
  pub terminals : g.terminals ≡ h.terminals
  pub carrying : g.carrying ≡ h.carrying
  pub result : g.result ≡ h.result
  pub registers : syn g (nonterminal g.start) ≡ syn h (nonterminal h.start)
  pub schemes : (p : ℕ) → AlikeAll (scheme_at g p) (scheme_at h p)
  pub choices : (n : ℕ) (l : Look) → alternatives g n l ≡ alternatives h n l
  pub enters : (rs : List ℤ) (p : ℕ) → entered g rs p ≡ entered h rs p
  pub rights : (p : ℕ) → length (production_at g p).right ≡ length (production_at h p).right
  pub fits : (r : Record) (m : Stacks) → stacks_fit g r m ≡ stacks_fit h r m

abbrev turn : (Config → Settled) → Config → Bool → Outcome → Settled
turn go c b o = elim b as (λ x. Settled) [ true ↦ stopped c | false ↦ elim o as (λ x. Settled) [ blocked k ↦ failed c k | moved d ↦ go d ] ]

turn_alike : (go go' : Config → Settled) → ((c d : Config) → AlikeConfig c d → AlikeSettled (go c) (go' d)) → {c d : Config} → AlikeConfig c d → (b : Bool) {o o' : Outcome} → AlikeOutcome o o' → AlikeSettled (turn go c b o) (turn go' d b o')
turn_alike go go' h e true x = stops e
turn_alike go go' h e false (moves {c} {d} x) = h c d x
turn_alike go go' h e false (blocks k) = fails k e

turn_by : (go go' : Config → Settled) → ((c d : Config) → AlikeConfig c d → AlikeSettled (go c) (go' d)) → {c d : Config} → AlikeConfig c d → (a b : Bool) → a ≡ b → {o o' : Outcome} → AlikeOutcome o o' → AlikeSettled (turn go c a o) (turn go' d b o')
turn_by go go' h {c} {d} e a b q {o} {o'} x = subst (λ z. AlikeSettled (turn go c a o) (turn go' d z o')) q (turn_alike go go' h e a x)

-- a token: after too many, not known, or fed
abbrev token_turn : Bool → Bool → Config → Settled → Settled
token_turn many known c s = elim many as (λ x. Settled) [ true ↦ failed c 35 | false ↦ elim known as (λ x. Settled) [ true ↦ s | false ↦ failed c 20 ] ]

token_alike : (many known : Bool) {c d : Config} {s s' : Settled} → AlikeConfig c d → AlikeSettled s s' → AlikeSettled (token_turn many known c s) (token_turn many known d s')
token_alike true known e x = fails 35 e
token_alike false true e x = x
token_alike false false e x = fails 20 e

module _ (g h : Grammar) (w : Matched g h) where
  module _ (lent : Lent) (ahead : Coming) where
    abbrev look : Look
    look = as_look ahead

    same_push : {fs hs : List Frame} (rs : List ℤ) (t m : ℕ) → AlikeFrames fs hs → (ps : List ℕ) → AlikeOutcome (push g lent (config fs rs t m) ps) (push h lent (config hs rs t m) ps)
    same_push rs t m e [] = blocks 22
    same_push {fs} {hs} rs t m e (p ∷ ps) =
        choose_by (ltb lent.max_places (suc (length fs))) (ltb lent.max_places (suc (length hs))) (ap (λ n. ltb lent.max_places (suc n)) (alike_height e)) (blocks 32) (moves (alike rs t (suc m) (on p (w.schemes p) e)))

    same_predict : {fs hs : List Frame} (rs : List ℤ) (t m : ℕ) → AlikeFrames fs hs → (n : ℕ) → AlikeOutcome (predict g lent (config fs rs t m) n look) (predict h lent (config hs rs t m) n look)
    same_predict {fs} {hs} rs t m e n =
        let ps : List ℕ = keep (entered g rs) (alternatives g n look) in
        let qs : List ℕ = keep (entered h rs) (alternatives h n look) in
        let same : ps ≡ qs = ap₂ keep (fun_ext (w.enters rs)) (w.choices n look) in
        choose_by (is_empty (alternatives g n look)) (is_empty (alternatives h n look)) (ap is_empty (w.choices n look)) (blocks (unexpected look))
        (subst (λ z. AlikeOutcome (push g lent (config fs rs t m) ps) (push h lent (config hs rs t m) z)) same (same_push rs t m e ps))

    same_accept : (l : Coming) {fs hs : List Frame} (rs : List ℤ) (t m p : ℕ) {is js : List Instruction} (u : ℕ) → AlikeAll is js → AlikeFrames fs hs
        → AlikeOutcome (accept lent (config (frame p (expect (terminal u) ∷ is) ∷ fs) rs t m) (frame p (expect (terminal u) ∷ is)) fs u l) (accept lent (config (frame p (expect (terminal u) ∷ js) ∷ hs) rs t m) (frame p (expect (terminal u) ∷ js)) hs u l)
    same_accept (comes v) rs t m p u a e = choose_alike (eqb u v.kind) (choose_alike (ltb lent.max_registers (length rs + length v.values)) (blocks 31) (moves (alike (v.values ++ rs) (suc t) (suc m) (on p a e)))) (blocks 21)
    same_accept ends rs t m p u a e = blocks 24

    same_move : {fs hs : List Frame} (rs : List ℤ) (t m p : ℕ) {i j : Instruction} {is js : List Instruction} → Alike i j → AlikeAll is js → AlikeFrames fs hs
        → AlikeOutcome (move g lent ahead (config (frame p (i ∷ is) ∷ fs) rs t m) (frame p (i ∷ is)) fs i) (move h lent ahead (config (frame p (j ∷ js) ∷ hs) rs t m) (frame p (j ∷ js)) hs j)
    same_move rs t m p (adds n) a e = choose_alike (ltb lent.max_registers (length rs + n)) (blocks 31) (moves (alike (replicate n mark ++ rs) t (suc m) (on p a e)))
    same_move rs t m p (evaluates {rs = us} {qs = vs} s) a e = choose_by _ _ (s.ranged rs) (moves (alike_by (write_all us rs rs) (write_all vs rs rs) t (suc m) (s.written rs) (on p a e))) (blocks 23)
    same_move rs t m p (tests s) a e = choose_by _ _ (s rs) (moves (alike rs t (suc m) (on p a e))) (blocks 22)
    same_move rs t m p (removes n) a e = moves (alike (drop n rs) t (suc m) (alike_parent e))
    same_move rs t m p (awaits (terminal u)) a e = same_accept ahead rs t m p u a e
    same_move rs t m p (awaits (nonterminal n)) a e = same_predict rs t m (on p (followed (awaits (nonterminal n)) a) e) n

    same_next_at : {fs hs : List Frame} (rs : List ℤ) (t m : ℕ) → AlikeFrames fs hs → AlikeOutcome (next g lent ahead (config fs rs t m)) (next h lent ahead (config hs rs t m))
    same_next_at rs t m bottom = blocks (unexpected look)
    same_next_at rs t m (on p ended e) = blocks (unexpected look)
    same_next_at rs t m (on p (followed i a) e) = choose_alike (leb moves_limit m) (blocks 35) (same_move rs t m p i a e)

    -- one move
    pub same_next : {c d : Config} → AlikeConfig c d → AlikeOutcome (next g lent ahead c) (next h lent ahead d)
    same_next (alike rs t m e) = same_next_at rs t m e

    pub same_advance : (left n : ℕ) (c d : Config) → AlikeConfig c d → AlikeSettled (advance left g lent ahead n c) (advance left h lent ahead n d)
    same_advance zero n c d e = turn_by (λ z. failed c 35) (λ z. failed d 35) (λ x y z. fails 35 e) e (waits c.frames && is_done ahead n c) (waits d.frames && is_done ahead n d) (alike_stop ahead n e) (same_next e)
    same_advance (suc left) n c d e = turn_by (λ z. advance left g lent ahead n z) (λ z. advance left h lent ahead n z) (same_advance left n) e (waits c.frames && is_done ahead n c) (waits d.frames && is_done ahead n d) (alike_stop ahead n e) (same_next e)

    pub same_from : {c d : Config} → AlikeConfig c d → AlikeSettled (advance_from g lent ahead c) (advance_from h lent ahead d)
    same_from (alike {fs} {hs} rs t m e) = same_advance (moves_limit - m) t (config fs rs t m) (config hs rs t m) (alike rs t m e)

  pub same_token : (lent : Lent) (u : Leaf) {c d : Config} → AlikeConfig c d → AlikeSettled (feed_token g lent u c) (feed_token h lent u d)
  same_token lent u (alike {fs} {hs} rs n m e) =
      let c : Config = config fs rs n m in
      let d : Config = config hs rs n m in
      subst (λ k. AlikeSettled (feed_token g lent u c) (token_turn (leb tokens_limit n) (ltb u.kind k) d (advance_from h lent (comes u) d))) w.terminals
      (token_alike (leb tokens_limit n) (ltb u.kind g.terminals) (alike rs n m e) (same_from lent (comes u) (alike rs n m e)))

  feed_turn : (lent : Lent) (ts : List Leaf) {s s' : Settled} → AlikeSettled s s' → ((c d : Config) → AlikeConfig c d → AlikeSettled (feed_all g lent ts c) (feed_all h lent ts d))
      → AlikeSettled (elim s as (λ x. Settled) [ failed d k ↦ failed d k | stopped d ↦ feed_all g lent ts d ]) (elim s' as (λ x. Settled) [ failed d k ↦ failed d k | stopped d ↦ feed_all h lent ts d ])
  feed_turn lent ts (fails k e) ih = fails k e
  feed_turn lent ts (stops {c} {d} e) ih = ih c d e

  pub same_feed : (lent : Lent) (ts : List Leaf) (c d : Config) → AlikeConfig c d → AlikeSettled (feed_all g lent ts c) (feed_all h lent ts d)
  same_feed lent [] c d e = stops e
  same_feed lent (t ∷ ts) c d e = feed_turn lent ts (same_token lent t e) (same_feed lent ts)

  pub same_finish : (lent : Lent) {c d : Config} → AlikeConfig c d → AlikeSettled (finish_all g lent c) (finish_all h lent d)
  same_finish lent e = same_from lent ends e

  -- ---- what memory shows

  same_place : (p : ℕ) {is js : List Instruction} → AlikeAll is js → place_of g (frame p is) ≡ place_of h (frame p js)
  same_place p a = ap₂ (λ n k. p * 256 + (n - k)) (w.rights p) (ap₂ ◌+◌ (alike_expects a) (alike_pending a))

  same_places_lem : {fs hs : List Frame} → AlikeFrames fs hs → map (place_of g) fs ≡ map (place_of h) hs
  same_places_lem bottom = refl
  same_places_lem (on p a e) = ap₂ ◌∷◌ (same_place p a) (same_places_lem e)

  pub same_laid : (m : Stacks) {c d : Config} → AlikeConfig c d → lay_all g c m ≡ lay_all h d m
  same_laid m (alike rs t n e) = ap (λ ps. record { registers = lay (lent_of m).max_registers mark rs m.registers; places = lay (lent_of m).max_places 0 ps m.places }) (same_places_lem e)

  pub same_record : (o : Bool) {c d : Config} → AlikeConfig c d → record_of o c ≡ record_of o d
  same_record o (alike rs t n e) = ap (λ k. record { status = status_of o; kind = outer; tokens = t; moves = n; register_height = length rs; place_height = k }) (alike_height e)

  pub same_result : {c d : Config} → AlikeConfig c d → result g c ≡ result h d
  same_result (alike {fs} rs t n e) = ap (λ k. lib.ListN.get_or rs (k - 1) mark) w.result

  moves_of : {c d : Config} → AlikeConfig c d → c.moves ≡ d.moves
  moves_of (alike rs t n e) = refl

  tokens_of_lem : {c d : Config} → AlikeConfig c d → c.tokens ≡ d.tokens
  tokens_of_lem (alike rs t n e) = refl

  called_alike : {a b : Answer} {r s : Record} {m n : Stacks} → a ≡ b → r ≡ s → m ≡ n → ◌≡◌ {A = Called} (record { answer = a; state = r; stacks = m }) (record { answer = b; state = s; stacks = n })
  called_alike x y z = λ i. record { answer = x i; state = y i; stacks = z i }

  after_feed_lem : (m : Stacks) {s s' : Settled} → AlikeSettled s s' → after_feed g m s ≡ after_feed h m s'
  after_feed_lem m (stops e) = called_alike (ap more (moves_of e)) (same_record true e) (same_laid m e)
  after_feed_lem m (fails k e) = called_alike (ap (refused k) (tokens_of_lem e)) (same_record false e) (same_laid m e)

  after_finish : (m : Stacks) {s s' : Settled} → AlikeSettled s s' → after_finish_value g m s ≡ after_finish_value h m s'
  after_finish m (stops e) = called_alike (ap₂ value (same_result e) (moves_of e)) (same_record false e) (same_laid m e)
  after_finish m (fails k e) = called_alike (ap (refused k) (tokens_of_lem e)) (same_record false e) (same_laid m e)

  -- ---- the calls

  frames_back : (ps : List ℕ) → AlikeFrames (map (frame_of g) ps) (map (frame_of h) ps)
  frames_back [] = bottom
  frames_back (p ∷ ps) = on (place_production p) (alike_from (w.schemes (place_production p)) (place_passed p)) (frames_back ps)

  pub same_config : (r : Record) (m : Stacks) → AlikeConfig (config_of g r m) (config_of h r m)
  same_config r m = alike (reverse (take r.register_height m.registers)) r.tokens r.moves (frames_back (reverse (take r.place_height m.places)))

  abbrev fit_turn : Record → Stacks → Bool → Called → Called
  fit_turn r m fits c = elim (gate 34 r.status r.kind) as (λ x. Called) [ turned_back n ↦ as_brought (refused n 0) r m | admitted ↦ elim fits as (λ x. Called) [ false ↦ as_brought (refused 34 0) r m | true ↦ c ] ]

  same_leaves : (us : List Token) → leaves g us ≡ leaves h us
  same_leaves us = ap (λ ws. map (λ u. record { kind = u.kind; values = carried (any (eqb u.kind) ws) u.value }) us) w.carrying

  pub same_feed_of : (r : Record) (m : Stacks) (ks : List ℕ) (vs : List ℤ) → feed_of g r m ks vs ≡ feed_of h r m ks vs
  same_feed_of r m ks vs =
      let us : List Token = tokens_from ks vs in
      let s : after_feed g m (feed_all g (lent_of m) (leaves g us) (config_of g r m)) ≡ after_feed h m (feed_all h (lent_of m) (leaves h us) (config_of h r m)) =
      ap (λ z. after_feed g m (feed_all g (lent_of m) z (config_of g r m))) (same_leaves us) ∙ after_feed_lem m (same_feed (lent_of m) (leaves h us) (config_of g r m) (config_of h r m) (same_config r m)) in
      ap₂ (fit_turn r m) (w.fits r m) (ap (when_even (eqb (length ks) (length vs)) r m) s)

  pub same_finish_of : (r : Record) (m : Stacks) → finish_of g r m ≡ finish_of h r m
  same_finish_of r m = ap₂ (fit_turn r m) (w.fits r m) (after_finish m (same_finish (lent_of m) (same_config r m)))

  pub same_call : (r : Record) (m : Stacks) (c : Call) → call_of g r m c ≡ call_of h r m c
  same_call r m (feed ks vs) = same_feed_of r m ks vs
  same_call r m finish = same_finish_of r m

  pub same_opening : AlikeConfig (opening g) (opening h)
  same_opening = alike_by (replicate (syn g (nonterminal g.start)) mark) (replicate (syn h (nonterminal h.start)) mark) 0 0 (ap (λ n. replicate n mark) w.registers) (on whole (w.schemes whole) bottom)

  registers_of : {c d : Config} → AlikeConfig c d → length c.registers ≡ length d.registers
  registers_of (alike rs t n e) = refl

  abbrev open_turn : Stacks → ℕ → Record → Stacks → Called
  open_turn m n r laid = elim (ltb (lent_of m).max_registers n) as (λ x. Called) [
    | true ↦ as_brought (refused 31 0) closed_record m
    | false ↦ elim (ltb (lent_of m).max_places 1) as (λ x. Called) [ true ↦ as_brought (refused 32 0) closed_record m | false ↦ record { answer = more 0; state = r; stacks = laid } ]
  ]

  pub same_open_of : (m : Stacks) → open_of g m ≡ open_of h m
  same_open_of m = λ i. open_turn m (registers_of same_opening i) (same_record true same_opening i) (same_laid m same_opening i)
