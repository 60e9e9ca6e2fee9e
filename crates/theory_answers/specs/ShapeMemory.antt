-- What fits has the shape, and where the machine waits, a configuration of the shape fits again, each place giving back its frame.
use Rattle.std.specs.Prelude.{ℕ, zero, suc, ◌+◌, ◌-◌, ◌*◌, ◌≤◌, ◌<◌, ◌≡◌, refl, ◌⊎◌, Bool, false, ◌&&◌, length, drop, take, T, eqb, ℤ}
use Rattle.std.proofs.Common.{arith, sym, ap, ap₂, ◌∙◌, subst, subst₂, inl, inr, drop-cons}
use mathlib.Core.List.{List, [], ◌∷◌, ◌++◌, map, append_assoc, append-nil, cons≢nil}
use Rattle.meaning.specs.Limits.{symbols_limit}
use Rattle.meaning.specs.Base.{total, is_empty}
use Rattle.meaning.specs.Grammar.{Symbol, terminal, nonterminal, Production, Grammar, inh, syn, marked_for, production_at, symbol_at, whole, whole_production, segment_place}
use Rattle.meaning.specs.Value.{in_range, mark}
use Rattle.meaning.specs.Scheme.{Instruction, syn_between}
use Rattle.meaning.specs.Rules.{WellFormed}
use Rattle.meaning.specs.Machine.{Frame, Config, place_of, is_finished}
use Rattle.meaning.specs.Calls.{frame_of, result}
use Rattle.meaning.specs.Part.{marks, wait_rest, frame}
use Rattle.meaning.specs.Fit.{Values, WaitsAt, Left}
use Rattle.theory_base.specs.Members.{both}
use Rattle.theory_base.specs.Values.{drop_head, drop_over}
use Rattle.theory_base.specs.WellFormed.{whole_counts, well_formed_at}
use Rattle.theory_base.specs.Frames.{place_waits_lem, frame_back}
use Rattle.theory_sets.specs.Tests.{all_at}
use Rattle.theory_answers.specs.Shape.{inh_left, syn_left, Node, node_registers, StandsOnFrames, segment, inside, Due, adds, hands, waits, tests, closes, removes, ends, Shaped, no_values}
use Rattle.meaning.specs.Machine as Machine
use Rattle.meaning.specs.Fit as Fit

-- ---- a place and its frame

pub listed : (g : Grammar) → {p : ℕ} {fs : List Frame} {base : List ℤ} → StandsOnFrames g p fs base → (p ≡ whole) ⊎ (p < length g.productions)
listed g segment = inl refl
listed g (inside q k xs vs ss l e n s) = inr l

pub short : (g : Grammar) → WellFormed g → {p : ℕ} {fs : List Frame} {base : List ℤ} → StandsOnFrames g p fs base → length (production_at g p).right ≤ symbols_limit
short g wf segment = omega arith
short g wf (inside {p} q k xs vs ss l e n s) = (well_formed_at g wf p l).short

-- the whole segment's own left side has no attributes
whole_inh : (g : Grammar) → WellFormed g → inh_left g whole ≡ 0
whole_inh g wf = ap (λ c. c.inherited) (whole_counts g wf)

whole_syn : (g : Grammar) → WellFormed g → syn_left g whole ≡ 0
whole_syn g wf = ap (λ c. c.synthesized) (whole_counts g wf)

values_none : (n : ℕ) → n ≡ 0 → Values n []
values_none n e = rw e no_values

none_of : (n : ℕ) (vs : List ℤ) → n ≡ 0 → Values n vs → vs ≡ []
none_of n [] e v = refl
none_of n (x ∷ xs) e v = absurd (omega (arith, v.size))

syn_from : (g : Grammar) (p : Production) (k : ℕ) → syn_between g p 0 k ≡ total (map (syn g) (take k p.right))
syn_from g p k = let e : k - 0 ≡ k = omega arith in rw e refl

-- ---- from what fits

-- the top node waits at x
pub record Waiting (g : Grammar) (fs : List Frame) (rs : List ℤ) (x : Symbol) : Type 0 where
  pub production : ℕ
  pub passed : ℕ
  pub ahead : List Symbol
  pub handed : List ℤ
  pub inherited : List ℤ
  pub values : List ℤ
  pub below : List Frame
  pub base : List ℤ
  pub stands : StandsOnFrames g production below base
  pub node : Node g production passed inherited values
  pub symbols : drop passed (production_at g production).right ≡ x ∷ ahead
  pub ranged : Values (inh g x) handed
  pub is_frames : frame production (wait_rest g production passed x ahead) ∷ below ≡ fs
  pub is_registers : (handed ++ marks (marked_for g x)) ++ node_registers values inherited (marks (syn_left g production)) base ≡ rs

pub waiting_shaped : (g : Grammar) → WellFormed g → {fs : List Frame} {rs : List ℤ} {x : Symbol} → Waiting g fs rs x → Shaped g fs rs
waiting_shaped g wf {x = x} w = record {
  production = w.production;
  passed = w.passed;
  inherited = w.inherited;
  values = w.values;
  below = w.below;
  base = w.base;
  rest = wait_rest g w.production w.passed x w.ahead;
  top = w.handed ++ marks (marked_for g x);
  results = marks (syn_left g w.production);
  stands = w.stands;
  node = w.node;
  due = waits x w.ahead w.handed w.symbols w.ranged;
  is_frames = w.is_frames;
  is_registers = w.is_registers;
}

waiting : (g : Grammar) → WellFormed g → {ps : List ℕ} {rs : List ℤ} {x : Symbol} → WaitsAt g ps rs x → Waiting g (map (frame_of g) ps) rs x
waiting g wf (Fit.segment vs v) =
    let none : marks (syn_left g whole) ≡ [] = ap marks (whole_syn g wf) in
    let own : node_registers [] [] (marks (syn_left g whole)) [] ≡ [] = ap (λ z. z ++ []) none in
    record {
      production = whole;
      passed = 0;
      ahead = [];
      handed = vs;
      inherited = [];
      values = [];
      below = [];
      base = [];
      stands = segment;
      node = record { inherited = values_none (inh_left g whole) (whole_inh g wf); passed = no_values; within = omega arith };
      symbols = refl;
      ranged = v;
      is_frames = refl;
      is_registers = ap (λ z. (vs ++ marks (syn g (nonterminal g.start))) ++ z) own ∙ append-nil (vs ++ marks (syn g (nonterminal g.start)));
    }
waiting g wf (Fit.inside p k vs ss {ps} {rs} l s m v u w) =
    let b = waiting g wf w in
    let right : List Symbol = (production_at g p).right in
    let x : Symbol = symbol_at (production_at g p) (suc k) in
    let e : drop k right ≡ x ∷ drop (suc k) right = drop-cons right k (terminal 0) s in
    let parent : Frame = frame b.production (wait_rest g b.production b.passed (nonterminal (production_at g p).left) b.ahead) in
    let own : List ℤ = node_registers b.values b.inherited (marks (syn_left g b.production)) b.base in
    let st : StandsOnFrames g p (parent ∷ b.below) own = inside b.production b.passed b.ahead b.inherited b.values l b.symbols b.node b.stands in
    record {
      production = p;
      passed = k;
      ahead = drop (suc k) right;
      handed = vs;
      inherited = b.handed;
      values = ss;
      below = frame b.production (wait_rest g b.production b.passed (nonterminal (production_at g p).left) b.ahead) ∷ b.below;
      base = node_registers b.values b.inherited (marks (syn_left g b.production)) b.base;
      stands = st;
      node = record { inherited = b.ranged; passed = rw (syn_from g (production_at g p) k) u; within = omega arith };
      symbols = e;
      ranged = v;
      is_frames = ap₂ (λ y ys. y ∷ ys) (sym (frame_back g wf p k x (drop (suc k) right) (inr l) m e)) b.is_frames;
      is_registers = ap (λ z. (vs ++ marks (marked_for g x)) ++ (ss ++ z)) (sym (append_assoc b.handed (marks (syn_left g p)) (node_registers b.values b.inherited (marks (syn_left g b.production)) b.base)) ∙ b.is_registers);
    }

-- the start symbol is left
left_shaped : (g : Grammar) → WellFormed g → (ps : List ℕ) (rs : List ℤ) → Left g ps rs → Shaped g (map (frame_of g) ps) rs
left_shaped g wf ps rs l =
    let none : marks (syn_left g whole) ≡ [] = ap marks (whole_syn g wf) in
    let size : syn g (nonterminal g.start) ≡ syn_between g (whole_production g) 0 1 = omega arith in
    record {
      production = whole;
      passed = 1;
      inherited = [];
      values = rs;
      below = [];
      base = [];
      rest = [];
      top = [];
      results = marks (syn_left g whole);
      stands = segment;
      node = record { inherited = values_none (inh_left g whole) (whole_inh g wf); passed = subst (λ n. Values n rs) size l.results; within = omega arith };
      due = ends refl refl;
      is_frames = ap (map (frame_of g)) (sym l.place);
      is_registers = ap (λ z. rs ++ (z ++ [])) none ∙ append-nil rs;
    }

pub fit_shaped : (g : Grammar) → WellFormed g → (ps : List ℕ) (rs : List ℤ) → ((x : Symbol) × WaitsAt g ps rs x) ⊎ Left g ps rs → Shaped g (map (frame_of g) ps) rs
fit_shaped g wf ps rs (inl w) = waiting_shaped g wf (waiting g wf w.1)
fit_shaped g wf ps rs (inr l) = left_shaped g wf ps rs l

-- and it waits
pub fit_waits : (g : Grammar) → WellFormed g → (ps : List ℕ) (rs : List ℤ) → ((x : Symbol) × WaitsAt g ps rs x) ⊎ Left g ps rs → T (Machine.waits (map (frame_of g) ps))
fit_waits g wf ps rs (inl w) = subst (λ fs. T (Machine.waits fs)) (waiting g wf w.1).is_frames tt
fit_waits g wf ps rs (inr l) = subst (λ z. T (Machine.waits (map (frame_of g) z))) (sym l.place) tt

-- ---- and back, where the machine waits

pub record AtStop (g : Grammar) (fs : List Frame) (rs : List ℤ) : Type 0 where
  pub fits : ((x : Symbol) × WaitsAt g (map (place_of g) fs) rs x) ⊎ Left g (map (place_of g) fs) rs
  pub back : map (frame_of g) (map (place_of g) fs) ≡ fs

pub record Waits (g : Grammar) (fs : List Frame) (rs : List ℤ) (x : Symbol) : Type 0 where
  pub places : WaitsAt g (map (place_of g) fs) rs x
  pub back : map (frame_of g) (map (place_of g) fs) ≡ fs

-- the place of a frame that waits, and the frame from that place
module _ (g : Grammar) (wf : WellFormed g) {p : ℕ} {fs : List Frame} {base : List ℤ} (st : StandsOnFrames g p fs base) (k : ℕ) (x : Symbol) (xs : List Symbol) (e : drop k (production_at g p).right ≡ x ∷ xs) where
  pub place_short : k < 256
  place_short = omega (arith, (drop_head k (production_at g p).right x (terminal 0) xs e).0, short g wf st)

  pub place_back : frame_of g (place_of g (frame p (wait_rest g p k x xs))) ≡ frame p (wait_rest g p k x xs)
  place_back = ap (frame_of g) (place_waits_lem g p k x xs e) ∙ frame_back g wf p k x xs (listed g st) place_short e

-- the whole segment waits at the start symbol
segment_waits : (g : Grammar) → WellFormed g → (k : ℕ) (vs ss : List ℤ) → Node g whole k vs ss → (x : Symbol) (xs : List Symbol) → drop k (production_at g whole).right ≡ x ∷ xs → (is : List ℤ) → Values (inh g x) is
    → WaitsAt g (place_of g (frame whole (wait_rest g whole k x xs)) ∷ []) ((is ++ marks (marked_for g x)) ++ node_registers ss vs (marks (syn_left g whole)) []) x
segment_waits g wf (suc k) vs ss nd x xs e is v = absurd (omega (arith, (drop_head (suc k) (production_at g whole).right x (terminal 0) xs e).0))
segment_waits g wf zero vs ss nd x xs e is v =
    let named : nonterminal g.start ≡ x = (drop_head 0 (production_at g whole).right x (terminal 0) xs e).1 in
    let no_syn : ss ≡ [] = none_of (syn_between g (production_at g whole) 0 0) ss (syn_from g (production_at g whole) 0) nd.passed in
    let no_inh : vs ≡ [] = none_of (inh_left g whole) vs (whole_inh g wf) nd.inherited in
    let own : node_registers ss vs (marks (syn_left g whole)) [] ≡ [] = ap₂ (λ a b. a ++ (b ++ (marks (syn_left g whole) ++ []))) no_syn no_inh ∙ ap (λ n. marks n ++ []) (whole_syn g wf) in
    let place : segment_place ≡ place_of g (frame whole (wait_rest g whole 0 x xs)) = sym (place_waits_lem g whole 0 x xs e) in
    let registers : is ++ marks (marked_for g x) ≡ (is ++ marks (marked_for g x)) ++ node_registers ss vs (marks (syn_left g whole)) [] = sym (append-nil (is ++ marks (marked_for g x))) ∙ ap (λ z. (is ++ marks (marked_for g x)) ++ z) (sym own) in
    subst₂ (λ n z. WaitsAt g (n ∷ []) z x) place registers (subst (λ y. Values (inh g y) is → WaitsAt g (segment_place ∷ []) (is ++ marks (marked_for g y)) y) named (Fit.segment is) v)

waits_on : (g : Grammar) → WellFormed g → {p : ℕ} {fs : List Frame} {base : List ℤ} → StandsOnFrames g p fs base → (k : ℕ) (vs ss : List ℤ) → Node g p k vs ss → (x : Symbol) (xs : List Symbol) → drop k (production_at g p).right ≡ x ∷ xs → (is : List ℤ) → Values (inh g x) is
    → Waits g (frame p (wait_rest g p k x xs) ∷ fs) ((is ++ marks (marked_for g x)) ++ node_registers ss vs (marks (syn_left g p)) base) x
waits_on g wf segment k vs ss nd x xs e is v = record { places = segment_waits g wf k vs ss nd x xs e is v; back = ap (λ f. f ∷ []) (place_back g wf segment k x xs e) }
waits_on g wf (inside {p} q j ys us ts {fs} {base} l d n s) k vs ss nd x xs e is v =
    let st : StandsOnFrames g p (frame q (wait_rest g q j (nonterminal (production_at g p).left) ys) ∷ fs) (node_registers ts us (marks (syn_left g q)) base) = inside q j ys us ts l d n s in
    let r = waits_on g wf s j us ts n (nonterminal (production_at g p).left) ys d vs nd.inherited in
    let h = drop_head k (production_at g p).right x (terminal 0) xs e in
    let named : symbol_at (production_at g p) (suc k) ≡ x = h.1 in
    let lower : List ℤ = node_registers ts us (marks (syn_left g q)) base in
    let under : List Frame = frame q (wait_rest g q j (nonterminal (production_at g p).left) ys) ∷ fs in
    let y : Symbol = symbol_at (production_at g p) (suc k) in
    let handed : Values (inh g y) is = subst (λ z. Values (inh g z) is) (sym named) v in
    let valued = subst (λ n. Values n ss) (syn_from g (production_at g p) k) nd.passed in
    let all : List ℤ = (is ++ marks (marked_for g y)) ++ (ss ++ ((vs ++ marks (syn_left g p)) ++ lower)) in
    let w : WaitsAt g ((p * 256 + k) ∷ map (place_of g) under) all y = Fit.inside p k is ss l h.0 (place_short g wf st k x xs e) handed valued r.places in
    let registers : all ≡ (is ++ marks (marked_for g x)) ++ (ss ++ (vs ++ (marks (syn_left g p) ++ lower))) = ap₂ (λ z zs. (is ++ marks (marked_for g z)) ++ (ss ++ zs)) named (append_assoc vs (marks (syn_left g p)) lower) in
    record {
      places = subst₂ (λ n z. WaitsAt g (n ∷ map (place_of g) under) z x) (sym (place_waits_lem g p k x xs e)) registers (subst (λ z. WaitsAt g ((p * 256 + k) ∷ map (place_of g) under) all z) named w);
      back = ap₂ (λ y ys. y ∷ ys) (place_back g wf st k x xs e) r.back;
    }

-- ---- a configuration of the shape that waits

-- the start symbol is left: only its values stand
ended : (g : Grammar) → WellFormed g → {p : ℕ} {fs : List Frame} {base : List ℤ} → StandsOnFrames g p fs base → (k : ℕ) (vs ss : List ℤ) → Node g p k vs ss
    → drop k (production_at g p).right ≡ [] → p ≡ whole → (fs ≡ []) × Values (syn g (nonterminal g.start)) (node_registers ss vs (marks (syn_left g p)) base)
ended g wf (inside {p} q j ys us ts l d n s) k vs ss nd e w = absurd (omega (arith, wf.productions.1, l, w))
ended g wf segment k vs ss nd e w =
    let z : k ≡ 1 = omega (arith, drop_over k (production_at g whole).right e, nd.within) in
    let size : syn_between g (production_at g whole) 0 k ≡ syn g (nonterminal g.start) = ap (syn_between g (production_at g whole) 0) z ∙ omega arith in
    let no_inh : vs ≡ [] = none_of (inh_left g whole) vs (whole_inh g wf) nd.inherited in
    let registers : ss ≡ node_registers ss vs (marks (syn_left g whole)) [] = sym (append-nil ss) ∙ ap₂ (λ a b. ss ++ (a ++ (b ++ []))) (sym no_inh) (sym (ap marks (whole_syn g wf))) in
    (refl, subst (λ rs. Values (syn g (nonterminal g.start)) rs) registers (subst (λ n. Values n ss) size nd.passed))

ended_stop : (g : Grammar) (p : ℕ) (fs : List Frame) (rs : List ℤ) → p ≡ whole → fs ≡ [] → Values (syn g (nonterminal g.start)) rs → AtStop g (frame p [] ∷ fs) rs
ended_stop g p fs rs w e v = subst₂ (λ n hs. AtStop g (frame n [] ∷ hs) rs) (sym w) (sym e) (record { fits = inr (record { place = refl; results = v }); back = refl })

stop_due : (g : Grammar) → WellFormed g → {p : ℕ} {fs : List Frame} {base : List ℤ} → StandsOnFrames g p fs base → (k : ℕ) (vs ss : List ℤ) → Node g p k vs ss
    → {rest : List Instruction} {top results : List ℤ} → Due g p k rest top results → T (Machine.needs_look rest) → AtStop g (frame p rest ∷ fs) (top ++ node_registers ss vs results base)
stop_due g wf st k vs ss nd (adds x xs e) w = absurd w
stop_due g wf st k vs ss nd (hands x xs e) w = absurd w
stop_due g wf st k vs ss nd (waits x xs is e v) w = let r = waits_on g wf st k vs ss nd x xs e is v in record { fits = inl (x, r.places); back = r.back }
stop_due g wf st k vs ss nd (tests xs e) w = absurd w
stop_due g wf st k vs ss nd (closes e n) w = absurd w
stop_due g wf st k vs ss nd (removes rs e n v) w = absurd w
stop_due g wf st k vs ss nd (ends e n) w = let r = ended g wf st k vs ss nd e n in ended_stop g _ _ _ n r.0 r.1

pub at_stop : (g : Grammar) → WellFormed g → (fs : List Frame) (rs : List ℤ) → Shaped g fs rs → T (Machine.waits fs) → AtStop g fs rs
at_stop g wf fs rs s w = subst₂ (λ a b. AtStop g a b) s.is_frames s.is_registers (stop_due g wf s.stands s.passed s.inherited s.values s.node s.due (subst (λ z. T (Machine.waits z)) (sym s.is_frames) w))

-- the segment's value is in range
ended_due : (g : Grammar) → WellFormed g → {p : ℕ} {fs : List Frame} {base : List ℤ} → StandsOnFrames g p fs base → (k : ℕ) (vs ss : List ℤ) → Node g p k vs ss
    → {rest : List Instruction} {top results : List ℤ} → Due g p k rest top results → rest ≡ [] → Values (syn g (nonterminal g.start)) (top ++ node_registers ss vs results base)
ended_due g wf st k vs ss nd (adds x xs e) z = absurd (cons≢nil z)
ended_due g wf st k vs ss nd (hands x xs e) z = absurd (cons≢nil z)
ended_due g wf st k vs ss nd (waits x xs is e v) z = absurd (cons≢nil z)
ended_due g wf st k vs ss nd (tests xs e) z = absurd (cons≢nil z)
ended_due g wf st k vs ss nd (closes e n) z = absurd (cons≢nil z)
ended_due g wf st k vs ss nd (removes rs e n v) z = absurd (cons≢nil z)
ended_due g wf st k vs ss nd (ends e n) z = (ended g wf st k vs ss nd e n).1

no_rest : (c : Config) (p : ℕ) (rest : List Instruction) (fs : List Frame) → frame p rest ∷ fs ≡ c.frames → T (is_finished c) → rest ≡ []
no_rest c p rest fs e t = go rest (subst (λ z. T (elim z as (λ x. Bool) [ [] ↦ false | f ∷ hs ↦ eqb f.production whole && is_empty f.rest ])) (sym e) t)
  where
    go : (is : List Instruction) → T (eqb p whole && is_empty is) → is ≡ []
    go [] t = refl
    go (i ∷ is) t = absurd (both (eqb p whole) false t).1

pub result_ranged : (g : Grammar) → WellFormed g → (c : Config) → Shaped g c.frames c.registers → T (is_finished c) → T (in_range (result g c))
result_ranged g wf c s t =
    let z : s.rest ≡ [] = no_rest c s.production s.rest s.below s.is_frames t in
    let v : Values (syn g (nonterminal g.start)) c.registers = subst (λ rs. Values (syn g (nonterminal g.start)) rs) s.is_registers (ended_due g wf s.stands s.passed s.inherited s.values s.node s.due z) in
    all_at in_range c.registers (g.result - 1) mark (omega (arith, v.size, wf.result.0, wf.result.1)) v.ranged
