-- What the functions of the walk rely on and leave, over cells of which the first ones are lent, and the numbers.
use Rattle.std.specs.Prelude.{ℕ, ◌+◌, ◌-◌, ◌*◌, ◌≤◌, ◌<◌, ◌≡◌, refl, Bool, true, false, List, ◌++◌, length, get_or, set, take, drop, ℤ}
use Rattle.std.proofs.Common.{arith, sym, ap, ◌∙◌, subst, get_or-set_same}
use Rattle.meaning.specs.Program.{predict_operation, remove_operation, read_operation}
use Rattle.meaning.specs.Limits.{registers_limit, attributes_limit, symbols_limit}
use Rattle.theory_program.specs.Parts.{head_operation}
use Rattle.theory_program.specs.Proper.{att_most}
use Rattle.run_moves.specs.Held.{bounds}
use Rattle.run_machine.specs.Advancing.{Ended}
use Rattle.sheet.specs.declared.tree.nodes.Counts.{Counts}
use Rattle.sheet.specs.tree.moves.NodeInMemory.{Walking, IsLook}
use Rattle.sheet.specs.tree.nodes.Counting.{left_of, Counted}
use Rattle.sheet.specs.tree.nodes.Recording.{Inner}
use Rattle.sheet.specs.tree.steps.Numbers.{Walked, Left, run_in, walked_in, walked_as, Rests, Small, low, Fits, Kept, AnswerWritten, kept_fits, kept_on, kept_low, fits_low, low_written, long_written, run_apart, kept_apart}
use Rattle.sheet.specs.tree.steps.Leaving.{Leaves}
use Rattle.sheet.specs.tree.steps.Cycle.{NodeAt, NodeDone, ListAt, ListDone, Passes, Opens, opens_counted, enters_inner, none_listed, list_more}
use Rattle.sheet.specs.tree.steps.Cycle.{list_more_at, list_places, rests_look, opened_inside, entered_places, node_list_at, leaving_inner, leaving_five, leaving_tokens, node_list_fails, node_left}

-- the operation at hand
abbrev pub hand_in : List ℕ → List ℕ → ℕ
hand_in ws s = head_operation (get_or ws (get_or s 4 0) 0)

pub record PassAt (ws ks : List ℕ) (vs m : List ℤ) (ps s : List ℕ) : Type 0 where
  pub walking : Walking ws ks vs (low 6 s m) (low 7 s ps) (run_in s)
  pub look : IsLook (hand_in ws s)
  pub fits : Fits m ps s

pub record PassOut (ws ks : List ℕ) (vs m₀ : List ℤ) (ps₀ s₀ : List ℕ) (m : List ℤ) (ps : List ℕ) (r : Bool) (s : List ℕ) : Type 0 where
  pub passes : Passes ws ks vs (low 6 s₀ m₀) (low 7 s₀ ps₀) (run_in s₀) (get_or s₀ 5 0) (low 6 s m) (low 7 s ps) (walked_in r s)
  pub rests : Rests ws (walked_in r s)
  pub kept : Kept m₀ ps₀ s₀ m ps s
  pub small : Small r s

pub record EnterAt (ws ks : List ℕ) (vs m : List ℤ) (ps s : List ℕ) : Type 0 where
  pub walking : Walking ws ks vs (low 6 s m) (low 7 s ps) (run_in s)
  pub three : hand_in ws s ≡ predict_operation
  pub room : get_or s 5 0 < 800000000000
  pub fits : Fits m ps s

pub record Opened (ws ks : List ℕ) (vs m₀ : List ℤ) (ps₀ s₀ : List ℕ) (m : List ℤ) (ps : List ℕ) (r : Bool) (s : List ℕ) : Type 0 where
  pub opens : Opens ws ks vs (low 6 s₀ m₀) (low 7 s₀ ps₀) (run_in s₀) (get_or s₀ 5 0) (low 6 s m) (low 7 s ps) (walked_in r s)
  pub rests : Rests ws (walked_in r s)
  pub kept : Kept m₀ ps₀ s₀ m ps s
  pub small : Small r s

pub record LeaveAt (ws : List ℕ) (m : List ℤ) (ps s : List ℕ) (at before : ℕ) : Type 0 where
  pub inner : Inner ws (low 6 s m) (low 7 s ps) (run_in s)
  pub five : hand_in ws s ≡ remove_operation
  pub room : at < 800000000000
  pub earlier : before ≤ get_or s 0 0
  pub few : length (low 6 s m) ≤ registers_limit
  pub fits : Fits m ps s

pub record LeftBy (ws : List ℕ) (m₀ : List ℤ) (ps₀ s₀ : List ℕ) (at before : ℕ) (sheet₀ : List ℕ) (m : List ℤ) (ps sheet : List ℕ) (r : Bool) (s : List ℕ) : Type 0 where
  pub leaves : Leaves ws (low 6 s₀ m₀) (low 7 s₀ ps₀) (run_in s₀) at before (get_or s₀ 5 0) sheet₀ (low 6 s m) (low 7 s ps) sheet (walked_in r s)
  pub rests : Rests ws (walked_in r s)
  pub kept : Kept m₀ ps₀ s₀ m ps s
  pub small : Small r s

pub record NodeIn (ws ks : List ℕ) (vs m : List ℤ) (ps s : List ℕ) : Type 0 where
  pub ready : NodeAt ws ks vs (low 6 s m) (low 7 s ps) (run_in s) (get_or s 5 0)
  pub fits : Fits m ps s

pub record NodeOut (ws ks : List ℕ) (vs m₀ : List ℤ) (ps₀ s₀ sheet₀ : List ℕ) (m : List ℤ) (ps sheet : List ℕ) (r : Bool) (s : List ℕ) : Type 0 where
  pub done : NodeDone ws ks vs (low 6 s₀ m₀) (low 7 s₀ ps₀) (run_in s₀) (get_or s₀ 5 0) sheet₀ (low 6 s m) (low 7 s ps) sheet (walked_in r s)
  pub rests : Rests ws (walked_in r s)
  pub kept : Kept m₀ ps₀ s₀ m ps s
  pub small : Small r s

pub record ListIn (ws ks : List ℕ) (vs m : List ℤ) (ps s : List ℕ) (symbols : ℕ) : Type 0 where
  pub ready : ListAt ws ks vs (low 6 s m) (low 7 s ps) (run_in s) (get_or s 5 0) symbols
  pub look : IsLook (hand_in ws s)
  pub fits : Fits m ps s

-- the depth that is left: the places that are lent and do not wait
abbrev pub depth_left : List ℕ → ℕ
depth_left s = get_or s 7 0 - get_or s 3 0

pub record ListOut (ws ks : List ℕ) (vs m₀ : List ℤ) (ps₀ s₀ sheet₀ : List ℕ) (m : List ℤ) (ps sheet : List ℕ) (r : Bool) (s : List ℕ) : Type 0 where
  pub done : ListDone ws ks vs (low 6 s₀ m₀) (low 7 s₀ ps₀) (run_in s₀) (get_or s₀ 5 0) sheet₀ (low 6 s m) (low 7 s ps) sheet (walked_in r s)
  pub kept : Kept m₀ ps₀ s₀ m ps s
  pub small : Small r s

-- ---- from the cells that are lent to all of them

module _ {m₀ : List ℤ} {ps₀ s₀ : List ℕ} (f : Fits m₀ ps₀ s₀) (m₁ : List ℤ) (ps₁ : List ℕ) (d : length m₁ ≡ length (low 6 s₀ m₀)) (e : length ps₁ ≡ length (low 7 s₀ ps₀)) (ended : Ended) (r : Bool) (s : List ℕ) (t : AnswerWritten s₀ ended r s) where
  abbrev m : List ℤ
  m = m₁ ++ drop (get_or s₀ 6 0) m₀

  abbrev ps : List ℕ
  ps = ps₁ ++ drop (get_or s₀ 7 0) ps₀

  pub all_kept : Kept m₀ ps₀ s₀ m ps s
  all_kept = record { eight = t.eight; registers = t.registers; places = t.places; long = long_written (get_or s₀ 6 0) m₁ m₀ d f.registers; long_places = long_written (get_or s₀ 7 0) ps₁ ps₀ e f.places }

  pub all_low : (P : List ℤ → List ℕ → Walked → Type 0) → P m₁ ps₁ (walked_as ended (get_or s₀ 5 0)) → P (low 6 s m) (low 7 s ps) (walked_in r s)
  all_low P p =
      let a : m₁ ≡ low 6 s m = sym (ap (λ n. take n m) t.registers ∙ low_written (get_or s₀ 6 0) m₁ m₀ (d ∙ (fits_low f).0)) in
      let b : ps₁ ≡ low 7 s ps = sym (ap (λ n. take n ps) t.places ∙ low_written (get_or s₀ 7 0) ps₁ ps₀ (e ∙ (fits_low f).1)) in
      subst (λ w. P (low 6 s m) (low 7 s ps) w) (sym t.walked) (subst (λ y. P (low 6 s m) y (walked_as ended (get_or s₀ 5 0))) b (subst (λ x. P x ps₁ (walked_as ended (get_or s₀ 5 0))) a p))

  pub pass_whole : (ws ks : List ℕ) (vs : List ℤ) → Passes ws ks vs (low 6 s₀ m₀) (low 7 s₀ ps₀) (run_in s₀) (get_or s₀ 5 0) m₁ ps₁ (walked_as ended (get_or s₀ 5 0)) → Rests ws (walked_as ended (get_or s₀ 5 0)) → PassOut ws ks vs m₀ ps₀ s₀ m ps r s
  pass_whole ws ks vs p q = record { passes = all_low (Passes ws ks vs (low 6 s₀ m₀) (low 7 s₀ ps₀) (run_in s₀) (get_or s₀ 5 0)) p; rests = all_low (λ x y w. Rests ws w) q; kept = all_kept; small = t.small }

  pub left_whole : (ws : List ℕ) (at before : ℕ) (sheet₀ sheet : List ℕ) → Leaves ws (low 6 s₀ m₀) (low 7 s₀ ps₀) (run_in s₀) at before (get_or s₀ 5 0) sheet₀ m₁ ps₁ sheet (walked_as ended (get_or s₀ 5 0)) → Rests ws (walked_as ended (get_or s₀ 5 0)) → LeftBy ws m₀ ps₀ s₀ at before sheet₀ m ps sheet r s
  left_whole ws at before sheet₀ sheet p q = record { leaves = all_low (λ x y w. Leaves ws (low 6 s₀ m₀) (low 7 s₀ ps₀) (run_in s₀) at before (get_or s₀ 5 0) sheet₀ x y sheet w) p; rests = all_low (λ x y w. Rests ws w) q; kept = all_kept; small = t.small }

-- ---- a node is entered

module _ {ws ks : List ℕ} {vs m₀ : List ℤ} {ps₀ s₀ : List ℕ} (three : hand_in ws s₀ ≡ predict_operation) {m : List ℤ} {ps s : List ℕ} where
  pub enter_fails : PassOut ws ks vs m₀ ps₀ s₀ m ps false s → Opened ws ks vs m₀ ps₀ s₀ m ps false s
  enter_fails p = record { opens = p.passes.1 three; rests = tt; kept = p.kept; small = p.small }

  -- the room of a record is small, and nothing was written yet
  pub enter_few : Walking ws ks vs (low 6 s₀ m₀) (low 7 s₀ ps₀) (run_in s₀) → PassOut ws ks vs m₀ ps₀ s₀ m ps true s → (r : Counts) → Counted ws (low 7 s ps) (run_in s) r → (r.total ≤ attributes_limit) × (get_or s 5 0 ≡ get_or s₀ 5 0)
  enter_few w p r k =
      let x = p.passes.1 three in
      let i = enters_inner ks vs (get_or s₀ 5 0) (low 6 s m) (low 7 s ps) (run_in s) (get_or s 5 0) x w in
      let most : r.total ≤ attributes_limit = omega (arith, (k i.grammar i.lent i.tokens (low 6 s m) i.config i.node i.parent i.below i.held i.stand).1, att_most i.grammar i.held.well_formed (left_of i.grammar i.node)) in
      (most, (x w.grammar w.lent w.config w.node w.below w.even w.four w.held w.stand).1)

  pub enter_opens : PassOut ws ks vs m₀ ps₀ s₀ m ps true s → (r : Counts) → Counted ws (low 7 s ps) (run_in s) r → Opened ws ks vs m₀ ps₀ s₀ m ps true (set s 5 (get_or s 5 0 + (12 + 8 * r.total)))
  enter_opens p r k =
      let v = get_or s 5 0 + (12 + 8 * r.total) in
      let s₁ = set s 5 v in
      let a = kept_apart m ps s v p.kept.eight in
      let run : run_in s ≡ run_in s₁ = sym (run_apart s v) in
      let end : v ≡ get_or s₁ 5 0 = sym (get_or-set_same s 5 v 0 (omega (arith, p.kept.eight))) in
      let left : Left (run_in s) v ≡ walked_in true s₁ = (λ i. Left (run i) (end i)) in
      let o = opens_counted ks vs (get_or s₀ 5 0) (low 6 s m) (low 7 s ps) (run_in s) (get_or s 5 0) (p.passes.1 three) r k in
      record {
        opens = subst (λ x. Opens ws ks vs (low 6 s₀ m₀) (low 7 s₀ ps₀) (run_in s₀) (get_or s₀ 5 0) x (low 7 s₁ ps) (walked_in true s₁)) (ap (λ n. take n m) (sym a.registers))
            (subst (λ x. Opens ws ks vs (low 6 s₀ m₀) (low 7 s₀ ps₀) (run_in s₀) (get_or s₀ 5 0) (low 6 s m) x (walked_in true s₁)) (ap (λ n. take n ps) (sym a.places))
            (subst (λ w. Opens ws ks vs (low 6 s₀ m₀) (low 7 s₀ ps₀) (run_in s₀) (get_or s₀ 5 0) (low 6 s m) (low 7 s ps) w) left o));
        rests = subst (λ w. Rests ws w) left p.rests;
        kept = kept_on p.kept a;
        small = tt;
      }

-- ---- a list: its first child, then the rest

pub kept_same : {m : List ℤ} {ps s : List ℕ} → Fits m ps s → Kept m ps s m ps s
kept_same f = record { eight = f.eight; registers = refl; places = refl; long = refl; long_places = refl }

-- a token as a child: nothing is written
pub pass_out : {ws ks : List ℕ} {vs m₀ : List ℤ} {ps₀ s₀ : List ℕ} (sheet₀ : List ℕ) {m : List ℤ} {ps : List ℕ} {r : Bool} {s : List ℕ} → hand_in ws s₀ ≡ read_operation → PassOut ws ks vs m₀ ps₀ s₀ m ps r s → NodeOut ws ks vs m₀ ps₀ s₀ sheet₀ m ps sheet₀ r s
pass_out sheet₀ two p = record { done = p.passes.0 two sheet₀; rests = p.rests; kept = p.kept; small = p.small }

-- the same cells, sheet, answer and numbers
pub node_out_as : {ws ks : List ℕ} {vs m₀ : List ℤ} {ps₀ s₀ sheet₀ : List ℕ} {m m' : List ℤ} {ps ps' sheet sheet' s s' : List ℕ} {r r' : Bool}
    → m' ≡ m → ps' ≡ ps → sheet' ≡ sheet → s' ≡ s → r' ≡ r → NodeOut ws ks vs m₀ ps₀ s₀ sheet₀ m ps sheet r s → NodeOut ws ks vs m₀ ps₀ s₀ sheet₀ m' ps' sheet' r' s'
node_out_as {ws} {ks} {vs} {m₀} {ps₀} {s₀} {sheet₀} {m} {m'} {ps} {ps'} {sheet} {sheet'} {s} {s'} {r} {r'} a b c d e x =
    subst (λ z. NodeOut ws ks vs m₀ ps₀ s₀ sheet₀ m' ps' sheet' r' z) (sym d)
    (subst (λ z. NodeOut ws ks vs m₀ ps₀ s₀ sheet₀ m' ps' sheet' z s) (sym e)
    (subst (λ z. NodeOut ws ks vs m₀ ps₀ s₀ sheet₀ m' ps' z r s) (sym c)
    (subst (λ z. NodeOut ws ks vs m₀ ps₀ s₀ sheet₀ m' z sheet r s) (sym b)
    (subst (λ z. NodeOut ws ks vs m₀ ps₀ s₀ sheet₀ z ps sheet r s) (sym a) x))))

module _ {ws ks : List ℕ} {vs m₀ : List ℤ} {ps₀ s₀ : List ℕ} {symbols : ℕ} (q : ListIn ws ks vs m₀ ps₀ s₀ symbols) {sheet₀ : List ℕ} {m : List ℤ} {ps sheet s : List ℕ} (n : NodeOut ws ks vs m₀ ps₀ s₀ sheet₀ m ps sheet true s) where
  pub child_inside : get_or s 4 0 < length ws
  child_inside =
      let w = q.ready.walking in
      (bounds (n.done w.grammar w.lent w.config w.node w.below w.even w.four w.held w.stand).held).inside

  pub child_over : remove_operation ≤ hand_in ws s → ListOut ws ks vs m₀ ps₀ s₀ sheet₀ m ps sheet true s
  child_over l = record { done = list_more ks vs (get_or s₀ 5 0) sheet₀ (low 6 s m) (low 7 s ps) sheet (run_in s) (get_or s 5 0) n.done (low 6 s m) (low 7 s ps) sheet (walked_in true s) (none_listed ks vs (low 6 s m) (low 7 s ps) (run_in s) (get_or s 5 0) sheet l); kept = n.kept; small = tt }

  pub child_more_in : hand_in ws s < remove_operation → ListIn ws ks vs m ps s (symbols - 1)
  child_more_in l = record { ready = list_more_at q.ready sheet₀ (low 6 s m) (low 7 s ps) sheet (run_in s) (get_or s 5 0) n.done q.look (kept_low q.fits n.kept).0; look = rests_look (hand_in ws s) n.rests l; fits = kept_fits q.fits n.kept }

  pub child_depth : depth_left s ≡ depth_left s₀
  child_depth =
      let same = list_places q.ready sheet₀ (low 6 s m) (low 7 s ps) sheet (run_in s) (get_or s 5 0) n.done in
      omega (arith, same, n.kept.places)

  pub child_more : {m' : List ℤ} {ps' sheet' : List ℕ} {r : Bool} {s' : List ℕ} → ListOut ws ks vs m ps s sheet m' ps' sheet' r s' → ListOut ws ks vs m₀ ps₀ s₀ sheet₀ m' ps' sheet' r s'
  child_more {m'} {ps'} {sheet'} {r} {s'} l = record { done = list_more ks vs (get_or s₀ 5 0) sheet₀ (low 6 s m) (low 7 s ps) sheet (run_in s) (get_or s 5 0) n.done (low 6 s' m') (low 7 s' ps') sheet' (walked_in r s') l.done; kept = kept_on n.kept l.kept; small = l.small }

pub child_fails : {ws ks : List ℕ} {vs m₀ : List ℤ} {ps₀ s₀ sheet₀ : List ℕ} {m : List ℤ} {ps sheet s : List ℕ} → NodeOut ws ks vs m₀ ps₀ s₀ sheet₀ m ps sheet false s → ListOut ws ks vs m₀ ps₀ s₀ sheet₀ m ps sheet false s
child_fails n = record { done = n.done; kept = n.kept; small = n.small }

-- ---- a node: it is entered, its children are passed, it is left

pub node_enter : {ws ks : List ℕ} {vs m₀ : List ℤ} {ps₀ s₀ : List ℕ} → NodeIn ws ks vs m₀ ps₀ s₀ → EnterAt ws ks vs m₀ ps₀ s₀
node_enter q = record { walking = q.ready.walking; three = q.ready.three; room = omega (arith, q.ready.room, (bounds q.ready.walking.held).moves); fits = q.fits }

pub enter_out : {ws ks : List ℕ} {vs m₀ : List ℤ} {ps₀ s₀ : List ℕ} (sheet₀ : List ℕ) {m : List ℤ} {ps s : List ℕ} → Opened ws ks vs m₀ ps₀ s₀ m ps false s → NodeOut ws ks vs m₀ ps₀ s₀ sheet₀ m ps sheet₀ false s
enter_out sheet₀ o = record { done = o.opens; rests = tt; kept = o.kept; small = o.small }

module _ {ws ks : List ℕ} {vs m₀ : List ℤ} {ps₀ s₀ : List ℕ} (q : NodeIn ws ks vs m₀ ps₀ s₀) {m₁ : List ℤ} {ps₁ s₁ : List ℕ} (o : Opened ws ks vs m₀ ps₀ s₀ m₁ ps₁ true s₁) where
  abbrev k : ℕ
  k = get_or s₀ 5 0

  pub open_inside : get_or s₁ 4 0 < length ws
  open_inside = opened_inside ks vs k (low 6 s₁ m₁) (low 7 s₁ ps₁) (run_in s₁) (get_or s₁ 5 0) o.opens q.ready

  pub open_depth : depth_left s₀ ≡ depth_left s₁ + 1
  open_depth =
      let e = entered_places ks vs k (low 6 s₁ m₁) (low 7 s₁ ps₁) (run_in s₁) (get_or s₁ 5 0) o.opens q.ready in
      let f = (fits_low (kept_fits q.fits o.kept)).1 in
      omega (arith, e.0, e.1, f, o.kept.places)

  pub open_list : hand_in ws s₁ < remove_operation → ListIn ws ks vs m₁ ps₁ s₁ symbols_limit
  open_list l = record { ready = node_list_at ks vs k (low 6 s₁ m₁) (low 7 s₁ ps₁) (run_in s₁) (get_or s₁ 5 0) o.opens q.ready (kept_low q.fits o.kept).0; look = rests_look (hand_in ws s₁) o.rests l; fits = kept_fits q.fits o.kept }

  -- no child at all
  pub open_none : (sheet₀ : List ℕ) → remove_operation ≤ hand_in ws s₁ → ListOut ws ks vs m₁ ps₁ s₁ sheet₀ m₁ ps₁ sheet₀ true s₁
  open_none sheet₀ l = record { done = none_listed ks vs (low 6 s₁ m₁) (low 7 s₁ ps₁) (run_in s₁) (get_or s₁ 5 0) sheet₀ l; kept = kept_same (kept_fits q.fits o.kept); small = tt }

  pub open_fails : {sheet₀ : List ℕ} {m : List ℤ} {ps sheet s : List ℕ} → ListOut ws ks vs m₁ ps₁ s₁ sheet₀ m ps sheet false s → NodeOut ws ks vs m₀ ps₀ s₀ sheet₀ m ps sheet false s
  open_fails {sheet₀} {m} {ps} {sheet} {s} l = record { done = node_list_fails ks vs k (low 6 s₁ m₁) (low 7 s₁ ps₁) (run_in s₁) (get_or s₁ 5 0) o.opens sheet₀ (low 6 s m) (low 7 s ps) sheet (run_in s) (get_or s 5 0) l.done; rests = tt; kept = kept_on o.kept l.kept; small = l.small }

  module _ {sheet₀ : List ℕ} {m₂ : List ℤ} {ps₂ sheet₂ s₂ : List ℕ} (l : ListOut ws ks vs m₁ ps₁ s₁ sheet₀ m₂ ps₂ sheet₂ true s₂) where
    pub leave_at : LeaveAt ws m₂ ps₂ s₂ (get_or s₀ 5 0) (get_or s₀ 0 0)
    leave_at =
        let f = kept_fits (kept_fits q.fits o.kept) l.kept in
        record {
          inner = leaving_inner ks vs k (low 6 s₁ m₁) (low 7 s₁ ps₁) (run_in s₁) (get_or s₁ 5 0) o.opens q.ready sheet₀ (low 6 s₂ m₂) (low 7 s₂ ps₂) sheet₂ (run_in s₂) (get_or s₂ 5 0) l.done;
          five = leaving_five ks vs k (low 6 s₁ m₁) (low 7 s₁ ps₁) (run_in s₁) (get_or s₁ 5 0) o.opens q.ready sheet₀ (low 6 s₂ m₂) (low 7 s₂ ps₂) sheet₂ (run_in s₂) (get_or s₂ 5 0) l.done;
          room = omega (arith, q.ready.room, (bounds q.ready.walking.held).moves);
          earlier = leaving_tokens ks vs k (low 6 s₁ m₁) (low 7 s₁ ps₁) (run_in s₁) (get_or s₁ 5 0) o.opens q.ready sheet₀ (low 6 s₂ m₂) (low 7 s₂ ps₂) sheet₂ (run_in s₂) (get_or s₂ 5 0) l.done;
          few = omega (arith, q.ready.few, (kept_low q.fits (kept_on o.kept l.kept)).0);
          fits = f;
        }

    pub left_out : {m : List ℤ} {ps sheet : List ℕ} {r : Bool} {s : List ℕ} → LeftBy ws m₂ ps₂ s₂ (get_or s₀ 5 0) (get_or s₀ 0 0) sheet₂ m ps sheet r s → NodeOut ws ks vs m₀ ps₀ s₀ sheet₀ m ps sheet r s
    left_out {m} {ps} {sheet} {r} {s} v = record {
      done = node_left ks vs k (low 6 s₁ m₁) (low 7 s₁ ps₁) (run_in s₁) (get_or s₁ 5 0) o.opens sheet₀ (low 6 s₂ m₂) (low 7 s₂ ps₂) sheet₂ (run_in s₂) (get_or s₂ 5 0) l.done (low 6 s m) (low 7 s ps) sheet (walked_in r s) v.leaves;
      rests = v.rests;
      kept = kept_on o.kept (kept_on l.kept v.kept);
      small = v.small;
    }
