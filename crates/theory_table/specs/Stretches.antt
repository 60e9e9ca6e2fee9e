-- The bytes of a table from its productions on: each production's stretch, from its tag 3 to the next or the end, with the offset at which it stands.
use Rattle.std.specs.Prelude.{ℕ, zero, suc, ◌+◌, ◌*◌, ◌<◌, ◌≡◌, refl, length, get_or, drop}
use Rattle.std.proofs.Common.{arith, sym, ap, ◌∙◌, subst, length-append, drop-drop, T_not}
use mathlib.Core.List.{List, [], ◌∷◌, ◌++◌, map, reverse, reverse-cons, reverse-reverse, append_assoc, append-nil}
use Rattle.std.proofs.Math.Seq.{drop-append_seam}
use Rattle.meaning.specs.Grammar.{Occurrence, Rule, Condition}
use Rattle.meaning.specs.Layout as Layout
use Rattle.meaning.specs.Layout.{field, production_bytes, rule_bytes, condition_bytes, RulesAndConditions, Productions, Bytes}
use Rattle.meaning.specs.Table.{State, Entry, no_entry, header, counts, production, rule, condition, carrier, is_some, byte, symbol_of, rule_of, condition_of, with_rule, with_condition, on_current, production_of}
use Rattle.theory_base.specs.Members.{one_more}
use Rattle.theory_table.specs.Reading.{Reads, over, more, Faultless, Full}
use Rattle.theory_table.specs.Bodies.{field_is, low_small, body_bytes, rest_bytes, rule_body, condition_body, production_body, production_length}

-- the bytes of these entries, in their order, from an offset on
pub data Stretches : List Entry → ℕ → List ℕ → Type 0 where
  nothing : {o : ℕ} → Stretches [] o []
  stretch : (e : Entry) {es : List Entry} {body rest : List ℕ} → RulesAndConditions (production_of e).rules (production_of e).conditions body
      → Stretches es (e.offset + length (field 3 (production_bytes (production_of e)) ++ body)) rest
      → Stretches (e ∷ es) e.offset (field 3 (production_bytes (production_of e)) ++ (body ++ rest))

pub stretched_productions : {es : List Entry} {o : ℕ} {bs : List ℕ} → Stretches es o bs → Productions (map production_of es) bs
stretched_productions nothing = Layout.nothing
stretched_productions (stretch e own later) = Layout.production (production_of e) own (stretched_productions later)

-- ---- what is left to read in a state whose latest production is e

abbrev grown : Entry → List (Rule Occurrence) → List (Condition Occurrence) → Entry
grown e rs cs = record { offset = e.offset; left = e.left; right = e.right; rules = reverse rs ++ e.rules; conditions = reverse cs ++ e.conditions }

pub record Rest (s : State) (o : ℕ) (e : Entry) (es : List Entry) (bs : List ℕ) (u : State) : Type 0 where
  pub rules : List (Rule Occurrence)
  pub conditions : List (Condition Occurrence)
  pub later : List Entry
  pub body : List ℕ
  pub rest : List ℕ
  pub own : RulesAndConditions rules conditions body
  pub others : Stretches later (o + length body) rest
  pub is_rest : bs ≡ body ++ rest
  pub is_read : reverse u.entries ≡ reverse es ++ (grown e rules conditions ∷ later)
  pub header : u.header ≡ s.header
  pub counts : u.counts ≡ s.counts
  pub carrying : u.carrying ≡ s.carrying

abbrev pub entry_of : ℕ → List ℕ → Entry
entry_of o b = record { offset = o; left = byte b 0; right = map symbol_of (drop 2 b); rules = []; conditions = [] }

-- a production's field and what follows it
pub record NextStretch (o : ℕ) (es : List Entry) (bs : List ℕ) (s u : State) : Type 0 where
  pub later : List Entry
  pub others : Stretches later o bs
  pub is_read : reverse u.entries ≡ reverse es ++ later
  pub header : u.header ≡ s.header
  pub counts : u.counts ≡ s.counts
  pub carrying : u.carrying ≡ s.carrying

turned : {A : Type 0} (xs : List A) → xs ≡ reverse (reverse xs ++ [])
turned xs = sym (ap reverse (append-nil (reverse xs)) ∙ reverse-reverse xs)

pub next_stretch : (s s' u : State) (o high low : ℕ) (b rest : List ℕ) (es : List Entry) → Bytes (3 ∷ high ∷ low ∷ b ++ rest) → high * 256 + low ≡ length b → Faultless s production b
    → s'.header ≡ s.header → s'.counts ≡ s.counts → s'.carrying ≡ s.carrying → Rest s' (o + 3 + length b) (entry_of o b) es rest u
    → NextStretch o es (3 ∷ high ∷ low ∷ b ++ rest) s u
next_stretch s s' u o high low b rest es h c p hd cs ws i =
    let e : Entry = grown (entry_of o b) i.rules i.conditions in
    let pb : List ℕ = production_bytes (production_of e) in
    let same : b ≡ pb = production_body b (production_length s b p) in
    let own : RulesAndConditions (production_of e).rules (production_of e).conditions i.body = subst (λ z. RulesAndConditions (production_of e).rules z i.body) (turned i.conditions) (subst (λ z. RulesAndConditions z i.conditions i.body) (turned i.rules) i.own) in
    let place : o + 3 + length b + length i.body ≡ o + length (field 3 pb ++ i.body) = omega (arith, ap length same, length-append pb i.body) in
    let all : Stretches (e ∷ i.later) o (field 3 pb ++ (i.body ++ i.rest)) = stretch e own (subst (λ z. Stretches i.later z i.rest) place i.others) in
    let bytes : 3 ∷ high ∷ low ∷ b ++ rest ≡ field 3 pb ++ (i.body ++ i.rest) = field_is 3 high low b pb rest (low_small 3 high low b rest h) c same ∙ ap (λ z. field 3 pb ++ z) i.is_rest in
    record { later = e ∷ i.later; others = subst (Stretches (e ∷ i.later) o) (sym bytes) all; is_read = i.is_read; header = i.header ∙ hd; counts = i.counts ∙ cs; carrying = i.carrying ∙ ws }

pub rest_of : {s u : State} {o : ℕ} {bs : List ℕ} → Reads s o bs u → (e : Entry) (es : List Entry) → s.entries ≡ e ∷ es → Full s → Bytes bs → Rest s o e es bs u
rest_of {s} (over f l t) e es q _ h = record {
  rules = [];
  conditions = [];
  later = [];
  body = [];
  rest = [];
  own = Layout.nothing;
  others = nothing;
  is_rest = refl;
  is_read = ap reverse q ∙ reverse-cons e es;
  header = refl;
  counts = refl;
  carrying = refl;
}
rest_of {s} (more header high low b c n p r) e es q f h = absurd (T_not (is_some s.header) n f.0)
rest_of (more counts high low b c n p r) e es q f h = absurd (omega (arith, n.1, f.1))
rest_of {s} {u} (more {o = o} production high low b {rest} c n p r) e es q f h =
    let i = next_stretch s _ u o high low b rest (e ∷ es) h c p refl refl refl (rest_of r (entry_of o b) (e ∷ es) (ap (λ z. entry_of o b ∷ z) q) f (rest_bytes 3 high low b rest h)) in
    record {
      rules = [];
      conditions = [];
      later = i.later;
      body = [];
      rest = 3 ∷ high ∷ low ∷ b ++ rest;
      own = Layout.nothing;
      others = subst (λ z. Stretches i.later z (3 ∷ high ∷ low ∷ b ++ rest)) (omega arith) i.others;
      is_rest = refl;
      is_read = i.is_read ∙ one_more e es i.later;
      header = i.header;
      counts = i.counts;
      carrying = i.carrying;
    }
rest_of {s} (more {o = o} rule high low b {rest} c n p r) e es q f h =
    let x : Rule Occurrence = rule_of b in
    let i = rest_of r (with_rule e x) es (ap (on_current (λ z. with_rule z x)) q) f (rest_bytes 4 high low b rest h) in
    let same : b ≡ rule_bytes x = rule_body s b (body_bytes 4 high low b rest h) p in
    record {
      rules = x ∷ i.rules;
      conditions = i.conditions;
      later = i.later;
      body = field 4 (rule_bytes x) ++ i.body;
      rest = i.rest;
      own = Layout.rule x i.own;
      others = subst (λ z. Stretches i.later z i.rest) (omega (arith, ap length same, length-append (rule_bytes x) i.body)) i.others;
      is_rest = field_is 4 high low b (rule_bytes x) rest (low_small 4 high low b rest h) c same ∙ ap (λ z. field 4 (rule_bytes x) ++ z) i.is_rest ∙ sym (append_assoc (field 4 (rule_bytes x)) i.body i.rest);
      is_read = i.is_read ∙ ap (λ rs. reverse es ++ (record { offset = e.offset; left = e.left; right = e.right; rules = rs; conditions = reverse i.conditions ++ e.conditions } ∷ i.later)) (sym (one_more x i.rules e.rules));
      header = i.header;
      counts = i.counts;
      carrying = i.carrying;
    }
rest_of {s} (more {o = o} condition high low b {rest} c n p r) e es q f h =
    let x : Condition Occurrence = condition_of b in
    let i = rest_of r (with_condition e x) es (ap (on_current (λ z. with_condition z x)) q) f (rest_bytes 5 high low b rest h) in
    let same : b ≡ condition_bytes x = condition_body s b (body_bytes 5 high low b rest h) p in
    record {
      rules = i.rules;
      conditions = x ∷ i.conditions;
      later = i.later;
      body = field 5 (condition_bytes x) ++ i.body;
      rest = i.rest;
      own = Layout.condition x i.own;
      others = subst (λ z. Stretches i.later z i.rest) (omega (arith, ap length same, length-append (condition_bytes x) i.body)) i.others;
      is_rest = field_is 5 high low b (condition_bytes x) rest (low_small 5 high low b rest h) c same ∙ ap (λ z. field 5 (condition_bytes x) ++ z) i.is_rest ∙ sym (append_assoc (field 5 (condition_bytes x)) i.body i.rest);
      is_read = i.is_read ∙ ap (λ cs. reverse es ++ (record { offset = e.offset; left = e.left; right = e.right; rules = reverse i.rules ++ e.rules; conditions = cs } ∷ i.later)) (sym (one_more x i.conditions e.conditions));
      header = i.header;
      counts = i.counts;
      carrying = i.carrying;
    }
rest_of (more carrier high low b c n p r) e es q f h = absurd (omega (arith, n.1, ap length q))

-- ---- by number

pub record StretchAt (bs : List ℕ) (e : Entry) (end : ℕ) : Type 0 where
  pub body : List ℕ
  pub rest : List ℕ
  pub own : RulesAndConditions (production_of e).rules (production_of e).conditions body
  pub is_here : drop e.offset bs ≡ field 3 (production_bytes (production_of e)) ++ (body ++ rest)
  pub is_end : e.offset + length (field 3 (production_bytes (production_of e)) ++ body) ≡ end
  pub over : 0 < length rest → byte rest 0 ≡ 3

pub first_offset : {es : List Entry} {o : ℕ} {bs : List ℕ} → Stretches es o bs → (end : ℕ) → o + length bs ≡ end → o ≡ get_or (map (λ d. d.offset) es) 0 end
first_offset nothing end l = omega arith
first_offset (stretch e own later) end l = refl

-- what follows a stretch begins with a tag 3, if it is not empty
next_tag : {es : List Entry} {o : ℕ} {bs : List ℕ} → Stretches es o bs → 0 < length bs → byte bs 0 ≡ 3
next_tag nothing l = absurd (omega arith)
next_tag (stretch e own later) l = refl

-- past a first part
past : (bs first rest whole : List ℕ) (o : ℕ) → whole ≡ first ++ rest → drop o bs ≡ whole → o + length whole ≡ length bs → (drop (o + length first) bs ≡ rest) × (o + length first + length rest ≡ length bs)
past bs first rest whole o e d l = (sym (drop-drop (length first) o bs) ∙ ap (drop (length first)) (d ∙ e) ∙ drop-append_seam first rest, omega (arith, ap length e, length-append first rest))

pub stretch_at : {es : List Entry} {o : ℕ} {rest : List ℕ} → Stretches es o rest → (bs : List ℕ) → drop o bs ≡ rest → o + length rest ≡ length bs → (p : ℕ) → p < length es → StretchAt bs (get_or es p no_entry) (get_or (map (λ d. d.offset) es) (suc p) (length bs))
stretch_at nothing bs d l p m = absurd (omega arith)
stretch_at (stretch e {es} {body} {rest} own later) bs d l zero m =
    let pb : List ℕ = field 3 (production_bytes (production_of e)) in
    let f = past bs (pb ++ body) rest (pb ++ (body ++ rest)) e.offset (sym (append_assoc pb body rest)) d l in
    record { body = body; rest = rest; own = own; is_here = d; is_end = first_offset later (length bs) f.1; over = next_tag later }
stretch_at (stretch e {es} {body} {rest} own later) bs d l (suc p) m =
    let pb : List ℕ = field 3 (production_bytes (production_of e)) in
    let f = past bs (pb ++ body) rest (pb ++ (body ++ rest)) e.offset (sym (append_assoc pb body rest)) d l in
    stretch_at later bs f.0 f.1 p (omega arith)
