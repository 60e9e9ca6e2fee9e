-- The entry conditions of a production, read from its stretch of the table: from its tag 3 to the next or the table's end.
use Rattle.std.specs.Prelude.{◌≡◌, ℕ, ◌+◌, ◌-◌, ◌*◌, ◌/◌, ◌%◌, ◌<◌, ◌≤◌, min, max, Bool, true, false, ◌&&◌, ◌||◌, T, List, [], ◌∷◌, ◌++◌, map, length, drop, replicate, ℤ, ◌==◌, ◌≢◌, int_le, slice_index, slice_set, refl}
use native.Mathlib.Omega.{arith}
use Rattle.std.proofs.Common.{sym, ap, ap₂, ◌∙◌, subst, append_assoc, eq-eqb, ne_eqb, length-append}
use Rattle.std.proofs.Math.Option.{Option, none, some}
use Rattle.std.proofs.Math.Decide.{ℕ_discrete}
use Rattle.std.proofs.Math.Seq.{drop-append_seam}
use Rattle.meaning.specs.Limits.{attributes_limit}
use Rattle.meaning.specs.Base.{all, keep, cons_if}
use Rattle.meaning.specs.Grammar.{Occurrence, Rule, Condition, range, atmost, Production, condition_position, map_condition}
use Rattle.meaning.specs.Layout.{field, unsigned, production_bytes, rule_bytes, condition_bytes, RulesAndConditions, nothing, rule, condition}
use Rattle.meaning.specs.Rules.{lowest_constant, highest_constant, four_bytes}
use Rattle.meaning.specs.Table.{byte, constant_at, signed}
use Rattle.theory_base.specs.Members.{both}
use Rattle.meaning.specs.Decide.{entry_conditions}
use Rattle.meaning.specs.Value.{added}
use Rattle.theory_sets.specs.Intervals.{entry, entered, compared}
use Rattle.theory_table.specs.Numbers.{joined, constant_back}
use Rattle.clash_entries.specs.conditions.BoundWords.{biased}

-- ---- what they leave of intervals

-- 01: a condition "belongs to the highest position it reads"; those of position 0 are the entry conditions
abbrev pub is_entry : Condition Occurrence → Bool
is_entry c = condition_position c == 0

-- the entry conditions among these, each occurrence as its attribute's number
unfoldable pub at_entry : List (Condition Occurrence) → List (Condition ℕ)
at_entry cs = map (map_condition (λ o. o.attribute)) (keep is_entry cs)

pub entry_is : (p : Production) → entry_conditions p ≡ at_entry p.conditions
unfolding at_entry
entry_is p = refl

-- one condition after another
abbrev pub after : {S : Type 0} → (Condition ℕ → S → S) → List (Condition ℕ) → S → S
after f [] s = s
after f (c ∷ cs) s = after f cs (f c s)

-- low ends, attribute a's at a - 1, raised by ranges, and high ends lowered
abbrev pub raise_by : Condition ℕ → List ℕ → List ℕ
raise_by (range a l h) ends = slice_set ends (a - 1) (max (biased l) (slice_index ends (a - 1)))
raise_by (atmost a b c) ends = ends

abbrev pub lower_by : Condition ℕ → List ℕ → List ℕ
lower_by (range a l h) ends = slice_set ends (a - 1) (min (biased h) (slice_index ends (a - 1)))
lower_by (atmost a b c) ends = ends

-- what there has been: 0 nothing, 1 ranges, 2 a comparison
abbrev pub rank_by : Condition ℕ → ℕ → ℕ
rank_by (range a l h) n = max 1 n
rank_by (atmost a b c) n = 2

unfoldable pub raised : List (Condition ℕ) → List ℕ → List ℕ
raised cs ends = after raise_by cs ends

unfoldable pub lowered : List (Condition ℕ) → List ℕ → List ℕ
lowered cs ends = after lower_by cs ends

-- the ends before any condition: of all words
abbrev pub lowest : List ℕ
lowest = replicate attributes_limit 0

abbrev pub highest : List ℕ
highest = replicate attributes_limit 4294967295

-- ---- one field, at the front of some bytes

-- 01: "fields: one-byte tag, two-byte length, body"
unfoldable pub field_size : List ℕ → ℕ
field_size d = 3 + (byte d 1 * 256 + byte d 2)

-- a condition that reads position 0 alone: tag 5, kind at 3, occurrences at 4 and, of a comparison, at 6
unfoldable pub entry_here : List ℕ → Bool
entry_here d = byte d 0 == 5 && (byte d 4 == 0 && (byte d 3 == 0 || byte d 6 == 0))

-- it, each occurrence as its attribute's number: bounds at 6 and 10, or a constant at 8
unfoldable pub offset_here : List ℕ → Option ℤ
offset_here d = elim (byte d 3 == 1) [ true ↦ none | false ↦ some (constant_at d 8) ]

unfoldable pub condition_here : List ℕ → Condition ℕ
condition_here d = elim (byte d 3 == 0) [ true ↦ range (byte d 5) (constant_at d 6) (constant_at d 10) | false ↦ atmost (byte d 5) (byte d 7) (offset_here d) ]

abbrev pub if_entry : {S : Type 0} → Bool → S → S → S
if_entry true x y = x
if_entry false x y = y

unfoldable pub after_field : {S : Type 0} → (Condition ℕ → S → S) → List ℕ → S → S
after_field f d s = if_entry (entry_here d) (f (condition_here d) s) s

-- ---- the fields

-- the stretch of a production at the front of some bytes; its entry conditions are over at most 8 attributes
pub record Stretch (d : List ℕ) (p : Production) : Type 0 where
  pub body : List ℕ
  pub rest : List ℕ
  pub own : RulesAndConditions p.rules p.conditions body
  pub is_here : d ≡ field 3 (production_bytes p) ++ (body ++ rest)
  pub over : 0 < length rest → byte rest 0 ≡ 3
  pub fits : T (all (entry attributes_limit) (at_entry p.conditions))

-- what is left of it: rules and conditions up to the next tag 3 or the end
pub record Left (d : List ℕ) : Type 0 where
  pub rules : List (Rule Occurrence)
  pub conditions : List (Condition Occurrence)
  pub body : List ℕ
  pub rest : List ℕ
  pub own : RulesAndConditions rules conditions body
  pub is_here : d ≡ body ++ rest
  pub over : 0 < length rest → byte rest 0 ≡ 3
  pub fits : T (all (entry attributes_limit) (at_entry conditions))

-- the field at the front, and what is left after it
pub record FrontField (d : List ℕ) (cs : List (Condition Occurrence)) : Type 0 where
  pub next : Left (drop (field_size d) d)
  pub inside : field_size d ≤ length d
  pub proper : entry_here d ≡ true → T (entry attributes_limit (condition_here d))
  pub here : at_entry cs ≡ cons_if (entry_here d) (condition_here d) (at_entry next.conditions)

-- a field before other bytes
module _ (tag : ℕ) (b rest : List ℕ) where
  pub field_size_lem : field_size (field tag b ++ rest) ≡ length (field tag b)
  unfolding field_size
  field_size_lem = omega arith

  pub field_behind : drop (field_size (field tag b ++ rest)) (field tag b ++ rest) ≡ rest
  field_behind = ap (λ n. drop n (field tag b ++ rest)) field_size_lem ∙ drop-append_seam (field tag b) rest

-- at the front of some bytes
field_first : (tag : ℕ) (b bs rest : List ℕ) → (field tag b ++ bs) ++ rest ≡ field tag b ++ (bs ++ rest)
field_first tag b bs rest = append_assoc (field tag b) bs rest

module _ (tag : ℕ) (b : List ℕ) {rs : List (Rule Occurrence)} {cs : List (Condition Occurrence)} {bs : List ℕ} (own : RulesAndConditions rs cs bs) (rest : List ℕ) (over : 0 < length rest → byte rest 0 ≡ 3) (fits : T (all (entry attributes_limit) (at_entry cs))) where
  abbrev front : List ℕ
  front = field tag b ++ (bs ++ rest)

  abbrev after_it : Left (drop (field_size front) front)
  after_it = record { rules = rs; conditions = cs; body = bs; rest = rest; own = own; is_here = field_behind tag b (bs ++ rest); over = over; fits = fits }

  front_inside : field_size front ≤ length front
  front_inside = omega (arith, field_size_lem tag b (bs ++ rest), length-append (field tag b) (bs ++ rest))

  -- a field that is no entry condition changes nothing
  passed : entry_here front ≡ false → (ds : List (Condition Occurrence)) → at_entry ds ≡ at_entry cs → FrontField front ds
  passed n ds e = record {
    next = after_it;
    inside = front_inside;
    proper = λ t. let z : true ≡ false = sym t ∙ n in absurd (subst T z tt);
    here = e ∙ sym (ap (λ b. cons_if b (condition_here front) (at_entry cs)) n);
  }

  -- an entry condition
  taken : (c : Condition ℕ) → entry_here front ≡ true → condition_here front ≡ c → T (entry attributes_limit c) → (ds : List (Condition Occurrence)) → at_entry ds ≡ c ∷ at_entry cs → FrontField front ds
  taken c t is k ds e = record {
    next = after_it;
    inside = front_inside;
    proper = λ _. subst (λ d. T (entry attributes_limit d)) (sym is) k;
    here = e ∙ sym (ap₂ (λ b d. cons_if b d (at_entry cs)) t is);
  }

-- a bound as it is read
bound_back : (c : ℤ) → T (four_bytes c) → let n : ℕ = unsigned c in signed (joined (n / 16777216 % 256) (n / 65536 % 256) (n / 256 % 256) (n % 256)) ≡ c
bound_back c t = constant_back c (both (int_le lowest_constant c) (int_le c highest_constant) t)

-- a comparison's constant as it is read
offset_back : (o u : Occurrence) (c : Option ℤ) (rest : List ℕ) → T (four_bytes (added c)) → condition_here (field 5 (condition_bytes (atmost o u c)) ++ rest) ≡ atmost o.attribute u.attribute c
unfolding condition_here offset_here
offset_back o u none rest t = refl
offset_back o u (some c) rest t = ap (λ z. atmost o.attribute u.attribute (some z)) (bound_back c t)

-- two positions are 0 where the higher is
max_zero : (a b : ℕ) → (a == 0 && b == 0) ≡ (max a b == 0)
max_zero a b = go (ℕ_discrete a 0) (ℕ_discrete b 0)
  where
    go : Dec (a ≡ 0) → Dec (b ≡ 0) → (a == 0 && b == 0) ≡ (max a b == 0)
    go (yes p) (yes q) = rw (eq-eqb a 0 p, eq-eqb b 0 q, eq-eqb (max a b) 0 (omega arith)) refl
    go (yes p) (no q) = rw (eq-eqb a 0 p, ne_eqb b 0 q, ne_eqb (max a b) 0 (λ z. q (omega arith))) refl
    go (no p) q = rw (ne_eqb a 0 p, ne_eqb (max a b) 0 (λ z. p (omega arith))) refl

here_atmost : (o u : Occurrence) (c : Option ℤ) (rest : List ℕ) → entry_here (field 5 (condition_bytes (atmost o u c)) ++ rest) ≡ is_entry (atmost o u c)
unfolding entry_here
here_atmost o u none rest = max_zero o.position u.position
here_atmost o u (some c) rest = max_zero o.position u.position

-- a condition's field
condition_turn : (c : Condition Occurrence) {rs : List (Rule Occurrence)} {cs : List (Condition Occurrence)} {bs : List ℕ} → RulesAndConditions rs cs bs → (rest : List ℕ) → (0 < length rest → byte rest 0 ≡ 3)
    → T (all (entry attributes_limit) (at_entry (c ∷ cs))) → FrontField (field 5 (condition_bytes c) ++ (bs ++ rest)) (c ∷ cs)
unfolding at_entry entry_here condition_here
condition_turn (range o l h) {rs} {cs} {bs} own rest over fits = go (o.position == 0) refl fits
  where
    back : T (four_bytes l) → T (four_bytes h) → condition_here (field 5 (condition_bytes (range o l h)) ++ (bs ++ rest)) ≡ range o.attribute l h
    back x y = ap₂ (range o.attribute) (bound_back l x) (bound_back h y)

    go : (b : Bool) → (o.position == 0) ≡ b → T (all (entry attributes_limit) (map (map_condition (λ z. z.attribute)) (cons_if b (range o l h) (keep is_entry cs)))) → FrontField (field 5 (condition_bytes (range o l h)) ++ (bs ++ rest)) (range o l h ∷ cs)
    go true e f =
        let u = both (entry attributes_limit (range o.attribute l h)) (all (entry attributes_limit) (at_entry cs)) f in
        let k = entered attributes_limit o.attribute l h u.0 in
        taken 5 (condition_bytes (range o l h)) own rest over u.1 (range o.attribute l h) (ap (λ b. b && true) e) (back k.low k.high) u.0 (range o l h ∷ cs) (ap (λ b. map (map_condition (λ z. z.attribute)) (cons_if b (range o l h) (keep is_entry cs))) e)
    go false e f = passed 5 (condition_bytes (range o l h)) own rest over f (ap (λ b. b && true) e) (range o l h ∷ cs) (ap (λ b. map (map_condition (λ z. z.attribute)) (cons_if b (range o l h) (keep is_entry cs))) e)
condition_turn (atmost o v c) {rs} {cs} {bs} own rest over fits = go (is_entry (atmost o v c)) refl fits
  where
    go : (b : Bool) → is_entry (atmost o v c) ≡ b → T (all (entry attributes_limit) (map (map_condition (λ z. z.attribute)) (cons_if b (atmost o v c) (keep is_entry cs)))) → FrontField (field 5 (condition_bytes (atmost o v c)) ++ (bs ++ rest)) (atmost o v c ∷ cs)
    go true e f =
        let u = both (entry attributes_limit (atmost o.attribute v.attribute c)) (all (entry attributes_limit) (at_entry cs)) f in
        let here = here_atmost o v c (bs ++ rest) ∙ e in
        let read = offset_back o v c (bs ++ rest) (compared attributes_limit o.attribute v.attribute c u.0).constant in
        taken 5 (condition_bytes (atmost o v c)) own rest over u.1 (atmost o.attribute v.attribute c) here read u.0 (atmost o v c ∷ cs) (ap (λ b. map (map_condition (λ z. z.attribute)) (cons_if b (atmost o v c) (keep is_entry cs))) e)
    go false e f = passed 5 (condition_bytes (atmost o v c)) own rest over f (here_atmost o v c (bs ++ rest) ∙ e) (atmost o v c ∷ cs) (ap (λ b. map (map_condition (λ z. z.attribute)) (cons_if b (atmost o v c) (keep is_entry cs))) e)

-- a rule's field
rule_turn : (r : Rule Occurrence) {rs : List (Rule Occurrence)} {cs : List (Condition Occurrence)} {bs : List ℕ} → RulesAndConditions rs cs bs → (rest : List ℕ) → (0 < length rest → byte rest 0 ≡ 3)
    → T (all (entry attributes_limit) (at_entry cs)) → FrontField (field 4 (rule_bytes r) ++ (bs ++ rest)) cs
unfolding entry_here
rule_turn r {rs} {cs} own rest over fits = passed 4 (rule_bytes r) own rest over fits refl cs refl

-- ---- a walk along the fields

turn_of : {rs : List (Rule Occurrence)} {cs : List (Condition Occurrence)} {body : List ℕ} → RulesAndConditions rs cs body → (rest : List ℕ) → (0 < length rest → byte rest 0 ≡ 3) → T (all (entry attributes_limit) (at_entry cs))
    → 0 < length (body ++ rest) → (byte (body ++ rest) 0 ≢ 3) → FrontField (body ++ rest) cs
turn_of nothing rest over fits l n = absurd (n (over l))
turn_of (rule r {rs} {cs} {bs} own) rest over fits l n = subst (λ z. FrontField z cs) (sym (field_first 4 (rule_bytes r) bs rest)) (rule_turn r own rest over fits)
turn_of (condition c {rs} {cs} {bs} own) rest over fits l n = subst (λ z. FrontField z (c ∷ cs)) (sym (field_first 5 (condition_bytes c) bs rest)) (condition_turn c own rest over fits)

pub left_turn : (d : List ℕ) (x : Left d) → 0 < length d → (byte d 0 ≢ 3) → FrontField d x.conditions
left_turn d x l n = subst (λ z. FrontField z x.conditions) (sym x.is_here) (turn_of x.own x.rest x.over x.fits (subst (λ z. 0 < length z) x.is_here l) (λ e. n (ap (λ z. byte z 0) x.is_here ∙ e)))

-- nothing is left at the end and before a tag 3
none_left : {rs : List (Rule Occurrence)} {cs : List (Condition Occurrence)} {body : List ℕ} → RulesAndConditions rs cs body → (rest : List ℕ) → (0 < length (body ++ rest) → byte (body ++ rest) 0 ≡ 3) → cs ≡ []
none_left nothing rest e = refl
none_left (rule r {bs = bs} own) rest e = let z : ◌≡◌ {A = ℕ} 4 3 = e (omega arith) in absurd (omega arith)
none_left (condition c {bs = bs} own) rest e = let z : ◌≡◌ {A = ℕ} 5 3 = e (omega arith) in absurd (omega arith)

pub left_none : (d : List ℕ) (x : Left d) → (0 < length d → byte d 0 ≡ 3) → x.conditions ≡ []
left_none d x e = none_left x.own x.rest (subst (λ z. 0 < length z → byte z 0 ≡ 3) x.is_here e)

-- the fields after a production's own
abbrev pub stretch_left : (d : List ℕ) (p : Production) (x : Stretch d p) → Left (drop (field_size d) d)
stretch_left d p x =
    let e = x.is_here in
    record {
      rules = p.rules;
      conditions = p.conditions;
      body = x.body;
      rest = x.rest;
      own = x.own;
      is_here = ap (λ z. drop (field_size z) z) e ∙ field_behind 3 (production_bytes p) (x.body ++ x.rest);
      over = x.over;
      fits = x.fits;
    }

pub stretch_inside : (d : List ℕ) (p : Production) → Stretch d p → field_size d ≤ length d
stretch_inside d p x = omega (arith, ap field_size x.is_here, ap length x.is_here, field_size_lem 3 (production_bytes p) (x.body ++ x.rest), length-append (field 3 (production_bytes p)) (x.body ++ x.rest))
