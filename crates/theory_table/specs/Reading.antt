-- A table read to its end, as a chain of fields that each stand where they may and pass every test; and that the bound of `read_all` never decides.
use Rattle.std.specs.Prelude.{ℕ, zero, suc, ◌+◌, ◌-◌, ◌*◌, ◌≤◌, ◌<◌, ◌≡◌, refl, ◌⊎◌, Bool, true, false, ◌&&◌, ◌||◌, not, List, [], ◌∷◌, ◌++◌, length, take, drop, T, eqb, ltb, leb}
use Rattle.std.proofs.Common.{arith, sym, ap, ◌∙◌, subst, inl, inr, length-append, length-drop, take-append-drop, length-take-le, eqb→eq, leb→le, le→leb, ltb→lt, lt→ltb, nltb→le}
use Rattle.std.proofs.Math.Seq.{take-append_seam, drop-append_seam}
use Rattle.meaning.specs.Limits.{table_limit}
use Rattle.meaning.specs.Table.{State, Kind, header, counts, production, rule, condition, carrier, Stage, at_header, at_counts, at_first, at_any, stage, tag_stands, kind_of, is_some, header_of, byte, limits_hold, known, start_right}
use Rattle.meaning.specs.Table.{directions_right, set_once, left_to_right, bounds_right, lowest_of, judge_field, current, last_complete, read_field, Read, well_formed, malformed, at_end, read_all, read_table, nothing_read}
use Rattle.theory_base.specs.Members.{both, and, or_cases, not_not, twice_not}

-- ---- a field that no number judges

pub record Faultless (s : State) (k : Kind) (b : List ℕ) : Type 0 where
  pub limits : T (limits_hold s k b)
  pub named : T (known s k b)
  pub start : T (start_right s k b)
  pub directions : T (directions_right s k b)
  pub once : T (set_once s k b)
  pub leftward : T (left_to_right s k b)
  pub bounds : T (bounds_right s k b)

first_test : (b : Bool) (n : ℕ) (cs : List (Bool × ℕ)) → lowest_of ((b, suc n) ∷ cs) ≡ 0 → T b × (lowest_of cs ≡ 0)
first_test true n cs e = (tt, e)
first_test false n cs e = absurd (omega arith)

test_first : (b : Bool) (n : ℕ) (cs : List (Bool × ℕ)) → T b → lowest_of cs ≡ 0 → lowest_of ((b, n) ∷ cs) ≡ 0
test_first true n cs t e = e
test_first false n cs t e = absurd t

module _ (s : State) (k : Kind) (b : List ℕ) where
  abbrev from10 : List (Bool × ℕ)
  from10 = (bounds_right s k b, 10) ∷ []

  abbrev from9 : List (Bool × ℕ)
  from9 = (left_to_right s k b, 9) ∷ from10

  abbrev from8 : List (Bool × ℕ)
  from8 = (set_once s k b, 8) ∷ from9

  abbrev from7 : List (Bool × ℕ)
  from7 = (directions_right s k b, 7) ∷ from8

  abbrev from6 : List (Bool × ℕ)
  from6 = (start_right s k b, 6) ∷ from7

  abbrev from5 : List (Bool × ℕ)
  from5 = (known s k b, 5) ∷ from6

  abbrev from4 : List (Bool × ℕ)
  from4 = (limits_hold s k b, 4) ∷ from5

  passed : lowest_of from4 ≡ 0 → Faultless s k b
  passed e =
      let r4 = first_test (limits_hold s k b) 3 from5 e in
      let r5 = first_test (known s k b) 4 from6 r4.1 in
      let r6 = first_test (start_right s k b) 5 from7 r5.1 in
      let r7 = first_test (directions_right s k b) 6 from8 r6.1 in
      let r8 = first_test (set_once s k b) 7 from9 r7.1 in
      let r9 = first_test (left_to_right s k b) 8 from10 r8.1 in
      let r10 = first_test (bounds_right s k b) 9 [] r9.1 in
      record { limits = r4.0; named = r5.0; start = r6.0; directions = r7.0; once = r8.0; leftward = r9.0; bounds = r10.0 }

  judged_0 : Faultless s k b → lowest_of from4 ≡ 0
  judged_0 p =
      test_first (limits_hold s k b) 4 from5 p.limits
      (test_first (known s k b) 5 from6 p.named
      (test_first (start_right s k b) 6 from7 p.start
      (test_first (directions_right s k b) 7 from8 p.directions
      (test_first (set_once s k b) 8 from9 p.once
      (test_first (left_to_right s k b) 9 from10 p.leftward
      (test_first (bounds_right s k b) 10 [] p.bounds refl))))))

-- ---- which field may come next

abbrev pub tag_of : Kind → ℕ
tag_of header = 1
tag_of counts = 2
tag_of production = 3
tag_of rule = 4
tag_of condition = 5
tag_of carrier = 6

kind_of_tag : (k : Kind) → kind_of (tag_of k) ≡ k
kind_of_tag header = refl
kind_of_tag counts = refl
kind_of_tag production = refl
kind_of_tag rule = refl
kind_of_tag condition = refl
kind_of_tag carrier = refl

-- the header and every counts field are read
abbrev pub Full : State → Type 0
Full s = T (is_some s.header) × ((header_of s).nonterminals ≤ length s.counts)

abbrev pub Next : State → Kind → Type 0
Next s header = T (not (is_some s.header))
Next s counts = T (is_some s.header) × (length s.counts < (header_of s).nonterminals)
Next s production = Full s × T (last_complete s)
Next s rule = Full s × (0 < length s.entries)
Next s condition = Full s × (0 < length s.entries)
Next s carrier = Full s × (length s.entries ≡ 0)

abbrev stage_by : Bool → Bool → Bool → Stage
stage_by a b c = elim a as (λ x. Stage) [ false ↦ at_header | true ↦ elim b as (λ x. Stage) [ true ↦ at_counts | false ↦ elim c as (λ x. Stage) [ true ↦ at_any | false ↦ at_first ] ] ]

-- what each stage says
abbrev Stood : State → Stage → Type 0
Stood s at_header = T (not (is_some s.header))
Stood s at_counts = T (is_some s.header) × (length s.counts < (header_of s).nonterminals)
Stood s at_first = Full s × T (not (ltb 0 (length s.entries)))
Stood s at_any = Full s × T (ltb 0 (length s.entries))

stood : (s : State) → Stood s (stage s)
stood s = go (is_some s.header) refl (ltb (length s.counts) (header_of s).nonterminals) refl (ltb 0 (length s.entries)) refl
  where
    go : (a : Bool) → is_some s.header ≡ a → (b : Bool) → ltb (length s.counts) (header_of s).nonterminals ≡ b → (c : Bool) → ltb 0 (length s.entries) ≡ c → Stood s (stage_by a b c)
    go false e b f c g = rw e tt
    go true e true f c g = (rw e tt, ltb→lt (length s.counts) (header_of s).nonterminals (rw f tt))
    go true e false f true g = ((rw e tt, nltb→le (length s.counts) (header_of s).nonterminals (rw f tt)), rw g tt)
    go true e false f false g = ((rw e tt, nltb→le (length s.counts) (header_of s).nonterminals (rw f tt)), rw g tt)

-- the kind of a field that may stand here and does not leave a rule missing
abbrev NextOf : State → ℕ → Type 0
NextOf s t = (k : Kind) × (t ≡ tag_of k) × Next s k

next_of : (s : State) (t : ℕ) → T (tag_stands (stage s) t) → T (not (eqb t 3 && not (last_complete s))) → NextOf s t
next_of s t u m = go (stage s) (stood s) u
  where
    whole : t ≡ 3 → T (last_complete s)
    whole e = not_not (last_complete s) (subst (λ n. T (not (eqb n 3 && not (last_complete s)))) e m)

    three : Full s → t ≡ 3 → NextOf s t
    three f e = (production, e, (f, whole e))

    first : Full s → T (not (ltb 0 (length s.entries))) → T (eqb t 3) ⊎ T (eqb t 6) → NextOf s t
    first f l (inl v) = three f (eqb→eq t 3 v)
    first f l (inr v) = (carrier, eqb→eq t 6 v, (f, omega (arith, nltb→le 0 (length s.entries) l)))

    later : Full s → 0 < length s.entries → T (eqb t 3) ⊎ T (eqb t 4) → NextOf s t
    later f l (inl v) = three f (eqb→eq t 3 v)
    later f l (inr v) = (rule, eqb→eq t 4 v, (f, l))

    any : Full s → 0 < length s.entries → T (eqb t 3 || eqb t 4) ⊎ T (eqb t 5) → NextOf s t
    any f l (inl v) = later f l (or_cases (eqb t 3) (eqb t 4) v)
    any f l (inr v) = (condition, eqb→eq t 5 v, (f, l))

    go : (x : Stage) → Stood s x → T (tag_stands x t) → NextOf s t
    go at_header h v = (header, eqb→eq t 1 v, h)
    go at_counts h v = (counts, eqb→eq t 2 v, h)
    go at_first h v = first h.0 h.1 (or_cases (eqb t 3) (eqb t 6) v)
    go at_any h v = any h.0 (ltb→lt 0 (length s.entries) h.1) (or_cases (eqb t 3 || eqb t 4) (eqb t 5) v)

stage_any : (s : State) → Full s → 0 < length s.entries → stage s ≡ at_any
stage_any s f l = go (is_some s.header) f.0 (ltb (length s.counts) (header_of s).nonterminals) (λ t. let h = ltb→lt (length s.counts) (header_of s).nonterminals t in absurd (omega (arith, f.1))) (ltb 0 (length s.entries)) (lt→ltb 0 (length s.entries) l)
  where
    go : (a : Bool) → T a → (b : Bool) → (T b → ⊥) → (c : Bool) → T c → stage_by a b c ≡ at_any
    go false t b n c v = absurd t
    go true t true n c v = absurd (n tt)
    go true t false n true v = refl
    go true t false n false v = absurd v

stage_first : (s : State) → Full s → length s.entries ≡ 0 → stage s ≡ at_first
stage_first s f l =
    go (is_some s.header) f.0 (ltb (length s.counts) (header_of s).nonterminals)
    (λ t. let h = ltb→lt (length s.counts) (header_of s).nonterminals t in absurd (omega (arith, f.1))) (ltb 0 (length s.entries))
    (λ t. let h = ltb→lt 0 (length s.entries) t in absurd (omega (arith, l)))
  where
    go : (a : Bool) → T a → (b : Bool) → (T b → ⊥) → (c : Bool) → (T c → ⊥) → stage_by a b c ≡ at_first
    go false t b n c v = absurd t
    go true t true n c v = absurd (n tt)
    go true t false n true v = absurd (v tt)
    go true t false n false v = refl

stands : (s : State) (k : Kind) → Next s k → T (tag_stands (stage s) (tag_of k)) × T (not (eqb (tag_of k) 3 && not (last_complete s)))
stands s header n = (go (is_some s.header) n, tt)
  where
    go : (a : Bool) → T (not a) → T (tag_stands (stage_by a (ltb (length s.counts) (header_of s).nonterminals) (ltb 0 (length s.entries))) 1)
    go true v = absurd v
    go false v = tt
stands s counts n = (go (is_some s.header) n.0 (ltb (length s.counts) (header_of s).nonterminals) (lt→ltb (length s.counts) (header_of s).nonterminals n.1), tt)
  where
    go : (a : Bool) → T a → (b : Bool) → T b → T (tag_stands (stage_by a b (ltb 0 (length s.entries))) 2)
    go false v b w = absurd v
    go true v false w = absurd w
    go true v true w = tt
stands s production n = (go (is_some s.header) n.0.0 (ltb (length s.counts) (header_of s).nonterminals) (λ t. let h = ltb→lt (length s.counts) (header_of s).nonterminals t in absurd (omega (arith, n.0.1))) (ltb 0 (length s.entries)), twice_not (last_complete s) n.1)
  where
    go : (a : Bool) → T a → (b : Bool) → (T b → ⊥) → (c : Bool) → T (tag_stands (stage_by a b c) 3)
    go false v b w c = absurd v
    go true v true w c = absurd (w tt)
    go true v false w true = tt
    go true v false w false = tt
stands s rule n = (subst (λ x. T (tag_stands x 4)) (sym (stage_any s n.0 n.1)) tt, tt)
stands s condition n = (subst (λ x. T (tag_stands x 5)) (sym (stage_any s n.0 n.1)) tt, tt)
stands s carrier n = (subst (λ x. T (tag_stands x 6)) (sym (stage_first s n.0 n.1)) tt, tt)

-- ---- a table read to its end

pub data Reads : State → ℕ → List ℕ → State → Type 0 where
  over : {s : State} {o : ℕ} → Full s → 0 < length s.entries → T (last_complete s) → Reads s o [] s
  more : {s u : State} {o : ℕ} (k : Kind) (high low : ℕ) (body : List ℕ) {rest : List ℕ} → high * 256 + low ≡ length body → Next s k → Faultless s k body → Reads (read_field s o k body) (o + 3 + length body) rest u → Reads s o (tag_of k ∷ high ∷ low ∷ body ++ rest) u

-- the choices of one field, in their order
abbrev choose : Bool → ℕ → Bool → ℕ → ℕ → Bool → ℕ → ℕ → Read → Read
choose a f b m o c n p r = elim a as (λ x. Read) [ true ↦ malformed 8 f | false ↦ elim b as (λ x. Read) [ false ↦ malformed m o | true ↦ elim c as (λ x. Read) [ false ↦ malformed n p | true ↦ r ] ] ]

refused : {A : Type 0} {n o : ℕ} {u : State} → malformed n o ≡ well_formed u → A
refused e = absurd (let z : ◌≡◌ {A = ℕ} 0 1 = cc in omega arith)

chosen : (a : Bool) (f : ℕ) (b : Bool) (m o : ℕ) (c : Bool) (n p : ℕ) (r : Read) (u : State) → choose a f b m o c n p r ≡ well_formed u → T (not a) × T b × T c × (r ≡ well_formed u)
chosen true f b m o c n p r u e = refused e
chosen false f false m o c n p r u e = refused e
chosen false f true m o false n p r u e = refused e
chosen false f true m o true n p r u e = (tt, tt, tt, e)

chooses : (a : Bool) (f : ℕ) (b : Bool) (m o : ℕ) (c : Bool) (n p : ℕ) (r : Read) → T (not a) → T b → T c → choose a f b m o c n p r ≡ r
chooses true f b m o c n p r t v w = absurd t
chooses false f false m o c n p r t v w = absurd v
chooses false f true m o false n p r t v w = absurd w
chooses false f true m o true n p r t v w = refl

-- where enough is left to read, the bound decides nothing
pub read_enough : (n m : ℕ) (s : State) (o : ℕ) (bs : List ℕ) → length bs < n → length bs < m → read_all n s o bs ≡ read_all m s o bs
read_enough zero m s o bs h k = absurd (omega arith)
read_enough (suc n) zero s o bs h k = absurd (omega arith)
read_enough (suc n) (suc m) s o [] h k = refl
read_enough (suc n) (suc m) s o (t ∷ bs) h k =
    let size : ℕ = byte bs 0 * 256 + byte bs 1 in
    let body : List ℕ = take size (drop 2 bs) in
    let number : ℕ = judge_field s (record { offset = o; tag = t; body = body }) in
    let l = length-drop (2 + size) bs in
    ap (λ r. choose (eqb t 3 && not (last_complete s)) (current s).offset (leb 2 (length bs) && leb size (length bs - 2)) 2 o (eqb number 0) number o r)
    (read_enough n m (read_field s o (kind_of t) body) (o + 3 + size) (drop (2 + size) bs) (omega arith) (omega arith))

-- ---- read by `read_all`, so read as a chain

-- the end of a table, its stage and its last production told
abbrev end_by : State → ℕ → Stage → Bool → Read
end_by s o x c = elim x as (λ k. Read) [ at_header ↦ malformed 3 o | at_counts ↦ malformed 3 o | at_first ↦ malformed 3 o | at_any ↦ elim c as (λ k. Read) [ true ↦ well_formed s | false ↦ malformed 8 (current s).offset ] ]

at_end_lem : (s : State) (o : ℕ) (u : State) → at_end s o ≡ well_formed u → Reads s o [] u
at_end_lem s o u e = go (stage s) (stood s) (last_complete s) refl e
  where
    go : (x : Stage) → Stood s x → (c : Bool) → last_complete s ≡ c → end_by s o x c ≡ well_formed u → Reads s o [] u
    go at_header h c f e = refused e
    go at_counts h c f e = refused e
    go at_first h c f e = refused e
    go at_any h false f e = refused e
    go at_any h true f e = let q : s ≡ u = cc in subst (λ v. Reads s o [] v) q (over h.0 (ltb→lt 0 (length s.entries) h.1) (rw f tt))

judged : (s : State) (o t : ℕ) (b : List ℕ) → judge_field s (record { offset = o; tag = t; body = b }) ≡ 0 → T (tag_stands (stage s) t) × Faultless s (kind_of t) b
judged s o t b e = go (tag_stands (stage s) t) e
  where
    go : (c : Bool) → ◌≡◌ {A = ℕ} (elim c [ false ↦ 3 | true ↦ lowest_of (from4 s (kind_of t) b) ]) 0 → T c × Faultless s (kind_of t) b
    go true e = (tt, passed s (kind_of t) b e)
    go false e = absurd (omega arith)

judged_none : (s : State) (o : ℕ) (k : Kind) (b : List ℕ) → T (tag_stands (stage s) (tag_of k)) → Faultless s k b → judge_field s (record { offset = o; tag = tag_of k; body = b }) ≡ 0
judged_none s o k b t p = go (tag_stands (stage s) (tag_of k)) t
  where
    go : (c : Bool) → T c → ◌≡◌ {A = ℕ} (elim c [ false ↦ 3 | true ↦ lowest_of (from4 s (kind_of (tag_of k)) b) ]) 0
    go true v = rw (kind_of_tag k) (judged_0 s k b p)
    go false v = absurd v

-- one field, its parts given
one_field : (s u : State) (o t high low : ℕ) (bs : List ℕ) → high * 256 + low ≤ length bs → NextOf s t → Faultless s (kind_of t) (take (high * 256 + low) bs)
    → Reads (read_field s o (kind_of t) (take (high * 256 + low) bs)) (o + 3 + (high * 256 + low)) (drop (high * 256 + low) bs) u → Reads s o (t ∷ high ∷ low ∷ bs) u
one_field s u o t high low bs l n p r =
    let size : ℕ = high * 256 + low in
    let body : List ℕ = take size bs in
    let k : Kind = n.0 in
    let q : kind_of t ≡ k = ap kind_of n.1 ∙ kind_of_tag k in
    let long : length body ≡ size = length-take-le size bs l in
    let r₁ : Reads (read_field s o k body) (o + 3 + size) (drop size bs) u = subst (λ z. Reads (read_field s o z body) (o + 3 + size) (drop size bs) u) q r in
    let r₂ : Reads (read_field s o k body) (o + 3 + length body) (drop size bs) u = subst (λ z. Reads (read_field s o k body) (o + 3 + z) (drop size bs) u) (sym long) r₁ in
    let whole : Reads s o (tag_of k ∷ high ∷ low ∷ body ++ drop size bs) u = more k high low body (sym long) n.2 (subst (λ z. Faultless s z body) q p) r₂ in
    subst (λ z. Reads s o (z ∷ high ∷ low ∷ bs) u) (sym n.1) (subst (λ z. Reads s o (tag_of k ∷ high ∷ low ∷ z) u) (take-append-drop size bs) whole)

past_two : (n x y : ℕ) (bs : List ℕ) → drop (2 + n) (x ∷ y ∷ bs) ≡ drop n bs
past_two n x y bs = let e : 2 + n ≡ suc (suc n) = omega arith in rw e

abbrev size_at : List ℕ → ℕ
size_at bs = byte bs 0 * 256 + byte bs 1

pub reads : (n : ℕ) (s : State) (o : ℕ) (bs : List ℕ) (u : State) → read_all n s o bs ≡ well_formed u → Reads s o bs u
reads zero s o bs u e = refused e
reads (suc n) s o [] u e = at_end_lem s o u e
reads (suc n) s o (t ∷ bs) u e =
    let size : ℕ = byte bs 0 * 256 + byte bs 1 in
    let body : List ℕ = take size (drop 2 bs) in
    let number : ℕ = judge_field s (record { offset = o; tag = t; body = body }) in
    let r = chosen (eqb t 3 && not (last_complete s)) (current s).offset (leb 2 (length bs) && leb size (length bs - 2)) 2 o (eqb number 0) number o (read_all n (read_field s o (kind_of t) body) (o + 3 + size) (drop (2 + size) bs)) u e in
    let j = judged s o t body (eqb→eq number 0 r.2) in
    go bs r.1 (next_of s t j.0 r.0) j.1 (reads n (read_field s o (kind_of t) body) (o + 3 + size) (drop (2 + size) bs) u r.3)
  where
    go : (bs : List ℕ) → T (leb 2 (length bs) && leb (size_at bs) (length bs - 2)) → NextOf s t → Faultless s (kind_of t) (take (size_at bs) (drop 2 bs))
        → Reads (read_field s o (kind_of t) (take (size_at bs) (drop 2 bs))) (o + 3 + size_at bs) (drop (2 + size_at bs) bs) u
        → Reads s o (t ∷ bs) u
    go [] l m p r = absurd l
    go (x ∷ []) l m p r = absurd l
    go (x ∷ y ∷ bs) l m p r =
        let h = leb→le (x * 256 + y) (length (x ∷ y ∷ bs) - 2) (both (leb 2 (length (x ∷ y ∷ bs))) (leb (x * 256 + y) (length (x ∷ y ∷ bs) - 2)) l).1 in
        one_field s u o t x y bs (omega arith) m p (rw (past_two (x * 256 + y) x y bs) at r)

-- ---- read as a chain, so read by `read_all`

pub read_all_lem : {s u : State} {o : ℕ} {bs : List ℕ} → Reads s o bs u → (n : ℕ) → length bs < n → read_all n s o bs ≡ well_formed u
read_all_lem (over f l c) zero h = absurd (omega arith)
read_all_lem {s} (over {o = o} f l c) (suc n) h = go (stage s) (stage_any s f l) (last_complete s) c
  where
    go : (x : Stage) → x ≡ at_any → (c : Bool) → T c → end_by s o x c ≡ well_formed s
    go x e true t = rw e
    go x e false t = absurd t
read_all_lem (more k high low body e m p r) zero h = absurd (omega arith)
read_all_lem {s} {u} (more {o = o} k high low body {rest} e m p r) (suc n) h =
    let bs : List ℕ = high ∷ low ∷ body ++ rest in
    let size : ℕ = high * 256 + low in
    let st = stands s k m in
    let a = length-append body rest in
    let w : take size (body ++ rest) ≡ body = rw e (take-append_seam body rest) in
    let d : drop (2 + size) bs ≡ rest = past_two size high low (body ++ rest) ∙ rw e (drop-append_seam body rest) in
    let number : ℕ = judge_field s (record { offset = o; tag = tag_of k; body = take size (body ++ rest) }) in
    let none : number ≡ 0 = rw w (judged_none s o k body st.0 p) in
    let fits = and (leb 2 (length bs)) (leb size (length bs - 2)) (le→leb 2 (length bs) (omega arith)) (le→leb size (length bs - 2) (omega arith)) in
    let others = read_all n (read_field s o (kind_of (tag_of k)) (take size (body ++ rest))) (o + 3 + size) (drop (2 + size) bs) in
    let passes = subst (λ z. T (eqb z 0)) (sym none) tt in
    let c = chooses (eqb (tag_of k) 3 && not (last_complete s)) (current s).offset (leb 2 (length bs) && leb size (length bs - 2)) 2 o (eqb number 0) number o others st.1 fits passes in
    c ∙ rw (w, d, kind_of_tag k, e) (read_all_lem r n (omega arith))

pub table_reads : (bs : List ℕ) (u : State) → read_table bs ≡ well_formed u → (length bs ≤ table_limit) × Reads nothing_read 0 bs u
table_reads bs u e = go (leb (length bs) table_limit) refl e
  where
    go : (c : Bool) → leb (length bs) table_limit ≡ c → ◌≡◌ {A = Read} (elim c as (λ x. Read) [ false ↦ malformed 1 0 | true ↦ read_all (suc (length bs)) nothing_read 0 bs ]) (well_formed u) → (length bs ≤ table_limit) × Reads nothing_read 0 bs u
    go true f e = (leb→le (length bs) table_limit (rw f tt), reads (suc (length bs)) nothing_read 0 bs u e)
    go false f e = refused e

pub reads_table : (bs : List ℕ) (u : State) → length bs ≤ table_limit → Reads nothing_read 0 bs u → read_table bs ≡ well_formed u
reads_table bs u l r = go (leb (length bs) table_limit) (le→leb (length bs) table_limit l)
  where
    go : (c : Bool) → T c → ◌≡◌ {A = Read} (elim c as (λ x. Read) [ false ↦ malformed 1 0 | true ↦ read_all (suc (length bs)) nothing_read 0 bs ]) (well_formed u)
    go true t = read_all_lem r (suc (length bs)) (omega arith)
    go false t = absurd t
