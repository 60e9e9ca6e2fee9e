-- The promises of `HouseStatements`, proved.
use Rattle.std.specs.Prelude.{ℕ, ◌≤◌, ◌<◌, ◌≡◌, refl, Bool, true, false, List, [], ◌∷◌, length, take, drop, ltb}
use Rattle.std.proofs.Common.{arith, sym, ap, subst, ◌∙◌, lt→ltb, ltb→lt, nltb→le}
use Rattle.std.proofs.Math.Seq.{take-append_seam, drop-append_seam}
use Rattle.meaning.specs.Limits.{table_limit}
use Rattle.meaning.specs.Grammar.{Grammar, Production}
use Rattle.meaning.specs.Rules.{WellFormed}
use Rattle.meaning.specs.Table.{State, well_formed, grammar_of}
use Rattle.meaning.specs.Layout.{LaidOut, Bytes}
use Rattle.meaning.specs.Judgement.{Accepted}
use Rattle.meaning.specs.Calls.{Record, Stacks, Called, refused, table_refused, closed_record, as_brought, open_of}
use Rattle.meaning.specs.PublicCalls.{Checked, usable, unusable, check, area_length, written, Call, call_of, Effect, effect, called, opens, performs}
use Rattle.theory_base.specs.Members.{T→true}
use Rattle.theory_answers.specs.Called.{checks, called_is}
use Rattle.theory_demands.specs.Acceptance.{accepted_exactly}
use Rattle.meaning_house.specs.Order.{SameProduction, SameEach, SameButOrder, through, house_grammar, house_bytes}
use Rattle.theory_answers.specs.TurnedBack.{refuses}
use Rattle.theory_order.specs.SameCalls.{open_same, call_same}
use Rattle.theory_order.specs.SameInner.{outer_same, inner_same, later_same}
use Rattle.theory_order.specs.SameVerdict.{same_but_sym, FewConditions, accepts_same}
use Rattle.theory_order.specs.House.{house_same, bytes_alike, bytes_twice, house_laid_out, house_short, house_few}
use Rattle.theory_order.specs.HouseBytes.{house_bytes_lem}
use Rattle.meaning_house.specs.House.{wrote, turned_back, HouseCalled, writing, house_of}
use Rattle.meaning_house.specs.HouseStatements.{HouseWrites, HouseTurnsBack, HouseAccepted, HouseAlike, HouseAlikeCalls, HouseTwice, SameButProgram, HouseKeeps, HouseKeepsInner}

-- ---- the same but for order is an equivalence

same_trans : (p q r : Production) → SameProduction p q → SameProduction q r → SameProduction p r
same_trans p q r s t = record { left = s.left ∙ t.left; right = s.right ∙ t.right; rules = through s.rules t.rules; conditions = λ c. ((λ i. (t.conditions c).0 ((s.conditions c).0 i)), (λ i. (s.conditions c).1 ((t.conditions c).1 i))) }

each_trans : (ps qs rs : List Production) → SameEach ps qs → SameEach qs rs → SameEach ps rs
each_trans [] [] rs s t = t
each_trans [] (q ∷ qs) rs s t = absurd s
each_trans (p ∷ ps) [] rs s t = absurd s
each_trans (p ∷ ps) (q ∷ qs) [] s t = t
each_trans (p ∷ ps) (q ∷ qs) (r ∷ rs) s t = (same_trans p q r s.0 t.0, each_trans ps qs rs s.1 t.1)

pub same_but_trans : (g h k : Grammar) → SameButOrder g h → SameButOrder h k → SameButOrder g k
same_but_trans g h k s t = record {
  terminals = s.terminals ∙ t.terminals;
  counts = s.counts ∙ t.counts;
  carrying = s.carrying ∙ t.carrying;
  start = s.start ∙ t.start;
  result = s.result ∙ t.result;
  productions = each_trans g.productions h.productions k.productions s.productions t.productions;
}

-- ---- accepted

-- a table of a grammar that is the same but for order, in at most 32,768 bytes with at most 512 conditions, is accepted too
pub accepted_same : (bs cs : List ℕ) (g h : Grammar) → Bytes bs → Bytes cs → Accepted bs g → SameButOrder g h → LaidOut h cs → length cs ≤ table_limit → FewConditions h → Accepted cs h
accepted_same bs cs g h b c a s l n few =
    let m = (accepted_exactly bs b g).0 a in
    let v = accepts_same g h s few (record { well_formed = m.well_formed; useful = m.useful; no_recursion = m.no_recursion; no_clash = m.no_clash }) in
    (accepted_exactly cs c h).1 (record { short = n; laid_out = l; well_formed = v.well_formed; useful = v.useful; no_recursion = v.no_recursion; no_clash = v.no_clash })

pub house_accepted : HouseAccepted
house_accepted bs g b a =
    let m = (accepted_exactly bs b g).0 a in
    let s = house_same g m.well_formed in
    let n = house_short g bs m.laid_out in
    let c = house_bytes_lem g bs m.laid_out b in
    record { bytes = c; accepts = accepted_same bs (house_bytes g) g (house_grammar g) b c a s (house_laid_out g) (omega (arith, n, m.short)) (house_few g m.well_formed); same = s; short = n }

well : (bs : List ℕ) (g : Grammar) → Bytes bs → Accepted bs g → WellFormed g
well bs g b a = ((accepted_exactly bs b g).0 a).well_formed

-- ---- alike

-- a table has one grammar
one_grammar : (bs : List ℕ) (g h : Grammar) → Accepted bs g → Accepted bs h → g ≡ h
one_grammar bs g h a b = sym a.is_grammar ∙ (ap grammar_of (go a.state b.state (sym a.is_read ∙ b.is_read)) ∙ b.is_grammar)
  where
    go : (s t : State) → well_formed s ≡ well_formed t → s ≡ t
    go s t e = cc

pub house_alike_exactly : HouseAlike
house_alike_exactly bs cs g h b c x y = (back, bytes_alike g h (well bs g b x))
  where
    back : house_bytes g ≡ house_bytes h → SameButOrder g h
    back e =
        let u = house_accepted bs g b x in
        let v = house_accepted cs h c y in
        let k = one_grammar (house_bytes h) (house_grammar g) (house_grammar h) (subst (λ t. Accepted t (house_grammar g)) e u.accepts) v.accepts in
        same_but_trans g (house_grammar h) h (subst (SameButOrder g) k u.same) (same_but_sym h (house_grammar h) v.same)

-- ---- the call

-- by what the table is
abbrev house_by : List ℕ → Checked → HouseCalled
house_by buffer k = elim k as (λ z. HouseCalled) [ unusable n o ↦ record { answer = turned_back n o; buffer = buffer } | usable s ↦ writing (house_bytes (grammar_of s)) buffer ]

pub house_usable : (bs : List ℕ) (s : State) (buffer : List ℕ) → check bs ≡ usable s → house_of bs buffer ≡ writing (house_bytes (grammar_of s)) buffer
house_usable bs s buffer e = ap (house_by buffer) e

pub house_unusable : (bs : List ℕ) (n o : ℕ) (buffer : List ℕ) → check bs ≡ unusable n o → house_of bs buffer ≡ record { answer = turned_back n o; buffer = buffer }
house_unusable bs n o buffer e = ap (house_by buffer) e

house_is_lem : (bs : List ℕ) (g : Grammar) (buffer : List ℕ) → Accepted bs g → house_of bs buffer ≡ writing (house_bytes g) buffer
house_is_lem bs g buffer a = ap (house_by buffer) (checks bs g a) ∙ ap (λ h. writing (house_bytes h) buffer) a.is_grammar

pub house_alike_calls : HouseAlikeCalls
house_alike_calls bs cs g h buffer b x y s = house_is_lem bs g buffer x ∙ (ap (λ t. writing t buffer) (bytes_alike g h (well bs g b x) s) ∙ sym (house_is_lem cs h buffer y))

pub house_second : HouseTwice
house_second bs g buffer b a = house_is_lem (house_bytes g) (house_grammar g) buffer (house_accepted bs g b a).accepts ∙ (ap (λ t. writing t buffer) (bytes_twice g) ∙ sym (house_is_lem bs g buffer a))

pub writing_long : (table buffer : List ℕ) → length table ≤ length buffer → writing table buffer ≡ record { answer = wrote (length table); buffer = written table buffer }
writing_long table buffer l = go (ltb (length buffer) (length table)) refl
  where
    go : (b : Bool) → ltb (length buffer) (length table) ≡ b → ◌≡◌ {A = HouseCalled} (elim b as (λ z. HouseCalled) [
      | true ↦ record { answer = turned_back 36 0; buffer = buffer }
      | false ↦ record { answer = wrote (length table); buffer = written table buffer }
    ]) (record { answer = wrote (length table); buffer = written table buffer })
    go true e = absurd (omega (arith, ltb→lt (length buffer) (length table) (rw e tt)))
    go false e = refl

pub house_writes : HouseWrites
house_writes bs g buffer a l =
    let e = house_is_lem bs g buffer a ∙ writing_long (house_bytes g) buffer l in (
      ap (λ k. k.answer) e,
      ap (λ k. take (length (house_bytes g)) k.buffer) e ∙ take-append_seam (house_bytes g) (drop (length (house_bytes g)) buffer),
      ap (λ k. drop (length (house_bytes g)) k.buffer) e ∙ drop-append_seam (house_bytes g) (drop (length (house_bytes g)) buffer),
    )

pub writing_short : (table buffer : List ℕ) → length buffer < length table → writing table buffer ≡ record { answer = turned_back 36 0; buffer = buffer }
writing_short table buffer l = ap (λ (b : Bool). elim b as (λ z. HouseCalled) [
  | true ↦ record { answer = turned_back 36 0; buffer = buffer }
  | false ↦ record { answer = wrote (length table); buffer = written table buffer }
]) (T→true (ltb (length buffer) (length table)) (lt→ltb (length buffer) (length table) l))

pub house_turns_back : HouseTurnsBack
house_turns_back = (
  (λ bs buffer n o e. house_unusable bs n o buffer (refuses bs n o e)),
  (λ bs g buffer a l. house_is_lem bs g buffer a ∙ writing_short (house_bytes g) buffer l),
)

-- ---- every segment keeps its value or refusal

short_area : (program : Grammar → List ℕ) (bs area : List ℕ) (brought : Record) (m : Stacks) (made : Grammar → Called) → ltb (length area) area_length ≡ true → called program bs area brought m made ≡ effect (as_brought (refused 30 0) brought m) area
short_area program bs area brought m made e = ap (λ (b : Bool). elim b as (λ z. Effect) [
  | true ↦ effect (as_brought (refused 30 0) brought m) area
  | false ↦ elim (check bs) as (λ z. Effect) [ unusable n o ↦ effect (as_brought (table_refused n o) brought m) area | usable s ↦ effect (made (grammar_of s)) (written (program (grammar_of s)) area) ]
]) e

same_effects : (e f : Effect) (k : Called) (x y : List ℕ) → e ≡ effect k x → f ≡ effect k y → SameButProgram e f
same_effects e f k x y p q = record { answer = ap (λ z. z.answer) p ∙ sym (ap (λ z. z.answer) q); state = ap (λ z. z.state) p ∙ sym (ap (λ z. z.state) q); stacks = ap (λ z. z.stacks) p ∙ sym (ap (λ z. z.stacks) q) }

pub called_same : (program : Grammar → List ℕ) (bs cs : List ℕ) (g h : Grammar) (area : List ℕ) (brought : Record) (m : Stacks) (made : Grammar → Called)
    → Accepted bs g → Accepted cs h → made g ≡ made h → SameButProgram (called program bs area brought m made) (called program cs area brought m made)
called_same program bs cs g h area brought m made x y e = go (ltb (length area) area_length) refl
  where
    go : (b : Bool) → ltb (length area) area_length ≡ b → SameButProgram (called program bs area brought m made) (called program cs area brought m made)
    go true q = same_effects (called program bs area brought m made) (called program cs area brought m made) (as_brought (refused 30 0) brought m) area area (short_area program bs area brought m made q) (short_area program cs area brought m made q)
    go false q =
        let l : area_length ≤ length area = nltb→le (length area) area_length (rw q tt) in
        same_effects (called program bs area brought m made) (called program cs area brought m made) (made h) (written (program g) area) (written (program h) area)
        (called_is program bs g x area l brought m made ∙ ap (λ k. effect k (written (program g) area)) e)
        (called_is program cs h y area l brought m made)

-- any two accepted tables that are the same but for order
pub calls_same : (program : Grammar → List ℕ) (bs cs : List ℕ) (g h : Grammar) (area : List ℕ) (m : Stacks) → Bytes bs → Accepted bs g → Accepted cs h → SameButOrder g h
    → SameButProgram (opens program bs area m) (opens program cs area m)
    × ((r : Record) (c : Call) → SameButProgram (performs program bs area r m c) (performs program cs area r m c))
calls_same program bs cs g h area m b x y s = (
  called_same program bs cs g h area closed_record m (λ k. open_of k m) x y (open_same g h (well bs g b x) s m),
  (λ r c. called_same program bs cs g h area r m (λ k. call_of k r m c) x y (call_same g h (well bs g b x) s r m c)),
)

pub house_keeps : HouseKeeps
house_keeps program bs g area m b a = let v = house_accepted bs g b a in calls_same program bs (house_bytes g) g (house_grammar g) area m b a v.accepts v.same

pub house_keeps_inner : HouseKeepsInner
house_keeps_inner program bs g area m b a =
    let v = house_accepted bs g b a in
    let w = well bs g b a in
    let h = house_grammar g in (
      outer_same program area bs (house_bytes g) g h w v.same a v.accepts m,
      inner_same program area bs (house_bytes g) g h w v.same a v.accepts m,
      later_same program area bs (house_bytes g) g h w v.same a v.accepts m,
    )
