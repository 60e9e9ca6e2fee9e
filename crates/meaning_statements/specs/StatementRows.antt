-- What the statements exclude: an answer, an engine and a record that do not meet them; and what counts for nothing in a list of calls.
use Rattle.std.specs.Prelude.{ℕ, ◌≤◌, ◌<◌, ◌≡◌, refl, true, false, Bool, List, [], ◌∷◌, ◌++◌, map, length, replicate, ℤ, pos, T, ltb}
use Rattle.std.proofs.Common.{arith, sym, ap, ap₂, ◌∙◌, subst, lit≤}
use Rattle.std.proofs.lemmas.List.{length-replicate}
use Rattle.meaning.specs.Grammar.{Grammar, Token, Leaf}
use Rattle.meaning.specs.Judgement.{Accepted}
use Rattle.meaning.specs.Machine.{Config, Lent, comes, moved, blocked, opening, next, look_at, waits, tokens_limit}
use Rattle.meaning.specs.Walk.{Act, Makes, nothing, and_then}
use Rattle.meaning.specs.Calls.{Record, Stacks, Answer, more, value, refused, table_refused, closed_record, lent_of, config_of}
use Rattle.meaning.specs.PublicCalls.{Call, feed, finish, area_length, called}
use Rattle.meaning_inner.specs.Inner.{give_up, inner_opens, inner_performs}
use Rattle.meaning_inner.specs.InnerLists.{inner_run, Both}
use Rattle.meaning_statements.specs.CallStatements.{handed_back, OpeningOf, Refuses, too_many, not_token, at_token, at_end, between, MovesTo}
use Rattle.meaning_statements.specs.Statements.{History, counts_for_nothing, inner_ended_value, Reached}
use Rattle.meaning.specs.Examples.WordsAndTags.{words, bare, plain}
use Rattle.meaning.specs.Examples.TableRows.{bytes}
use Rattle.meaning.specs.Examples.CallRows.{m, state, stacks, used}
use Rattle.meaning.specs.Examples.Samples.{small}

abbrev pub program : Grammar → List ℕ
program g = 7 ∷ 8 ∷ length g.productions ∷ []

abbrev pub area : List ℕ
area = replicate 16384 5

pub long : area_length ≤ length area
long = subst (λ n. area_length ≤ n) (sym (length-replicate {A = ℕ} 16384 5)) (lit≤ tt)

-- kinds, with 0 for every value
abbrev none : List ℕ → List ℤ
none ks = map (λ k. pos 0) ks

abbrev pub feed_kinds : List ℕ → Call
feed_kinds ks = feed ks (none ks)

-- ---- answers that the moves do not give

-- where the move at hand is blocked, none is made
pub stuck : (g : Grammar) (lent : Lent) (us : List Leaf) (c : Config) (k : ℕ) → next g lent (look_at us) c ≡ blocked k → {ws : List Act} {vs : List Leaf} {d : Config} → Makes g lent us c ws vs d → (ws ≡ []) × (vs ≡ us) × (d ≡ c)
stuck g lent us c k b nothing = (refl, refl, refl)
stuck g lent us c k b (and_then {vs = vs} {d = d} p i is fs e x f h) =
    let s = stuck g lent us c k b x in
    let q : blocked k ≡ moved e = sym b ∙ (sym (ap₂ (λ y z. next g lent (look_at y) z) s.1 s.2) ∙ h) in
    absurd (let z : ◌≡◌ {A = ℕ} 0 1 = cc in omega arith)

-- the opening's places and registers, with so many tokens and moves
abbrev pub fresh : ℕ → ℕ → Config
fresh t n = config_of words (state true t n 1 1) (stacks (m ∷ []) (32768 ∷ []))

-- a call from c that answers a, whatever it leaves
abbrev pub Answered : Config → Call → Answer → Type 0
Answered c call a = (r : Record) (s : Stacks) (ws : List ℕ) → MovesTo program area words (stacks (m ∷ []) (32768 ∷ [])) c call (handed_back a r s ws) → ⊥

abbrev pub lent : Lent
lent = lent_of (stacks (m ∷ []) (32768 ∷ []))

number_is : (a b : ℕ) → blocked a ≡ blocked b → a ≡ b
number_is a b e = cc

-- a token t at which the move is blocked by j is refused by 35, by 20 or by j
pub not_by : (c : Config) (t j k o : ℕ) → waits c.frames ≡ true → next words lent (comes (bare t)) c ≡ blocked j
    → (k ≡ 35 → c.tokens ≡ tokens_limit → ⊥) → (k ≡ 20 → c.tokens < tokens_limit → 3 ≤ t → ⊥) → (j ≡ k → c.tokens < tokens_limit → t < 3 → ⊥)
    → Answered c (feed_kinds (t ∷ [])) (refused k o)
not_by c t j k o w b many unknown other r s ws x = by x.says.1 (stuck words lent (plain (t ∷ [])) c j b (x.made [] tt))
  where
    first : {left us : List Leaf} {u : Leaf} → left ≡ u ∷ us → left ++ [] ≡ plain (t ∷ []) → u ≡ bare t
    first l e = let q = sym (ap (λ z. z ++ []) l) ∙ e in cc

    by : {Behind : List Leaf → Type 0} {ts left : List Leaf} {d : Config} {moves : List Act} → Refuses words lent Behind ts c moves left d k → (moves ≡ []) × (left ++ [] ≡ plain (t ∷ [])) × (d ≡ c) → ⊥
    by (too_many q u us l n v y) e = many q (sym (ap (λ d. d.tokens) e.2) ∙ n)
    by (not_token q u us l n f v y) e = unknown q (subst (λ d. d.tokens < tokens_limit) e.2 n) (subst (λ v. 3 ≤ v.kind) (first l e.1) f)
    by (at_token u us l n f h) e =
        let here = first l e.1 in
        other (number_is j k (sym (ap₂ (λ p q. next words lent (comes p) q) here e.2 ∙ b) ∙ h)) (subst (λ d. d.tokens < tokens_limit) e.2 n) (subst (λ v. v.kind < 3) here f)
    by (at_end l d f h) e = absurd (omega (arith, ap length (sym (ap (λ z. z ++ []) l) ∙ e.1)))
    by (between v y h) e = absurd (subst T (sym w ∙ (sym (ap (λ d. waits d.frames) e.2) ∙ v)) tt)

-- ---- engines

-- the number of an answer that is a refusal
abbrev refusal : Answer → ℕ
refusal (more n) = 0
refusal (value v n) = 0
refusal (refused k o) = k
refusal (table_refused k o) = k

-- one that turns every opening back by 31
never_opens : Accepted bytes words → OpeningOf (λ program bs ws s. handed_back (refused 31 0) closed_record s ws) → ⊥
never_opens a h = absurd (omega (arith, ap (λ e. refusal e.answer) ((h program bytes area words (used 8 5) long a).2 (lit≤ tt) (lit≤ tt))))

-- ---- records

-- an open record that has predicted as if the segment were over
looked_at_the_end : (s : Stacks) → Reached words (used 8 5) [] (state true 0 1 1 2) s → ⊥
looked_at_the_end s x =
    let e = stuck words (lent_of (used 8 5)) (plain (3 ∷ [])) (opening words) 21 refl ((x.open_run refl).0 (plain (3 ∷ []))) in
    absurd (omega (arith, x.counted, ap length e.0))

-- ---- what counts for nothing in a list of calls, on any area that is long enough

abbrev Long : List ℕ → Type 0
Long cells = ltb (length cells) area_length ≡ false

-- a call with another table, which is refused
other_table_refused : (cells : List ℕ) → Long cells → {ts : List Token} {o : Bool} {r : Record} {s : Stacks} → History program bytes (used 8 5) ts o r s → History program bytes (used 8 5) ts o r s
other_table_refused cells h x = counts_for_nothing (1 ∷ 0 ∷ []) cells finish x (rw (h, called)) (rw (h, called))

-- 02 (h): an inner run under the small table, given up at once
abbrev given_up : List ℕ → Both
given_up cells = inner_run program small small cells (state true 0 0 1 1) (stacks (m ∷ m ∷ []) (32768 ∷ 0 ∷ [])) (record { table = small; area = cells; call = give_up } ∷ [])

inner_ended : (cells : List ℕ) → Long cells → {ts : List Token} {o : Bool} → History program bytes (used 8 5) ts o (state true 0 0 1 1) (stacks (m ∷ m ∷ []) (32768 ∷ 0 ∷ [])) → History program bytes (used 8 5) ts o (given_up cells).outer_state (given_up cells).stacks
inner_ended cells h x = inner_ended_value small small cells (record { table = small; area = cells; call = give_up } ∷ []) x (rw (h, inner_opens)) (rw (inner_performs, h) (rw (inner_opens, h)))
