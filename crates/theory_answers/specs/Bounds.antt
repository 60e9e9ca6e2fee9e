-- What a move counts, what it keeps within, and what blocks it.
use Rattle.std.specs.Prelude.{ℕ, suc, ◌+◌, ◌-◌, ◌≤◌, ◌<◌, ◌≡◌, refl, ◌⊎◌, Bool, true, false, cond, List, [], ◌∷◌, ◌++◌, length, drop, T, ltb, leb, eqb, ℤ}
use Rattle.std.proofs.Common.{arith, sym, ap, ◌∙◌, subst, inl, inr, length-append, length-drop, length-set, leb→le}
use Rattle.std.proofs.lemmas.List.{length-replicate}
use Rattle.meaning.specs.Base.{all, is_empty, keep}
use Rattle.meaning.specs.Grammar.{Grammar, Leaf, Rule, terminal, nonterminal}
use Rattle.meaning.specs.Value.{apply, holds, in_range, mark}
use Rattle.meaning.specs.Scheme.{Instruction, add, evaluate, expect, test, remove}
use Rattle.meaning.specs.Machine.{Frame, Config, Lent, Coming, comes, ends, as_look, Outcome, moved, blocked, counted, step, next, next_of, move, read_register, write_register, write_all, moves_limit, onward, parent_onward, accept, push, waits, alternatives, entered, unexpected, scheme_at}
use Rattle.meaning.specs.Part.{marks, frame, config}
use Rattle.theory_base.specs.Steps.{at_hand, Result, result}
use Rattle.theory_answers.specs.Memory.{Within}

-- ---- what it counts

-- only the read of the token at hand counts a token
pub record Counts (l : Coming) (c d : Config) : Type 0 where
  pub tokens : (d.tokens ≡ c.tokens) ⊎ ((t : Leaf) × (l ≡ comes t) × (d.tokens ≡ suc c.tokens))
  pub moves : d.moves ≡ suc c.moves

same_tokens : (l : Coming) (c d : Config) (fs : List Frame) (rs : List ℤ) → config fs rs c.tokens (suc c.moves) ≡ d → Counts l c d
same_tokens l c d fs rs e = record { tokens = inl (ap (λ z. z.tokens) (sym e)); moves = ap (λ z. z.moves) (sym e) }

counts_by : (g : Grammar) (lent : Lent) (l : Coming) (c d : Config) (f : Frame) (fs : List Frame) (i : Instruction) → Result g lent l c f fs i d → Counts l c d
counts_by g lent l c d f fs (add n) r = same_tokens l c d (onward f ∷ fs) (marks n ++ c.registers) r.1
counts_by g lent l c d f fs (evaluate rules) r = same_tokens l c d (onward f ∷ fs) (write_all rules c.registers c.registers) r.1
counts_by g lent l c d f fs (test cs) r = same_tokens l c d (onward f ∷ fs) c.registers r.1
counts_by g lent l c d f fs (remove n) r = same_tokens l c d (parent_onward fs) (drop n c.registers) r
counts_by g lent l c d f fs (expect (terminal t)) r = record { tokens = inr (r.leaf, r.ahead, ap (λ z. z.tokens) (sym r.result)); moves = ap (λ z. z.moves) (sym r.result) }
counts_by g lent l c d f fs (expect (nonterminal n)) r = same_tokens l c d (frame r.production (scheme_at g r.production) ∷ c.frames) c.registers r.result

pub counts : (g : Grammar) (lent : Lent) (l : Coming) (c d : Config) → next g lent l c ≡ moved d → Counts l c d
counts g lent l c d h = let a = at_hand g lent l c d h in counts_by g lent l c d (frame a.production (a.instruction ∷ a.rest)) a.below a.instruction (result g lent l c (frame a.production (a.instruction ∷ a.rest)) a.below a.instruction d a.makes)

-- ---- a machine that does not wait moves without looking

pub look_free : (g : Grammar) (lent : Lent) (l k : Coming) (c : Config) → waits c.frames ≡ false → next g lent l c ≡ next g lent k c
look_free g lent l k c w = go c.frames w
  where
    at : (p : ℕ) (is : List Instruction) (fs : List Frame) → waits (frame p is ∷ fs) ≡ false → next_of g lent l c (frame p is ∷ fs) ≡ next_of g lent k c (frame p is ∷ fs)
    at p [] fs w = absurd (subst T w tt)
    at p (add n ∷ is) fs w = refl
    at p (evaluate rules ∷ is) fs w = refl
    at p (test cs ∷ is) fs w = refl
    at p (remove n ∷ is) fs w = refl
    at p (expect x ∷ is) fs w = absurd (subst T w tt)

    go : (fs : List Frame) → waits fs ≡ false → next_of g lent l c fs ≡ next_of g lent k c fs
    go [] w = absurd (subst T w tt)
    go (f ∷ fs) w = at f.production f.rest fs w

-- and reads no token
pub no_read : (g : Grammar) (lent : Lent) (l : Coming) (c d : Config) → waits c.frames ≡ false → next g lent l c ≡ moved d → d.tokens ≡ c.tokens
no_read g lent l c d w h = go (counts g lent ends c d (look_free g lent ends l c w ∙ h)).tokens
  where
    go : (d.tokens ≡ c.tokens) ⊎ ((t : Leaf) × (ends ≡ comes t) × (d.tokens ≡ suc c.tokens)) → d.tokens ≡ c.tokens
    go (inl e) = e
    go (inr v) = let e = v.1 in let z : ◌≡◌ {A = ℕ} 0 1 = cc in absurd (omega arith)

-- ---- what it keeps within

pub length_write_all : (rs : List (Rule ℕ)) (old xs : List ℤ) → length (write_all rs old xs) ≡ length xs
length_write_all [] old xs = refl
length_write_all (r ∷ rs) old xs = length_write_all rs old (write_register xs r.target (apply (read_register old) r.function)) ∙ length-set xs (r.target - 1) (apply (read_register old) r.function)

pub length_parent : (fs : List Frame) → length (parent_onward fs) ≡ length fs
length_parent [] = refl
length_parent (f ∷ fs) = refl

-- a configuration reached by one counted move
one_more : (lent : Lent) (fs : List Frame) (rs : List ℤ) (tokens moves : ℕ) (d : Config) → config fs rs tokens (suc moves) ≡ d → length fs ≤ lent.max_places → length rs ≤ lent.max_registers → moves < moves_limit → Within lent d
one_more lent fs rs tokens moves d e p r m = subst (Within lent) e (record { registers = r; places = p; moves = m })

within_by : (g : Grammar) (lent : Lent) (l : Coming) (c : Config) (f : Frame) (fs : List Frame) (i : Instruction) (d : Config) → Within lent c → length (f ∷ fs) ≤ lent.max_places → c.moves < moves_limit → Result g lent l c f fs i d → Within lent d
within_by g lent l c f fs (add n) d w p m r = one_more lent (onward f ∷ fs) (marks n ++ c.registers) c.tokens c.moves d r.1 p (omega (arith, length-append (marks n) c.registers, length-replicate n mark, r.0)) m
within_by g lent l c f fs (evaluate rules) d w p m r = one_more lent (onward f ∷ fs) (write_all rules c.registers c.registers) c.tokens c.moves d r.1 p (omega (arith, length_write_all rules c.registers c.registers, w.registers)) m
within_by g lent l c f fs (test cs) d w p m r = one_more lent (onward f ∷ fs) c.registers c.tokens c.moves d r.1 p w.registers m
within_by g lent l c f fs (remove n) d w p m r = one_more lent (parent_onward fs) (drop n c.registers) c.tokens c.moves d r (omega (arith, length_parent fs)) (omega (arith, length-drop n c.registers, w.registers)) m
within_by g lent l c f fs (expect (terminal t)) d w p m r = one_more lent (onward f ∷ fs) (r.leaf.values ++ c.registers) (suc c.tokens) c.moves d r.result p (omega (arith, length-append r.leaf.values c.registers, r.fits)) m
within_by g lent l c f fs (expect (nonterminal n)) d w p m r = one_more lent (frame r.production (scheme_at g r.production) ∷ c.frames) c.registers c.tokens c.moves d r.result r.fits w.registers m

pub within_move : (g : Grammar) (lent : Lent) (l : Coming) (c d : Config) → Within lent c → next g lent l c ≡ moved d → Within lent d
within_move g lent l c d w h =
    let a = at_hand g lent l c d h in
    let f : Frame = frame a.production (a.instruction ∷ a.rest) in
    within_by g lent l c f a.below a.instruction d w (omega (arith, w.places, ap length a.frames)) a.limit (result g lent l c f a.below a.instruction d a.makes)

-- ---- what blocks it

pub data Blocks (l : Coming) (c : Config) : ℕ → Type 0 where
  at_limit : moves_limit ≤ c.moves → Blocks l c 35
  not_expected : Blocks l c (unexpected (as_look l))
  condition_false : Blocks l c 22
  out_of_range : Blocks l c 23
  no_register : Blocks l c 31
  no_place : Blocks l c 32

abbrev Says : Coming → Config → Outcome → Type 0
Says l c (moved d) = Unit {0}
Says l c (blocked k) = Blocks l c k

says_either : (l : Coming) (c : Config) (b : Bool) (o u : Outcome) → Says l c o → Says l c u → Says l c (cond b o u)
says_either l c true o u s t = s
says_either l c false o u s t = t

says_push : (g : Grammar) (lent : Lent) (l : Coming) (c : Config) (ps : List ℕ) → Says l c (push g lent c ps)
says_push g lent l c [] = condition_false
says_push g lent l c (p ∷ ps) = says_either l c (ltb lent.max_places (suc (length c.frames))) (blocked 32) (step c (frame p (scheme_at g p) ∷ c.frames) c.registers) no_place tt

says_accept : (lent : Lent) (l : Coming) (c : Config) (f : Frame) (fs : List Frame) (t : ℕ) → Says l c (accept lent c f fs t l)
says_accept lent ends c f fs t = not_expected
says_accept lent (comes u) c f fs t =
    let e : Outcome = moved (config (onward f ∷ fs) (u.values ++ c.registers) (suc c.tokens) (suc c.moves)) in
    let full : Bool = ltb lent.max_registers (length c.registers + length u.values) in
    says_either (comes u) c (eqb t u.kind) (cond full (blocked 31) e) (blocked 21) (says_either (comes u) c full (blocked 31) e no_register tt) not_expected

says_move : (g : Grammar) (lent : Lent) (l : Coming) (c : Config) (f : Frame) (fs : List Frame) (i : Instruction) → Says l c (move g lent l c f fs i)
says_move g lent l c f fs (add n) = says_either l c (ltb lent.max_registers (length c.registers + n)) (blocked 31) (step c (onward f ∷ fs) (marks n ++ c.registers)) no_register tt
says_move g lent l c f fs (evaluate rules) = says_either l c (all (λ r. in_range (apply (read_register c.registers) r.function)) rules) (step c (onward f ∷ fs) (write_all rules c.registers c.registers)) (blocked 23) tt out_of_range
says_move g lent l c f fs (test cs) = says_either l c (all (holds (read_register c.registers)) cs) (step c (onward f ∷ fs) c.registers) (blocked 22) tt condition_false
says_move g lent l c f fs (remove n) = tt
says_move g lent l c f fs (expect (terminal t)) = says_accept lent l c f fs t
says_move g lent l c f fs (expect (nonterminal n)) =
    says_either l c (is_empty (alternatives g n (as_look l))) (blocked (unexpected (as_look l))) (push g lent c (keep (entered g c.registers) (alternatives g n (as_look l)))) not_expected (says_push g lent l c (keep (entered g c.registers) (alternatives g n (as_look l))))

says_counted : (l : Coming) (c : Config) (o : Outcome) → Says l c o → Says l c (counted c o)
says_counted l c o s = go (leb moves_limit c.moves) refl
  where
    go : (b : Bool) → leb moves_limit c.moves ≡ b → Says l c (cond b (blocked 35) o)
    go true e = at_limit (leb→le moves_limit c.moves (rw e tt))
    go false e = s

says_next : (g : Grammar) (lent : Lent) (l : Coming) (c : Config) → Says l c (next g lent l c)
says_next g lent l c = go c.frames
  where
    at : (p : ℕ) (is : List Instruction) (fs : List Frame) → Says l c (next_of g lent l c (frame p is ∷ fs))
    at p [] fs = not_expected
    at p (i ∷ is) fs = says_counted l c (move g lent l c (frame p (i ∷ is)) fs i) (says_move g lent l c (frame p (i ∷ is)) fs i)

    go : (fs : List Frame) → Says l c (next_of g lent l c fs)
    go [] = not_expected
    go (f ∷ fs) = at f.production f.rest fs

pub blocks : (g : Grammar) (lent : Lent) (l : Coming) (c : Config) (k : ℕ) → next g lent l c ≡ blocked k → Blocks l c k
blocks g lent l c k h = subst (Says l c) h (says_next g lent l c)
