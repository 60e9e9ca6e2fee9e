-- What one move of the machine leads to, by its instruction.
use Rattle.std.specs.Prelude.{ℕ, zero, suc, ◌+◌, ◌≤◌, ◌<◌, ◌≡◌, refl, Bool, true, false, not, ◌&&◌, cond, List, [], ◌∷◌, ◌++◌, length, drop, T, ltb, leb, eqb, ℤ}
use Rattle.std.proofs.Common.{arith, sym, ap, subst, ap₂, inl, eqb→eq, nltb→le}
use Rattle.std.proofs.Math.Dec.{nleb→lt}
use Rattle.meaning.specs.Base.{In, all, is_empty, keep, count_from}
use Rattle.meaning.specs.Grammar.{Grammar, Leaf, terminal, nonterminal, production_at, Look}
use Rattle.meaning.specs.Value.{apply, holds, in_range}
use Rattle.meaning.specs.Scheme.{Instruction, add, evaluate, expect, test, remove}
use Rattle.meaning.specs.Machine.{Frame, Config, Lent, Coming, comes, ends, as_look, Outcome, moved, blocked, next, next_of, move, read_register, write_all, moves_limit, onward, parent_onward, accept, predict, push}
use Rattle.meaning.specs.Machine.{alternatives, entered, is_of, unexpected, scheme_at, Settled, stopped, failed, waits, is_done, advance}
use Rattle.meaning.specs.Sets.{look_number, starts, has}
use Rattle.meaning.specs.Part.{marks, frame, config}
use Rattle.theory_base.specs.Members.{both, in_keep, from_in}

pub not_moved : {k : ℕ} {d : Config} {A : Type 0} → blocked k ≡ moved d → A
not_moved e = absurd (let z : ◌≡◌ {A = ℕ} 0 1 = cc in omega arith)

pub unless : (b : Bool) (k : ℕ) (o : Outcome) (d : Config) → cond b (blocked k) o ≡ moved d → T (not b) × (o ≡ moved d)
unless true k o d e = not_moved e
unless false k o d e = (tt, e)

pub provided : (b : Bool) (k : ℕ) (o : Outcome) (d : Config) → cond b o (blocked k) ≡ moved d → T b × (o ≡ moved d)
provided true k o d e = (tt, e)
provided false k o d e = not_moved e

pub moved_is : (c d : Config) → moved c ≡ moved d → c ≡ d
moved_is c d e = cc

-- 35 did not refuse it
pub below_limit : (moves : ℕ) (o : Outcome) (d : Config) → cond (leb moves_limit moves) (blocked 35) o ≡ moved d → (moves < moves_limit) × (o ≡ moved d)
below_limit moves o d h = let u = unless (leb moves_limit moves) 35 o d h in (nleb→lt moves_limit moves u.0, u.1)

-- ---- the instruction of a move

pub record AtHand (g : Grammar) (lent : Lent) (l : Coming) (c d : Config) : Type 0 where
  pub production : ℕ
  pub below : List Frame
  pub instruction : Instruction
  pub rest : List Instruction
  pub frames : c.frames ≡ frame production (instruction ∷ rest) ∷ below
  pub limit : c.moves < moves_limit
  pub makes : move g lent l c (frame production (instruction ∷ rest)) below instruction ≡ moved d

-- the instruction known
pub move_of : (g : Grammar) (lent : Lent) (l : Coming) (c d : Config) (p : ℕ) (i : Instruction) (is : List Instruction) (fs : List Frame) → c.frames ≡ frame p (i ∷ is) ∷ fs → next g lent l c ≡ moved d → (c.moves < moves_limit) × (move g lent l c (frame p (i ∷ is)) fs i ≡ moved d)
move_of g lent l c d p i is fs e h = below_limit c.moves (move g lent l c (frame p (i ∷ is)) fs i) d (subst (λ z. next_of g lent l c z ≡ moved d) e h)

pub at_hand : (g : Grammar) (lent : Lent) (l : Coming) (c d : Config) → next g lent l c ≡ moved d → AtHand g lent l c d
at_hand g lent l c d h = go c.frames refl h
  where
    at : (p : ℕ) (fs : List Frame) (is : List Instruction) → c.frames ≡ frame p is ∷ fs → next_of g lent l c (frame p is ∷ fs) ≡ moved d → AtHand g lent l c d
    at p fs [] e h = not_moved h
    at p fs (i ∷ is) e h =
        let u = below_limit c.moves (move g lent l c (frame p (i ∷ is)) fs i) d h in
        record { production = p; below = fs; instruction = i; rest = is; frames = e; limit = u.0; makes = u.1 }

    go : (fs : List Frame) → c.frames ≡ fs → next_of g lent l c fs ≡ moved d → AtHand g lent l c d
    go [] e h = not_moved h
    go (f ∷ fs) e h = at f.production fs f.rest e h

-- ---- the read and the predict

-- a token of kind t read: its values are added
pub record Accepted (lent : Lent) (c : Config) (f : Frame) (fs : List Frame) (t : ℕ) (l : Coming) (d : Config) : Type 0 where
  pub leaf : Leaf
  pub ahead : l ≡ comes leaf
  pub kind : leaf.kind ≡ t
  pub fits : length c.registers + length leaf.values ≤ lent.max_registers
  pub result : config (onward f ∷ fs) (leaf.values ++ c.registers) (suc c.tokens) (suc c.moves) ≡ d

must_accept : (lent : Lent) (c : Config) (f : Frame) (fs : List Frame) (t : ℕ) (l : Coming) (d : Config) → accept lent c f fs t l ≡ moved d → Accepted lent c f fs t l d
must_accept lent c f fs t ends d h = not_moved h
must_accept lent c f fs t (comes u) d h =
    let e : Config = config (onward f ∷ fs) (u.values ++ c.registers) (suc c.tokens) (suc c.moves) in
    let full : Bool = ltb lent.max_registers (length c.registers + length u.values) in
    let v = provided (eqb t u.kind) 21 (cond full (blocked 31) (moved e)) d h in
    let w = unless full 31 (moved e) d v.1 in
    record { leaf = u; ahead = refl; kind = sym (eqb→eq t u.kind v.0); fits = nltb→le lent.max_registers (length c.registers + length u.values) w.0; result = moved_is e d w.1 }

-- the production predicted
pub record Predicted (g : Grammar) (lent : Lent) (n : ℕ) (l : Look) (fs : List Frame) (rs : List ℤ) (tokens moves : ℕ) (d : Config) : Type 0 where
  pub production : ℕ
  pub among : In production (keep (entered g rs) (alternatives g n l))
  pub listed : production < length g.productions
  pub left : (production_at g production).left ≡ n
  pub entry : T (entered g rs production)
  pub fits : suc (length fs) ≤ lent.max_places
  pub result : config (frame production (scheme_at g production) ∷ fs) rs tokens (suc moves) ≡ d

must_push : (g : Grammar) (lent : Lent) (n : ℕ) (l : Look) (c : Config) (d : Config) (ps : List ℕ) → keep (entered g c.registers) (alternatives g n l) ≡ ps → push g lent c ps ≡ moved d → Predicted g lent n l c.frames c.registers c.tokens c.moves d
must_push g lent n l c d [] e h = not_moved h
must_push g lent n l c d (p ∷ ps) e h =
    let o : Config = config (frame p (scheme_at g p) ∷ c.frames) c.registers c.tokens (suc c.moves) in
    let i : In p (keep (entered g c.registers) (alternatives g n l)) = rw e (inl refl) in
    let a = in_keep (entered g c.registers) (alternatives g n l) p i in
    let b = in_keep (is_of g n l) (count_from 0 (length g.productions)) p a.1 in
    let k = both (eqb (production_at g p).left n) (has (starts g (production_at g p)) (look_number l)) b.0 in
    let u = unless (ltb lent.max_places (suc (length c.frames))) 32 (moved o) d h in
    record {
      production = p;
      among = i;
      listed = omega (arith, (from_in 0 (length g.productions) p b.1).1);
      left = eqb→eq (production_at g p).left n k.0;
      entry = a.0;
      fits = nltb→le lent.max_places (suc (length c.frames)) u.0;
      result = moved_is o d u.1;
    }

must_foresee : (g : Grammar) (lent : Lent) (n : ℕ) (l : Look) (c d : Config) → predict g lent c n l ≡ moved d → Predicted g lent n l c.frames c.registers c.tokens c.moves d
must_foresee g lent n l c d h =
    let ps : List ℕ = keep (entered g c.registers) (alternatives g n l) in
    must_push g lent n l c d ps refl (unless (is_empty (alternatives g n l)) (unexpected l) (push g lent c ps) d h).1

-- ---- what a move leads to, by its instruction

abbrev pub Result : Grammar → Lent → Coming → Config → Frame → List Frame → Instruction → Config → Type 0
Result g lent l c f fs (add n) d = (length c.registers + n ≤ lent.max_registers) × (config (onward f ∷ fs) (marks n ++ c.registers) c.tokens (suc c.moves) ≡ d)
Result g lent l c f fs (evaluate rules) d = T (all (λ r. in_range (apply (read_register c.registers) r.function)) rules) × (config (onward f ∷ fs) (write_all rules c.registers c.registers) c.tokens (suc c.moves) ≡ d)
Result g lent l c f fs (test cs) d = T (all (holds (read_register c.registers)) cs) × (config (onward f ∷ fs) c.registers c.tokens (suc c.moves) ≡ d)
Result g lent l c f fs (remove n) d = config (parent_onward fs) (drop n c.registers) c.tokens (suc c.moves) ≡ d
Result g lent l c f fs (expect (terminal t)) d = Accepted lent c f fs t l d
Result g lent l c f fs (expect (nonterminal n)) d = Predicted g lent n (as_look l) c.frames c.registers c.tokens c.moves d

pub result : (g : Grammar) (lent : Lent) (l : Coming) (c : Config) (f : Frame) (fs : List Frame) (i : Instruction) (d : Config) → move g lent l c f fs i ≡ moved d → Result g lent l c f fs i d
result g lent l c f fs (add n) d h =
    let e : Config = config (onward f ∷ fs) (marks n ++ c.registers) c.tokens (suc c.moves) in
    let u = unless (ltb lent.max_registers (length c.registers + n)) 31 (moved e) d h in
    (nltb→le lent.max_registers (length c.registers + n) u.0, moved_is e d u.1)
result g lent l c f fs (evaluate rules) d h =
    let e : Config = config (onward f ∷ fs) (write_all rules c.registers c.registers) c.tokens (suc c.moves) in
    let u = provided (all (λ q. in_range (apply (read_register c.registers) q.function)) rules) 23 (moved e) d h in
    (u.0, moved_is e d u.1)
result g lent l c f fs (test cs) d h =
    let e : Config = config (onward f ∷ fs) c.registers c.tokens (suc c.moves) in
    let u = provided (all (holds (read_register c.registers)) cs) 22 (moved e) d h in
    (u.0, moved_is e d u.1)
result g lent l c f fs (remove n) d h = moved_is (config (parent_onward fs) (drop n c.registers) c.tokens (suc c.moves)) d h
result g lent l c f fs (expect (terminal t)) d h = must_accept lent c f fs t l d h
result g lent l c f fs (expect (nonterminal n)) d h = must_foresee g lent n (as_look l) c d h

-- ---- one turn of `advance`

module _ (g : Grammar) (lent : Lent) (look : Coming) (n : ℕ) where
  -- whether to stop, and the outcome of the move at hand; a move leads on
  abbrev turn : (Config → Settled) → Config → Bool → Outcome → Settled
  turn on c b o = elim b as (λ x. Settled) [ true ↦ stopped c | false ↦ elim o as (λ x. Settled) [ blocked k ↦ failed c k | moved d ↦ on d ] ]

  pub advance_stopped : (left : ℕ) (c : Config) → waits c.frames && is_done look n c ≡ true → advance left g lent look n c ≡ stopped c
  advance_stopped zero c e = ap (λ b. turn (λ d. failed c 35) c b (next g lent look c)) e
  advance_stopped (suc left) c e = ap (λ b. turn (λ d. advance left g lent look n d) c b (next g lent look c)) e

  pub advance_failed : (left : ℕ) (c : Config) (k : ℕ) → waits c.frames && is_done look n c ≡ false → next g lent look c ≡ blocked k → advance left g lent look n c ≡ failed c k
  advance_failed zero c k e f = ap₂ (turn (λ d. failed c 35) c) e f
  advance_failed (suc left) c k e f = ap₂ (turn (λ d. advance left g lent look n d) c) e f

  pub advance_moved : (left : ℕ) (c d : Config) → waits c.frames && is_done look n c ≡ false → next g lent look c ≡ moved d → advance (suc left) g lent look n c ≡ advance left g lent look n d
  advance_moved left c d e f = ap₂ (turn (λ z. advance left g lent look n z) c) e f
