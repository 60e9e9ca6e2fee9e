-- What the top frame still has ahead of it, as words from an address on.
use Rattle.std.specs.Prelude.{ℕ, zero, suc, ◌+◌, ◌-◌, ◌≤◌, ◌<◌, ◌≡◌, refl, Bool, true, false, not, cond, List, [], ◌∷◌, ◌++◌, length, get_or, drop, T, eqb, ltb}
use Rattle.std.proofs.Common.{arith, sym, ap, ◌∙◌, subst, inr, append_assoc, append-nil, length-append, eqb→eq, ltb→lt}
use Rattle.meaning.specs.Base.{cons_if, is_empty}
use Rattle.meaning.specs.Grammar.{Symbol, terminal, nonterminal, Condition, Production, Grammar, added_for, production_at, whole, place_at, place_production, place_passed}
use Rattle.meaning.specs.Scheme.{Instruction, add, evaluate, expect, test, remove, scheme, symbols_scheme, inherited_rules, synthesized_rules, tests_after, removed}
use Rattle.meaning.specs.Rules.{WellFormed}
use Rattle.meaning.specs.Machine.{Frame, scheme_at, is_expect, expects, pending_test, place_of}
use Rattle.meaning.specs.Part.{frame}
use Rattle.meaning.specs.Calls.{from_expect, frame_of, is_listed, place_waits}
use Rattle.meaning.specs.Program.{instruction_words, scheme_words, segment_words, symbol_head, expects_at, test_operation, nothing_operation}
use Rattle.theory_base.specs.Members.{both}
use Rattle.theory_base.specs.WellFormed.{not_whole}
use Rattle.theory_base.specs.Frames.{scheme_listed}
use Rattle.theory_program.specs.WordsStand.{WordsStand, stands_left, stands_right, stands_word, stands_within}
use Rattle.theory_program.specs.Code.{CodeAt, operation}
use Rattle.theory_program.specs.Addresses.{Begins, scheme_address, expect_address, scheme_at_lem, segment_at, expects_scheme}
use Rattle.theory_program.specs.Proper.{AllProper, production_in, scheme_proper}
use Rattle.theory_program.specs.Resuming.{place_address, place_code, place_proper}

-- the whole segment's scheme is followed by a word that says that nothing is left
abbrev pub end_if : Bool → List ℕ
end_if true = nothing_operation ∷ []
end_if false = []

-- ---- tests stand right behind expects

abbrev pub Ordered : List Instruction → Type 0
Ordered [] = Unit {0}
Ordered (i ∷ is) = (is_expect i ≡ 0 → pending_test is ≡ 0) × Ordered is

-- an instruction that is no test, left out or not
ordered_if : (b : Bool) (i : Instruction) (is : List Instruction) → is_expect i ≡ 0 → pending_test (i ∷ []) ≡ 0 → Ordered is → pending_test is ≡ 0 → Ordered (cons_if b i is) × (pending_test (cons_if b i is) ≡ 0)
ordered_if true (add n) is e t o p = (((λ z. p), o), refl)
ordered_if true (evaluate rs) is e t o p = (((λ z. p), o), refl)
ordered_if true (remove n) is e t o p = (((λ z. p), o), refl)
ordered_if true (expect x) is e t o p = absurd (omega arith)
ordered_if true (test cs) is e t o p = absurd (omega arith)
ordered_if false i is e t o p = (o, p)

ordered_test : (b : Bool) (x : Symbol) (cs : List (Condition ℕ)) (is : List Instruction) → Ordered is → pending_test is ≡ 0 → Ordered (expect x ∷ cons_if b (test cs) is)
ordered_test true x cs is o p = ((λ z. absurd (omega arith)), ((λ z. p), o))
ordered_test false x cs is o p = ((λ z. absurd (omega arith)), o)

ordered_symbols : (g : Grammar) (p : Production) (k : ℕ) (xs : List Symbol) (tail : List Instruction) → Ordered tail → pending_test tail ≡ 0 → Ordered (symbols_scheme g p k xs tail) × (pending_test (symbols_scheme g p k xs tail) ≡ 0)
ordered_symbols g p k [] tail o t = (o, t)
ordered_symbols g p k (x ∷ xs) tail o t =
    let r = ordered_symbols g p (suc k) xs tail o t in
    let is : List Instruction = symbols_scheme g p (suc k) xs tail in
    let on_test = ordered_test (not (is_empty (tests_after g p k))) x (tests_after g p k) is r.0 r.1 in
    let behind : List Instruction = expect x ∷ cons_if (not (is_empty (tests_after g p k))) (test (tests_after g p k)) is in
    let on_rules = ordered_if (not (is_empty (inherited_rules g p k))) (evaluate (inherited_rules g p k)) behind refl refl on_test refl in
    ordered_if (ltb 0 (added_for g x)) (add (added_for g x)) (cons_if (not (is_empty (inherited_rules g p k))) (evaluate (inherited_rules g p k)) behind) refl refl on_rules.0 on_rules.1

ordered_scheme : (g : Grammar) (p : Production) → Ordered (scheme g p) × (pending_test (scheme g p) ≡ 0)
ordered_scheme g p =
    let tail : List Instruction = remove (removed g p) ∷ [] in
    let t = ordered_if (not (is_empty (synthesized_rules g p))) (evaluate (synthesized_rules g p)) tail refl refl ((λ z. refl), tt) refl in
    ordered_symbols g p 1 p.right (cons_if (not (is_empty (synthesized_rules g p))) (evaluate (synthesized_rules g p)) tail) t.0 t.1

ordered_from : (is : List Instruction) (k : ℕ) → Ordered is → Ordered (from_expect is k)
ordered_from [] k o = o
ordered_from (expect x ∷ is) zero o = o
ordered_from (expect x ∷ is) (suc k) o = ordered_from is k o.1
ordered_from (add n ∷ is) k o = ordered_from is k o.1
ordered_from (evaluate rs ∷ is) k o = ordered_from is k o.1
ordered_from (test cs ∷ is) k o = ordered_from is k o.1
ordered_from (remove n ∷ is) k o = ordered_from is k o.1

-- ---- expects counted

pending_one : (is : List Instruction) → pending_test is ≤ 1
pending_one [] = omega arith
pending_one (add n ∷ is) = omega arith
pending_one (evaluate rs ∷ is) = omega arith
pending_one (expect x ∷ is) = omega arith
pending_one (test cs ∷ is) = omega arith
pending_one (remove n ∷ is) = omega arith

few_from : (is : List Instruction) (k : ℕ) → expects (from_expect is k) + pending_test (from_expect is k) ≤ expects is
few_from [] k = omega arith
few_from (expect x ∷ is) zero = omega arith
few_from (expect x ∷ is) (suc k) = omega (arith, few_from is k)
few_from (add n ∷ is) k = omega (arith, few_from is k)
few_from (evaluate rs ∷ is) k = omega (arith, few_from is k)
few_from (test cs ∷ is) k = omega (arith, few_from is k)
few_from (remove n ∷ is) k = omega (arith, few_from is k)

few_next : (i : Instruction) (is : List Instruction) (n : ℕ) → Ordered (i ∷ is) → expects (i ∷ is) + pending_test (i ∷ is) ≤ n → expects is + pending_test is ≤ n
few_next (add k) is n o h = omega (arith, o.0 refl)
few_next (evaluate rs) is n o h = omega (arith, o.0 refl)
few_next (expect x) is n o h = omega (arith, pending_one is)
few_next (test cs) is n o h = omega (arith, o.0 refl)
few_next (remove k) is n o h = omega (arith, o.0 refl)

-- ---- where code ends

-- of the whole segment, behind its symbol; of any other production, behind its scheme
abbrev pub code_end : Grammar → ℕ → ℕ
code_end g p = cond (eqb p whole) 1 (scheme_address g p + length (scheme_words (scheme g (production_at g p))))

from_end : (a : ℕ) (is : List Instruction) (k : ℕ) → k < expects is → get_or (expects_at a is) k 0 + length (scheme_words (from_expect is k)) ≡ a + length (scheme_words is)
from_end a [] k l = absurd (omega arith)
from_end a (expect x ∷ is) zero l = refl
from_end a (expect x ∷ is) (suc k) l = from_end (suc a) is k (omega arith) ∙ omega (arith, length-append (instruction_words (expect x)) (scheme_words is))
from_end a (add n ∷ is) k l = from_end (a + length (instruction_words (add n))) is k (omega arith) ∙ omega (arith, length-append (instruction_words (add n)) (scheme_words is))
from_end a (evaluate rs ∷ is) k l = from_end (a + length (instruction_words (evaluate rs))) is k (omega arith) ∙ omega (arith, length-append (instruction_words (evaluate rs)) (scheme_words is))
from_end a (test cs ∷ is) k l = from_end (a + length (instruction_words (test cs))) is k (omega arith) ∙ omega (arith, length-append (instruction_words (test cs)) (scheme_words is))
from_end a (remove n ∷ is) k l = from_end (a + length (instruction_words (remove n))) is k (omega arith) ∙ omega (arith, length-append (instruction_words (remove n)) (scheme_words is))

-- from the address of a place that waits
pub place_end : (g : Grammar) (q : ℕ) → T (place_waits g q) → place_address g q + length (scheme_words (frame_of g q).rest) ≡ code_end g (place_production q)
place_end g q t = go (eqb p whole) refl
  where
    p : ℕ
    p = place_production q

    k : ℕ
    k = place_passed q

    short : k < length (production_at g p).right
    short = ltb→lt k (length (production_at g p).right) (both (is_listed g p) (ltb k (length (production_at g p).right)) t).1

    first : (j : ℕ) → j < length (production_at g whole).right → j + length (scheme_words (from_expect (expect (nonterminal g.start) ∷ []) j)) ≡ 1
    first zero l = refl
    first (suc j) l = absurd (omega arith)

    go : (z : Bool) → eqb p whole ≡ z → cond z k (expect_address g p k) + length (scheme_words (from_expect (cond z (expect (nonterminal g.start) ∷ []) (scheme g (production_at g p))) k)) ≡ cond z 1 (scheme_address g p + length (scheme_words (scheme g (production_at g p))))
    go true e = first k (subst (λ r. k < length (production_at g r).right) (eqb→eq p whole (rw e tt)) short)
    go false e = from_end (scheme_address g p) (scheme g (production_at g p)) k (omega (arith, short, expects_scheme g (production_at g p)))

-- ---- what is ahead

pub record Ahead (g : Grammar) (ws : List ℕ) (a : ℕ) (f : Frame) : Type 0 where
  pub words : WordsStand ws a (scheme_words f.rest ++ end_if (eqb f.production whole))
  pub proper : AllProper g f.rest
  pub ordered : Ordered f.rest
  pub few : expects f.rest + pending_test f.rest ≤ length (production_at g f.production).right
  pub exact : a + length (scheme_words f.rest) ≡ code_end g f.production

module _ {g : Grammar} {ws : List ℕ} {a : ℕ} where
  pub ahead_code : {f : Frame} → Ahead g ws a f → CodeAt ws a f.rest
  ahead_code {f} h = record { words = stands_left (scheme_words f.rest) (end_if (eqb f.production whole)) h.words }

  -- behind the first instruction
  pub ahead_next : (p : ℕ) (i : Instruction) (is : List Instruction) → Ahead g ws a (frame p (i ∷ is)) → Ahead g ws (a + length (instruction_words i)) (frame p is)
  ahead_next p i is h =
      let e : WordsStand ws a (instruction_words i ++ (scheme_words is ++ end_if (eqb p whole))) = subst (WordsStand ws a) (append_assoc (instruction_words i) (scheme_words is) (end_if (eqb p whole))) h.words in
      record {
        words = stands_right (instruction_words i) (scheme_words is ++ end_if (eqb p whole)) e;
        proper = λ j k. h.proper j (inr k);
        ordered = h.ordered.1;
        few = few_next i is (length (production_at g p).right) h.ordered h.few;
        exact = omega (arith, h.exact, length-append (instruction_words i) (scheme_words is));
      }

  -- where nothing is left
  pub ahead_over : (p : ℕ) → p ≡ whole → Ahead g ws a (frame p []) → (get_or ws a 0 ≡ 6) × (a < length ws)
  ahead_over p e h =
      let s : WordsStand ws a (6 ∷ []) = subst (λ b. WordsStand ws a (end_if b)) (ap (λ q. eqb q whole) e) h.words in
      (ap (λ b. get_or ws b 0) (omega arith) ∙ stands_word s 0 (omega arith), omega (arith, stands_within s))

-- ---- where a production begins, and where it goes on

module _ {g : Grammar} {ws : List ℕ} (b : Begins g ws) (w : WellFormed g) where
  -- words of a production that is listed have no end word
  ends_not : (p a : ℕ) (is : List Instruction) → eqb p whole ≡ false → CodeAt ws a is → WordsStand ws a (scheme_words is ++ end_if (eqb p whole))
  ends_not p a is e s = rw (e, append-nil (scheme_words is)) s.words

  pub ahead_scheme : (p : ℕ) → p < length g.productions → Ahead g ws (scheme_address g p) (frame p (scheme_at g p))
  ahead_scheme p l =
      let e : scheme_at g p ≡ scheme g (production_at g p) = scheme_listed g w p l in
      let o : Ordered (scheme g (production_at g p)) × (pending_test (scheme g (production_at g p)) ≡ 0) = ordered_scheme g (production_at g p) in
      subst (λ is. Ahead g ws (scheme_address g p) (frame p is)) (sym e) (record {
        words = ends_not p (scheme_address g p) (scheme g (production_at g p)) (not_whole g w p l) (scheme_at_lem b w p l);
        proper = scheme_proper g w (production_at g p) (production_in g w p l);
        ordered = o.0;
        few = omega (arith, o.1, expects_scheme g (production_at g p));
        exact = sym (ap (λ z. cond z 1 (scheme_address g p + length (scheme_words (scheme g (production_at g p))))) (not_whole g w p l));
      })

  -- the whole segment, at its symbol
  whole_words : WordsStand ws 0 (scheme_words (scheme_at g whole) ++ end_if true)
  whole_words = stands_left (symbol_head (nonterminal g.start) ∷ nothing_operation ∷ []) (drop 2 (segment_words g)) (segment_at b)

  place_words : (q : ℕ) → T (place_waits g q) → WordsStand ws (place_address g q) (scheme_words (frame_of g q).rest ++ end_if (eqb (place_production q) whole))
  place_words q t = go (eqb (place_production q) whole) refl
    where
      at_whole : (p k : ℕ) → p ≡ whole → k < length (production_at g p).right → WordsStand ws k (scheme_words (from_expect (scheme_at g p) k) ++ end_if true)
      at_whole p k e l = rw e (first k (rw e at l))
        where
          first : (k : ℕ) → k < length (production_at g whole).right → WordsStand ws k (scheme_words (from_expect (scheme_at g whole) k) ++ end_if true)
          first zero l = whole_words
          first (suc k) l = absurd (omega arith)

      go : (z : Bool) → eqb (place_production q) whole ≡ z → WordsStand ws (cond z (place_passed q) (expect_address g (place_production q) (place_passed q))) (scheme_words (frame_of g q).rest ++ end_if z)
      go false e = rw (append-nil (scheme_words (frame_of g q).rest)) (subst (λ z. WordsStand ws (cond z (place_passed q) (expect_address g (place_production q) (place_passed q))) (scheme_words (frame_of g q).rest)) e (place_code b w q t).words)
      go true e =
          let size = length (production_at g (place_production q)).right in
          at_whole (place_production q) (place_passed q) (eqb→eq (place_production q) whole (rw e tt)) (ltb→lt (place_passed q) size (both (is_listed g (place_production q)) (ltb (place_passed q) size) t).1)

  ordered_listed : (p : ℕ) → Ordered (scheme_at g p)
  ordered_listed p = go (eqb p whole)
    where
      go : (z : Bool) → Ordered (cond z (expect (nonterminal g.start) ∷ []) (scheme g (production_at g p)))
      go true = ((λ z. absurd (omega arith)), tt)
      go false = (ordered_scheme g (production_at g p)).0

  expects_listed : (p : ℕ) → T (is_listed g p) → expects (scheme_at g p) ≤ length (production_at g p).right
  expects_listed p t = go (eqb p whole) refl
    where
      go : (z : Bool) → eqb p whole ≡ z → expects (cond z (expect (nonterminal g.start) ∷ []) (scheme g (production_at g p))) ≤ length (production_at g p).right
      go true e = rw (eqb→eq p whole (rw e tt)) (omega arith)
      go false e = omega (arith, expects_scheme g (production_at g p))

  pub ahead_place : (q : ℕ) → T (place_waits g q) → Ahead g ws (place_address g q) (frame_of g q)
  ahead_place q t =
      let l : T (is_listed g (place_production q)) = (both (is_listed g (place_production q)) (ltb (place_passed q) (length (production_at g (place_production q)).right)) t).0 in
      record {
        words = place_words q t;
        proper = place_proper g w q l;
        ordered = ordered_from (scheme_at g (place_production q)) (place_passed q) (ordered_listed (place_production q));
        few = omega (arith, few_from (scheme_at g (place_production q)) (place_passed q), expects_listed (place_production q) l);
        exact = place_end g q t;
      }

-- ---- the place of a frame as it goes on

-- 01: "the number of its symbols already passed"; a read or a remove passes its symbol unless a test follows
module _ (g : Grammar) (p : ℕ) where
  abbrev right : ℕ
  right = length (production_at g p).right

  pub place_same : (i : Instruction) (is : List Instruction) → is_expect i ≡ 0 → pending_test (i ∷ []) ≡ 0 → Ordered (i ∷ is) → place_of g (frame p (i ∷ is)) ≡ place_of g (frame p is)
  place_same (add n) is e t o = ap (λ k. place_at p (right - k)) (omega (arith, o.0 refl))
  place_same (evaluate rs) is e t o = ap (λ k. place_at p (right - k)) (omega (arith, o.0 refl))
  place_same (remove n) is e t o = ap (λ k. place_at p (right - k)) (omega (arith, o.0 refl))
  place_same (expect x) is e t o = absurd (omega arith)
  place_same (test cs) is e t o = absurd (omega arith)

  pub place_tested : (cs : List (Condition ℕ)) (is : List Instruction) → Ordered (test cs ∷ is) → expects is + 1 ≤ right → place_of g (frame p is) ≡ place_of g (frame p (test cs ∷ is)) + 1
  place_tested cs is o l = omega (arith, o.0 refl)

  pub place_passed_lem : (x : Symbol) (is : List Instruction) → 1 + expects is ≤ right → pending_test is ≡ 0 → place_of g (frame p is) ≡ place_of g (frame p (expect x ∷ is)) + 1
  place_passed_lem x is l e = omega arith

  pub place_pending : (x : Symbol) (is : List Instruction) → pending_test is ≡ 1 → place_of g (frame p is) ≡ place_of g (frame p (expect x ∷ is))
  place_pending x is e = ap (λ k. place_at p (right - k)) (omega arith)

-- a production that begins has passed nothing
pub place_begins : (g : Grammar) → WellFormed g → (p : ℕ) → p < length g.productions → place_of g (frame p (scheme_at g p)) ≡ place_at p 0
place_begins g w p l = rw (scheme_listed g w p l) (omega (arith, (ordered_scheme g (production_at g p)).1, expects_scheme g (production_at g p)))

-- whether a test follows is said by the operation of the next word
pub pending_word : (i : Instruction) (is : List Instruction) → operation i ≡ test_operation → pending_test (i ∷ is) ≡ 1
pending_word (add n) is e = absurd (omega arith)
pending_word (evaluate rs) is e = absurd (omega arith)
pending_word (expect (terminal t)) is e = absurd (omega arith)
pending_word (expect (nonterminal n)) is e = absurd (omega arith)
pending_word (test cs) is e = refl
pending_word (remove n) is e = absurd (omega arith)

pub no_pending_word : (i : Instruction) (is : List Instruction) → (operation i ≡ test_operation → ⊥) → pending_test (i ∷ is) ≡ 0
no_pending_word (add n) is e = refl
no_pending_word (evaluate rs) is e = refl
no_pending_word (expect x) is e = refl
no_pending_word (test cs) is e = absurd (e refl)
no_pending_word (remove n) is e = refl
