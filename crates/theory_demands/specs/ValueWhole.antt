-- A segment's value from its opening on: opened, fed, finished. Nothing is presupposed of the opening.
use Rattle.std.specs.Prelude.{ℕ, ◌≤◌, ◌<◌, ◌≡◌, ◌↔◌, true, List, length, ℤ}
use Rattle.std.proofs.Common.{arith, ap, ◌∙◌}
use Rattle.std.proofs.Math.Decide.{dec_lt}
use Rattle.meaning.specs.Grammar.{Grammar, syn, nonterminal, leaves}
use Rattle.meaning.specs.Judgement.{Accepted}
use Rattle.meaning.specs.Tree.{Tree, TreeOf, value_of}
use Rattle.meaning.specs.Walk.{walk}
use Rattle.meaning.specs.Drawn.{WalkFits}
use Rattle.meaning.specs.Calls.{closed, is_open, Stacks, more, value, closed_record, lent_of, tokens_from}
use Rattle.meaning.specs.PublicCalls.{feed, finish, area_length, Effect, opens, performs}
use Rattle.meaning_statements.specs.CallStatements.{Lendable, Even}
use Rattle.meaning_statements.specs.Statements.{opened, fed, fed_and_finished, ValueWhole}
use Rattle.theory_base.specs.Walks.{room}
use Rattle.theory_answers.specs.TurnedBack.{opening_is, bad_state}
use Rattle.theory_demands.specs.Pictures.{value_always}

module _ (program : Grammar → List ℕ) (bs area : List ℕ) (g : Grammar) (m : Stacks) (ks : List ℕ) (vs : List ℤ) (a : Accepted bs g) (l : area_length ≤ length area) (t : Lendable (feed ks vs)) (even : Even (feed ks vs)) (v : ℤ) (n : ℕ) where
  abbrev Valued : Type 0
  Valued = (fed_and_finished program bs area ks vs (opens program bs area m)).answer ≡ value v n

  abbrev HasTree : Type 0
  HasTree = (t : Tree) × TreeOf g (leaves g (tokens_from ks vs)) t × WalkFits g (lent_of m) t × (value_of g t ≡ v) × (length (walk g t) ≡ n)

  -- a closed record stays so
  shut : (o : Effect) → o.state ≡ closed_record → (fed_and_finished program bs area ks vs o).answer ≡ value v n → ⊥
  shut o e x =
      let c : o.state.status ≡ closed = ap (λ z. z.status) e in
      let f = (bad_state program bs area g o.state o.stacks (feed ks vs) l a).0 c in
      let q = performs program bs area o.state o.stacks (feed ks vs) in
      let d : q.state.status ≡ closed = ap (λ z. z.state.status) f ∙ c in
      let w = ap (λ z. z.answer) ((bad_state program bs area g q.state q.stacks finish l a).0 d) in
      let z : ◌≡◌ {A = ℕ} 0 1 = cc in absurd (omega arith)

  answers : (opens program bs area m).answer ≡ more 0 → is_open (opens program bs area m).state ≡ true → Valued ↔ HasTree
  answers h o = let q = performs program bs area (opens program bs area m).state (opens program bs area m).stacks (feed ks vs) in value_always program bs area g m (tokens_from ks vs) q.state q.stacks a l (fed area ks vs t even (opened area h) l o) v n

  room_enough : syn g (nonterminal g.start) ≤ (lent_of m).max_registers → 1 ≤ (lent_of m).max_places → Valued ↔ HasTree
  room_enough r p = let e = (opening_is program bs area g m l a).2 r p in answers (ap (λ z. z.answer) e) (ap (λ z. is_open z.state) e)

  back : HasTree → Valued
  back x =
      let f : WalkFits g (lent_of m) x.0 = x.2 in
      let k = room g x.0 (syn g (nonterminal g.start)) in
      let i = f.registers in
      let j = f.places in
      (room_enough (omega (arith, k, i)) (omega (arith, j))).1 x

  forth : Dec ((lent_of m).max_registers < syn g (nonterminal g.start)) → Dec ((lent_of m).max_places < 1) → Valued → HasTree
  forth (yes r) p x = absurd (shut (opens program bs area m) (ap (λ z. z.state) ((opening_is program bs area g m l a).0 r)) x)
  forth (no r) (yes p) x = absurd (shut (opens program bs area m) (ap (λ z. z.state) ((opening_is program bs area g m l a).1 (omega arith) p)) x)
  forth (no r) (no p) x = (room_enough (omega arith) (omega arith)).0 x

pub value_whole : ValueWhole
value_whole program bs area g m ks vs a l t even v n = ((λ x. forth program bs area g m ks vs a l t even v n (dec_lt (lent_of m).max_registers (syn g (nonterminal g.start))) (dec_lt (lent_of m).max_places 1) x), (λ x. back program bs area g m ks vs a l t even v n x))
