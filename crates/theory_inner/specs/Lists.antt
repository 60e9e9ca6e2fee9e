-- Lists of inner calls: each is a list of calls of a run alone.
use Rattle.std.specs.Prelude.{ℕ, ◌-◌, ◌≡◌, refl, Bool, List, length}
use Rattle.std.proofs.Common.{sym, ◌∙◌, subst}
use Rattle.meaning.specs.Grammar.{Grammar, Token}
use Rattle.meaning.specs.Calls.{inner, Record, Stacks, lent_of, is_open}
use Rattle.meaning.specs.PublicCalls.{Call, feed, finish, Effect, performs}
use Rattle.meaning_inner.specs.Inner.{above, cleared, alone, beginning, engine}
use Rattle.meaning_statements.specs.Statements.{opened, fed, finished, History}
use Rattle.meaning_inner.specs.InnerLists.{Alone, Both, both_of, opened_alone, performs_inside}
use Rattle.meaning_statements.specs.InnerStatements.{AsAlone, InsideHistory, begins, passes, feeds, finishes, InsideAlone}
use Rattle.theory_inner.specs.OpenRunKept.{open_record}
use Rattle.theory_inner.specs.InnerAlone.{BesideAlone, stands, ended, closing_engine, step}
use Rattle.theory_inner.specs.InnerOpened.{open_outer, begun}
use Rattle.theory_inner.specs.Proved.{as_alone}

-- the outer record of a list of inner calls was open
was_open : {program : Grammar → List ℕ} {outer_table bs : List ℕ} {r : Record} {m : Stacks} {ts : List Token} {is_over : Bool} {b : Both} → InsideHistory program outer_table bs r m ts is_over b → r ≡ open_record r.tokens r.moves r.register_height r.place_height
was_open {program} {outer_table} {bs} {r} {m} (begins area h) = open_outer program outer_table bs area r m h
was_open (passes s h e) = was_open h
was_open (feeds area ks vs e y h l o) = was_open h
was_open (finishes area h l o) = was_open h

module _ (program : Grammar → List ℕ) (outer_table bs : List ℕ) (t n rh ph : ℕ) (m m₀ : Stacks) (l : length m₀.registers ≡ (lent_of m).max_registers - rh) (k : length m₀.places ≡ (lent_of m).max_places - ph) where
  pub record Beside (ts : List Token) (is_over : Bool) (b : Both) : Type 0 where
    pub run : Alone
    pub is_clear : cleared (above (inner rh ph) m) ≡ above (inner rh ph) m
    pub standing : BesideAlone t n rh ph m b run
    pub history : History program bs m₀ ts is_over run.state run.stacks

  same_open : {b : Both} {a : Alone} → BesideAlone t n rh ph m b a → is_open (alone b.inner_state) ≡ is_open a.state
  same_open (stands u v h p part f) = refl
  same_open (ended u v h p part) = refl

  after : (c : Call) (area : List ℕ) (b : Both) (a : Alone) → cleared (above (inner rh ph) m) ≡ above (inner rh ph) m → BesideAlone t n rh ph m b a
      → BesideAlone t n rh ph m (both_of (performs_inside program b (record { table = bs; area = area; call = engine c }))) (record { state = (performs program bs area a.state a.stacks c).state; stacks = (performs program bs area a.state a.stacks c).stacks })
  after c area b a is_clear st =
      let e : Effect = performs program bs area a.state a.stacks c in
      subst (λ z. BesideAlone t n rh ph m (both_of (performs_inside program b (record { table = bs; area = area; call = engine c }))) (record { state = z; stacks = e.stacks })) (closing_engine e.answer c e.state) (step t n rh ph m is_clear program bs area (engine c) b a st).1

  pub beside : {ts : List Token} {is_over : Bool} {b : Both} → InsideHistory program outer_table bs (open_record t n rh ph) m ts is_over b → Beside ts is_over b
  beside (begins area h) =
      let g = begun t n rh ph m m₀ l k program outer_table bs area h in
      record { run = opened_alone program bs area m₀; is_clear = g.is_clear; standing = g.standing; history = opened area g.opens_too }
  beside (passes s h e) = beside h
  beside (feeds {b = b} area ks vs x y h z o) =
      let w = beside h in
      let e = performs program bs area w.run.state w.run.stacks (feed ks vs) in
      record { run = record { state = e.state; stacks = e.stacks }; is_clear = w.is_clear; standing = after (feed ks vs) area b w.run w.is_clear w.standing; history = fed area ks vs x y w.history z (sym (same_open w.standing) ∙ o) }
  beside (finishes {b = b} area h z o) =
      let w = beside h in
      let e = performs program bs area w.run.state w.run.stacks finish in
      record { run = record { state = e.state; stacks = e.stacks }; is_clear = w.is_clear; standing = after finish area b w.run w.is_clear w.standing; history = finished area w.history z (sym (same_open w.standing) ∙ o) }

pub inside_alone : InsideAlone
inside_alone program outer_table bs r m m₀ l k ts is_over b h = subst Says (sym (was_open h)) at l k h
  where
    Says : Record → Type 0
    Says r =
        length m₀.registers ≡ (lent_of m).max_registers - r.register_height → length m₀.places ≡ (lent_of m).max_places - r.place_height
        → InsideHistory program outer_table bs r m ts is_over b → (a : Alone) × History program bs m₀ ts is_over a.state a.stacks × AsAlone program (beginning r) b a

    at : Says (open_record r.tokens r.moves r.register_height r.place_height)
    at l k h =
        let w = beside program outer_table bs r.tokens r.moves r.register_height r.place_height m m₀ l k h in
        (w.run, w.history, as_alone program r.tokens r.moves r.register_height r.place_height m w.is_clear b w.run w.standing)
