-- 02 (h), proved: the statements of meaning's InnerStatements on lists of calls.
use Rattle.std.specs.Prelude.{ℕ, ◌-◌, ◌≡◌, refl, true, List, [], ◌∷◌, map, length}
use Rattle.std.proofs.Common.{sym, ap, ap₂, ◌∙◌, subst, true≢false}
use Rattle.std.proofs.lemmas.Bool.{false≢true}
use Rattle.meaning.specs.Grammar.{Grammar}
use Rattle.meaning.specs.Calls.{inner, Record, Stacks, more, lent_of, is_open}
use Rattle.meaning.specs.PublicCalls.{Call, Effect, performs}
use Rattle.meaning_inner.specs.Inner.{above, cleared, with_kind, alone, beginning, InnerCall, engine, engine_call, inner_opens}
use Rattle.meaning_inner.specs.InnerLists.{Alone, Both, both_of, opened_alone, CallWithTable, performs_alone, performs_inside, alone_after, alone_answers, inside_after, inside_answers, inside}
use Rattle.meaning_statements.specs.InnerStatements.{AsAlone, InnerAlone, Kept, OuterKept}
use Rattle.theory_inner.specs.Stretch.{above_registers, above_places, paste_above, paste_below, past_registers_lem, past_places_lem}
use Rattle.theory_inner.specs.OpenRunKept.{open_record}
use Rattle.theory_inner.specs.InnerAlone.{BesideAlone, stands, ended, closing, closing_engine, step}
use Rattle.theory_inner.specs.InnerOpened.{open_outer, begun}

module _ (program : Grammar → List ℕ) (t n rh ph : ℕ) (m : Stacks) where
  -- ---- where the two stand beside each other

  same_record : {b : Both} {a : Alone} → BesideAlone t n rh ph m b a → b.inner_state ≡ with_kind (inner rh ph) a.state
  same_record (stands u v h p part f) = refl
  same_record (ended u v h p part) = refl

  same_cells_lem : {b : Both} {a : Alone} → BesideAlone t n rh ph m b a → is_open a.state ≡ true → above (inner rh ph) b.stacks ≡ a.stacks
  same_cells_lem (stands u v h p part f) z = paste_above (inner rh ph) m part f
  same_cells_lem (ended u v h p part) z = absurd (false≢true z)

  same_before : {b : Both} {a : Alone} → BesideAlone t n rh ph m b a → is_open a.state ≡ true → (s : CallWithTable Call) → performs program s.table s.area (alone b.inner_state) (above b.inner_state.kind b.stacks) s.call ≡ performs_alone program a s
  same_before (stands u v h p part f) z s = ap (λ q. performs program s.table s.area (open_record u v h p) q s.call) (paste_above (inner rh ph) m part f)
  same_before (ended u v h p part) z s = absurd (false≢true z)

  pub as_alone : cleared (above (inner rh ph) m) ≡ above (inner rh ph) m → (b : Both) (a : Alone) → BesideAlone t n rh ph m b a → AsAlone program (inner rh ph) b a
  as_alone is_clear b a st = record {
    is_record = same_record st;
    is_stretch = same_cells_lem st;
    answers = λ s. (step t n rh ph m is_clear program s.table s.area (engine s.call) b a st).0;
    hands_back = λ s. same_record (step t n rh ph m is_clear program s.table s.area (engine s.call) b a st).1 ∙ ap (with_kind (inner rh ph)) (closing_engine (performs_alone program a s).answer s.call (performs_alone program a s).state);
    is_before = same_before st;
  }

  kept : {b : Both} {a : Alone} → BesideAlone t n rh ph m b a → Kept (open_record t n rh ph) m b
  kept (stands u v h p part f) = record { is_below = paste_below (inner rh ph) m part f; past_registers = past_registers_lem (inner rh ph) m part f; past_places = past_places_lem (inner rh ph) m part f; waits = λ z. refl; restored = λ z. absurd (false≢true z) }
  kept (ended u v h p part) = record { is_below = refl; past_registers = refl; past_places = refl; waits = λ z. absurd (true≢false z); restored = λ z. (refl, refl) }

  -- ---- lists of calls

  module _ (is_clear : cleared (above (inner rh ph) m) ≡ above (inner rh ph) m) where
    list_alone : (ss : List (CallWithTable Call)) (b : Both) (a : Alone) → BesideAlone t n rh ph m b a
        → (inside_answers program b (map inside ss) ≡ alone_answers program a ss) × AsAlone program (inner rh ph) (inside_after program b (map inside ss)) (alone_after program a ss)
    list_alone [] b a st = (refl, as_alone is_clear b a st)
    list_alone (s ∷ ss) b a st =
        let w = step t n rh ph m is_clear program s.table s.area (engine s.call) b a st in
        let e : Effect = performs_alone program a s in
        let now : Both = both_of (performs_inside program b (inside s)) in
        let st' : BesideAlone t n rh ph m now (record { state = e.state; stacks = e.stacks }) = subst (λ z. BesideAlone t n rh ph m now (record { state = z; stacks = e.stacks })) (closing_engine e.answer s.call e.state) w.1 in
        let rest = list_alone ss now (record { state = e.state; stacks = e.stacks }) st' in
        (ap₂ (λ x xs. x ∷ xs) w.0 rest.0, rest.1)

    list_kept : (ss : List (CallWithTable InnerCall)) (b : Both) (a : Alone) → BesideAlone t n rh ph m b a → Kept (open_record t n rh ph) m (inside_after program b ss)
    list_kept [] b a st = kept st
    list_kept (s ∷ ss) b a st =
        let w = step t n rh ph m is_clear program s.table s.area s.call b a st in
        let e : Effect = performs program s.table s.area a.state a.stacks (engine_call s.call) in
        list_kept ss (both_of (performs_inside program b s)) (record { state = closing e.answer s.call e.state; stacks = e.stacks }) w.1

-- ---- the statements

pub inner_alone : InnerAlone
inner_alone program outer_table inner_table area r m m₀ h = subst Says (sym (open_outer program outer_table inner_table area r m h)) at h
  where
    Says : Record → Type 0
    Says r =
        (inner_opens program outer_table inner_table area r m).answer ≡ more 0
        → length m₀.registers ≡ (lent_of m).max_registers - r.register_height → length m₀.places ≡ (lent_of m).max_places - r.place_height
        → (ss : List (CallWithTable Call))
        → (inside_answers program (both_of (inner_opens program outer_table inner_table area r m)) (map inside ss) ≡ alone_answers program (opened_alone program inner_table area m₀) ss)
        × AsAlone program (beginning r) (inside_after program (both_of (inner_opens program outer_table inner_table area r m)) (map inside ss)) (alone_after program (opened_alone program inner_table area m₀) ss)

    at : Says (open_record r.tokens r.moves r.register_height r.place_height)
    at h l k ss =
        let b = begun r.tokens r.moves r.register_height r.place_height m m₀ l k program outer_table inner_table area h in
        list_alone program r.tokens r.moves r.register_height r.place_height m b.is_clear ss _ _ b.standing

pub outer_kept : OuterKept
outer_kept program outer_table inner_table area r m h = subst Says (sym (open_outer program outer_table inner_table area r m h)) at h
  where
    Says : Record → Type 0
    Says r = (inner_opens program outer_table inner_table area r m).answer ≡ more 0 → (ss : List (CallWithTable InnerCall)) → Kept r m (inside_after program (both_of (inner_opens program outer_table inner_table area r m)) ss)

    at : Says (open_record r.tokens r.moves r.register_height r.place_height)
    at h ss =
        let room : Stacks = above (inner r.register_height r.place_height) m in
        let b = begun r.tokens r.moves r.register_height r.place_height m room (above_registers (beginning r) m) (above_places (beginning r) m) program outer_table inner_table area h in
        list_kept program r.tokens r.moves r.register_height r.place_height m b.is_clear ss _ _ b.standing
