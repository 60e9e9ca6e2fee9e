-- Demands 2 and 3 for an inner run on its stretch, read as stacks of its own: from the run alone that its list is.
use Rattle.std.specs.Prelude.{ℕ, ◌≤◌, ◌≡◌, refl, true, false, List, [], ◌++◌, length, T}
use Rattle.std.proofs.Common.{sym, ap, ◌∙◌, subst, append-nil}
use Rattle.meaning.specs.Grammar.{Grammar, Token, leaves}
use Rattle.meaning.specs.Judgement.{Accepted}
use Rattle.meaning.specs.Tree.{Tree, TreeOf, value_of}
use Rattle.meaning.specs.Walk.{walk}
use Rattle.meaning.specs.Calls.{Record, Stacks, lent_of, is_open}
use Rattle.meaning.specs.PublicCalls.{Call, finish, area_length, performs}
use Rattle.meaning_inner.specs.Inner.{above, with_kind, beginning}
use Rattle.meaning.specs.Drawn.{WalkFits, drawn_record, drawn_stacks}
use Rattle.meaning_statements.specs.Statements.{History, finished}
use Rattle.meaning_inner.specs.InnerLists.{Alone, Both, CallWithTable}
use Rattle.meaning_statements.specs.InnerStatements.{AsAlone, InsideHistory, InsidePicture, InsideFinish, InsideValue}
use Rattle.theory_inner.specs.Stretch.{above_registers, above_places}
use Rattle.theory_inner.specs.Lists.{inside_alone}
use Rattle.theory_demands.specs.Pictures.{picture_always, value_always}

module _ (program : Grammar → List ℕ) (outer_table bs : List ℕ) (g : Grammar) (r : Record) (m : Stacks) (ts : List Token) (b : Both) (accepts : Accepted bs g) (h : InsideHistory program outer_table bs r m ts false b) where
  abbrev room : Stacks
  room = above (beginning r) m

  -- the run alone on what is left
  beside : (a : Alone) × History program bs room ts false a.state a.stacks × AsAlone program (beginning r) b a
  beside = inside_alone program outer_table bs r m room (above_registers (beginning r) m) (above_places (beginning r) m) ts false b h

  drawn_alone : (us : List Token) (t : Tree) → TreeOf g (leaves g (ts ++ us)) t → WalkFits g (lent_of room) t → (beside.0.state ≡ drawn_record g t (length ts) false) × (beside.0.stacks ≡ drawn_stacks g t (length ts) false room)
  drawn_alone us t k f = picture_always program bs g room ts us false beside.0.state beside.0.stacks t accepts beside.1 k f (λ e. absurd (subst T (sym e) tt))

  still_open : (us : List Token) (t : Tree) → TreeOf g (leaves g (ts ++ us)) t → WalkFits g (lent_of room) t → is_open beside.0.state ≡ true
  still_open us t k f = ap is_open (drawn_alone us t k f).0

  shown_inside : (us : List Token) (t : Tree) → TreeOf g (leaves g (ts ++ us)) t → WalkFits g (lent_of room) t → (b.inner_state ≡ with_kind (beginning r) (drawn_record g t (length ts) false)) × (above (beginning r) b.stacks ≡ drawn_stacks g t (length ts) false room)
  shown_inside us t k f = (beside.2.is_record ∙ ap (with_kind (beginning r)) (drawn_alone us t k f).0, beside.2.is_stretch (still_open us t k f) ∙ (drawn_alone us t k f).1)

  module _ (area : List ℕ) (l : area_length ≤ length area) where
    abbrev a : Alone
    a = beside.0

    drawn_end : (t : Tree) → TreeOf g (leaves g ts) t → WalkFits g (lent_of room) t → ((performs program bs area a.state a.stacks finish).state ≡ drawn_record g t (length ts) true) × ((performs program bs area a.state a.stacks finish).stacks ≡ drawn_stacks g t (length ts) true room)
    drawn_end t k f =
        let k' : TreeOf g (leaves g (ts ++ [])) t = subst (λ z. TreeOf g (leaves g z) t) (sym (append-nil ts)) k in
        picture_always program bs g room ts [] true (performs program bs area a.state a.stacks finish).state (performs program bs area a.state a.stacks finish).stacks t accepts (finished area beside.1 l (still_open [] t k' f)) k' f (λ e. refl)

pub inside_picture : InsidePicture
inside_picture program outer_table bs g r m ts us b t accepts h k f = shown_inside program outer_table bs g r m ts b accepts h us t k f

pub inside_finish : InsideFinish
inside_finish program outer_table bs area g r m ts b t accepts l h k f =
    let w = beside program outer_table bs g r m ts b accepts h in
    let s : CallWithTable Call = record { table = bs; area = area; call = finish } in
    let k' : TreeOf g (leaves g (ts ++ [])) t = subst (λ z. TreeOf g (leaves g z) t) (sym (append-nil ts)) k in
    let d = drawn_end program outer_table bs g r m ts b accepts h area l t k f in
    let v = (value_always program bs area g (above (beginning r) m) ts w.0.state w.0.stacks accepts l w.1 (value_of g t) (length (walk g t))).1 (t, k, f, refl, refl) in
    (w.2.answers s ∙ v, w.2.hands_back s ∙ ap (with_kind (beginning r)) d.0, ap (λ e. e.stacks) (w.2.is_before (still_open program outer_table bs g r m ts b accepts h [] t k' f) s) ∙ d.1)

pub inside_value : InsideValue
inside_value program outer_table bs area g r m ts b accepts l h v n =
    let w = beside program outer_table bs g r m ts b accepts h in
    let s : CallWithTable Call = record { table = bs; area = area; call = finish } in
    let e = value_always program bs area g (above (beginning r) m) ts w.0.state w.0.stacks accepts l w.1 v n in
    ((λ x. e.0 (sym (w.2.answers s) ∙ x)), (λ x. w.2.answers s ∙ e.1 x))
