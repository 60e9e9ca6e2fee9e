-- The statements on sheets from other tools, proved.
use Rattle.std.specs.Prelude.{ℕ, ◌≤◌, ◌≡◌, refl, ◌↔◌, Bool, true, false, List, length, eqb, ℤ}
use Rattle.std.proofs.Common.{arith, sym, ap, ◌∙◌, subst, ne_eqb, eq-eqb}
use Rattle.meaning.specs.Grammar.{Grammar, Leaf, leaves}
use Rattle.meaning.specs.Judgement.{Accepted}
use Rattle.meaning.specs.Tree.{Tree, value_of}
use Rattle.meaning.specs.Calls.{Stacks, refused, open_of, feed_of, lent_of, tokens_from}
use Rattle.meaning.specs.PublicCalls.{Checked, usable, unusable, check, Call, feed, finish, area_length, Effect, performs}
use Rattle.meaning_sheet.specs.Sheet.{sheet_of}
use Rattle.meaning_sheet.specs.SheetCalls.{unless_refused, stack_run_value}
use Rattle.meaning_judge.specs.Judge.{Describes, JudgeAnswer, worth, turned_back, Settles, SettlesIf, SettlesUnder, JudgedAs}
use Rattle.meaning_judge.specs.JudgeStatements.{JudgedOnce, AcceptedSheets, RefusedSheets, segment_answer, AtFault, RefusedSegments, WrittenSheets, SheetValue}
use Rattle.theory_answers.specs.Called.{checks}
use Rattle.theory_answers.specs.TurnedBack.{refuses}
use Rattle.theory_sets.specs.Accepted.{accepted_sane}
use Rattle.theory_complete.specs.CompleteUnique.{only, foreseen}
use Rattle.theory_complete.specs.Run.{Short, registers_short, places_short, limit_short}
use Rattle.theory_sheet.specs.Segment.{segment_run, stack_run}
use Rattle.theory_sheet.specs.BigStep.{refused_short}
use Rattle.theory_demands.specs.ByGrammar.{opens_is, performs_is}
use Rattle.theory_demands.specs.ValueWhole.{value_whole}

-- ---- one answer

settles_once : (g : Grammar) (us : List Leaf) (bytes : List ℕ) (a b : JudgeAnswer) → Settles g us bytes a → Settles g us bytes b → a ≡ b
settles_once g us bytes (worth v) b s t = sym ((t.accepts v).1 ((s.accepts v).0 refl))
settles_once g us bytes (turned_back n o) b s t =
    let none : (u : Tree) → Describes g us bytes u → ⊥ = λ u h. (let z : turned_back n o ≡ worth (value_of g u) = (s.accepts (value_of g u)).1 (u, h, refl) in let y : ◌≡◌ {A = ℕ} 0 1 = cc in omega arith) in
    s.refuses none ∙ sym (t.refuses none)

pub judged_once : JudgedOnce
judged_once bs ks vs bytes a b s t = go (check bs) s t
  where
    even : (e : Bool) (g : Grammar) → SettlesIf e g ks vs bytes a → SettlesIf e g ks vs bytes b → a ≡ b
    even true g s t = settles_once g (leaves g (tokens_from ks vs)) bytes a b s t
    even false g s t = s ∙ sym t

    go : (c : Checked) → SettlesUnder c ks vs bytes a → SettlesUnder c ks vs bytes b → a ≡ b
    go (unusable n o) s t = s ∙ sym t
    go (usable st) s t = even (eqb (length ks) (length vs)) _ s t

-- ---- under an accepted table

module _ (bs : List ℕ) (g : Grammar) (ks : List ℕ) (vs : List ℤ) (bytes : List ℕ) (acc : Accepted bs g) where
  under : (a : JudgeAnswer) → JudgedAs bs ks vs bytes a ≡ SettlesIf (eqb (length ks) (length vs)) g ks vs bytes a
  under a = ap (λ c. SettlesUnder c ks vs bytes a) (checks bs g acc) ∙ ap (λ h. SettlesIf (eqb (length ks) (length vs)) h ks vs bytes a) acc.is_grammar

  uneven : (length ks ≡ length vs → ⊥) → (a : JudgeAnswer) → JudgedAs bs ks vs bytes a ≡ (a ≡ turned_back 38 0)
  uneven f a = under a ∙ ap (λ e. SettlesIf e g ks vs bytes a) (ne_eqb (length ks) (length vs) f)

  module _ (e : length ks ≡ length vs) where
    even : (a : JudgeAnswer) → JudgedAs bs ks vs bytes a ≡ Settles g (leaves g (tokens_from ks vs)) bytes a
    even a = under a ∙ ap (λ e. SettlesIf e g ks vs bytes a) (eq-eqb (length ks) (length vs) e)

    to : (a : JudgeAnswer) → JudgedAs bs ks vs bytes a → Settles g (leaves g (tokens_from ks vs)) bytes a
    to a h = subst (λ z. z) (even a) h

    back : (a : JudgeAnswer) → Settles g (leaves g (tokens_from ks vs)) bytes a → JudgedAs bs ks vs bytes a
    back a h = subst (λ z. z) (sym (even a)) h

    -- a tree that is described is the segment's only one
    worth_of : (t : Tree) → Describes g (leaves g (tokens_from ks vs)) bytes t → Settles g (leaves g (tokens_from ks vs)) bytes (worth (value_of g t))
    worth_of t d = record {
      accepts = λ v. ((λ z. let y : value_of g t ≡ v = cc in (t, d, y)), (λ z. ap worth (ap (value_of g) (only bs g acc (leaves g (tokens_from ks vs)) t z.0 d.tree z.1.tree) ∙ z.2)));
      refuses = λ f. absurd (f t d);
    }

    accepted_exactly : (v : ℤ) → JudgedAs bs ks vs bytes (worth v) ↔ ((t : Tree) × Describes g (leaves g (tokens_from ks vs)) bytes t × (value_of g t ≡ v))
    accepted_exactly v = ((λ h. ((to (worth v) h).accepts v).0 refl), (λ z. back (worth v) (subst (λ w. Settles g (leaves g (tokens_from ks vs)) bytes (worth w)) z.2 (worth_of z.0 z.1))))

    refused_exactly : JudgedAs bs ks vs bytes (turned_back 43 0) ↔ ((t : Tree) → Describes g (leaves g (tokens_from ks vs)) bytes t → ⊥)
    refused_exactly = (
      (λ h t d. let z : turned_back 43 0 ≡ worth (value_of g t) = ((to (turned_back 43 0) h).accepts (value_of g t)).1 (t, d, refl) in let y : ◌≡◌ {A = ℕ} 0 1 = cc in omega arith),
      (λ f. back (turned_back 43 0) (record { accepts = λ v. ((λ z. let y : ◌≡◌ {A = ℕ} 0 1 = cc in absurd (omega arith)), (λ z. absurd (f z.0 z.1))); refuses = λ k. refl })),
    )

pub accepted_sheets : AcceptedSheets
accepted_sheets bs g ks vs bytes acc e v = accepted_exactly bs g ks vs bytes acc e v

pub refused_sheets : RefusedSheets
refused_sheets = (
  (λ bs g ks vs bytes acc e. refused_exactly bs g ks vs bytes acc e),
  (λ bs g ks vs bytes a acc f. ((λ h. subst (λ z. z) (uneven bs g ks vs bytes acc f a) h), (λ q. subst (λ z. z) (sym (uneven bs g ks vs bytes acc f a)) q))),
  (λ bs ks vs bytes a n o r. let e = ap (λ c. SettlesUnder c ks vs bytes a) (refuses bs n o r) in ((λ h. subst (λ z. z) e h), (λ q. subst (λ z. z) (sym e) q))),
)

-- ---- a segment that is refused as at fault

-- under an accepted table the calls are the stack run
pub run_answered : (program : Grammar → List ℕ) (bs area : List ℕ) (g : Grammar) (m : Stacks) (ks : List ℕ) (vs : List ℤ) → Accepted bs g → area_length ≤ length area → segment_answer program bs area m ks vs ≡ stack_run_value g m ks vs
run_answered program bs area g m ks vs acc l =
    let o = open_of g m in
    let f = feed_of g o.state o.stacks ks vs in
    let then : Effect → Call → Effect = λ z c. performs program bs area z.state z.stacks c in
    let opened = opens_is program bs g acc area m l in
    let fed = ap (λ z. then z (feed ks vs)) opened ∙ performs_is program bs g acc area o.state o.stacks (feed ks vs) l in
    let finished = ap (λ z. then z finish) fed ∙ performs_is program bs g acc area f.state f.stacks finish l in
    λ i. unless_refused (opened i).answer (unless_refused (fed i).answer (finished i).answer)

not_short : (k : ℕ) → AtFault k → Short k → ⊥
not_short k f registers_short = omega (arith, f.1)
not_short k f places_short = omega (arith, f.1)
not_short k f limit_short = omega (arith, f.1)

-- with a tree its run, which passes it as one big step, would be refused with 31, 32 or 35 only
pub refused_segments : RefusedSegments
refused_segments program bs area g m ks vs bytes k n acc l lent e h f =
    let s = accepted_sane bs g acc in
    let us : List Leaf = leaves g (tokens_from ks vs) in
    let run : segment_run g (lent_of m) us ≡ refused k n = sym (stack_run g s.formed m ks vs e lent) ∙ (sym (run_answered program bs area g m ks vs acc l) ∙ h) in
    (refused_exactly bs g ks vs bytes acc e).1 (λ t d. not_short k f (refused_short g s.formed (lent_of m) us t d.tree (foreseen g s us t d.tree) k n run))

-- ---- sheets of trees, and values

pub written_sheets : WrittenSheets
written_sheets bs g ks vs m t acc e tree fits =
    back bs g ks vs (sheet_of t) acc e (worth (value_of g t)) (worth_of bs g ks vs (sheet_of t) acc e t (record {
      tree = tree;
      shallow = let l = fits.places in omega (arith, l);
      counted = let l = fits.tokens in omega (arith, l, ap length tree.read);
      written = refl;
    }))

pub sheet_value : SheetValue
sheet_value program bs area g m ks vs bytes v acc long lent e h =
    let d = (accepted_exactly bs g ks vs bytes acc e v).0 h in
    let us : List Leaf = leaves g (tokens_from ks vs) in (
      (λ t tree fits. (value_whole program bs area g m ks vs acc long lent e v _).1 (t, tree, fits, ap (value_of g) (only bs g acc us t d.0 tree d.1.tree) ∙ d.2, refl)),
      (λ w n q. let z = (value_whole program bs area g m ks vs acc long lent e w n).0 q in sym z.3 ∙ (ap (value_of g) (only bs g acc us z.0 d.0 z.1 d.1.tree) ∙ d.2)),
    )
