-- Demand 3's sentences on selectors and on the registers below a part, for every accepted table.
use Rattle.std.specs.Prelude.{ℕ, ◌≡◌, refl, List, ◌++◌, length, take, T}
use Rattle.std.proofs.Common.{arith, sym, ap, ◌∙◌, subst, length-append, take_at}
use Rattle.theory_answers.specs.Runs.{makes_leaves}
use Rattle.meaning.specs.Base.{all}
use Rattle.meaning.specs.Grammar.{Grammar, Leaf}
use Rattle.meaning.specs.Judgement.{Accepted}
use Rattle.meaning.specs.Machine.{Config, Lent, opening}
use Rattle.meaning.specs.Tree.{Tree, TreeOf, is_leaf_of}
use Rattle.meaning.specs.Walk.{Act, Makes}
use Rattle.meaning_statements.specs.Statements.{SelectorsAlways, ReturnsAlways}
use Rattle.theory_sets.specs.Accepted.{accepted_sane}
use Rattle.theory_sound.specs.RunsShowPart.{Shows}
use Rattle.theory_sound.specs.ShowsInstruction.{selectors_find}
use Rattle.theory_sound.specs.BelowUnchanged.{part_returns}
use Rattle.theory_complete.specs.CompleteUnique.{foreseen}
use Rattle.theory_moves.specs.BegunKept.{Begun, part_of_lem}
use Rattle.theory_moves.specs.OpeningShowsPart.{Made, made}

first_part : (xs ys zs : List Leaf) → xs ++ zs ≡ ys ++ zs → xs ≡ ys
first_part xs ys zs e =
    let n : length xs ≡ length ys = omega (arith, ap length e, length-append xs zs, length-append ys zs) in
    sym (take_at xs zs (length xs) refl) ∙ (ap (take (length xs)) e ∙ take_at ys zs (length xs) (sym n))

pub accepted_made : (bs : List ℕ) (g : Grammar) → Accepted bs g → (lent : Lent) (stream : List Leaf) → T (all (is_leaf_of g) stream) → {ws : List Act} {us : List Leaf} {c : Config} → Makes g lent stream (opening g) ws us c → Made g stream ws us c
accepted_made bs g a lent stream t {ws} {us} {c} m = let s = accepted_sane bs g a in made g s.formed lent stream t (foreseen g s stream) ws us c m

-- what the opening leads to, with the tokens read named
module _ (bs : List ℕ) (g : Grammar) (a : Accepted bs g) (lent : Lent) (ws : List Act) (ts us : List Leaf) (c : Config) (proper : T (all (is_leaf_of g) (ts ++ us))) (m : Makes g lent (ts ++ us) (opening g) ws us c) where
  reached : (s : Shows g ts c) × ((t : Tree) → TreeOf g (ts ++ us) t → Begun g t s.part.node s.part.below)
  reached =
      let k = accepted_made bs g a lent (ts ++ us) proper m in
      subst (λ z. (s : Shows g z c) × ((t : Tree) → TreeOf g (ts ++ us) t → Begun g t s.part.node s.part.below)) (sym (first_part ts k.read us k.split)) (k.shows, k.of_tree)

-- 01: "A selector finds its attribute if its register is the named occurrence's and, when read, holds the tree's value"
pub selectors_always : SelectorsAlways
selectors_always bs g a lent ws ts us c t m p i is fs e =
    let r = reached bs g a lent ws ts us c t m in
    let s = r.0 in
    selectors_find g (accepted_sane bs g a).formed ts us c s
    (λ t w pt gn. part_of_lem g (accepted_sane bs g a).formed t w.evaluated (foreseen g (accepted_sane bs g a) (ts ++ us) t w) s.part.node s.part.below (r.1 t w) s.good.stands pt gn)
    p i is fs e

-- when a part of the tree is left, the registers below its results are those it was entered with
pub returns_always : ReturnsAlways
returns_always bs g a lent ws ts us c z t m p x is fs e k = part_returns g (accepted_sane bs g a).formed lent ts us (makes_leaves g lent t m) c z (reached bs g a lent ws ts us c t m).0 p x is fs e k
