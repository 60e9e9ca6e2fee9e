use Rattle.std.proofs.Common.{ℕ, le_refl, sym, ap, ◌∙◌, arith}
use Rattle.set_words.specs.Views.{members}
use Rattle.analysis.specs.Spreading.{turned_next}
use Rattle.analysis_whole.proofs.spreading.give.Goals as goal

pub returns-then-has : goal.returns-then-has
returns-then-has c =
    λ e s is-edge is_set te ts.
    let some = sym (ap (λ (x : ℕ). members x c.args.k) (te.rest _ (le_refl _))) ∙ sym c.has.ensures ∙ c.if-has.true in
    (rw is-edge (turned_next _ _ _ _ _ te (omega (arith, te.size, c.requires.0, c.requires.3)) some), rw is_set (turned_next _ _ _ _ _ ts (omega (arith, ts.size, c.requires.1, c.requires.3)) some))
