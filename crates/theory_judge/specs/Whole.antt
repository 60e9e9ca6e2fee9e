-- The whole sheet: what it describes from its beginning, up to its end and the segment's.
use Rattle.std.specs.Prelude.{ℕ, ◌≤◌, ◌<◌, ◌≡◌, refl, List, ◌++◌, length, ℤ}
use Rattle.std.proofs.Common.{arith, sym, ap, ◌∙◌, subst, append-nil}
use Rattle.std.proofs.Math.Seq.{drop-length}
use Rattle.meaning.specs.Limits.{depth_limit}
use Rattle.meaning.specs.Grammar.{Grammar, nonterminal, Leaf, leaves}
use Rattle.meaning.specs.Rules.{WellFormed}
use Rattle.meaning.specs.Calls.{tokens_from}
use Rattle.meaning.specs.Tree.{Tree, yield, value_of}
use Rattle.meaning_sheet.specs.Sheet.{sheet_of}
use Rattle.meaning_judge.specs.Judge.{Describes, worth, turned_back, Settles}
use Rattle.theory_base.specs.Selectors.{tree_size}
use Rattle.theory_judge.specs.Described.{Described}
use Rattle.theory_judge.specs.Marks.{read_mark, described_shown}
use Rattle.theory_judge.specs.Passing.{Only, None}

module _ (g : Grammar) (formed : WellFormed g) (ks : List ℕ) (vals : List ℤ) (bytes : List ℕ) where
  abbrev us : List Leaf
  us = leaves g (tokens_from ks vals)

  abbrev pub Start : ℕ → ℕ → Type 0
  Start = Described g us bytes 0 0 (nonterminal g.start) depth_limit

  abbrev whole_only : (t : Tree) → Describes g us bytes t → Start (length bytes) (length us)
  whole_only t h = record {
    tree = t;
    evaluated = h.tree.evaluated;
    shallow = h.shallow;
    stands = record {
      written = sym h.written ∙ (sym (append-nil (sheet_of t)) ∙ ap (λ l. sheet_of t ++ l) (sym (drop-length bytes)));
      sheet_end = omega (arith, ap length h.written);
      tokens = sym h.tree.read ∙ (sym (append-nil (yield t)) ∙ ap (λ l. yield t ++ l) (sym (drop-length us)));
      tokens_end = omega (arith, ap length h.tree.read);
    };
  }

  whole_made : length us < 4294967296 → (h : Start (length bytes) (length us)) → Describes g us bytes h.tree
  whole_made few h = record {
    tree = record { evaluated = h.evaluated; read = sym (h.stands.tokens ∙ (ap (λ l. yield h.tree ++ l) (drop-length us) ∙ append-nil (yield h.tree))) };
    shallow = h.shallow;
    counted = few;
    written = sym (h.stands.written ∙ (ap (λ l. sheet_of h.tree ++ l) (drop-length bytes) ∙ append-nil (sheet_of h.tree)));
  }

  -- the root's result value stands in the first record
  shown_value : length us < 4294967296 → (n e : ℕ) (h : Start n e) → read_mark bytes vals 0 g.result ≡ value_of g h.tree
  shown_value few n e h = described_shown g formed ks vals few bytes 0 0 (omega arith) (nonterminal g.start) depth_limit n e h g.result formed.result.0 (omega (arith, formed.result.1, tree_size g h.tree (nonterminal g.start) h.evaluated))

  abbrev pub Nothing : Type 0
  Nothing = (t : Tree) → Describes g us bytes t → ⊥

  pub none_many : 4294967296 ≤ length us → Nothing
  none_many l t h = omega (arith, h.counted)

  pub none_wrong : None Start → Nothing
  none_wrong f t h = f (length bytes) (length us) (whole_only t h)

  module _ (n e : ℕ) (only : Only Start n e) where
    pub none_longer : (n ≡ length bytes → ⊥) → Nothing
    none_longer f t h = f (sym (only.1 (length bytes) (length us) (whole_only t h)).0)

    pub none_tokens : (e ≡ length us → ⊥) → Nothing
    none_tokens f t h = f (sym (only.1 (length bytes) (length us) (whole_only t h)).1)

    pub settles_worth : length us < 4294967296 → n ≡ length bytes → e ≡ length us → (v : ℤ) → v ≡ read_mark bytes vals 0 g.result → Settles g us bytes (worth v)
    settles_worth few p q v is =
        let h : Start (length bytes) (length us) = subst (λ k. Start (length bytes) k) q (subst (λ k. Start k e) p only.0) in
        record {
          accepts = λ w. (
            (λ z. let y : v ≡ w = cc in (h.tree, whole_made few h, sym (shown_value few (length bytes) (length us) h) ∙ (sym is ∙ y))),
            (λ z. ap worth (is ∙ (shown_value few (length bytes) (length us) (whole_only z.0 z.1) ∙ z.2))),
          );
          refuses = λ f. absurd (f h.tree (whole_made few h));
        }

  pub settles_none : Nothing → Settles g us bytes (turned_back 43 0)
  settles_none f = record { accepts = λ v. ((λ z. let y : ◌≡◌ {A = ℕ} 0 1 = cc in absurd (omega arith)), (λ z. absurd (f z.0 z.1))); refuses = λ k. refl }
