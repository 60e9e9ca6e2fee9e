-- What the set answers, by what was tried on the lent cells.
use Rattle.std.specs.Prelude.{ℕ, min, ◌≡◌, refl, List, ◌++◌, [], ◌∷◌, length, take, drop, ℤ}
use Rattle.std.proofs.Common.{sym, ap, ◌∙◌}
use Rattle.meaning.specs.Limits.{registers_limit, places_limit}
use Rattle.meaning.specs.Grammar.{Grammar, leaves}
use Rattle.meaning.specs.Calls.{as_brought, Record, Stacks, refused, Called, lent_of, config_of, tokens_from, after_feed, feed_of}
use Rattle.meaning.specs.PublicCalls.{stacks_of}
use Rattle.meaning.specs.Machine.{Settled, stopped, failed, feed_all}
use Rattle.meaning_preview.specs.Preview.{tidied, may_follow, tokens, turned, may_effect, may_of, tried, no_refusal, preview_of}
use Rattle.theory_base.specs.Feeds.{even_feed}
use Rattle.theory_preview.specs.Tokens.{passing, passing_same}
use Rattle.token_set.specs.declared.TokenSet as Code
use Rattle.token_set.specs.SetBits.{set_of}
use Rattle.run_moves.specs.declared.Run.{Run}
use Rattle.run_fit.specs.HasProgram.{HasProgram}
use Rattle.run_lent.specs.Judging.{when_not, not_turned}
use Rattle.run_lent.specs.Performing.{Starts, Judged}
use Rattle.preview.specs.token.Passing.{is_stopped, lets_through}
use Rattle.preview.specs.collect.Collecting.{Collected}
use Rattle.preview.specs.judging.Judging.{copy_number, copied_on}
use Rattle.preview.specs.cells.Answering.{feed_answers, tidied_whole}
use Rattle.preview.specs.May.{may_effect_is}
use Rattle.preview.specs.declared.May.TheVariants.{Tokens}

-- the set of the tokens whose feed is no refusal, and the scratch cleared
pub record SetAnswered (g : Grammar) (r : Record) (vs : List ℤ) (ps : List ℕ) (rs : List ℤ) (qs : List ℕ) (v : ℤ) (set : ℕ) (rs' : List ℤ) (qs' : List ℕ) : Type 0 where
  pub is_set : set_of set ≡ passing (λ t. no_refusal (feed_of g r (stacks_of vs ps) (t ∷ []) (v ∷ [])).answer) g.terminals
  pub is_tidy : stacks_of rs' qs' ≡ tidied (stacks_of vs ps) (stacks_of rs qs)

-- ---- on exactly the lent cells

module _ {ws : List ℕ} {vs : List ℤ} {ps : List ℕ} {r : Record} (j : Judged ws vs ps r) (run : Run) (f : Starts ws ps r run) (g : Grammar) (s : HasProgram g ws) where
  lets_is : (v : ℤ) (t : ℕ) → no_refusal (feed_of g r (stacks_of vs ps) (t ∷ []) (v ∷ [])).answer ≡ lets_through g (lent_of (stacks_of vs ps)) (config_of g r (stacks_of vs ps)) v t
  lets_is v t =
      let m : Stacks = stacks_of vs ps in
      let o = feed_all g (lent_of m) (leaves g (tokens_from (t ∷ []) (v ∷ []))) (config_of g r m) in
      ap (λ (z : Called). no_refusal z.answer) (even_feed g r m (t ∷ []) (v ∷ []) refl ∙ when_not g r m (after_feed g m o) (sym (j.passed g s))) ∙ go o
    where
      go : (o : Settled) → no_refusal (after_feed g (stacks_of vs ps) o).answer ≡ is_stopped o
      go (stopped c) = refl
      go (failed c k) = refl

  pub set_is : (v : ℤ) (set : ℕ) → Collected ws v vs ps run set → set_of set ≡ passing (λ t. no_refusal (feed_of g r (stacks_of vs ps) (t ∷ []) (v ∷ [])).answer) g.terminals
  set_is v set c =
      let m : Stacks = stacks_of vs ps in
      c.from g (lent_of m) (config_of g r m) (f g vs s.begins s.formed j.few j.little (not_turned g r m (sym (j.passed g s))))
      ∙ passing_same (lets_through g (lent_of m) (config_of g r m) v) (λ t. no_refusal (feed_of g r m (t ∷ []) (v ∷ [])).answer) g.terminals (λ t. sym (lets_is v t))

-- ---- on cells of any length

module _ (g : Grammar) (r : Record) (vs rs : List ℤ) (ps qs : List ℕ) (n k : ℕ) (en : n ≡ min (length vs) registers_limit) (ek : k ≡ min (length ps) places_limit) where
  abbrev own : Stacks
  own = stacks_of vs ps

  abbrev cells : Stacks
  cells = stacks_of (take n vs) (take k ps)

  abbrev scratch : Stacks
  scratch = stacks_of rs qs

  -- the set by the feeds is the set by the previews
  pub set_whole : copy_number g r own scratch ≡ 0 → (v : ℤ) → passing (λ t. no_refusal (feed_of g r cells (t ∷ []) (v ∷ [])).answer) g.terminals ≡ may_follow g r own scratch v
  set_whole e v = passing_same (λ t. no_refusal (feed_of g r cells (t ∷ []) (v ∷ [])).answer) (λ t. no_refusal (preview_of g r own scratch t v).answer) g.terminals one
    where
      one : (t : ℕ) → no_refusal (feed_of g r cells (t ∷ []) (v ∷ [])).answer ≡ no_refusal (preview_of g r own scratch t v).answer
      one t = ap no_refusal (feed_answers g r vs rs ps qs n k en ek t v).0 ∙ ap (λ (c : Called). no_refusal c.answer) (copied_on g r own scratch (λ j. as_brought (refused j 0) r scratch) (tried g r own scratch t v) e)

module _ {ws : List ℕ} (r : Record) (vs rs : List ℤ) (ps qs : List ℕ) (n k : ℕ) (en : n ≡ min (length vs) registers_limit) (ek : k ≡ min (length ps) places_limit)
    (number : (g : Grammar) → HasProgram g ws → 0 ≡ copy_number g r (stacks_of vs ps) (stacks_of rs qs)) where
  pub may_made : (v : ℤ) (set : Code.TokenSet) (area : List ℕ) (rs' : List ℤ) (qs' : List ℕ) → ((g : Grammar) → HasProgram g ws → SetAnswered g r (take n vs) (take k ps) (take n rs) (take k qs) v set.0 rs' qs')
      → (g : Grammar) → HasProgram g ws → may_effect_is (Tokens set) (rs' ++ drop n rs) (qs' ++ drop k qs) area ≡ may_of g r (stacks_of vs ps) (stacks_of rs qs) v area
  may_made v set area rs' qs' e g s =
      let x = (e g s).is_set ∙ set_whole g r vs rs ps qs n k en ek (sym (number g s)) v in
      let y = ap (λ (z : Stacks). stacks_of (z.registers ++ drop n rs) (z.places ++ drop k qs)) (e g s).is_tidy ∙ tidied_whole g r vs rs ps qs n k en ek in
      (λ i. may_effect (tokens (x i)) (y i) area)
      ∙ copied_on g r (stacks_of vs ps) (stacks_of rs qs) (λ j. may_effect (turned (refused j 0)) (stacks_of rs qs) area) (may_effect (tokens (may_follow g r (stacks_of vs ps) (stacks_of rs qs) v)) (tidied (stacks_of vs ps) (stacks_of rs qs)) area) (sym (number g s))
