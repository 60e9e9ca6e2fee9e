-- Where the tokens to come complete a token string, what the frames expect derives them, and each move keeps that: the alternative predicted is the one that the derivation takes.
use Rattle.std.specs.Prelude.{ℕ, suc, ◌-◌, ◌≡◌, List, [], ◌∷◌, ◌++◌, map, drop, T}
use Rattle.std.proofs.Common.{arith, sym, ap, ◌∙◌, subst, append_assoc}
use Rattle.std.proofs.lemmas.List.{map-append}
use Rattle.meaning.specs.Grammar.{Symbol, terminal, Leaf, Grammar, production_at}
use Rattle.meaning.specs.Derivation.{Derives, itself, step, start_form}
use Rattle.meaning.specs.Machine.{Config, Lent, moved, next, look_at, unread, opening}
use Rattle.meaning.specs.Sets.{has, starts, look_number}
use Rattle.meaning.specs.Walk.{Act, Makes, nothing, and_then}
use Rattle.theory_sets.specs.Accepted.{Sane}
use Rattle.theory_sets.specs.Derivations.{joined, beside}
use Rattle.meaning_statements.specs.MarkedToken.{OneStart, TokenString}
use Rattle.theory_marked.specs.Remaining.{kinds_of, look_of, look_kinds, kinds_drop, remaining, Passes, stays, reads, predicts, passes}
use Rattle.theory_marked.specs.Framed.{Framed, opening_framed, framed_move}
use Rattle.theory_marked.specs.Choice.{Taken, taken, read, taken_starts, only}

-- vs are to come
pub record Following (g : Grammar) (vs : List Leaf) (c : Config) : Type 0 where
  pub before : List Symbol
  pub context : Derives g (start_form g) (before ++ remaining c.frames)
  pub rest : Derives g (remaining c.frames) (map terminal (kinds_of vs))
  pub framed : Framed c.frames

pub opening_follows : (g : Grammar) (vs : List Leaf) → TokenString g (kinds_of vs) → Following g vs (opening g)
opening_follows g vs d = record { before = []; context = itself; rest = d; framed = opening_framed g }

module _ {g : Grammar} (s : Sane g) (one : OneStart g) where
  abbrev Goes : List Leaf → List Symbol → Type 0
  Goes vs ys = (b : List Symbol) × Derives g (start_form g) (b ++ ys) × Derives g ys (map terminal (kinds_of vs))

  kept : (n : ℕ) (vs : List Leaf) (xs : List Symbol) → Derives g xs (map terminal (kinds_of vs)) → Derives g xs (map terminal (kinds_of (drop (n - n) vs)))
  kept n vs xs d = let z : 0 ≡ n - n = omega arith in subst (λ k. Derives g xs (map terminal (kinds_of (drop k vs)))) z d

  goes : {xs ys : List Symbol} {n m : ℕ} (vs : List Leaf) → Passes g (look_at vs) xs n ys m → (b : List Symbol) → Derives g (start_form g) (b ++ xs) → Derives g xs (map terminal (kinds_of vs)) → Goes (drop (m - n) vs) ys
  goes vs (stays {xs} {n}) b c d = (b, c, kept n vs xs d)
  goes vs (reads u {xs} {n} h) b c d =
      let r = read u.kind xs (kinds_of vs) d in
      let z : 1 ≡ suc n - n = omega arith in
      let e : r.0 ≡ kinds_of (drop 1 vs) = sym (kinds_drop 1 vs ∙ ap (drop 1) r.1) in (
        b ++ (terminal u.kind ∷ []),
        subst (λ y. Derives g (start_form g) y) (sym (append_assoc b (terminal u.kind ∷ []) xs)) c,
        subst (λ k. Derives g xs (map terminal (kinds_of (drop k vs)))) z (subst (λ y. Derives g xs (map terminal y)) e r.2),
      )
  goes vs (predicts p {xs} {n} l h) b c d =
      let ks : List ℕ = kinds_of vs in
      let r : Taken g (production_at g p).left xs ks = taken (production_at g p).left xs ks d in
      let h' = subst (λ z. T (has (starts g (production_at g p)) (look_number z))) (look_kinds vs) h in
      let e : p ≡ r.production = only s one (look_of ks) p r.production l r.listed (sym r.left) h' (taken_starts (production_at g p).left xs ks b c r) in
      let f : Derives g (production_at g p).right (map terminal r.first) = subst (λ q. Derives g (production_at g q).right (map terminal r.first)) (sym e) r.firsts in
      let same : map terminal r.first ++ map terminal r.others ≡ map terminal ks = sym (map-append terminal r.first r.others) ∙ ap (map terminal) (sym r.whole) in
      (b, joined c (step p b xs l itself), kept n vs ((production_at g p).right ++ xs) (subst (λ y. Derives g ((production_at g p).right ++ xs) y) same (beside f r.rests)))

  pub follow_move : (lent : Lent) (vs : List Leaf) (c d : Config) → Following g vs c → next g lent (look_at vs) c ≡ moved d → Following g (unread c d vs) d
  follow_move lent vs c d f h =
      let r = goes vs (passes g s.formed lent (look_at vs) c d h) f.before f.context f.rest in
      record { before = r.0; context = r.1; rest = r.2; framed = framed_move g s.formed lent (look_at vs) c d f.framed h }

  pub follow_makes : (lent : Lent) {us vs : List Leaf} {c d : Config} {ws : List Act} → Makes g lent us c ws vs d → Following g us c → Following g vs d
  follow_makes lent {us} {c = c} m f = go m
    where
      go : {vs : List Leaf} {d : Config} {ws : List Act} → Makes g lent us c ws vs d → Following g vs d
      go nothing = f
      go (and_then {vs = vs} {d = d} p i is fs e m q h) = follow_move lent vs d e (go m) h
