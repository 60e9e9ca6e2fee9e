-- Demand 3 for any tokens: every list of calls stands at a configuration that so many moves from the opening lead to.
use Rattle.std.specs.Prelude.{◌+◌, ◌≡◌, true, false, List, [], ◌∷◌, length, T}
use Rattle.std.proofs.Common.{arith, sym, ap, ◌∙◌, subst, inl, inr, append-nil, length-append}
use Rattle.meaning.specs.Grammar.{Grammar, Leaf, leaves}
use Rattle.meaning.specs.Machine.{Config, Lent, opening, look_at}
use Rattle.meaning.specs.Walk.{Act, act_by, Makes, nothing, and_then}
use Rattle.meaning.specs.Calls.{is_open, lent_of}
use Rattle.meaning_statements.specs.Statements.{Reached, ReachedAlways}
use Rattle.theory_table.specs.AcceptedTable.{accepted_well_formed}
use Rattle.theory_answers.specs.Memory.{by_its_status}
use Rattle.theory_answers.specs.Bounds.{counts}
use Rattle.theory_sound.specs.Histories.{Run, runs}
use Rattle.theory_demands.specs.ByGrammar.{by_grammar}

-- ---- the counter counts the moves

module _ (g : Grammar) (lent : Lent) where
  pub counted : {us vs : List Leaf} {c d : Config} {ws : List Act} → Makes g lent us c ws vs d → d.moves ≡ length ws + c.moves
  counted {us} {c = c} m = go m
    where
      go : {vs : List Leaf} {d : Config} {ws : List Act} → Makes g lent us c ws vs d → d.moves ≡ length ws + c.moves
      go nothing = omega arith
      go (and_then {ws = ws} {vs = vs} {d = d} p i is fs e m f h) =
          let n = (counts g lent (look_at vs) d e h).moves in
          let k = length-append ws (act_by p i e ∷ []) in
          omega (arith, n, k, go m)

pub reached_always : ReachedAlways
reached_always program bs g m₀ ts is_over r m a h = go (runs g (accepted_well_formed bs g a) m₀ (leaves g ts) is_over r m (by_grammar program bs g a h))
  where
    count : {us vs : List Leaf} {c : Config} {ws : List Act} → Makes g (lent_of m₀) us (opening g) ws vs c → length ws ≡ c.moves
    count {c = c} k = omega (arith, counted g (lent_of m₀) k)

    go : Run g m₀ (leaves g ts) r m → Reached g m₀ ts r m
    go (inl o) =
        let one : Makes g (lent_of m₀) (leaves g ts) (opening g) o.leads.moves [] o.config = subst (λ z. Makes g (lent_of m₀) z (opening g) o.leads.moves [] o.config) (append-nil (leaves g ts)) (o.leads.made [] tt) in
        record {
          moves = o.leads.moves;
          unread = [];
          config = o.config;
          made = one;
          counted = count one ∙ sym (ap (λ z. z.moves) o.is_record);
          is_record = by_its_status true o.config o.is_record;
          is_stacks = o.is_stacks;
          open_run = λ e. ((λ us. o.leads.made us tt), o.stop.1);
        }
    go (inr o) =
        record {
          moves = o.led.moves;
          unread = o.unread;
          config = o.config;
          made = o.led.made;
          counted = count o.led.made ∙ sym (ap (λ z. z.moves) o.is_record);
          is_record = by_its_status false o.config o.is_record;
          is_stacks = o.is_stacks;
          open_run = λ e. absurd (subst T (sym e ∙ ap is_open o.is_record) tt);
        }
