-- A feed and a finish on stacks of any length are those on the lent cells, with the cells past them as they were.
use Rattle.std.specs.Prelude.{ℕ, ◌≡◌, Bool, true, false, List, map, reverse, length, take, T, eqb, ℤ}
use Rattle.std.proofs.Common.{sym, ap, ap₂, ◌∙◌, take-take}
use Rattle.meaning.specs.Grammar.{Grammar, leaves}
use Rattle.meaning.specs.Fit.{Fit}
use Rattle.meaning.specs.Machine.{feed_all, finish_all}
use Rattle.meaning.specs.Part.{config}
use Rattle.meaning.specs.Calls.{Gate, admitted, turned_back, Record, Stacks, Called, lent_of, frame_of, config_of, as_brought, refused, stacks_fit, when_fit, when_even, tokens_from, after_feed, after_finish_value, feed_of, finish_of}
use Rattle.meaning.specs.PublicCalls.{stacks_of, Call, feed, finish, call_of}
use Rattle.theory_answers.specs.FitTest.{fit_exactly}
use Rattle.records.specs.States.{gate_of}
use Rattle.run_fit.specs.Cut.{fits_cut}
use Rattle.run_cells.specs.Cutting.{uncut, lent_same, put_back, fed_cut, finished_cut}
use Rattle.run_lent.specs.Judging.{judged_by}

module _ (g : Grammar) (vs : List ℤ) (ps : List ℕ) (r : Record) where
  abbrev m : Stacks
  m = stacks_of vs ps

  abbrev n : ℕ
  n = (lent_of (stacks_of vs ps)).max_registers

  abbrev k : ℕ
  k = (lent_of (stacks_of vs ps)).max_places

  abbrev cells : Stacks
  cells = stacks_of (take (lent_of (stacks_of vs ps)).max_registers vs) (take (lent_of (stacks_of vs ps)).max_places ps)

  same : lent_of cells ≡ lent_of m
  same = lent_same g vs ps

  back : (uncut n k vs ps (as_brought (refused 34 0) r cells)).stacks ≡ m
  back = put_back g vs ps

  same_config : Fit g r m → config_of g r cells ≡ config_of g r m
  same_config f = ap₂ (λ x y. config (map (frame_of g) (reverse x)) (reverse y) r.tokens r.moves) (take-take r.place_height k ps f.place_height) (take-take r.register_height n vs f.register_height)

  abbrev fit_by : Stacks → Called → Gate → Bool → Called
  fit_by b c = judged_by (λ n. as_brought (refused n 0) r b) c

  when_cut : (x y : Called) → (Fit g r m → uncut n k vs ps x ≡ y) → uncut n k vs ps (when_fit g r cells x) ≡ when_fit g r m y
  when_cut x y h =
      ap (λ f. uncut n k vs ps (fit_by cells x (gate_of 34 r) f)) (sym (fits_cut g r m))
      ∙ go (gate_of 34 r) (stacks_fit g r m) (λ t. h ((fit_exactly g r m).0 t))
    where
      go : (o : Gate) (f : Bool) → (T f → uncut n k vs ps x ≡ y) → uncut n k vs ps (fit_by cells x o f) ≡ fit_by m y o f
      go (turned_back j) f h = ap (as_brought (refused j 0) r) back
      go admitted false h = ap (as_brought (refused 34 0) r) back
      go admitted true h = h tt

  even_cut : (b : Bool) (x y : Called) → uncut n k vs ps x ≡ y → uncut n k vs ps (when_even b r cells x) ≡ when_even b r m y
  even_cut true x y h = h
  even_cut false x y h = ap (as_brought (refused 38 0) r) back

  pub feed_cut : (ks : List ℕ) (us : List ℤ) → uncut n k vs ps (feed_of g r cells ks us) ≡ feed_of g r m ks us
  feed_cut ks us =
      let ts = leaves g (tokens_from ks us) in
      let b = eqb (length ks) (length us) in
      let inside = after_feed g cells (feed_all g (lent_of cells) ts (config_of g r cells)) in
      let whole = after_feed g m (feed_all g (lent_of m) ts (config_of g r m)) in
      when_cut (when_even b r cells inside) (when_even b r m whole)
      (λ f. even_cut b inside whole (ap₂ (λ l c. uncut n k vs ps (after_feed g cells (feed_all g l ts c))) same (same_config f) ∙ fed_cut g vs ps (feed_all g (lent_of m) ts (config_of g r m))))

  pub finish_cut : uncut n k vs ps (finish_of g r cells) ≡ finish_of g r m
  finish_cut = when_cut (after_finish_value g cells (finish_all g (lent_of cells) (config_of g r cells))) (after_finish_value g m (finish_all g (lent_of m) (config_of g r m)))
      (λ f. ap₂ (λ l c. uncut n k vs ps (after_finish_value g cells (finish_all g l c))) same (same_config f) ∙ finished_cut g vs ps (finish_all g (lent_of m) (config_of g r m)))

  pub call_cut : (c : Call) → uncut n k vs ps (call_of g r cells c) ≡ call_of g r m c
  call_cut (feed ks us) = feed_cut ks us
  call_cut finish = finish_cut
