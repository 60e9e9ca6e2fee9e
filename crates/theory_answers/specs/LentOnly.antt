-- Cells past what is lent are neither read nor written.
use Rattle.std.specs.Prelude.{ℕ, ◌+◌, ◌-◌, ◌≤◌, ◌<◌, min, ◌≡◌, refl, ◌⊎◌, Bool, true, false, List, [], ◌++◌, map, reverse, get_or, length, take, drop, replicate, T, eqb, ltb}
use Rattle.std.proofs.Common.{arith, sym, ap, ap₂, ◌∙◌, subst, subst₂, append-nil, length-append, length-take, length-drop, take-take, drop-drop, get_or-take, nltb→le}
use Rattle.std.proofs.lemmas.List.{length-replicate, length-reverse, length-map}
use Rattle.std.proofs.Math.Seq.{take-append-add, drop-append-add}
use Rattle.meaning.specs.Limits.{registers_limit, places_limit}
use Rattle.meaning.specs.Grammar.{Grammar, Symbol, Leaf, leaves}
use Rattle.meaning.specs.Value.{mark}
use Rattle.meaning.specs.Rules.{WellFormed}
use Rattle.meaning.specs.Table.{State, grammar_of}
use Rattle.meaning.specs.Machine.{Config, Lent, Settled, stopped, failed, opening, feed_all, finish_all, place_of}
use Rattle.meaning.specs.Part.{config}
use Rattle.meaning.specs.Calls.{Gate, admitted, turned_back, gate, Record, Stacks, Called, more, refused, table_refused, closed_record, as_brought, lent_of, lay, lay_all, frame_of, config_of, record_of, stacks_fit, after_feed, after_finish_value, when_fit, when_even, tokens_from, open_of}
use Rattle.meaning.specs.Fit.{WaitsAt, Left, Fit}
use Rattle.meaning.specs.PublicCalls.{Checked, usable, unusable, check, Call, feed, finish, call_of, area_length, written, Effect, effect, opens}
use Rattle.meaning_statements.specs.CallStatements.{lent_part, past_lent, on_lent, NeverRead, NeverWritten}
use Rattle.theory_base.specs.Members.{no_elements, same_truth}
use Rattle.theory_answers.specs.FitTest.{fit_exactly}
use Rattle.theory_answers.specs.Memory.{Within}
use Rattle.theory_answers.specs.Runs.{Fed, Finished, with_nothing}
use Rattle.theory_answers.specs.Answers.{checked_formed, made, call_is_lem, by_cases, led_within, fed_led, feed_leads, finish_leads}

-- ---- one stack, laid into the first cells of memory, as many as there are but no more than cap

module _ {A : Type 0} (cap : ℕ) (clear : A) (xs mem : List A) (few : length xs ≤ min (length mem) cap) where
  abbrev lent : ℕ
  lent = min (length mem) cap

  abbrev front : List A
  front = reverse xs ++ replicate (lent - length xs) clear

  front_size : length front ≡ lent
  front_size = length-append (reverse xs) (replicate (lent - length xs) clear) ∙ omega (arith, length-reverse xs, length-replicate (lent - length xs) clear)

  up_to_cap : cap ≡ length front + (cap - lent)
  up_to_cap = omega (arith, front_size)

  lay_lent : take cap (lay lent clear xs mem) ≡ front
  lay_lent =
      let none : take (cap - lent) (drop lent mem) ≡ [] = no_elements (take (cap - lent) (drop lent mem)) (omega (arith, length-take (cap - lent) (drop lent mem), length-drop lent mem)) in
      ap (λ k. take k (front ++ drop lent mem)) up_to_cap ∙ (take-append-add front (drop lent mem) (cap - lent) ∙ (ap (λ z. front ++ z) none ∙ append-nil front))

  lay_past : drop cap (lay lent clear xs mem) ≡ drop cap mem
  lay_past =
      let sum : lent + (cap - lent) ≡ cap = omega arith in
      ap (λ k. drop k (front ++ drop lent mem)) up_to_cap ∙ (drop-append-add front (drop lent mem) (cap - lent) ∙ (drop-drop (cap - lent) lent mem ∙ ap (λ k. drop k mem) sum))

places_fit_lem : (g : Grammar) (c : Config) (m : Stacks) → Within (lent_of m) c → length (map (place_of g) c.frames) ≤ (lent_of m).max_places
places_fit_lem g c m w = omega (arith, length-map c.frames (place_of g), w.places)

laid_past : (g : Grammar) (c : Config) (m : Stacks) → Within (lent_of m) c → past_lent (lay_all g c m) ≡ past_lent m
laid_past g c m w =
    let a = lay_past registers_limit mark c.registers m.registers w.registers in
    let b = lay_past places_limit 0 (map (place_of g) c.frames) m.places (places_fit_lem g c m w) in
    λ i. record { registers = a i; places = b i }

-- ---- not written

opening_within : (g : Grammar) (m : Stacks) → ltb (lent_of m).max_registers (length (opening g).registers) ≡ false → ltb (lent_of m).max_places 1 ≡ false → Within (lent_of m) (opening g)
opening_within g m a b = record { registers = nltb→le (lent_of m).max_registers (length (opening g).registers) (rw a tt); places = nltb→le (lent_of m).max_places 1 (rw b tt); moves = omega arith }

-- where a call's moves lead is within what is lent
abbrev Ends : Lent → Settled → Type 0
Ends l (stopped e) = Within l e
Ends l (failed e k) = Within l e

module _ (g : Grammar) (wf : WellFormed g) (r : Record) (m : Stacks) (f : Fit g r m) where
  abbrev from : Config
  from = config_of g r m

  feed_ends : (ts : List Leaf) → Ends (lent_of m) (feed_all g (lent_of m) ts from)
  feed_ends ts = go (feed_all g (lent_of m) ts from) (feed_leads g wf r m f ts)
    where
      go : (o : Settled) → Fed g (lent_of m) from ts o → Ends (lent_of m) o
      go (stopped e) v = led_within g wf r m f ts [] e (fed_led g wf r m f ts [] e v.0)
      go (failed e k) v = led_within g wf r m f ts v.0 e (fed_led g wf r m f ts v.0 e v.1)

  finish_ends : Ends (lent_of m) (finish_all g (lent_of m) from)
  finish_ends = go (finish_all g (lent_of m) from) (finish_leads g wf r m f)
    where
      go : (o : Settled) → Finished g (lent_of m) from [] r.tokens o → Ends (lent_of m) o
      go (stopped e) v = led_within g wf r m f [] [] e (with_nothing g (lent_of m) [] from [] e v.0)
      go (failed e k) v = led_within g wf r m f [] [] e (with_nothing g (lent_of m) [] from [] e v.0)

  made_past : (c : Call) → past_lent (made g r m c).stacks ≡ past_lent m
  made_past (feed ks vs) = even (eqb (length ks) (length vs)) (feed_all g (lent_of m) (leaves g (tokens_from ks vs)) from) (feed_ends (leaves g (tokens_from ks vs)))
    where
      go : (o : Settled) → Ends (lent_of m) o → past_lent (after_feed g m o).stacks ≡ past_lent m
      go (stopped e) w = laid_past g e m w
      go (failed e k) w = laid_past g e m w

      even : (b : Bool) (o : Settled) → Ends (lent_of m) o → past_lent (when_even b r m (after_feed g m o)).stacks ≡ past_lent m
      even true o w = go o w
      even false o w = refl
  made_past finish = go (finish_all g (lent_of m) from) finish_ends
    where
      go : (o : Settled) → Ends (lent_of m) o → past_lent (after_finish_value g m o).stacks ≡ past_lent m
      go (stopped e) w = laid_past g e m w
      go (failed e k) w = laid_past g e m w

-- an opening, by whether the registers and the places are too few
abbrev open_way : Grammar → Stacks → Bool → Bool → Called
open_way g m a b = elim a as (λ z. Called) [
  | true ↦ as_brought (refused 31 0) closed_record m
  | false ↦ elim b as (λ z. Called) [ true ↦ as_brought (refused 32 0) closed_record m | false ↦ record { answer = more 0; state = record_of true (opening g); stacks = lay_all g (opening g) m } ]
]

-- whatever holds of each way an opening may go holds of the opening
module _ (P : Effect → Type 0) (program : Grammar → List ℕ) (bs area : List ℕ) (m : Stacks) where
  opens_cases : P (effect (as_brought (refused 30 0) closed_record m) area) → ((n o : ℕ) → check bs ≡ unusable n o → P (effect (as_brought (table_refused n o) closed_record m) area))
      → ((s : State) → check bs ≡ usable s → P (effect (open_of (grammar_of s) m) (written (program (grammar_of s)) area))) → P (opens program bs area m)
  opens_cases a b c = go (ltb (length area) area_length) (check bs) refl
    where
      go : (x : Bool) (k : Checked) → check bs ≡ k → P (elim x as (λ z. Effect) [
        | true ↦ effect (as_brought (refused 30 0) closed_record m) area
        | false ↦ elim k as (λ z. Effect) [ unusable n o ↦ effect (as_brought (table_refused n o) closed_record m) area | usable s ↦ effect (open_of (grammar_of s) m) (written (program (grammar_of s)) area) ]
      ])
      go true k e = a
      go false (unusable n o) e = b n o e
      go false (usable s) e = c s e

open_past : (g : Grammar) (m : Stacks) → past_lent (open_of g m).stacks ≡ past_lent m
open_past g m = go (ltb (lent_of m).max_registers (length (opening g).registers)) refl (ltb (lent_of m).max_places 1) refl
  where
    go : (a : Bool) → ltb (lent_of m).max_registers (length (opening g).registers) ≡ a → (b : Bool) → ltb (lent_of m).max_places 1 ≡ b → past_lent (open_way g m a b).stacks ≡ past_lent m
    go true x b y = refl
    go false x true y = refl
    go false x false y = laid_past g (opening g) m (opening_within g m x y)

pub never_written : NeverWritten
never_written program bs area r m c = (
  opens_cases (λ e. past_lent e.stacks ≡ past_lent m) program bs area m refl (λ n o e. refl) (λ s e. open_past (grammar_of s) m),
  by_cases (λ a u v. past_lent v ≡ past_lent m) program bs area r m c refl (λ n o t. refl) refl refl refl (λ s e f. made_past (grammar_of s) (checked_formed bs s e) r m f c),
)

-- ---- not read

same_count : {A : Type 0} (cap : ℕ) (xs ys : List A) → take cap xs ≡ take cap ys → min (length xs) cap ≡ min (length ys) cap
same_count cap xs ys e = omega (arith, ap length e, length-take cap xs, length-take cap ys)

same_low : {A : Type 0} (cap h : ℕ) (xs ys : List A) → take cap xs ≡ take cap ys → h ≤ cap → take h xs ≡ take h ys
same_low cap h xs ys e l = sym (take-take h cap xs l) ∙ (ap (take h) e ∙ take-take h cap ys l)

same_cell : {A : Type 0} (cap i : ℕ) (xs ys : List A) (d : A) → take cap xs ≡ take cap ys → i < cap → get_or ys i d ≡ get_or xs i d
same_cell cap i xs ys d e l = sym (get_or-take cap ys i d l) ∙ (ap (λ z. get_or z i d) (sym e) ∙ get_or-take cap xs i d l)

-- laid on memory with the same lent cells
same_laid : {A : Type 0} (cap : ℕ) (clear : A) (zs xs ys : List A) → take cap xs ≡ take cap ys → length zs ≤ min (length xs) cap → take cap (lay (min (length xs) cap) clear zs xs) ≡ take cap (lay (min (length ys) cap) clear zs ys)
same_laid cap clear zs xs ys e l =
    let n = same_count cap xs ys e in
    lay_lent cap clear zs xs l ∙ (ap (λ k. reverse zs ++ replicate (k - length zs) clear) n ∙ sym (lay_lent cap clear zs ys (omega arith)))

module _ (m n : Stacks) (same : lent_part m ≡ lent_part n) where
  registers_same : take registers_limit m.registers ≡ take registers_limit n.registers
  registers_same = ap (λ z. z.registers) same

  places_same : take places_limit m.places ≡ take places_limit n.places
  places_same = ap (λ z. z.places) same

  lent_same : lent_of m ≡ lent_of n
  lent_same = ap₂ (λ x y. record { max_registers = x; max_places = y }) (same_count registers_limit m.registers n.registers registers_same) (same_count places_limit m.places n.places places_same)

  laid_same : (g : Grammar) (c : Config) → Within (lent_of m) c → lent_part (lay_all g c m) ≡ lent_part (lay_all g c n)
  laid_same g c w =
      let a = same_laid registers_limit mark c.registers m.registers n.registers registers_same w.registers in
      let b = same_laid places_limit 0 (map (place_of g) c.frames) m.places n.places places_same (places_fit_lem g c m w) in
      λ i. record { registers = a i; places = b i }

  module _ (g : Grammar) (r : Record) where
    low_registers : r.register_height ≤ (lent_of m).max_registers → take r.register_height m.registers ≡ take r.register_height n.registers
    low_registers l = same_low registers_limit r.register_height m.registers n.registers registers_same (omega arith)

    low_places : r.place_height ≤ (lent_of m).max_places → take r.place_height m.places ≡ take r.place_height n.places
    low_places l = same_low places_limit r.place_height m.places n.places places_same (omega arith)

    fit_same : Fit g r m → Fit g r n
    fit_same f =
        let e : lent_of m ≡ lent_of n = lent_same in
        record {
          tokens = f.tokens;
          moves = f.moves;
          register_height = subst (λ l. r.register_height ≤ l.max_registers) e f.register_height;
          place_height = subst (λ l. r.place_height ≤ l.max_places) e f.place_height;
          stands = subst₂ (λ ps rs. ((x : Symbol) × WaitsAt g (reverse ps) (reverse rs) x) ⊎ Left g (reverse ps) (reverse rs)) (low_places f.place_height) (low_registers f.register_height) f.stands;
          registers_cleared = λ i a b. same_cell registers_limit i m.registers n.registers mark registers_same (omega arith) ∙ f.registers_cleared i a (subst (λ l. i < l.max_registers) (sym e) b);
          places_cleared = λ i a b. same_cell places_limit i m.places n.places 0 places_same (omega arith) ∙ f.places_cleared i a (subst (λ l. i < l.max_places) (sym e) b);
        }

    config_same : Fit g r m → config_of g r m ≡ config_of g r n
    config_same f = ap₂ (λ ps rs. config (map (frame_of g) (reverse ps)) (reverse rs) r.tokens r.moves) (low_places f.place_height) (low_registers f.register_height)

-- what a call answers and leaves, without the cells past what is lent
abbrev called_lent : Called → Called
called_lent k = record { answer = k.answer; state = k.state; stacks = lent_part k.stacks }

module _ (m n : Stacks) (same : lent_part m ≡ lent_part n) (g : Grammar) (r : Record) where
  brought_same : (k : ℕ) → called_lent (as_brought (refused k 0) r m) ≡ called_lent (as_brought (refused k 0) r n)
  brought_same k = λ i. record { answer = refused k 0; state = r; stacks = same i }

  made_same : WellFormed g → Fit g r m → (c : Call) → called_lent (made g r m c) ≡ called_lent (made g r n c)
  made_same wf f (feed ks vs) = even (eqb (length ks) (length vs))
    where
      ts : List Leaf
      ts = leaves g (tokens_from ks vs)

      go : (o : Settled) → Ends (lent_of m) o → called_lent (after_feed g m o) ≡ called_lent (after_feed g n o)
      go (stopped e) w = ap (λ z. record { answer = more e.moves; state = record_of true e; stacks = z }) (laid_same m n same g e w)
      go (failed e k) w = ap (λ z. record { answer = refused k e.tokens; state = record_of false e; stacks = z }) (laid_same m n same g e w)

      even : (b : Bool) → called_lent (when_even b r m (after_feed g m (feed_all g (lent_of m) ts (config_of g r m)))) ≡ called_lent (when_even b r n (after_feed g n (feed_all g (lent_of n) ts (config_of g r n))))
      even true = go (feed_all g (lent_of m) ts (config_of g r m)) (feed_ends g wf r m f ts) ∙ ap₂ (λ l d. called_lent (after_feed g n (feed_all g l ts d))) (lent_same m n same) (config_same m n same g r f)
      even false = brought_same 38
  made_same wf f finish = go (finish_all g (lent_of m) (config_of g r m)) (finish_ends g wf r m f) ∙ ap₂ (λ l d. called_lent (after_finish_value g n (finish_all g l d))) (lent_same m n same) (config_same m n same g r f)
    where
      go : (o : Settled) → Ends (lent_of m) o → called_lent (after_finish_value g m o) ≡ called_lent (after_finish_value g n o)
      go (stopped e) w = ap (λ z. record { answer = (after_finish_value g m (stopped e)).answer; state = record_of false e; stacks = z }) (laid_same m n same g e w)
      go (failed e k) w = ap (λ z. record { answer = refused k e.tokens; state = record_of false e; stacks = z }) (laid_same m n same g e w)

  fits_same : stacks_fit g r m ≡ stacks_fit g r n
  fits_same = same_truth (stacks_fit g r m) (stacks_fit g r n) (λ t. (fit_exactly g r n).1 (fit_same m n same g r ((fit_exactly g r m).0 t))) (λ t. (fit_exactly g r m).1 (fit_same n m (sym same) g r ((fit_exactly g r n).0 t)))

  when_same : (k j : Called) → (Fit g r m → called_lent k ≡ called_lent j) → called_lent (when_fit g r m k) ≡ called_lent (when_fit g r n j)
  when_same k j h = go (gate 34 r.status r.kind) (stacks_fit g r m) refl (stacks_fit g r n) fits_same
    where
      go : (o : Gate) (a : Bool) → stacks_fit g r m ≡ a → (b : Bool) → stacks_fit g r m ≡ b
          → called_lent (elim o as (λ z. Called) [ turned_back q ↦ as_brought (refused q 0) r m | admitted ↦ elim a as (λ z. Called) [ false ↦ as_brought (refused 34 0) r m | true ↦ k ] ])
          ≡ called_lent (elim o as (λ z. Called) [ turned_back q ↦ as_brought (refused q 0) r n | admitted ↦ elim b as (λ z. Called) [ false ↦ as_brought (refused 34 0) r n | true ↦ j ] ])
      go (turned_back q) a x b y = brought_same q
      go admitted false x false y = brought_same 34
      go admitted true x true y = h ((fit_exactly g r m).0 (rw x tt))
      go admitted false x true y = absurd (subst T (sym y ∙ x) tt)
      go admitted true x false y = absurd (subst T (sym x ∙ y) tt)

  call_same : WellFormed g → (c : Call) → called_lent (call_of g r m c) ≡ called_lent (call_of g r n c)
  call_same wf c = ap called_lent (call_is_lem g r m c) ∙ (when_same (made g r m c) (made g r n c) (λ f. made_same wf f c) ∙ ap called_lent (sym (call_is_lem g r n c)))

open_same : (m n : Stacks) (same : lent_part m ≡ lent_part n) (g : Grammar) → called_lent (open_of g m) ≡ called_lent (open_of g n)
open_same m n same g =
    go (ltb (lent_of m).max_registers (length (opening g).registers)) refl (ltb (lent_of m).max_places 1) refl
    ∙ ap (λ l. called_lent (open_way g n (ltb l.max_registers (length (opening g).registers)) (ltb l.max_places 1))) (lent_same m n same)
  where
    go : (a : Bool) → ltb (lent_of m).max_registers (length (opening g).registers) ≡ a → (b : Bool) → ltb (lent_of m).max_places 1 ≡ b → called_lent (open_way g m a b) ≡ called_lent (open_way g n a b)
    go true x b y = brought_same m n same g closed_record 31
    go false x true y = brought_same m n same g closed_record 32
    go false x false y = ap (λ z. record { answer = more 0; state = record_of true (opening g); stacks = z }) (laid_same m n same g (opening g) (opening_within g m x y))

-- a call is turned back or made in the same way on both
module _ (program : Grammar → List ℕ) (bs area : List ℕ) (r : Record) (m n : Stacks) (same : lent_part m ≡ lent_part n) (f h : Grammar → Called) (alike : (s : State) → check bs ≡ usable s → called_lent (f (grammar_of s)) ≡ called_lent (h (grammar_of s))) where
  abbrev way : Stacks → (Grammar → Called) → Bool → Checked → Effect
  way s k b x = elim b as (λ z. Effect) [
    | true ↦ effect (as_brought (refused 30 0) r s) area
    | false ↦ elim x as (λ z. Effect) [ unusable p o ↦ effect (as_brought (table_refused p o) r s) area | usable t ↦ effect (k (grammar_of t)) (written (program (grammar_of t)) area) ]
  ]

  effect_same : (b : Bool) (x : Checked) → check bs ≡ x → on_lent (way m f b x) ≡ on_lent (way n h b x)
  effect_same true x e = ap (λ z. record { answer = refused 30 0; state = r; stacks = z; area = area }) same
  effect_same false (unusable p o) e = ap (λ z. record { answer = table_refused p o; state = r; stacks = z; area = area }) same
  effect_same false (usable t) e = ap (λ z. effect z (written (program (grammar_of t)) area)) (alike t e)

pub never_read : NeverRead
never_read program bs area r m n c same = (
  effect_same program bs area closed_record m n same (λ g. open_of g m) (λ g. open_of g n) (λ s e. open_same m n same (grammar_of s)) (ltb (length area) area_length) (check bs) refl,
  effect_same program bs area r m n same (λ g. call_of g r m c) (λ g. call_of g r n c) (λ s e. call_same m n same (grammar_of s) r (checked_formed bs s e) c) (ltb (length area) area_length) (check bs) refl,
)
