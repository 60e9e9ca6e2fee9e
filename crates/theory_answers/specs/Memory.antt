-- What a call lays into the lent stacks fits and is read back; what fits is laid as it was.
use Rattle.std.specs.Prelude.{ℕ, suc, ◌+◌, ◌-◌, ◌≤◌, ◌<◌, min, ◌≡◌, refl, ◌⊎◌, Bool, true, false, T, List, [], ◌∷◌, ◌++◌, map, reverse, get_or, length, take, drop, replicate, ℤ}
use Rattle.std.proofs.Common.{arith, sym, ap, ap₂, ◌∙◌, subst, subst₂, inl, inr, append_assoc, length-append, length-drop, length-take, take-append-drop, take_at, drop_at, get_or-take, get_or-drop, drop-drop, drop-cons}
use Rattle.std.proofs.lemmas.List.{reverse-reverse, length-replicate, length-reverse, length-map, get_or-replicate}
use Rattle.std.proofs.Math.ListN.{get_or-append}
use Rattle.meaning.specs.Limits.{registers_limit, places_limit}
use Rattle.meaning.specs.Grammar.{Symbol, terminal, Grammar, production_at, symbol_at}
use Rattle.meaning.specs.Value.{mark}
use Rattle.meaning.specs.Rules.{WellFormed}
use Rattle.meaning.specs.Machine.{Config, Lent, place_of, moves_limit, tokens_limit}
use Rattle.meaning.specs.Part.{config}
use Rattle.meaning.specs.Calls.{Status, running, waiting, closed, Kind, outer, inner, admitted, turned_back, gate, is_open, Record, Stacks, lent_of, lay, lay_all, frame_of, config_of, record_of}
use Rattle.meaning.specs.Fit.{WaitsAt, segment, inside, Left, Fit}
use Rattle.theory_base.specs.Frames.{place_waits_lem, frame_back}
use Rattle.theory_answers.specs.ShapeMemory.{AtStop}

-- within what is lent and the limit of moves
pub record Within (lent : Lent) (c : Config) : Type 0 where
  pub registers : length c.registers ≤ lent.max_registers
  pub places : length c.frames ≤ lent.max_places
  pub moves : c.moves ≤ moves_limit

-- ---- one stack laid

module _ {A : Type 0} (n : ℕ) (clear : A) (xs mem : List A) where
  pub lay_front : take (length xs) (lay n clear xs mem) ≡ reverse xs
  lay_front = ap (λ z. take (length xs) z) (append_assoc (reverse xs) (replicate (n - length xs) clear) (drop n mem)) ∙ take_at (reverse xs) (replicate (n - length xs) clear ++ drop n mem) (length xs) (length-reverse xs)

  pub lay_above : drop (length xs) (lay n clear xs mem) ≡ replicate (n - length xs) clear ++ drop n mem
  lay_above = ap (λ z. drop (length xs) z) (append_assoc (reverse xs) (replicate (n - length xs) clear) (drop n mem)) ∙ drop_at (reverse xs) (replicate (n - length xs) clear ++ drop n mem) (length xs) (length-reverse xs)

  lay_cleared : (i : ℕ) → length xs ≤ i → i < n → get_or (lay n clear xs mem) i clear ≡ clear
  lay_cleared i a b =
      let j : ℕ = i - length xs in
      let e : length xs + j ≡ i = omega arith in
      let s : j < length (replicate (n - length xs) clear) = omega (arith, length-replicate (n - length xs) clear) in
      sym (get_or-drop (length xs) (lay n clear xs mem) j clear ∙ ap (λ k. get_or (lay n clear xs mem) k clear) e)
      ∙ (ap (λ z. get_or z j clear) lay_above
      ∙ (get_or-append (replicate (n - length xs) clear) (drop n mem) clear j s ∙ get_or-replicate (n - length xs) j clear clear (omega arith)))

  pub lay_length : length xs ≤ n → n ≤ length mem → length (lay n clear xs mem) ≡ length mem
  lay_length h l = length-append (reverse xs ++ replicate (n - length xs) clear) (drop n mem) ∙ omega (arith, length-append (reverse xs) (replicate (n - length xs) clear), length-reverse xs, length-replicate (n - length xs) clear, length-drop n mem)

  lay_rest : length xs ≤ n → drop n (lay n clear xs mem) ≡ drop n mem
  lay_rest h = drop_at (reverse xs ++ replicate (n - length xs) clear) (drop n mem) n (length-append (reverse xs) (replicate (n - length xs) clear) ∙ omega (arith, length-reverse xs, length-replicate (n - length xs) clear))

pub all_clear : {A : Type 0} (clear : A) (xs : List A) → ((i : ℕ) → i < length xs → get_or xs i clear ≡ clear) → xs ≡ replicate (length xs) clear
all_clear clear [] h = refl
all_clear clear (x ∷ xs) h = ap₂ (λ y ys. y ∷ ys) (h 0 (omega arith)) (all_clear clear xs (λ i l. h (suc i) (omega arith)))

-- what stands, with all above it cleared, is laid as it was
pub lay_same : {A : Type 0} (n h : ℕ) (clear : A) (mem : List A) → h ≤ n → n ≤ length mem → ((i : ℕ) → h ≤ i → i < n → get_or mem i clear ≡ clear) → lay n clear (reverse (take h mem)) mem ≡ mem
lay_same {A = A} n h clear mem a b is =
    let size : length (reverse (take h mem)) ≡ h = length-reverse (take h mem) ∙ (length-take h mem ∙ omega arith) in
    let middle : List A = take (n - h) (drop h mem) in
    let long : length middle ≡ n - h = length-take (n - h) (drop h mem) ∙ omega (arith, length-drop h mem) in
    let each : (i : ℕ) → i < length middle → get_or middle i clear ≡ clear = λ i l. get_or-take (n - h) (drop h mem) i clear (omega arith) ∙ (get_or-drop h mem i clear ∙ is (h + i) (omega arith) (omega arith)) in
    let cleared : middle ≡ replicate (n - length (reverse (take h mem))) clear = all_clear clear middle each ∙ ap (λ k. replicate k clear) (long ∙ ap (λ k. n - k) (sym size)) in
    let sum : h + (n - h) ≡ n = omega arith in
    let rest : drop (n - h) (drop h mem) ≡ drop n mem = drop-drop (n - h) h mem ∙ ap (λ k. drop k mem) sum in
    ap₂ (λ y z. y ++ z ++ drop n mem) (reverse-reverse (take h mem)) (sym cleared)
    ∙ (append_assoc (take h mem) middle (drop n mem)
    ∙ (ap (λ z. take h mem ++ (middle ++ z)) (sym rest)
    ∙ (ap (λ z. take h mem ++ z) (take-append-drop (n - h) (drop h mem)) ∙ take-append-drop h mem)))

-- ---- the stacks of a configuration that waits

-- the lent stacks keep their lengths
pub lent_kept : (g : Grammar) (c : Config) (m : Stacks) → Within (lent_of m) c → lent_of (lay_all g c m) ≡ lent_of m
lent_kept g c m w =
    let a : length (lay_all g c m).registers ≡ length m.registers = lay_length (lent_of m).max_registers mark c.registers m.registers w.registers (omega arith) in
    let b : length (lay_all g c m).places ≡ length m.places = lay_length (lent_of m).max_places 0 (map (place_of g) c.frames) m.places (omega (arith, length-map c.frames (place_of g), w.places)) (omega arith) in
    ap₂ (λ x y. record { max_registers = min x registers_limit; max_places = min y places_limit }) a b

module _ (g : Grammar) (o : Bool) (c : Config) (m : Stacks) (s : AtStop g c.frames c.registers) (w : Within (lent_of m) c) where
  abbrev placed : List ℕ
  placed = map (place_of g) c.frames

  placed_size : length placed ≡ length c.frames
  placed_size = length-map c.frames (place_of g)

  places_read : reverse (take (length c.frames) (lay_all g c m).places) ≡ placed
  places_read = ap (λ k. reverse (take k (lay_all g c m).places)) (sym placed_size) ∙ (ap reverse (lay_front (lent_of m).max_places 0 placed m.places) ∙ reverse-reverse placed)

  registers_read : reverse (take (length c.registers) (lay_all g c m).registers) ≡ c.registers
  registers_read = ap reverse (lay_front (lent_of m).max_registers mark c.registers m.registers) ∙ reverse-reverse c.registers

  pub read_back : config_of g (record_of o c) (lay_all g c m) ≡ c
  read_back = ap₂ (λ fs rs. config fs rs c.tokens c.moves) (ap (map (frame_of g)) places_read ∙ s.back) registers_read

  pub laid_fits : c.tokens ≤ tokens_limit → Fit g (record_of o c) (lay_all g c m)
  laid_fits t =
      let m' : Stacks = lay_all g c m in
      let e : lent_of m' ≡ lent_of m = lent_kept g c m w in
      record {
        tokens = t;
        moves = w.moves;
        register_height = subst (λ l. length c.registers ≤ l.max_registers) (sym e) w.registers;
        place_height = subst (λ l. length c.frames ≤ l.max_places) (sym e) w.places;
        stands = subst₂ (λ ps rs. ((x : Symbol) × WaitsAt g ps rs x) ⊎ Left g ps rs) (sym places_read) (sym registers_read) s.fits;
        registers_cleared = λ i a b. lay_cleared (lent_of m).max_registers mark c.registers m.registers i a (subst (λ l. i < l.max_registers) e b);
        places_cleared = λ i a b. lay_cleared (lent_of m).max_places 0 placed m.places i (omega (arith, placed_size)) (subst (λ l. i < l.max_places) e b);
      }

-- laying once more forgets what was laid before
pub lay_over : (g : Grammar) (c e : Config) (m : Stacks) → Within (lent_of m) c → lay_all g e (lay_all g c m) ≡ lay_all g e m
lay_over g c e m w =
    let ps : List ℕ = map (place_of g) c.frames in
    let l : lent_of (lay_all g c m) ≡ lent_of m = lent_kept g c m w in
    let a : drop (lent_of m).max_registers (lay_all g c m).registers ≡ drop (lent_of m).max_registers m.registers = lay_rest (lent_of m).max_registers mark c.registers m.registers w.registers in
    let b : drop (lent_of m).max_places (lay_all g c m).places ≡ drop (lent_of m).max_places m.places = lay_rest (lent_of m).max_places 0 ps m.places (omega (arith, length-map c.frames (place_of g), w.places)) in
    ap (λ k. record { registers = lay k.max_registers mark e.registers (lay_all g c m).registers; places = lay k.max_places 0 (map (place_of g) e.frames) (lay_all g c m).places }) l
    ∙ ap₂ (λ x y. record { registers = reverse e.registers ++ replicate ((lent_of m).max_registers - length e.registers) mark ++ x; places = reverse (map (place_of g) e.frames) ++ replicate ((lent_of m).max_places - length (map (place_of g) e.frames)) 0 ++ y }) a b

-- ---- what fits, read and laid again

waits_back : (g : Grammar) → WellFormed g → {ps : List ℕ} {rs : List ℤ} {x : Symbol} → WaitsAt g ps rs x → map (place_of g) (map (frame_of g) ps) ≡ ps
waits_back g wf (segment vs v) = refl
waits_back g wf (inside p k vs ss {ps} {rs} l s m v u w) =
    let right = (production_at g p).right in
    let x : Symbol = symbol_at (production_at g p) (suc k) in
    let e : drop k right ≡ x ∷ drop (suc k) right = drop-cons right k (terminal 0) s in
    ap₂ (λ y ys. y ∷ ys) (ap (place_of g) (frame_back g wf p k x (drop (suc k) right) (inr l) m e) ∙ place_waits_lem g p k x (drop (suc k) right) e) (waits_back g wf w)

pub places_back : (g : Grammar) → WellFormed g → (ps : List ℕ) (rs : List ℤ) → ((x : Symbol) × WaitsAt g ps rs x) ⊎ Left g ps rs → map (place_of g) (map (frame_of g) ps) ≡ ps
places_back g wf ps rs (inl w) = waits_back g wf w.1
places_back g wf ps rs (inr l) = subst (λ z. map (place_of g) (map (frame_of g) z) ≡ z) (sym l.place) refl

-- a record that an ordinary call takes
pub open_is : (s : Status) (k : Kind) → elim (gate 34 s k) as (λ z. Bool) [ admitted ↦ true | turned_back n ↦ false ] ≡ true → (s ≡ running) × (k ≡ outer)
open_is running outer o = (refl, refl)
open_is running (inner a b) o = absurd (subst T (sym o) tt)
open_is waiting outer o = absurd (subst T (sym o) tt)
open_is waiting (inner a b) o = absurd (subst T (sym o) tt)
open_is closed k o = absurd (subst T (sym o) tt)

pub record_open : (b : Bool) (c : Config) → is_open (record_of b c) ≡ b
record_open true c = refl
record_open false c = refl

pub by_its_status : {r : Record} (b : Bool) (c : Config) → r ≡ record_of b c → r ≡ record_of (is_open r) c
by_its_status b c e = e ∙ ap (λ z. record_of z c) (sym (ap is_open e ∙ record_open b c))

module _ (g : Grammar) (wf : WellFormed g) (r : Record) (m : Stacks) (f : Fit g r m) where
  height : {A : Type 0} (h : ℕ) (mem : List A) → h ≤ length mem → length (reverse (take h mem)) ≡ h
  height h mem l = length-reverse (take h mem) ∙ (length-take h mem ∙ omega arith)

  registers_height : length (config_of g r m).registers ≡ r.register_height
  registers_height = height r.register_height m.registers (omega (arith, f.register_height))

  places_height : length (config_of g r m).frames ≡ r.place_height
  places_height = length-map (reverse (take r.place_height m.places)) (frame_of g) ∙ height r.place_height m.places (omega (arith, f.place_height))

  pub fit_within : Within (lent_of m) (config_of g r m)
  fit_within = record { registers = omega (arith, registers_height, f.register_height); places = omega (arith, places_height, f.place_height); moves = f.moves }

  pub same_record : is_open r ≡ true → record_of true (config_of g r m) ≡ r
  same_record o =
      let s : (r.status ≡ running) × (r.kind ≡ outer) = open_is r.status r.kind o in
      λ i. record { status = sym s.0 i; kind = sym s.1 i; tokens = r.tokens; moves = r.moves; register_height = registers_height i; place_height = places_height i }

  pub same_stacks : lay_all g (config_of g r m) m ≡ m
  same_stacks =
      let ps : List ℕ = reverse (take r.place_height m.places) in
      let a : lay (lent_of m).max_registers mark (config_of g r m).registers m.registers ≡ m.registers = lay_same (lent_of m).max_registers r.register_height mark m.registers f.register_height (omega arith) f.registers_cleared in
      let b : lay (lent_of m).max_places 0 (map (place_of g) (config_of g r m).frames) m.places ≡ m.places =
      ap (λ z. lay (lent_of m).max_places 0 z m.places) (places_back g wf ps (reverse (take r.register_height m.registers)) f.stands) ∙ lay_same (lent_of m).max_places r.place_height 0 m.places f.place_height (omega arith) f.places_cleared in
      λ i. record { registers = a i; places = b i }
