-- What every call of the engine leaves of a run that is open: stacks of the same lengths, and a record that is open or closed and never waits nor is an inner one.
use Rattle.std.specs.Prelude.{ℕ, ◌≤◌, ◌≡◌, refl, Bool, true, false, List, [], map, length, eqb}
use Rattle.std.proofs.Common.{arith, sym, subst}
use Rattle.std.proofs.lemmas.List.{length-map, length-replicate}
use Rattle.meaning.specs.Grammar.{Grammar, Leaf, syn, nonterminal, leaves}
use Rattle.meaning.specs.Rules.{WellFormed}
use Rattle.meaning.specs.Value.{mark}
use Rattle.meaning.specs.Machine.{Config, Settled, stopped, failed, opening, place_of, feed_all, finish_all}
use Rattle.meaning.specs.Calls.{running, closed, outer, Record, Stacks, Called, refused, lent_of, lay_all, config_of, stacks_fit, as_brought, after_feed, after_finish_value, when_even, tokens_from}
use Rattle.meaning.specs.Fit.{Fit}
use Rattle.meaning.specs.PublicCalls.{Call, feed, finish, call_of}
use Rattle.theory_answers.specs.FitTest.{fit_exactly}
use Rattle.theory_answers.specs.Memory.{Within, lay_length}
use Rattle.theory_answers.specs.Runs.{Fed, Finished, with_nothing}
use Rattle.theory_answers.specs.Answers.{made, call_is_lem, led_within, fed_led, feed_leads, finish_leads}

abbrev pub open_record : ℕ → ℕ → ℕ → ℕ → Record
open_record t n h p = record { status = running; kind = outer; tokens = t; moves = n; register_height = h; place_height = p }

abbrev pub closed_record_lem : ℕ → ℕ → ℕ → ℕ → Record
closed_record_lem t n h p = record { status = closed; kind = outer; tokens = t; moves = n; register_height = h; place_height = p }

pub data Leaves : Record → Type 0 where
  goes_on : (t n h p : ℕ) → Leaves (open_record t n h p)
  is_over : (t n h p : ℕ) → Leaves (closed_record_lem t n h p)

pub record SameSize (m m' : Stacks) : Type 0 where
  pub registers : length m'.registers ≡ length m.registers
  pub places : length m'.places ≡ length m.places

laid_size : (g : Grammar) (c : Config) (m : Stacks) → Within (lent_of m) c → SameSize m (lay_all g c m)
laid_size g c m w = record {
  registers = lay_length (lent_of m).max_registers mark c.registers m.registers w.registers (omega arith);
  places = lay_length (lent_of m).max_places 0 (map (place_of g) c.frames) m.places (omega (arith, length-map c.frames (place_of g), w.places)) (omega arith);
}

pub opening_size : (h : Grammar) (m : Stacks) → syn h (nonterminal h.start) ≤ (lent_of m).max_registers → 1 ≤ (lent_of m).max_places → SameSize m (lay_all h (opening h) m)
opening_size h m k l = laid_size h (opening h) m (record { registers = omega (arith, length-replicate (syn h (nonterminal h.start)) mark, k); places = l; moves = omega arith })

-- a call on an open record: a 34, or what comes after it
pub call_cases : (Q : Called → Type 0) (g : Grammar) (t n h p : ℕ) (m : Stacks) (c : Call) → Q (as_brought (refused 34 0) (open_record t n h p) m) → (Fit g (open_record t n h p) m → Q (made g (open_record t n h p) m c)) → Q (call_of g (open_record t n h p) m c)
call_cases Q g t n h p m c a d = subst Q (sym (call_is_lem g (open_record t n h p) m c)) (go (stacks_fit g (open_record t n h p) m) refl)
  where
    go : (b : Bool) → stacks_fit g (open_record t n h p) m ≡ b → Q (elim b as (λ z. Called) [ false ↦ as_brought (refused 34 0) (open_record t n h p) m | true ↦ made g (open_record t n h p) m c ])
    go false e = a
    go true e = d ((fit_exactly g (open_record t n h p) m).0 (rw e tt))

abbrev Right : Stacks → Called → Type 0
Right m k = Leaves k.state × SameSize m k.stacks

pub call_leaves : (g : Grammar) → WellFormed g → (t n h p : ℕ) (m : Stacks) (c : Call) → Right m (call_of g (open_record t n h p) m c)
call_leaves g wf t n h p m c = call_cases (Right m) g t n h p m c (goes_on t n h p, record { registers = refl; places = refl }) (by c)
  where
    by : (c : Call) → Fit g (open_record t n h p) m → Right m (made g (open_record t n h p) m c)
    by (feed ks vs) f = even (eqb (length ks) (length vs)) (feed_all g (lent_of m) us (config_of g (open_record t n h p) m)) (feed_leads g wf (open_record t n h p) m f us)
      where
        us : List Leaf
        us = leaves g (tokens_from ks vs)

        go : (o : Settled) → Fed g (lent_of m) (config_of g (open_record t n h p) m) us o → Right m (after_feed g m o)
        go (stopped e) v = (goes_on e.tokens e.moves (length e.registers) (length e.frames), laid_size g e m (led_within g wf (open_record t n h p) m f us [] e (fed_led g wf (open_record t n h p) m f us [] e v.0)))
        go (failed e k) v = (is_over e.tokens e.moves (length e.registers) (length e.frames), laid_size g e m (led_within g wf (open_record t n h p) m f us v.0 e (fed_led g wf (open_record t n h p) m f us v.0 e v.1)))

        even : (b : Bool) (o : Settled) → Fed g (lent_of m) (config_of g (open_record t n h p) m) us o → Right m (when_even b (open_record t n h p) m (after_feed g m o))
        even true o v = go o v
        even false o v = (goes_on t n h p, record { registers = refl; places = refl })
    by finish f = go (finish_all g (lent_of m) (config_of g (open_record t n h p) m)) (finish_leads g wf (open_record t n h p) m f)
      where
        go : (o : Settled) → Finished g (lent_of m) (config_of g (open_record t n h p) m) [] t o → Right m (after_finish_value g m o)
        go (stopped e) v = (is_over e.tokens e.moves (length e.registers) (length e.frames), laid_size g e m (led_within g wf (open_record t n h p) m f [] [] e (with_nothing g (lent_of m) [] (config_of g (open_record t n h p) m) [] e v.0)))
        go (failed e k) v = (is_over e.tokens e.moves (length e.registers) (length e.frames), laid_size g e m (led_within g wf (open_record t n h p) m f [] [] e (with_nothing g (lent_of m) [] (config_of g (open_record t n h p) m) [] e v.0)))

-- an empty feed leaves the record open, whether it is turned back or not
pub data LeavesOpen : Record → Type 0 where
  still : (t n h p : ℕ) → LeavesOpen (open_record t n h p)

pub nothing_fed : (g : Grammar) (t n h p : ℕ) (m : Stacks) → LeavesOpen (call_of g (open_record t n h p) m (feed [] [])).state
nothing_fed g t n h p m = call_cases (λ k. LeavesOpen k.state) g t n h p m (feed [] []) (still t n h p) (λ f. still t n (length (config_of g (open_record t n h p) m).registers) (length (config_of g (open_record t n h p) m).frames))
