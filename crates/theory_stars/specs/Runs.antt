-- Runs of the grammar of words and tags from its table's bytes: an opening, a feed and a finish, each on the memory that the call before left.
use Rattle.std.specs.Prelude.{ℕ, ◌≤◌, ◌≡◌, refl, List, map, pos, length, drop}
use Rattle.std.proofs.Common.{arith, length-append, length-drop}
use Rattle.meaning.specs.Grammar.{Grammar}
use Rattle.meaning.specs.Table.{State, Read, well_formed, malformed, read_table, nothing_read}
use Rattle.meaning.specs.Judgement.{accepted, Accepted}
use Rattle.meaning.specs.Calls.{Called, Stacks, closed_record, open_of}
use Rattle.meaning.specs.PublicCalls.{Call, feed, finish, call_of, area_length, written, Effect, effect, opens, performs}
use Rattle.meaning.specs.Examples.TableRows.{bytes}
use Rattle.meaning.specs.Examples.WordsAndTags.{words}
use Rattle.theory_sets.specs.Accepted.{judged_is}
use Rattle.theory_answers.specs.Called.{called_is}

state_of : Read → State
state_of (well_formed s) = s
state_of (malformed n o) = nothing_read

pub words_accepted : Accepted bytes words
unfolding bytes state_of
words_accepted = record { state = state_of (read_table bytes); is_read = refl; is_grammar = refl; judged = (judged_is bytes accepted).1 refl }

-- ---- calls one after the other, on a table, an area and stacks

abbrev pub next : (Grammar → List ℕ) → List ℕ → Effect → Call → Effect
next program bs e c = performs program bs e.area e.state e.stacks c

-- opened and fed
abbrev pub fed : (Grammar → List ℕ) → List ℕ → List ℕ → Stacks → List ℕ → Effect
fed program bs area m ts = next program bs (opens program bs area m) (feed ts (map (λ t. pos 0) ts))

-- and finished
abbrev pub finished : (Grammar → List ℕ) → List ℕ → List ℕ → Stacks → List ℕ → Effect
finished program bs area m ts = next program bs (fed program bs area m ts) finish

-- ---- what they come to under the grammar

long : (ws area : List ℕ) → area_length ≤ length area → area_length ≤ length (written ws area)
long ws area l = let e = length-append ws (drop (length ws) area) in let d = length-drop (length ws) area in omega (arith, l, e, d)

abbrev pub next_by : Grammar → Called → Call → Called
next_by g k c = call_of g k.state k.stacks c

abbrev pub fed_by : Grammar → Stacks → List ℕ → Called
fed_by g m ts = next_by g (open_of g m) (feed ts (map (λ t. pos 0) ts))

abbrev pub finished_by : Grammar → Stacks → List ℕ → Called
finished_by g m ts = next_by g (fed_by g m ts) finish

module _ (program : Grammar → List ℕ) (area : List ℕ) (l : area_length ≤ length area) (m : Stacks) (ts : List ℕ) where
  abbrev after : List ℕ → List ℕ
  after ws = written (program words) ws

  next_words : (e : Effect) (c : Call) → area_length ≤ length e.area → next program bytes e c ≡ effect (call_of words e.state e.stacks c) (after e.area)
  next_words e c h = called_is program bytes words words_accepted e.area h e.state e.stacks (λ g. call_of g e.state e.stacks c)

  pub fed_words : fed program bytes area m ts ≡ effect (fed_by words m ts) (after (after area))
  fed_words =
      let l₁ = long (program words) area l in
      rw (called_is program bytes words words_accepted area l closed_record m (λ g. open_of g m)) (next_words (effect (open_of words m) (after area)) (feed ts (map (λ t. pos 0) ts)) l₁)

  pub finished_words : finished program bytes area m ts ≡ effect (finished_by words m ts) (after (after (after area)))
  finished_words =
      let l₂ = long (program words) (after area) (long (program words) area l) in
      rw fed_words (next_words (effect (fed_by words m ts) (after (after area))) finish l₂)
