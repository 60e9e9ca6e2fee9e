-- 02 (h): one inner run over the same lent stacks, above the outer run's heights. It is the engine's own run (`open_of`, `feed_of`, `finish_of`) on the stretch of the stacks from these heights on, read as stacks of its own.
use Rattle.std.specs.Prelude.{ℕ, Bool, true, false, not, ◌&&◌, ◌||◌, [], ◌++◌, length, drop, take, replicate, eqb, ltb}
use Rattle.meaning.specs.Grammar.{Grammar, TableBytes, Area, ProgramBuilder}
use Rattle.meaning.specs.Table.{grammar_of}
use Rattle.meaning.specs.Value.{mark}
use Rattle.meaning.specs.Calls.{Status, running, waiting, closed, Kind, outer, inner, Record, Stacks, Called, Answer, more, value, refused, table_refused, closed_record, lent_of, admitted, turned_back, gate, is_open, stacks_fit, open_of}
use Rattle.meaning.specs.PublicCalls.{usable, unusable, check, Call, feed, call_of, area_length, written}

-- ---- the stretch of the inner run

abbrev pub register_base : Kind → ℕ
register_base outer = 0
register_base (inner rb pb) = rb

abbrev pub place_base : Kind → ℕ
place_base outer = 0
place_base (inner rb pb) = pb

-- 02 (h): "stacks as long as what is left": the lent cells from the beginning on
abbrev pub above : Kind → Stacks → Stacks
above k m = record { registers = drop (register_base k) (take (lent_of m).max_registers m.registers); places = drop (place_base k) (take (lent_of m).max_places m.places) }

-- the lent cells before the beginning
abbrev pub below : Kind → Stacks → Stacks
below k m = record { registers = take (register_base k) (take (lent_of m).max_registers m.registers); places = take (place_base k) (take (lent_of m).max_places m.places) }

-- the stacks m with the stretch replaced; the cells before it, and those past what counts as lent, stay
abbrev pub paste : Kind → Stacks → Stacks → Stacks
paste k part m = record { registers = (below k m).registers ++ (part.registers ++ drop (lent_of m).max_registers m.registers); places = (below k m).places ++ (part.places ++ drop (lent_of m).max_places m.places) }

abbrev pub cleared : Stacks → Stacks
cleared m = record { registers = replicate (length m.registers) mark; places = replicate (length m.places) 0 }

-- ---- the records

abbrev pub with_status : Status → Record → Record
with_status s r = record { status = s; kind = r.kind; tokens = r.tokens; moves = r.moves; register_height = r.register_height; place_height = r.place_height }

abbrev pub with_kind : Kind → Record → Record
with_kind k r = record { status = r.status; kind = k; tokens = r.tokens; moves = r.moves; register_height = r.register_height; place_height = r.place_height }

-- an inner run's record as that of a run of its own: its heights are counted from where it begins
abbrev pub alone : Record → Record
alone r = with_kind outer r

-- 02 (h): "The inner record keeps the heights where it begins": those of the outer one
abbrev pub beginning : Record → Kind
beginning r = inner r.register_height r.place_height

-- ---- the calls, once the program area is long enough and the tables are accepted

-- what a call hands back: both records and the stacks
pub record InnerCalled : Type 0 where
  pub answer : Answer
  pub outer_state : Record
  pub inner_state : Record
  pub stacks : Stacks

abbrev pub handed_back : Answer → Record → Record → Stacks → InnerCalled
handed_back a o i m = record { answer = a; outer_state = o; inner_state = i; stacks = m }

-- 02 (h): "an opening turned back sets no mark and hands back an inner record closed and all zero"
abbrev pub opened_above : Bool → Record → Stacks → Called → InnerCalled
opened_above true r m k = handed_back k.answer (with_status waiting r) (with_kind (beginning r) k.state) (paste (beginning r) k.stacks m)
opened_above false r m k = handed_back k.answer r closed_record m

abbrev pub inner_open_of : Grammar → Record → Stacks → InnerCalled
inner_open_of g r m = let k = open_of g (above (beginning r) m) in opened_above (is_open k.state) r m k

-- 02 (h): "by finish, a refusal that closes it, or giving up"
pub data InnerCall : Type 0 where
  engine : Call → InnerCall
  give_up : InnerCall

-- giving up is judged, and answers, as an empty feed: with empty lists it is no 38
abbrev pub engine_call : InnerCall → Call
engine_call (engine c) = c
engine_call give_up = feed [] []

-- the inner run's call before anything is cleared: the same engine on the stretch
abbrev pub on_stretch : Grammar → Record → Stacks → InnerCall → Called
on_stretch g i m c = call_of g (alone i) (above i.kind m) (engine_call c)

abbrev pub goes_on : Answer → Bool
goes_on (more n) = true
goes_on (value v n) = false
goes_on (refused k n) = false
goes_on (table_refused k o) = false

-- whether the call ends the inner run: its record is closed, or it is given up and not turned back
abbrev pub ends : InnerCall → Called → Bool
ends (engine c) k = not (is_open k.state)
ends give_up k = goes_on k.answer

-- 02 (h): "clears its cells and leaves the outer run's picture as before; its record closes, otherwise as it was before the clearing"
abbrev pub after_inner : Bool → Record → Record → Stacks → Called → InnerCalled
after_inner true o i m k = handed_back k.answer (with_status running o) (with_kind i.kind (with_status closed k.state)) (paste i.kind (cleared (above i.kind m)) m)
after_inner false o i m k = handed_back k.answer o (with_kind i.kind k.state) (paste i.kind k.stacks m)

abbrev pub is_closed : Status → Bool
is_closed running = false
is_closed waiting = false
is_closed closed = true

abbrev pub is_running : Status → Bool
is_running running = true
is_running waiting = false
is_running closed = false

abbrev pub is_waiting : Status → Bool
is_waiting running = false
is_waiting waiting = true
is_waiting closed = false

abbrev pub is_outer : Kind → Bool
is_outer outer = true
is_outer (inner a b) = false

abbrev pub begins_at : Kind → ℕ → ℕ → Bool
begins_at outer h p = false
begins_at (inner rb pb) h p = eqb h rb && eqb p pb

-- 02 (h): the outer record waits "at the heights where the inner run begins"; neither is "of the wrong kind". Its tokens and moves are not looked at
abbrev pub belongs : Record → Record → Bool
belongs o i = is_waiting o.status && is_outer o.kind && is_running i.status && begins_at i.kind o.register_height o.place_height

-- 02 (h): "33 if either is closed, 34 if the outer one doesn't wait at the heights where the inner run begins; otherwise 34 looks only at the inner stretch and what is above it"
abbrev pub inner_of : Grammar → Record → Record → Stacks → InnerCall → InnerCalled
inner_of g o i m c =
    elim (is_closed o.status || is_closed i.status) [
      | true ↦ handed_back (refused 33 0) o i m
      | false ↦ elim (belongs o i) [
        | false ↦ handed_back (refused 34 0) o i m
        | true ↦ let k = on_stretch g i m c in after_inner (ends c k) o i m k
      ]
    ]

-- ---- the calls as a caller makes them: any bytes for the tables, any program area, records, stacks, kinds and values

pub record InnerEffect : Type 0 where
  pub answer : Answer
  pub outer_state : Record
  pub inner_state : Record
  pub stacks : Stacks
  pub area : Area

abbrev pub inner_effect : InnerCalled → Area → InnerEffect
inner_effect k area = record { answer = k.answer; outer_state = k.outer_state; inner_state = k.inner_state; stacks = k.stacks; area = area }

-- a table's turn in a call: refused, with nothing (further) written; or its program is written, and the call goes on under its grammar
abbrev pub by_table : ProgramBuilder → TableBytes → Area → Record → Record → Stacks → (Grammar → Area → InnerEffect) → InnerEffect
by_table program bs area o i m made = elim (check bs) [
  | unusable n f ↦ inner_effect (handed_back (table_refused n f) o i m) area
  | usable s ↦ made (grammar_of s) (written (program (grammar_of s)) area)
]

-- the outer run "is judged by its own [table] in the usual order": 33, 40, 34. A third run, that is an inner record brought as the outer one, is a 40
abbrev pub when_outer_fits : Grammar → Record → Stacks → Area → InnerEffect → InnerEffect
when_outer_fits g r m area e =
    elim (gate 40 r.status r.kind) [
      | turned_back n ↦ inner_effect (handed_back (refused n 0) r closed_record m) area
      | admitted ↦ elim (stacks_fit g r m) [ false ↦ inner_effect (handed_back (refused 34 0) r closed_record m) area | true ↦ e ]
    ]

-- 30, the outer table, 33, 40, 34, the inner table, 31, 32. 02 (h): "The outer table's program is written first and the inner one's over it, in the same area; a refused inner table writes nothing further."
abbrev pub inner_opens : ProgramBuilder → TableBytes → TableBytes → Area → Record → Stacks → InnerEffect
inner_opens program outer_table inner_table area r m = elim (ltb (length area) area_length) [
  | true ↦ inner_effect (handed_back (refused 30 0) r closed_record m) area
  | false ↦ by_table program outer_table area r closed_record m (λ g first. let e = by_table program inner_table first r closed_record m (λ h second. inner_effect (inner_open_of h r m) second) in when_outer_fits g r m first e)
]

-- 30, the inner table, 33, 34, 38, then the moves
abbrev pub inner_performs : ProgramBuilder → TableBytes → Area → Record → Record → Stacks → InnerCall → InnerEffect
inner_performs program bs area o i m c = elim (ltb (length area) area_length) [
  | true ↦ inner_effect (handed_back (refused 30 0) o i m) area
  | false ↦ by_table program bs area o i m (λ g words. inner_effect (inner_of g o i m c) words)
]
