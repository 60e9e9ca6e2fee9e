-- 02 (g): what one more token would do to a run that is stopped, and the set of tokens that may come next. Both work on scratch stacks; the caller's own record and stacks are only read, so nothing here hands stacks back but the scratch.
use Rattle.std.specs.Prelude.{ℕ, Bool, true, false, ◌&&◌, ◌||◌, [], ◌∷◌, ◌++◌, map, length, drop, replicate, ltb, ℤ}
use Rattle.meaning.specs.Base.{count_from}
use Rattle.meaning.specs.Grammar.{Grammar, TableBytes, Area, ProgramBuilder}
use Rattle.meaning.specs.Table.{grammar_of}
use Rattle.meaning.specs.Value.{mark}
use Rattle.meaning.specs.Sets.{TokenSet, set_size}
use Rattle.meaning.specs.Calls.{Record, Stacks, Called, Answer, more, value, refused, table_refused, lent_of, admitted, turned_back, gate, stacks_fit, as_brought, feed_of}
use Rattle.meaning.specs.PublicCalls.{usable, unusable, check, area_length, written, Effect, called}

-- ---- the scratch

-- 02 (g): "scratch stacks as long as the part of each lent stack that a run may use are lent, and a shorter one is turned back as 39". m are the caller's stacks, s the scratch
abbrev pub is_short : Stacks → Stacks → Bool
is_short m s = ltb (length s.registers) (lent_of m).max_registers || ltb (length s.places) (lent_of m).max_places

-- 02 (g): "That whole part of the scratch ends cleared"; the cells past it stay
abbrev pub tidied : Stacks → Stacks → Stacks
tidied m s = record { registers = replicate (lent_of m).max_registers mark ++ drop (lent_of m).max_registers s.registers; places = replicate (lent_of m).max_places 0 ++ drop (lent_of m).max_places s.places }

-- 33, 40 and 34 as for every call on a run, then 39 ("turned back as 39 after 34"); otherwise `on`
abbrev pub when_copied : {A : Type 0} → Grammar → Record → Stacks → Stacks → (ℕ → A) → A → A
when_copied g r m s back on =
    elim (gate 34 r.status r.kind) [
      | turned_back n ↦ back n
      | admitted ↦ elim (stacks_fit g r m) [ false ↦ back 34 | true ↦ elim (is_short m s) [ true ↦ back 39 | false ↦ on ] ]
    ]

-- ---- the preview of one token, of kind k and value v

-- 02 (g): "equal to feeding it on a copy of record and stacks": answer and record, which has both heights, are those of the feed; the stacks are the scratch
abbrev pub tried : Grammar → Record → Stacks → Stacks → ℕ → ℤ → Called
tried g r m s k v = let copy = feed_of g r m (k ∷ []) (v ∷ []) in record { answer = copy.answer; state = copy.state; stacks = tidied m s }

-- a number that turns it back leaves record and scratch as brought
abbrev pub preview_of : Grammar → Record → Stacks → Stacks → ℕ → ℤ → Called
preview_of g r m s k v = when_copied g r m s (λ n. as_brought (refused n 0) r s) (tried g r m s k v)

-- with the program area, for any bytes as a table
abbrev pub previews : ProgramBuilder → TableBytes → Area → Record → Stacks → Stacks → ℕ → ℤ → Effect
previews program bs area r m s k v = called program bs area r s (λ g. preview_of g r m s k v)

-- ---- the set

abbrev pub no_refusal : Answer → Bool
no_refusal (more n) = true
no_refusal (value v n) = true
no_refusal (refused k n) = false
no_refusal (table_refused k o) = false

-- 02 (g): "the set of tokens whose preview is no refusal". A token is a number below T: the end is none. "the caller gives one value to try for all of them"
abbrev pub may_follow : Grammar → Record → Stacks → Stacks → ℤ → TokenSet
may_follow g r m s v = map (λ t. ltb t g.terminals && no_refusal (preview_of g r m s t v).answer) (count_from 0 set_size)

-- what the set's call answers: the set, or what turns it back
pub data MayAnswer : Type 0 where
  tokens : TokenSet → MayAnswer
  turned : Answer → MayAnswer

-- the answer, and the scratch and the program area afterwards
pub record MayEffect : Type 0 where
  pub answer : MayAnswer
  pub scratch : Stacks
  pub area : Area

abbrev pub may_effect : MayAnswer → Stacks → Area → MayEffect
may_effect a s area = record { answer = a; scratch = s; area = area }

-- 02 (g): "It is turned back as a preview is, up to and with 39."
abbrev pub may_of : Grammar → Record → Stacks → Stacks → ℤ → Area → MayEffect
may_of g r m s v area = when_copied g r m s (λ n. may_effect (turned (refused n 0)) s area) (may_effect (tokens (may_follow g r m s v)) (tidied m s) area)

abbrev pub mays : ProgramBuilder → TableBytes → Area → Record → Stacks → Stacks → ℤ → MayEffect
mays program bs area r m s v = elim (ltb (length area) area_length) [
  | true ↦ may_effect (turned (refused 30 0)) s area
  | false ↦ elim (check bs) [
    | unusable n o ↦ may_effect (turned (table_refused n o)) s area
    | usable x ↦ may_of (grammar_of x) r m s v (written (program (grammar_of x)) area)
  ]
]
