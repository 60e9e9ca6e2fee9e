-- 02 (g), as statements: what a preview and the set of tokens answer, for arbitrary bytes, areas, records, stacks and scratch. The proofs are in theory_preview.
-- That the caller's own record and stacks stay is in the calls' form: they are not among what an effect has, and the code only reads them.
use Rattle.std.specs.Prelude.{ℕ, ◌≤◌, ◌<◌, ◌≡◌, ◌↔◌, true, false, [], ◌∷◌, ◌++◌, length, drop, replicate, T, ℤ}
use Rattle.meaning.specs.Grammar.{Grammar, TableBytes, Area, ProgramBuilder}
use Rattle.meaning.specs.Value.{mark}
use Rattle.meaning.specs.Sets.{TokenSet, set_size, has, end_number}
use Rattle.meaning.specs.Judgement.{Accepted, Judged, rejected}
use Rattle.meaning.specs.Calls.{waiting, closed, outer, Record, is_open, Stacks, Answer, refused, table_refused, lent_of}
use Rattle.meaning.specs.Fit.{Fit}
use Rattle.meaning.specs.PublicCalls.{feed, area_length, written, performs}
use Rattle.meaning_statements.specs.CallStatements.{Met}
use Rattle.meaning_preview.specs.Preview.{is_short, previews, no_refusal, tokens, turned, may_effect, mays}

-- ==== turned back before any token is tried

-- which number, and whether the table is met: 30, the table, 33, 40, 34, and 39 after them
pub data Turned (program : ProgramBuilder) (bs : TableBytes) (area : Area) (r : Record) (m s : Stacks) : Answer → Area → Type 0 where
  short : length area < area_length → Turned program bs area r m s (refused 30 0) area
  bad_table : area_length ≤ length area → (n o : ℕ) → Judged bs (rejected n o) → Turned program bs area r m s (table_refused n o) area
  is_closed : area_length ≤ length area → (g : Grammar) → Accepted bs g → r.status ≡ closed → Turned program bs area r m s (refused 33 0) (written (program g) area)
  is_waiting : area_length ≤ length area → (g : Grammar) → Accepted bs g → r.status ≡ waiting → r.kind ≡ outer → Turned program bs area r m s (refused 40 0) (written (program g) area)
  -- 02 (h): "a record of the wrong kind is a 34, an inner one brought to a preview too"
  is_inner : area_length ≤ length area → (g : Grammar) → Accepted bs g → (r.status ≡ closed → ⊥) → (r.kind ≡ outer → ⊥) → Turned program bs area r m s (refused 34 0) (written (program g) area)
  unfit : area_length ≤ length area → (g : Grammar) → Accepted bs g → is_open r ≡ true → (Fit g r m → ⊥) → Turned program bs area r m s (refused 34 0) (written (program g) area)
  short_scratch : (g : Grammar) → Met bs g area r m → is_short m s ≡ true → Turned program bs area r m s (refused 39 0) (written (program g) area)

-- the record comes back as brought, the scratch is not written; and the set's call is turned back as a preview is
abbrev pub PreviewTurnedBack : Type 0
PreviewTurnedBack =
    (program : ProgramBuilder) (bs : TableBytes) (area : Area) (r : Record) (m s : Stacks) (v : ℤ) (a : Answer) (words : Area)
    → Turned program bs area r m s a words
    → ((k : ℕ) → previews program bs area r m s k v ≡ record { answer = a; state = r; stacks = s; area = words }) × (mays program bs area r m s v ≡ may_effect (turned a) s words)

-- ==== the preview

-- the cells of the scratch that a run may use are cleared, whatever the answer, and those past them stay
pub record Tidy (m s after : Stacks) : Type 0 where
  pub registers : after.registers ≡ replicate (lent_of m).max_registers mark ++ drop (lent_of m).max_registers s.registers
  pub places : after.places ≡ replicate (lent_of m).max_places 0 ++ drop (lent_of m).max_places s.places

-- 02 (g): "the answer, record and both heights that feeding that token would give, equal to feeding it on a copy of record and stacks"
abbrev pub PreviewIsFeed : Type 0
PreviewIsFeed =
    (program : ProgramBuilder) (bs : TableBytes) (area : Area) (g : Grammar) (r : Record) (m s : Stacks) (k : ℕ) (v : ℤ)
    → Met bs g area r m → is_short m s ≡ false
    → ((previews program bs area r m s k v).answer ≡ (performs program bs area r m (feed (k ∷ []) (v ∷ []))).answer)
    × ((previews program bs area r m s k v).state ≡ (performs program bs area r m (feed (k ∷ []) (v ∷ []))).state)
    × ((previews program bs area r m s k v).area ≡ (performs program bs area r m (feed (k ∷ []) (v ∷ []))).area)
    × Tidy m s (previews program bs area r m s k v).stacks

-- ==== the set

-- 02 (g): "complete and without extras": of all numbers just those are in it whose preview is no refusal. The end is not
pub record MayExactly (program : ProgramBuilder) (bs : TableBytes) (area : Area) (g : Grammar) (r : Record) (m s : Stacks) (v : ℤ) : Type 0 where
  pub set : TokenSet
  pub answered : (mays program bs area r m s v).answer ≡ tokens set
  pub exactly : (t : ℕ) → T (has set t) ↔ T (no_refusal (previews program bs area r m s t v).answer)
  pub is_wide : length set ≡ set_size
  pub not_the_end : has set end_number ≡ false
  pub is_area : (mays program bs area r m s v).area ≡ written (program g) area
  pub is_tidy : Tidy m s (mays program bs area r m s v).scratch

abbrev pub MaySet : Type 0
MaySet =
    (program : ProgramBuilder) (bs : TableBytes) (area : Area) (g : Grammar) (r : Record) (m s : Stacks) (v : ℤ) → Met bs g area r m → is_short m s ≡ false
    → MayExactly program bs area g r m s v

-- ==== these are all

-- every call is turned back by one of the numbers above, or meets its table, a run that fits and scratch that is long enough
pub data PreviewCase (program : ProgramBuilder) (bs : TableBytes) (area : Area) (r : Record) (m s : Stacks) : Type 0 where
  back : (a : Answer) (words : Area) → Turned program bs area r m s a words → PreviewCase program bs area r m s
  goes_on : (g : Grammar) → Met bs g area r m → is_short m s ≡ false → PreviewCase program bs area r m s

abbrev pub PreviewCases : Type 0
PreviewCases = (program : ProgramBuilder) (bs : TableBytes) (area : Area) (r : Record) (m s : Stacks) → PreviewCase program bs area r m s
