-- The demands, as statements: a production's stretch of the table, and the program that a call writes. Proofs are in theory_demands.
use Rattle.std.specs.Prelude.{ℕ, suc, ◌≤◌, ◌<◌, ◌≡◌, [], ◌++◌, eqb, length, take, drop}
use Rattle.meaning.specs.Base.{any, In}
use Rattle.meaning.specs.Grammar.{Symbol, Grammar, nonterminal, inh, syn, marked_for, nonterminal_count, production_at, TableBytes}
use Rattle.meaning.specs.Layout.{field, header_bytes, counts_fields, carrying_fields, production_bytes, RulesAndConditions, Productions, Bytes, header_tag, production_tag}
use Rattle.meaning.specs.Judgement.{Accepted, Judged, rejected}
use Rattle.meaning.specs.Sets.{set_size, has, starts}
use Rattle.meaning.specs.Scheme.{scheme, entry_tests}
use Rattle.meaning.specs.Program.{program_of}
use Rattle.meaning.specs.PublicCalls.{Stretch, stretch_of, area_length}

-- ==== the stretch. 01: "that production's stretch of the table itself, from its tag 3 to the next or the end"

-- production p's field, rules and conditions, in their place: after the header, the counts, the tokens that carry a value and the productions before it, with those after it behind
pub record StretchIn (bs : TableBytes) (g : Grammar) (p : ℕ) (part : TableBytes) : Type 0 where
  pub earlier : TableBytes
  pub body : TableBytes
  pub later : TableBytes
  pub is_earlier : Productions (take p g.productions) earlier
  pub is_body : RulesAndConditions (production_at g p).rules (production_at g p).conditions body
  pub is_part : part ≡ field production_tag (production_bytes (production_at g p)) ++ body
  pub is_later : Productions (drop (suc p) g.productions) later
  pub is_table : bs ≡ field header_tag (header_bytes g) ++ (counts_fields g.counts ++ (carrying_fields g.carrying ++ (earlier ++ (part ++ later))))

abbrev pub stretch : TableBytes → ℕ → ℕ → Stretch
stretch part number offset = record { part = part; number = number; offset = offset }

-- n and o are what the two lent numbers held. 01: "on a refusal an empty part, number and offset in two lent numbers"; "14 no such production (offset 0)", "14 after them"
abbrev pub StretchExactly : Type 0
StretchExactly =
    (bs : TableBytes) (p n o : ℕ)
    → (Bytes bs → (g : Grammar) → Accepted bs g → p < length g.productions → (part : TableBytes) × StretchIn bs g p part × (stretch_of bs p n o ≡ stretch part n o))
    × ((g : Grammar) → Accepted bs g → length g.productions ≤ p → stretch_of bs p n o ≡ stretch [] 14 0)
    × ((k f : ℕ) → Judged bs (rejected k f) → stretch_of bs p n o ≡ stretch [] k f)

-- ==== the program

-- 01: "A program area of at least 16,384 32-bit words is lent": it is long enough, and 32 bits are wide enough
abbrev pub ProgramFits : Type 0
ProgramFits = (bs : TableBytes) (g : Grammar) → Accepted bs g → (length (program_of g) ≤ area_length) × ((v : ℕ) → In v (program_of g) → v < 4294967296)

-- what the moves and 34 ask of a production
pub record SameProduction (g h : Grammar) (p : ℕ) : Type 0 where
  pub left : (production_at g p).left ≡ (production_at h p).left
  pub right : (production_at g p).right ≡ (production_at h p).right
  pub counts : (x : Symbol) → In x (production_at g p).right → (inh g x ≡ inh h x) × (marked_for g x ≡ marked_for h x)
  pub entered : (u : ℕ) → u < set_size → has (starts g (production_at g p)) u ≡ has (starts h (production_at h p)) u
  pub tests : entry_tests g (production_at g p) ≡ entry_tests h (production_at h p)
  pub instructions : scheme g (production_at g p) ≡ scheme h (production_at h p)

-- and of a grammar
pub record SameScheme (g h : Grammar) : Type 0 where
  pub terminals : g.terminals ≡ h.terminals
  pub nonterminals : nonterminal_count g ≡ nonterminal_count h
  -- which tokens carry a value: 63 stands for the end
  pub carrying : (t : ℕ) → t < set_size → any (eqb t) g.carrying ≡ any (eqb t) h.carrying
  pub start : g.start ≡ h.start
  pub result : g.result ≡ h.result
  pub start_registers : syn g (nonterminal g.start) ≡ syn h (nonterminal h.start)
  pub productions : length g.productions ≡ length h.productions
  pub each : (p : ℕ) → p < length g.productions → SameProduction g h p

-- the words say all of it: two grammars with the same program have the same right sides, counts and translation scheme
abbrev pub ProgramTells : Type 0
ProgramTells = (bs cs : TableBytes) (g h : Grammar) → Accepted bs g → Accepted cs h → program_of g ≡ program_of h → SameScheme g h
